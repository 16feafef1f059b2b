-- For each contract of the calls that change the state: any two results that it allows, of the answer and of every lent
-- byte, are equal. Assumes nothing.
use mathlib.Core.Path.{◌≡◌, refl, sym, ap, ◌∙◌}
use mathlib.Core.List.{List}
use Prim.Native.Nat.{ℕ, ◌<◌}
use native.Mathlib.Omega.{arith}
use Rattle.std.specs.Prelude.{Option, Some, None, IfSome, Result, Ok, Err, IfOk}
use Rattle.bits.proofs.Determined.{determined}
use Rattle.head.specs.declared.Wish.{Wish}
use Rattle.faults.specs.Refusals.{told}
use Rattle.faults.specs.declared.refusal.Refusal.{Refusal}
use Rattle.faults.proofs.Refusals.{told-same, number-same, number-not-zero}
use Rattle.table.specs.State.{slots, place_of}
use Rattle.table.specs.Calls.{start_answer, start_after, follow_answer, follow_after, leave_answer, leave_after, end_answer, end_after, set_answer, set_after}

-- an answer and the bytes after, by the two functions of a call
abbrev pub Same : ℕ → List ℕ → Type 0
Same answer after =
    (r q : ℕ) (t u : List ℕ) → r ≡ answer → t ≡ after → q ≡ answer → u ≡ after → (r ≡ q) × (t ≡ u)

pub same : (answer : ℕ) (after : List ℕ) → Same answer after
same answer after r q t u a b c d = (determined a c, determined b d)

pub start-same : (s : List ℕ) → Same (start_answer s) (start_after s)
start-same s = same (start_answer s) (start_after s)

pub follow-same : (s : List ℕ) (w : Wish) → Same (follow_answer s w) (follow_after s w)
follow-same s w = same (follow_answer s w) (follow_after s w)

pub leave_same : (s : List ℕ) (a : ℕ) → Same (leave_answer s a) (leave_after s a)
leave_same s a = same (leave_answer s a) (leave_after s a)

pub end_same : (s : List ℕ) → Same (end_answer s) (end_after s)
end_same s = same (end_answer s) (end_after s)

pub set_same : (s : List ℕ) (most : ℕ) → Same (set_answer s most) (set_after s most)
set_same s most = same (set_answer s most) (set_after s most)

-- ---- the results that tell them

pub told-done : (n : ℕ) (r q : Result (Unit {0}) Refusal) → told r ≡ n → told q ≡ n → r ≡ q
told-done n r q a b = told-same (λ x y. refl) r q (a ∙ sym b)

-- a slot that was found, or none
pub place-same : (n : ℕ) (r q : Option ℕ) → place_of r ≡ n → IfSome r (λ k. k < slots) → place_of q ≡ n → IfSome q (λ k. k < slots) → r ≡ q
place-same n None None a h b l = refl
place-same n None (Some k) a h b l = absurd (omega (arith, a, b, l))
place-same n (Some k) None a h b l = absurd (omega (arith, a, b, h))
place-same n (Some j) (Some k) a h b l = ap Some (a ∙ sym b)

-- a slot that is handed out with an answer
pub slot-same : (n i : ℕ) (r q : Result ℕ Refusal) → told r ≡ n → IfOk r (λ k. (k ≡ i) × (k < slots)) → told q ≡ n
    → IfOk q (λ k. (k ≡ i) × (k < slots)) → r ≡ q
slot-same n i (Ok j) (Ok k) a h b l = ap Ok (h.0 ∙ sym l.0)
slot-same n i (Ok j) (Err r) a h b l = absurd (number-not-zero r (b ∙ sym a))
slot-same n i (Err r) (Ok k) a h b l = absurd (number-not-zero r (a ∙ sym b))
slot-same n i (Err r) (Err q) a h b l = ap Err (number-same r q (a ∙ sym b))
