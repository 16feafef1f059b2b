-- Runs of stores in a buffer, as the code that puts text there makes them.
--
--   sets-append      a run of stores, and then one behind it
--   sets-front       what then stands at the front
--   moved            bytes moved to the front
--
-- Assumes nothing.
use mathlib.Core.Path.{◌≡◌, sym, ap, ◌∙◌}
use mathlib.Core.List.{List, [], ◌∷◌, ◌++◌}
use Prim.Native.Nat.{ℕ, zero, suc, ◌+◌, ◌-◌, ◌≤◌}
use native.Mathlib.Omega.{arith}
use native.Mathlib.Nat.{add-zero, zero-add, suc-add}
use lib.ListN.{length, take, drop, set, length-drop}
use Rattle.std.specs.List.{copy_within}
use Rattle.std.proofs.lemmas.List.Edits.{take-paste}
use lib.Seq.{sets, sets-eq, take-append_seam, take-nil}

pub sets-append : (l : List ℕ) (i : ℕ) (xs ys : List ℕ) → sets (sets l i xs) (i + length xs) ys ≡ sets l i (xs ++ ys)
sets-append l i [] ys = ap (λ (k : ℕ). sets l k ys) (add-zero i)
sets-append l i (x ∷ xs) ys =
    let e : i + suc (length xs) ≡ suc i + length xs = omega arith in
    ap (λ (k : ℕ). sets (sets l i (x ∷ xs)) k ys) e ∙ sets-append (set l i x) (suc i) xs ys

pub sets-front : (l vs : List ℕ) → length vs ≤ length l → take (length vs) (sets l 0 vs) ≡ vs
sets-front l vs h =
    ap (take (length vs)) (sets-eq vs l 0 (omega arith)) ∙ take-append_seam vs (drop (0 + length vs) l)

-- ---- bytes moved to the front

moved_all : (whole : List ℕ) (at k n : ℕ) → at + k ≡ n → take k (drop at whole) ≡ drop at (take n whole)
moved_all whole at k n e = go at whole ∙ ap (λ (i : ℕ). drop at (take i whole)) e
  where
    go : (at : ℕ) (whole : List ℕ) → take k (drop at whole) ≡ drop at (take (at + k) whole)
    go zero whole = ap (λ (i : ℕ). take i whole) (sym (zero-add k))
    go (suc at) [] = take-nil k ∙ ap (drop (suc at)) (sym (take-nil (suc at + k)))
    go (suc at) (x ∷ whole) = go at whole ∙ ap (λ (i : ℕ). drop (suc at) (take i (x ∷ whole))) (sym (suc-add at k))

pub moved : (whole : List ℕ) (at n : ℕ) → at ≤ n → n ≤ length whole → take (n - at) (copy_within whole at n 0) ≡ drop at (take n whole)
moved whole at n h l =
    ap (λ (k : ℕ). take k (copy_within whole at n 0)) (sym (zero-add (n - at)))
    ∙ take-paste whole 0 (drop at whole) (n - at) (omega arith) (omega (arith, length-drop at whole))
    ∙ moved_all whole at (n - at) n (omega arith)
