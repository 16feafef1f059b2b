-- A turn of the program, on its values: what is told of a read, and the progress after it.
--
--   cut_some, cut_none          35 where bytes are kept at the end of the file
--   told-end, next-end          a read that gives nothing
--   told-some, next-some        a read that gives bytes
--   held-turned                 what a buffer's answers leave is the progress after it
--   reached-read                a read puts its bytes behind those kept
--   reached-first, reached-next     the progress before the first read, and after one read more
--
-- Assumes nothing.
use mathlib.Core.Path.{◌≡◌, refl, sym, ap, ◌∙◌, subst}
use mathlib.Core.Bool.{Bool, true, false, true≢false}
use mathlib.Core.List.{List, [], ◌∷◌, ◌++◌}
use Prim.Native.Nat.{ℕ, ◌+◌, ◌≤◌, ◌<◌}
use native.Mathlib.Omega.{arith}
use lib.ListN.{length, take, drop, length-take, length-drop}
use lib.Seq.{length-take-le, take_at, take-add}
use borrow.Rule.Slice.PartMut.{put_mid}
use Rattle.bits.proofs.Rows.{done-passed}
use Rattle.table.specs.State.{state_size, started_state}
use Rattle.table.specs.Calls.{start_answer, start_after}
use Rattle.table.proofs.Doing.{start-passed}
use Rattle.serving.specs.Served.{pass, cut}
use Rattle.answers.specs.Text.{lines}
use Rattle.answers.specs.Said.{Progress, begun, goes, spoken, printed, turned, onward, at_end, told, next, after_from, after, held, Reached}
use Rattle.answers.proofs.Telling.{after-snoc}

-- ---- the end of the file

pub cut_some : (b : List ℕ) → (length b ≡ 0 → ⊥) → cut b ≡ 35 ∷ []
unfolding cut
cut_some [] h = absurd (h refl)
cut_some (x ∷ b) h = refl

pub cut_none : (b : List ℕ) → length b ≡ 0 → cut b ≡ []
unfolding cut
cut_none [] h = refl
cut_none (x ∷ b) h = absurd (omega arith)

module _ (t buffer : List ℕ) (kept more number : ℕ) (none : more ≡ 0) where
  pub told-end : told (held t buffer kept number true) (take more (drop kept buffer)) ≡ lines number (cut (take kept buffer))
  unfolding told at_end held
  told-end = ap (λ (k : ℕ). told (held t buffer kept number true) (take k (drop kept buffer))) none

  pub next-end : next (held t buffer kept number true) (take more (drop kept buffer)) ≡ held t buffer kept number false
  unfolding next held
  next-end = ap (λ (k : ℕ). next (held t buffer kept number true) (take k (drop kept buffer))) none

-- ---- a chunk

told-chunk : (p : Progress) (c : List ℕ) → 0 < length c → told p c ≡ printed p c
unfolding told
told-chunk p [] h = absurd (omega arith)
told-chunk p (b ∷ c) h = refl

next-chunk : (p : Progress) (c : List ℕ) → 0 < length c → next p c ≡ onward p c
unfolding next
next-chunk p [] h = absurd (omega arith)
next-chunk p (b ∷ c) h = refl

module _ (t buffer : List ℕ) (kept more number : ℕ) (some : more ≡ 0 → ⊥) (room : kept + more ≤ length buffer) where
  chunk-some : 0 < length (take more (drop kept buffer))
  chunk-some = omega (arith, some, room, length-take more (drop kept buffer), length-drop kept buffer)

  pub told-some : told (held t buffer kept number true) (take more (drop kept buffer)) ≡ lines number (spoken t (take (kept + more) buffer))
  unfolding printed held
  told-some =
      told-chunk (held t buffer kept number true) (take more (drop kept buffer)) chunk-some
      ∙ ap (λ (s : List ℕ). lines number (spoken t s)) (sym (take-add kept more buffer))

  pub next-some : next (held t buffer kept number true) (take more (drop kept buffer)) ≡ turned t (take (kept + more) buffer) number
  unfolding onward held
  next-some =
      next-chunk (held t buffer kept number true) (take more (drop kept buffer)) chunk-some
      ∙ ap (λ (s : List ℕ). turned t s number) (sym (take-add kept more buffer))

-- the values that a buffer's answers leave
pub held-turned : (t u s answers buffer : List ℕ) (number count at kept : ℕ) (going : Bool) → let p = pass (length s) s 0 t in
    u ≡ p.state → take kept buffer ≡ drop at s → at ≡ p.at → going ≡ goes p.last
    → count ≤ length answers → take count answers ≡ spoken t s
    → held u buffer kept (number + count) going ≡ turned t s number
unfolding held turned
held-turned t u s answers buffer number count at kept going state left place goes room given =
    let left' = left ∙ ap (λ (k : ℕ). drop k s) place in
    let many : count ≡ length (spoken t s) = sym (length-take-le count answers room) ∙ ap length given in
    λ i. record { state = state i; kept = left' i; number = number + many i; going = goes i }

-- ---- the progress reached

pub reached-read : (t buffer read : List ℕ) (kept k number : ℕ) → kept ≤ length buffer → Reached (held t buffer kept number true)
    → Reached (held t (put_mid kept k buffer read) kept number true)
unfolding held
reached-read t buffer read kept k number h =
    let same = sym (take_at (take kept buffer) (read ++ drop k (drop kept buffer)) kept (length-take-le kept buffer h)) in
    subst Reached (λ i. record { state = t; kept = same i; number = number; going = true })

pub reached-first : (t u buffer : List ℕ) → length t ≡ state_size → u ≡ start_after t → Reached (held u buffer 0 1 true)
unfolding held after after_from begun start_after
reached-first t u buffer l e =
    let start : u ≡ started_state = e ∙ done-passed (start_answer t) started_state t (sym (start-passed t l)) in
    record { chunks = []; so = λ i. record { state = start i; kept = []; number = 1; going = true } }

reached-chunk : (p : Progress) (c : List ℕ) → Reached p → Reached (onward p c)
reached-chunk p c r = record { chunks = r.chunks ++ (c ∷ []); so = ap (λ (q : Progress). onward q c) r.so ∙ sym (after-snoc r.chunks c) }

pub reached-next : (p : Progress) (c : List ℕ) (u buffer : List ℕ) (kept number : ℕ) (going : Bool) → Reached p
    → held u buffer kept number going ≡ next p c → going ≡ true → Reached (held u buffer kept number true)
unfolding held next
reached-next p [] u buffer kept number going r e on = absurd (true≢false (sym on ∙ ap (λ (q : Progress). q.going) e))
reached-next p (b ∷ c) u buffer kept number going r e on =
    subst Reached (sym e ∙ ap (held u buffer kept number) on) (reached-chunk p (b ∷ c) r)
