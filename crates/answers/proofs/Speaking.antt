-- The answers for a buffer, in a row: what the code has after a pass is what is spoken.
--
--   pass-many                 a pass over 4,096 bytes serves 1,024 records at most
--   pass-few                  and leaves at most 97 bytes where it goes on
--   goes-other                it goes on where no bad record stands
--   spoken-on, spoken-bad     the answers in a row are all, or all but 35
--
-- Assumes nothing.
use mathlib.Core.Path.{◌≡◌, refl, sym, ap, ◌∙◌}
use mathlib.Core.Bool.{true, false, true≢false}
use mathlib.Core.List.{List, [], ◌∷◌, ◌++◌, append-nil}
use Prim.Native.Nat.{ℕ, ◌+◌, ◌*◌, ◌≤◌, ◌<◌}
use native.Mathlib.Omega.{arith}
use native.Mathlib.Numerals.{add-one}
use lib.ListN.{length, take, set}
use lib.Seq.{length-take-le, take-suc-set}
use Rattle.bits.proofs.Runs.{Below}
use Rattle.records.specs.declared.Step.{Step}
use Rattle.records.specs.declared.Step.TheVariants.{Record, End, More, Bad}
use Rattle.serving.specs.Served.{pass, on_bad}
use Rattle.serving.proofs.Counting.{pass-counted}
use Rattle.answers.specs.Said.{goes, spoken}

bad-going : (x : Step) → goes x ≡ false → on_bad x [] ≡ 35 ∷ []
unfolding goes on_bad
bad-going (Record kind body) e = absurd (true≢false e)
bad-going End e = absurd (true≢false e)
bad-going More e = absurd (true≢false e)
bad-going Bad e = refl

on-going : (x : Step) → goes x ≡ true → on_bad x [] ≡ []
unfolding goes on_bad
on-going (Record kind body) e = refl
on-going End e = refl
on-going More e = refl
on-going Bad e = absurd (true≢false (sym e))

not-bad : (x : Step) → goes x ≡ true → x ≡ Bad → ⊥
unfolding goes
not-bad x e q = true≢false (sym e ∙ ap goes q)

pub goes-other : (x : Step) → (x ≡ Bad → ⊥) → goes x ≡ true
unfolding goes
goes-other (Record kind body) h = refl
goes-other End h = refl
goes-other More h = refl
goes-other Bad h = absurd (h refl)

module _ (t s answers : List ℕ) (count : ℕ) (given : take count answers ≡ (pass (length s) s 0 t).answers) (room : count ≤ length answers) where
  pub pass-many : Below 256 s → 4 * count ≤ (pass (length s) s 0 t).at
  pass-many bytes =
      omega (arith, (pass-counted (length s) s 0 t bytes (omega arith)).many, ap length given, length-take-le count answers room)

  pub spoken-on : goes (pass (length s) s 0 t).last ≡ true → take count answers ≡ spoken t s
  unfolding spoken
  spoken-on e =
      given ∙ sym (ap (λ (x : List ℕ). (pass (length s) s 0 t).answers ++ x) (on-going (pass (length s) s 0 t).last e) ∙ append-nil _)

  pub spoken-bad : goes (pass (length s) s 0 t).last ≡ false → count < length answers
      → take (count + 1) (set answers count 35) ≡ spoken t s
  unfolding spoken
  spoken-bad e h =
      ap (λ (k : ℕ). take k (set answers count 35)) (add-one count)
      ∙ take-suc-set answers count 35 h
      ∙ (λ i. given i ++ sym (bad-going (pass (length s) s 0 t).last e) i)

pub pass-few : (t s : List ℕ) → Below 256 s → goes (pass (length s) s 0 t).last ≡ true → length s ≤ (pass (length s) s 0 t).at + 97
pass-few t s bytes e = (pass-counted (length s) s 0 t bytes (omega arith)).few (not-bad (pass (length s) s 0 t).last e)
