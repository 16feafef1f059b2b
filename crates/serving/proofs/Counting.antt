-- How much a pass serves, and how little it leaves.
--
--   waits-few                 bytes that do not suffice yet are less than the longest record, 98 bytes
--   Counted, pass-counted     a pass serves at most a record for four bytes, and leaves less than a record where it stops at no bad one
--
-- Assumes nothing.
use mathlib.Core.Path.{◌≡◌, refl, sym, ◌∙◌, subst}
use mathlib.Core.Bool.{Bool, true, false, cond}
use mathlib.Core.List.{List}
use Prim.Native.Nat.{ℕ, zero, suc, ◌+◌, ◌*◌, ◌≤◌, ◌<◌}
use native.Mathlib.Omega.{arith}
use native.Mathlib.Decide.{dec_le}
use lib.Dec.{eqb, lit≤}
use lib.ListN.{length}
use Rattle.bits.proofs.Runs.{Below}
use Rattle.runs.specs.Part.{part}
use Rattle.records.specs.declared.Step.{Step}
use Rattle.records.specs.declared.Step.TheVariants.{End, More, Bad}
use Rattle.runs.specs.Numbers.{two_at}
use Rattle.records.specs.Format.{body_size, good_head, step_at}
use Rattle.records.proofs.Laws.{kind_at, step_end, step-bad, step-record, Stands, ended, waits, bad, whole, stands}
use Rattle.records.proofs.Cutting.{good_length}
use Rattle.serving.specs.Served.{served_after, Pass, pass}
use Rattle.serving.proofs.Laws.{Stops, pass-stop, pass_on, Waits}

abbrev size : Bool → Bool → Bool → Bool → Bool → ℕ
size a b c d e = cond a 94 (cond b 0 (cond c 5 (cond d 2 (cond e 2 65536))))

-- a body whose length two bytes can say
size_few : (kind : ℕ) → body_size kind ≤ 65533 → body_size kind ≤ 94
unfolding body_size
size_few kind = go (eqb kind 1) (eqb kind 2) (eqb kind 3) (eqb kind 4) (eqb kind 5)
  where
    go : (a b c d e : Bool) → size a b c d e ≤ 65533 → size a b c d e ≤ 94
    go true b c d e h = lit≤ tt
    go false true c d e h = lit≤ tt
    go false false true d e h = lit≤ tt
    go false false false true e h = lit≤ tt
    go false false false false true h = lit≤ tt
    go false false false false false h = absurd (omega arith)

module _ (s : List ℕ) (bytes : Below 256 s) where
  good-few : (at : ℕ) → good_head s at ≡ true → body_size (kind_at s at) ≤ 94
  unfolding two_at
  good-few at g = size_few (kind_at s at) (omega (arith, good_length s at g, bytes at, bytes (at + 1)))

  -- bytes that do not suffice yet are less than a record
  waits-few : (at : ℕ) → at < length s → step_at s at ≡ More → length s ≤ at + 97
  waits-few at l e = go (dec_le (at + 98) (length s)) (good_head s at) refl
    where
      go : Dec (at + 98 ≤ length s) → (g : Bool) → good_head s at ≡ g → length s ≤ at + 97
      go (no h) g q = omega arith
      go (yes h) false q = absurd (subst Waits (sym e ∙ step-bad s at l (omega arith) q) tt)
      go (yes h) true q = absurd (subst Waits (sym e ∙ step-record s at l (omega arith) q (omega (arith, good-few at q))) tt)

-- what a pass from a place on has served, and what it leaves
pub record Counted (s : List ℕ) (at : ℕ) (p : Pass) : Type 0 where
  pub many : at + 4 * length p.answers ≤ p.at
  pub few : (p.last ≡ Bad → ⊥) → length s ≤ p.at + 97

counted_stop : (n : ℕ) (s : List ℕ) (at : ℕ) (t : List ℕ) (x : Step) → Stops x → step_at s at ≡ x → ((x ≡ Bad → ⊥) → length s ≤ at + 97)
    → Counted s at (pass n s at t)
counted_stop n s at t x q e h = subst (Counted s at) (sym (pass-stop s at t n x q e)) (record { many = omega arith; few = h })

pub pass-counted : (n : ℕ) (s : List ℕ) (at : ℕ) (t : List ℕ) → Below 256 s → length s ≤ at + n → Counted s at (pass n s at t)
pass-counted zero s at t bytes h = counted_stop zero s at t End tt (step_end s at (omega arith)) (λ _. omega arith)
pass-counted (suc n) s at t bytes h = go (stands s at) (λ place u l. pass-counted n s place u bytes (omega arith))
  where
    go : Stands s at → ((place : ℕ) (u : List ℕ) → at < place → Counted s place (pass n s place u)) → Counted s at (pass (suc n) s at t)
    go (ended l e) on = counted_stop (suc n) s at t End tt e (λ _. omega arith)
    go (waits l e) on = counted_stop (suc n) s at t More tt e (λ _. waits-few s bytes at l e)
    go (bad l g e) on = counted_stop (suc n) s at t Bad tt e (λ q. absurd (q refl))
    go (whole g l e) on =
        let kind = kind_at s at in
        let c = on (at + 4 + body_size kind) (served_after kind (part (at + 4) (body_size kind) s) t) (omega arith) in
        subst (Counted s at) (sym (pass_on s at t n kind (at + 4) e)) (record { many = omega (arith, c.many); few = c.few })
