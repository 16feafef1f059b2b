-- The rows of section 4's table, by what was awaited and what came.
--
--   Row needs a c mv, row_is    what each row says of the place awaited and the one that came
--   row-whole, row-started, row-held, row_out    which row it is
--   four-table                  for groups of four packets that need all four it is document 01's table
--   one-whole                   for groups of one it is always whole
--   move-modulo                 an index counts modulo the packets of a group; move_row, move-whole: one that is below that
--   per-bounds, needs-bounds    the two numbers of a slot; place-below: a place is below the first of them; row-at
--   moved-sizes, dropped-sizes, aged-sizes    what a head changes to has the same; moved-wish: and what was wished
--
-- Assumes nothing.
use mathlib.Core.Path.{◌≡◌, refl, ap}
use mathlib.Core.Bool.{Bool, true, false, cond, not, ◌&&◌, ◌||◌}
use mathlib.Core.Logic.{◌⊎◌, inl, inr}
use Prim.Native.Nat.{ℕ, zero, suc, ◌+◌, ◌%◌, ◌≤◌, ◌<◌}
use native.Mathlib.Nat.{mod-eq_of_lt, mod-one, mod-mod, mod-lt}
use native.Mathlib.Omega.{arith}
use borrow.Author.Tests.{eq-eqb, ne_eqb, le-leb, lt-leb, eqb-true, eqb-false, leb-true, leb-false}
use lib.Dec.{eqb, leb}
use Rattle.head.specs.Move.{Move, started, held, whole, out_of_step, per_of, needs_of, row_of, move_of, table_of, row_at, place_at, moved_head}
use Rattle.head.specs.Head.{dropped_head, aged_head}
use Rattle.head.specs.declared.Head.{Head}

-- the three tests: c is 0, c is awaited, c + 1 is at least what is needed
abbrev chosen : Bool → Bool → Bool → Move
chosen first same enough = cond ((first || same) && enough) whole (cond first started (cond same held out_of_step))

abbrev pub Row : ℕ → ℕ → ℕ → Move → Type 0
Row needs a c started = (c ≡ 0) × (c + 1 < needs)
Row needs a c held = (c ≡ a) × (0 < c) × (c + 1 < needs)
Row needs a c whole = ((c ≡ 0) ⊎ (c ≡ a)) × (needs ≤ c + 1)
Row needs a c out_of_step = (0 < c) × (c ≡ a → ⊥)

module _ (needs a c : ℕ) where
  pub row_is : Row needs a c (row_of needs a c)
  unfolding row_of
  row_is = go (eqb c 0) (eqb c a) (leb needs (c + 1)) refl refl refl
    where
      go : (first same enough : Bool) → eqb c 0 ≡ first → eqb c a ≡ same → leb needs (c + 1) ≡ enough
          → Row needs a c (chosen first same enough)
      go true same true f s e = (inl (eqb-true c 0 f), leb-true needs (c + 1) e)
      go true same false f s e = (eqb-true c 0 f, leb-false needs (c + 1) e)
      go false true true f s e = (inr (eqb-true c a s), leb-true needs (c + 1) e)
      go false true false f s e =
          let z = eqb-false c 0 f in
          (eqb-true c a s, omega arith, leb-false needs (c + 1) e)
      go false false enough f s e =
          let z = eqb-false c 0 f in
          (omega arith, eqb-false c a s)

  by_tests : (first same enough : Bool) → eqb c 0 ≡ first → eqb c a ≡ same → leb needs (c + 1) ≡ enough
      → row_of needs a c ≡ chosen first same enough
  unfolding row_of
  by_tests first same enough f s e = λ i. chosen (f i) (s i) (e i)

  pub row-whole : (c ≡ 0) ⊎ (c ≡ a) → needs ≤ c + 1 → row_of needs a c ≡ whole
  row-whole (inl z) l = by_tests true _ true (eq-eqb c 0 z) refl (le-leb needs (c + 1) l)
  row-whole (inr s) l = go (eqb c 0) refl
    where
      go : (first : Bool) → eqb c 0 ≡ first → row_of needs a c ≡ whole
      go true f = by_tests true true true f (eq-eqb c a s) (le-leb needs (c + 1) l)
      go false f = by_tests false true true f (eq-eqb c a s) (le-leb needs (c + 1) l)

  pub row-started : c ≡ 0 → c + 1 < needs → row_of needs a c ≡ started
  row-started z l = by_tests true _ false (eq-eqb c 0 z) refl (lt-leb needs (c + 1) l)

  pub row-held : (c ≡ 0 → ⊥) → c ≡ a → c + 1 < needs → row_of needs a c ≡ held
  row-held n s l = by_tests false true false (ne_eqb c 0 n) (eq-eqb c a s) (lt-leb needs (c + 1) l)

  pub row_out : (c ≡ 0 → ⊥) → (c ≡ a → ⊥) → row_of needs a c ≡ out_of_step
  row_out n d = by_tests false false _ (ne_eqb c 0 n) (ne_eqb c a d) refl

-- ---- the two sizes

-- a place that is awaited: held below the last, whole at it
last-or-not : (same low : Bool)
    → cond (same && not low) whole (cond same held out_of_step) ≡ cond (same && low) held (cond (same && not low) whole out_of_step)
last-or-not true true = refl
last-or-not true false = refl
last-or-not false low = refl

pub four-table : (a c : ℕ) → a < 4 → c < 4 → move_of 4 4 a c ≡ table_of a c
unfolding move_of row_of table_of
four-table a zero k l = refl
four-table a (suc zero) k l = last-or-not (eqb 1 a) true
four-table a (suc (suc zero)) k l = last-or-not (eqb 2 a) true
four-table a (suc (suc (suc zero))) k l = last-or-not (eqb 3 a) false
four-table a (suc (suc (suc (suc c)))) k l = absurd (omega arith)

pub one-whole : (a c : ℕ) → move_of 1 1 a c ≡ whole
unfolding move_of
one-whole a c = row-whole 1 a (c % 1) (inl (mod-one c)) (omega arith)

-- ---- the index

pub move-modulo : (per needs a c : ℕ) → move_of per needs a (c % per) ≡ move_of per needs a c
unfolding move_of
move-modulo per needs a c = ap (row_of needs a) (mod-mod c per)

pub move_row : (per needs a c : ℕ) → c < per → Row needs a c (move_of per needs a c)
unfolding move_of
move_row per needs a c l = rw (mod-eq_of_lt l) (row_is needs a c)

pub move-whole : (per needs a c : ℕ) → c < per → (c ≡ 0) ⊎ (c ≡ a) → needs ≤ c + 1 → move_of per needs a c ≡ whole
unfolding move_of
move-whole per needs a c l at enough = rw (mod-eq_of_lt l) (row-whole needs a c at enough)

-- ---- the two numbers of a slot

pub per-bounds : (h : Head) → (0 < per_of h) × (per_of h ≤ 4)
unfolding per_of
per-bounds h = (omega arith, omega arith)

pub needs-bounds : (h : Head) → (0 < needs_of h) × (needs_of h ≤ per_of h)
unfolding per_of needs_of
needs-bounds h = (omega arith, omega arith)

pub place-below : (h : Head) (c : ℕ) → place_at h c < per_of h
place-below h c = mod-lt c (per-bounds h).0

pub row-at : (h : Head) (c : ℕ) → Row (needs_of h) h.awaited (place_at h c) (row_at h c)
unfolding move_of
row-at h c = row_is (needs_of h) h.awaited (place_at h c)

abbrev pub SameSizes : Head → Head → Type 0
SameSizes g h = (per_of g ≡ per_of h) × (needs_of g ≡ needs_of h)

pub moved-sizes : (mv : Move) (h : Head) → SameSizes (moved_head mv h) h
unfolding per_of needs_of moved_head
moved-sizes started h = (refl, refl)
moved-sizes held h = (refl, refl)
moved-sizes whole h = (refl, refl)
moved-sizes out_of_step h = (refl, refl)

pub dropped-sizes : (h : Head) → SameSizes (dropped_head h) h
unfolding per_of needs_of
dropped-sizes h = (refl, refl)

pub aged-sizes : (h : Head) → SameSizes (aged_head h) h
unfolding per_of needs_of
aged-sizes h = (refl, refl)

-- no row changes what was wished
pub moved-wish : (mv : Move) (h : Head) → (moved_head mv h).wish ≡ h.wish
unfolding moved_head
moved-wish started h = refl
moved-wish held h = refl
moved-wish whole h = refl
moved-wish out_of_step h = refl
