-- Follow's rows about what is wished.
--
--   outside          the tests of a bound, as the code makes them
--   wish-22, wish-23, wish-24, wish-0      what is answered, row by row
--   wish-passes                            a good wish is not refused
--   rows-refused, rows-rest                rows with others behind them, by what the first are answered
--   wish-refused, wish-rest                so for the wish's rows
--   wish-passed                            where nothing is refused, the wish is good, nor is anything refused by the rest
--
-- Assumes nothing.
use mathlib.Core.Path.{◌≡◌, refl, sym, ap, ap₂, ◌∙◌}
use mathlib.Core.Bool.{Bool, true, false, not, ◌&&◌, ◌||◌}
use mathlib.Core.List.{List, [], ◌∷◌, ◌++◌}
use Prim.Native.Nat.{ℕ, ◌≤◌, ◌<◌}
use native.Mathlib.Omega.{arith}
use native.Mathlib.Decide.{dec_lt}
use lib.Dec.{leb, ltb, lit<}
use borrow.Author.Tests.{not-false, lt-ltb, le-ltb, lt-leb, le-leb, ltb-false}
use Rattle.bits.specs.Rows.{Row, row, refusal}
use Rattle.bits.proofs.Rows.{refusal-hit, refusal-miss, refusal-none, refusal-passed}
use Rattle.head.specs.Head.{within, good_wish, wish_rows, wish_answer}
use Rattle.head.specs.declared.Wish.{Wish}
use Rattle.head.proofs.Bounds.{wish-bounds}

pub outside : (least most a : ℕ) → (ltb a least || ltb most a) ≡ not (within least most a)
outside least most a = go (dec_lt a least) (dec_lt most a)
  where
    go : Dec (a < least) → Dec (most < a) → (ltb a least || ltb most a) ≡ not (within least most a)
    go (yes p) q =
        ap (λ (x : Bool). x || ltb most a) (lt-ltb a least p)
        ∙ sym (ap (λ (x : Bool). not (x && leb a most)) (lt-leb least a p))
    go (no p) (yes q) =
        ap₂ (λ (x y : Bool). x || y) (le-ltb a least (omega arith)) (lt-ltb most a q)
        ∙ sym (ap₂ (λ (x y : Bool). not (x && y)) (le-leb least a (omega arith)) (lt-leb a most q))
    go (no p) (no q) =
        ap₂ (λ (x y : Bool). x || y) (le-ltb a least (omega arith)) (le-ltb most a (omega arith))
        ∙ sym (ap₂ (λ (x y : Bool). not (x && y)) (le-leb least a (omega arith)) (le-leb a most (omega arith)))

module _ (w : Wish) where
  abbrev from24 : List Row → List Row
  from24 rest = row (not (within 1 1500 w.limit)) 24 ∷ rest

  abbrev from23 : List Row → List Row
  from23 rest = row (ltb 1 w.protection) 23 ∷ from24 rest

  pub wish-22 : (ltb w.address 1 || ltb 1022 w.address) ≡ true → 22 ≡ wish_answer w
  unfolding wish_answer
  wish-22 t = sym (refusal-hit (not (within 1 1022 w.address)) 22 (from23 []) (sym (outside 1 1022 w.address) ∙ t))

  module _ (t22 : (ltb w.address 1 || ltb 1022 w.address) ≡ false) where
    past22 : wish_answer w ≡ refusal (from23 [])
    unfolding wish_answer
    past22 = refusal-miss (not (within 1 1022 w.address)) 22 (from23 []) (sym (outside 1 1022 w.address) ∙ t22)

    pub wish-23 : 1 < w.protection → 23 ≡ wish_answer w
    wish-23 h = sym (past22 ∙ refusal-hit (ltb 1 w.protection) 23 (from24 []) (lt-ltb 1 w.protection h))

    module _ (t23 : w.protection ≤ 1) where
      past23 : wish_answer w ≡ refusal (from24 [])
      past23 = past22 ∙ refusal-miss (ltb 1 w.protection) 23 (from24 []) (le-ltb 1 w.protection t23)

      pub wish-24 : (ltb w.limit 1 || ltb 1500 w.limit) ≡ true → 24 ≡ wish_answer w
      wish-24 t = sym (past23 ∙ refusal-hit (not (within 1 1500 w.limit)) 24 [] (sym (outside 1 1500 w.limit) ∙ t))

      pub wish-0 : (ltb w.limit 1 || ltb 1500 w.limit) ≡ false → 0 ≡ wish_answer w
      wish-0 t =
          sym (past23 ∙ refusal-miss (not (within 1 1500 w.limit)) 24 [] (sym (outside 1 1500 w.limit) ∙ t) ∙ refusal-none)

inside : (least most a : ℕ) → least ≤ a → a ≤ most → (ltb a least || ltb most a) ≡ false
inside least most a p q = ap₂ ◌||◌ (le-ltb a least p) (le-ltb most a q)

pub wish-passes : (w : Wish) → good_wish w ≡ true → wish_answer w ≡ 0
wish-passes w e =
    let b = wish-bounds w e in
    sym (wish-0 w (inside 1 1022 w.address b.address-from b.address-to) b.protection-to
    (inside 1 1500 w.limit b.limit-from b.limit-to))

-- ---- with others behind them

-- no row gives 0
abbrev All : List Row → Type 0
All [] = Unit {0}
All (row t n ∷ rows) = (0 < n) × All rows

rows-refused : (rows rest : List Row) → (refusal rows ≡ 0 → ⊥) → refusal (rows ++ rest) ≡ refusal rows
unfolding refusal
rows-refused [] rest ne = absurd (ne refl)
rows-refused (row true n ∷ rows) rest ne = refl
rows-refused (row false n ∷ rows) rest ne = rows-refused rows rest ne

-- where no row gives 0
rows-rest : (rows rest : List Row) → All rows → refusal rows ≡ 0 → refusal (rows ++ rest) ≡ refusal rest
unfolding refusal
rows-rest [] rest a e = refl
rows-rest (row true n ∷ rows) rest (l, a) e = absurd (omega (arith, e, l))
rows-rest (row false n ∷ rows) rest (l, a) e = rows-rest rows rest a e

pub wish-refused : (w : Wish) (rest : List Row) → (wish_answer w ≡ 0 → ⊥) → refusal (wish_rows w rest) ≡ wish_answer w
unfolding wish_answer
wish-refused w rest ne = rows-refused (wish_rows w []) rest ne

pub wish-rest : (w : Wish) (rest : List Row) → wish_answer w ≡ 0 → refusal (wish_rows w rest) ≡ refusal rest
unfolding wish_answer
wish-rest w rest e = rows-rest (wish_rows w []) rest (lit< tt, (lit< tt, (lit< tt, tt))) e

pub wish-passed : (w : Wish) (rest : List Row) → refusal (wish_rows w rest) ≡ 0 → (good_wish w ≡ true) × (refusal rest ≡ 0)
unfolding good_wish
wish-passed w rest e =
    let a = within 1 1022 w.address in
    let l = within 1 1500 w.limit in
    let r22 = refusal-passed (not a) 22 (from23 w rest) (omega arith) e in
    let r23 = refusal-passed (ltb 1 w.protection) 23 (from24 w rest) (omega arith) r22.1 in
    let r24 = refusal-passed (not l) 24 rest (omega arith) r23.1 in (
      ap₂ ◌&&◌ (not-false a r22.0)
          (ap₂ ◌&&◌ (le-leb w.protection 1 (ltb-false 1 w.protection r23.0)) (not-false l r24.0)),
      r24.1,
    )
