-- Laws of the orders of refusal: which row is hit, and that a call is refused exactly when a row holds.
--
--   refusal-hit, refusal-miss, refusal-none     the first row, by its test, and where there is no row
--   refusal-passed                where nothing is refused, the first row does not hold
--   Holds, holds-refused, refused-exactly       the first row that holds; refused exactly when there is one
--   further-refused, further-passed, done_refused, done-passed    the answer and the bytes left, by the number
--   done-either                   what holds of the bytes left, by cases of the number
--   refused, accepted             a call that answers first and changes the bytes after: its answer with the bytes after
--
-- Assumes nothing.
use mathlib.Core.Path.{◌≡◌, refl, sym, ap, ◌∙◌}
use mathlib.Core.Bool.{Bool, true, false, cond}
use mathlib.Core.List.{List, [], ◌∷◌}
use mathlib.Core.Logic.{◌⊎◌, inl, inr}
use Prim.Native.Nat.{ℕ, zero, suc, ◌<◌}
use native.Mathlib.Omega.{arith}
use Rattle.bits.specs.Rows.{Row, row, refusal, further, done}

pub refusal-hit : (t : Bool) (n : ℕ) (rest : List Row) → t ≡ true → refusal (row t n ∷ rest) ≡ n
unfolding refusal
refusal-hit t n rest e = ap (λ (b : Bool). cond b n (refusal rest)) e

pub refusal-miss : (t : Bool) (n : ℕ) (rest : List Row) → t ≡ false → refusal (row t n ∷ rest) ≡ refusal rest
unfolding refusal
refusal-miss t n rest e = ap (λ (b : Bool). cond b n (refusal rest)) e

pub refusal-none : refusal [] ≡ 0
unfolding refusal
refusal-none = refl

-- where nothing is refused, the first row does not hold, nor is anything refused by the rest
pub refusal-passed : (t : Bool) (n : ℕ) (rest : List Row) → 0 < n → refusal (row t n ∷ rest) ≡ 0 → (t ≡ false) × (refusal rest ≡ 0)
unfolding refusal
refusal-passed true n rest h e = absurd (omega (arith, e))
refusal-passed false n rest h e = (refl, e)

-- a row of the order holds, and none before it does
pub data Holds : List Row → ℕ → Type 0 where
  here : {n : ℕ} {rest : List Row} → Holds (row true n ∷ rest) n
  later : {m n : ℕ} {rest : List Row} → Holds rest n → Holds (row false m ∷ rest) n

pub holds-refused : {rows : List Row} {n : ℕ} → Holds rows n → refusal rows ≡ n
unfolding refusal
holds-refused here = refl
holds-refused (later h) = holds-refused h

-- "exactly when a row in its order holds, and with the first such; otherwise it is accepted"
pub refused-exactly : (rows : List Row) → Holds rows (refusal rows) ⊎ (refusal rows ≡ 0)
unfolding refusal
refused-exactly [] = inr refl
refused-exactly (row true n ∷ rest) = inl here
refused-exactly (row false n ∷ rest) = go (refused-exactly rest)
  where
    go : Holds rest (refusal rest) ⊎ (refusal rest ≡ 0) → Holds (row false n ∷ rest) (refusal rest) ⊎ (refusal rest ≡ 0)
    go (inl h) = inl (later h)
    go (inr e) = inr e

-- ---- the answer and the bytes left, by the number

pub further-refused : (n m : ℕ) → (n ≡ 0 → ⊥) → further n m ≡ n
unfolding further
further-refused zero m ne = absurd (ne refl)
further-refused (suc n) m ne = refl

pub further-passed : (n m : ℕ) → n ≡ 0 → further n m ≡ m
unfolding further
further-passed n m e = ap (λ (x : ℕ). further x m) e

pub done_refused : (n : ℕ) (after before : List ℕ) → (n ≡ 0 → ⊥) → done n after before ≡ before
unfolding done
done_refused zero after before ne = absurd (ne refl)
done_refused (suc n) after before ne = refl

pub done-passed : (n : ℕ) (after before : List ℕ) → n ≡ 0 → done n after before ≡ after
unfolding done
done-passed n after before e = ap (λ (x : ℕ). done x after before) e

-- the bytes after, by cases of the answer
pub done-either : (P : List ℕ → Type 0) (n : ℕ) (after before : List ℕ) → (n ≡ 0 → P after) → P before → P (done n after before)
unfolding done
done-either P zero after before a b = a refl
done-either P (suc n) after before a b = b

-- ---- a call that answers first and changes the bytes after

module _ (r n : ℕ) (after before : List ℕ) (e : r ≡ n) where
  pub refused : (r ≡ 0 → ⊥) → (r ≡ n) × (before ≡ done n after before)
  refused ne = (e, sym (done_refused n after before (λ z. ne (e ∙ z))))

  pub accepted : (now : List ℕ) → r ≡ 0 → now ≡ after → (0 ≡ n) × (now ≡ done n after before)
  accepted now z q = (sym z ∙ e, q ∙ sym (done-passed n after before (sym e ∙ z)))
