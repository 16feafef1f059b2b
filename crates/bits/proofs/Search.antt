-- Laws of the first number that passes a test.
--
--   first-le       it is at most i + k
--   first_holds    it passes, where it is below that
--   first-only     it is the one that passes, where only one does
--   first-agree    two tests that agree have the same first
--   first-least    no number that passes is less
--   and_left, and_right, or_right    parts of a joined test; and_no: it fails where a part does
--   neither, neither_left, neither_right    parts of a joined test that none passes
--   truth          a test that holds is true
--   clash          true is not false
--   same_truth     two tests that hold together are one
--   all-at, all-each    all pass exactly if each does
--   all-next, all_end   the same folded by a loop, turn by turn
--
-- Assumes nothing.
use mathlib.Core.Path.{◌≡◌, refl, sym, ap, ap₂, ◌∙◌, subst}
use mathlib.Core.Bool.{Bool, true, false, cond, ◌&&◌, ◌||◌, and-true, and_assoc}
use Prim.Native.Nat.{ℕ, zero, suc, ◌+◌, ◌≤◌, ◌<◌}
use native.Mathlib.Omega.{arith}
use native.Mathlib.Decide.{ℕ_discrete}
use lib.Dec.{T}
use Rattle.bits.specs.Search.{first, all}

module _ (p : ℕ → Bool) where
  pub first-le : (k i : ℕ) → first p k i ≤ i + k
  unfolding first
  first-le zero i = omega arith
  first-le (suc k) i = go (p i) (first-le k (suc i))
    where
      go : (b : Bool) → first p k (suc i) ≤ suc i + k → cond b i (first p k (suc i)) ≤ i + suc k
      go true h = omega arith
      go false h = omega arith

  pub first_holds : (k i : ℕ) → first p k i < i + k → T (p (first p k i))
  unfolding first
  first_holds zero i h = absurd (omega arith)
  first_holds (suc k) i h = go (p i) refl (first_holds k (suc i)) h
    where
      go : (b : Bool) → p i ≡ b → (first p k (suc i) < suc i + k → T (p (first p k (suc i))))
          → cond b i (first p k (suc i)) < i + suc k → T (p (cond b i (first p k (suc i))))
      go true e ih h = subst T (sym e) tt
      go false e ih h = ih (omega arith)

  pub first-only : (k i j : ℕ) → i ≤ j → j < i + k → T (p j) → ((m : ℕ) → m < i + k → T (p m) → m ≡ j) → first p k i ≡ j
  unfolding first
  first-only zero i j l h t only = absurd (omega arith)
  first-only (suc k) i j l h t only = go (p i) refl (λ l'. first-only k (suc i) j l' (omega arith) t (λ m q. only m (omega arith)))
    where
      go : (b : Bool) → p i ≡ b → (suc i ≤ j → first p k (suc i) ≡ j) → cond b i (first p k (suc i)) ≡ j
      go true e ih = only i (omega arith) (subst T (sym e) tt)
      go false e ih = ih (later (ℕ_discrete i j))
        where
          later : Dec (i ≡ j) → suc i ≤ j
          later (yes q) = absurd (subst T (sym (ap p q) ∙ e) t)
          later (no q) = omega arith

pub first-agree : (p q : ℕ → Bool) (k i : ℕ) → ((j : ℕ) → i ≤ j → j < i + k → p j ≡ q j) → first p k i ≡ first q k i
unfolding first
first-agree p q zero i h = refl
first-agree p q (suc k) i h =
    ap₂ (λ (b : Bool) (n : ℕ). cond b i n) (h i (omega arith) (omega arith))
    (first-agree p q k (suc i) (λ j l m. h j (omega arith) (omega arith)))

-- no number that passes is less
pub first-least : (p : ℕ → Bool) (k i j : ℕ) → i ≤ j → j < i + k → T (p j) → first p k i ≤ j
unfolding first
first-least p zero i j l h t = absurd (omega arith)
first-least p (suc k) i j l h t = go (p i) refl (first-least p k (suc i) j) (ℕ_discrete i j)
  where
    go : (b : Bool) → p i ≡ b → (suc i ≤ j → j < suc i + k → T (p j) → first p k (suc i) ≤ j) → Dec (i ≡ j) → cond b i (first p k (suc i)) ≤ j
    go true e rest d = l
    go false e rest (yes q) = absurd (subst T (sym (ap p q) ∙ e) t)
    go false e rest (no q) = rest (omega arith) (omega arith) t

-- ---- tests

pub clash : {A : Type 0} → true ≡ false → A
clash e = absurd (subst T e tt)

pub truth : (b : Bool) → T b → b ≡ true
truth true t = refl
truth false t = absurd t

pub and_left : (a b : Bool) → (a && b) ≡ true → a ≡ true
and_left true b e = refl
and_left false b e = e

pub and_right : (a b : Bool) → (a && b) ≡ true → b ≡ true
and_right true b e = e
and_right false b e = absurd (subst T (sym e) tt)

pub or_right : (a b : Bool) → (a || b) ≡ true → a ≡ false → b ≡ true
or_right true b e f = absurd (subst T f tt)
or_right false b e f = e

-- two tests of which each holds where the other does
pub same_truth : (a b : Bool) → (a ≡ true → b ≡ true) → (b ≡ true → a ≡ true) → a ≡ b
same_truth true b f g = sym (f refl)
same_truth false true f g = g refl
same_truth false false f g = refl

pub and_no : {y : Bool} (x : Bool) → y ≡ false → (x && y) ≡ false
and_no true e = e
and_no false e = refl

pub neither_left : (a b : Bool) → (a || b) ≡ false → a ≡ false
neither_left true b e = e
neither_left false b e = refl

pub neither_right : (a b : Bool) → (a || b) ≡ false → b ≡ false
neither_right true b e = clash e
neither_right false b e = e

pub neither : (a b : Bool) → (a || b) ≡ false → (a ≡ false) × (b ≡ false)
neither a b e = (neither_left a b e, neither_right a b e)

-- ---- all

pub all-at : (p : ℕ → Bool) (k i : ℕ) → all p k i ≡ true → (j : ℕ) → i ≤ j → j < i + k → p j ≡ true
unfolding all
all-at p zero i e j l h = absurd (omega arith)
all-at p (suc k) i e j l h = go (ℕ_discrete i j) (all-at p k (suc i) (and_right (p i) (all p k (suc i)) e) j)
  where
    go : Dec (i ≡ j) → (suc i ≤ j → j < suc i + k → p j ≡ true) → p j ≡ true
    go (yes q) rest = subst (λ (n : ℕ). p n ≡ true) q (and_left (p i) (all p k (suc i)) e)
    go (no q) rest = rest (omega arith) (omega arith)

pub all-each : (p : ℕ → Bool) (k i : ℕ) → ((j : ℕ) → i ≤ j → j < i + k → p j ≡ true) → all p k i ≡ true
unfolding all
all-each p zero i h = refl
all-each p (suc k) i h =
    ap₂ (λ (a b : Bool). a && b) (h i (omega arith) (omega arith)) (all-each p k (suc i) (λ j l m. h j (omega arith) (omega arith)))

-- a loop that folds the tests together: what it has so far, and what is left; one turn more, and the end
module _ (p : ℕ → Bool) (so : Bool) (t : Bool) (n i : ℕ) where
  pub all-next : (now : Bool) (m j : ℕ) → n ≡ suc m → j ≡ suc i → now ≡ (so && p i) → (so && all p n i) ≡ t → (now && all p m j) ≡ t
  unfolding all
  all-next now m j e f q h =
      ap₂ (λ (b : Bool) (x : ℕ). b && all p m x) q f ∙ and_assoc so (p i) (all p m (suc i)) ∙ sym (ap (λ (x : ℕ). so && all p x i) e) ∙ h

  pub all_end : n ≡ 0 → (so && all p n i) ≡ t → so ≡ t
  unfolding all
  all_end e f = sym (and-true so) ∙ sym (ap (λ (x : ℕ). so && all p x i) e) ∙ f
