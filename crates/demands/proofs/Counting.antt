-- Counting, and lists of addresses without one twice.
--
--   count p n i           how many of n numbers from i on pass a test
--   count-agree           two tests that agree; count-one: two that agree but for one number
--   count_none, count-all, count-some    none passes, all do, some one does not
--   Distinct l            no address twice
--   without-*             a list without one of its addresses: its members, its length; without-none: one that it does not have
--
-- Assumes nothing.
use mathlib.Core.Path.{◌≡◌, refl, sym, ap, ap₂, ◌∙◌, subst}
use mathlib.Core.Bool.{Bool, true, false, cond, ◌||◌}
use mathlib.Core.List.{List, [], ◌∷◌}
use Prim.Native.Nat.{ℕ, zero, suc, ◌+◌, ◌≤◌, ◌<◌}
use native.Mathlib.Omega.{arith}
use native.Mathlib.Decide.{ℕ_discrete}
use borrow.Author.Tests.{eqb-true, eqb-false, ne_eqb}
use lib.Dec.{T, eqb}
use lib.ListN.{length}
use Rattle.bits.proofs.Search.{neither_left, neither_right}
use Rattle.demands.specs.Table.{member, without}

-- ---- counting

unfoldable pub count : (ℕ → Bool) → ℕ → ℕ → ℕ
count p zero i = 0
count p (suc n) i = cond (p i) 1 0 + count p n (suc i)

one-most : (b : Bool) → cond b 1 0 ≤ 1
one-most true = omega arith
one-most false = omega arith

one-is : (m : ℕ) → 1 + m ≡ suc m
one-is m = omega arith

one_more : (m : ℕ) → 1 + m ≡ suc (0 + m)
one_more m = omega arith

pub count-le : (p : ℕ → Bool) (n i : ℕ) → count p n i ≤ n
unfolding count
count-le p zero i = omega arith
count-le p (suc n) i = omega (arith, one-most (p i), count-le p n (suc i))

pub count-agree : (p q : ℕ → Bool) (n i : ℕ) → ((k : ℕ) → i ≤ k → k < i + n → p k ≡ q k) → count p n i ≡ count q n i
unfolding count
count-agree p q zero i h = refl
count-agree p q (suc n) i h =
    ap₂ (λ (b : Bool) (m : ℕ). cond b 1 0 + m) (h i (omega arith) (omega arith))
    (count-agree p q n (suc i) (λ k l m. h k (omega arith) (omega arith)))

pub count-one : (p q : ℕ → Bool) (n i j : ℕ) → i ≤ j → j < i + n → p j ≡ false → q j ≡ true
    → ((k : ℕ) → k < i + n → (k ≡ j → ⊥) → p k ≡ q k) → count q n i ≡ suc (count p n i)
unfolding count
count-one p q zero i j l h ep eq same = absurd (omega arith)
count-one p q (suc n) i j l h ep eq same =
    go (ℕ_discrete i j) (λ m. count-one p q n (suc i) j m (omega arith) ep eq (λ k a. same k (omega arith)))
  where
    go : Dec (i ≡ j) → (suc i ≤ j → count q n (suc i) ≡ suc (count p n (suc i)))
        → cond (q i) 1 0 + count q n (suc i) ≡ suc (cond (p i) 1 0 + count p n (suc i))
    go (yes e) ih =
        ap₂ (λ (b : Bool) (m : ℕ). cond b 1 0 + m) (ap q e ∙ eq)
        (sym (count-agree p q n (suc i) (λ k a b. same k (omega arith) (λ z. omega (arith, z, e, a)))))
        ∙ one_more (count p n (suc i)) ∙ ap (λ (b : Bool). suc (cond b 1 0 + count p n (suc i))) (sym (ap p e ∙ ep))
    go (no ne) ih =
        let later = ih (omega (arith, ne)) in
        let here : cond {A = ℕ} (q i) 1 0 ≡ cond (p i) 1 0 = ap (λ (b : Bool). cond b 1 0) (sym (same i (omega arith) ne)) in
        omega (arith, later, here)

pub count_none : (p : ℕ → Bool) (n i : ℕ) → ((k : ℕ) → i ≤ k → k < i + n → p k ≡ false) → count p n i ≡ 0
unfolding count
count_none p zero i h = refl
count_none p (suc n) i h =
    ap₂ (λ (b : Bool) (m : ℕ). cond b 1 0 + m) (h i (omega arith) (omega arith))
    (count_none p n (suc i) (λ k l m. h k (omega arith) (omega arith)))

pub count-all : (p : ℕ → Bool) (n i : ℕ) → ((k : ℕ) → i ≤ k → k < i + n → p k ≡ true) → count p n i ≡ n
unfolding count
count-all p zero i h = refl
count-all p (suc n) i h =
    ap₂ (λ (b : Bool) (m : ℕ). cond b 1 0 + m) (h i (omega arith) (omega arith))
    (count-all p n (suc i) (λ k l m. h k (omega arith) (omega arith)))
    ∙ one-is n

pub count-some : (p : ℕ → Bool) (n i j : ℕ) → i ≤ j → j < i + n → p j ≡ false → count p n i < n
unfolding count
count-some p zero i j l h e = absurd (omega arith)
count-some p (suc n) i j l h e = go (ℕ_discrete i j) (λ m. count-some p n (suc i) j m (omega arith) e)
  where
    go : Dec (i ≡ j) → (suc i ≤ j → count p n (suc i) < n) → cond (p i) 1 0 + count p n (suc i) < suc n
    go (yes q) ih =
        let none : cond {A = ℕ} (p i) 1 0 ≡ 0 = ap (λ (b : Bool). cond b 1 0) (ap p q ∙ e) in
        omega (arith, none, count-le p n (suc i))
    go (no ne) ih = omega (arith, one-most (p i), ih (omega (arith, ne)))

-- ---- lists of addresses

unfoldable pub Distinct : List ℕ → Type 0
Distinct [] = Unit {0}
Distinct (b ∷ l) = (member b l ≡ false) × Distinct l

pub without-none : (a : ℕ) (l : List ℕ) → member a l ≡ false → without a l ≡ l
unfolding member without
without-none a [] e = refl
without-none a (b ∷ l) e =
    ap (λ (x : Bool). cond x l (b ∷ without a l)) (neither_left (eqb a b) _ e)
    ∙ ap (λ (m : List ℕ). b ∷ m) (without-none a l (neither_right (eqb a b) _ e))

-- another address is as much in it as before
pub without_other : (a c : ℕ) (l : List ℕ) → (c ≡ a → ⊥) → member c (without a l) ≡ member c l
unfolding member without
without_other a c [] ne = refl
without_other a c (b ∷ l) ne = go (eqb a b) refl (without_other a c l ne)
  where
    go : (x : Bool) → eqb a b ≡ x → member c (without a l) ≡ member c l → member c (cond x l (b ∷ without a l)) ≡ (eqb c b || member c l)
    go true e ih = sym (ap (λ (y : Bool). y || member c l) (ne_eqb c b (λ q. ne (q ∙ sym (eqb-true a b e)))))
    go false e ih = ap (λ (y : Bool). eqb c b || y) ih

pub without_gone : (a : ℕ) (l : List ℕ) → Distinct l → member a (without a l) ≡ false
unfolding member without Distinct
without_gone a [] d = refl
without_gone a (b ∷ l) d = go (eqb a b) refl (without_gone a l d.1)
  where
    go : (x : Bool) → eqb a b ≡ x → member a (without a l) ≡ false → member a (cond x l (b ∷ without a l)) ≡ false
    go true e ih = ap (λ (n : ℕ). member n l) (eqb-true a b e) ∙ d.0
    go false e ih = ap₂ (λ (x y : Bool). x || y) e ih

pub without-length : (a : ℕ) (l : List ℕ) → member a l ≡ true → suc (length (without a l)) ≡ length l
unfolding member without
without-length a [] e = absurd (subst T (sym e) tt)
without-length a (b ∷ l) e = go (eqb a b) e (without-length a l)
  where
    go : (x : Bool) → (x || member a l) ≡ true → (member a l ≡ true → suc (length (without a l)) ≡ length l)
        → suc (length (cond x l (b ∷ without a l))) ≡ suc (length l)
    go true h ih = refl
    go false h ih = ap suc (ih h)

pub without-distinct : (a : ℕ) (l : List ℕ) → Distinct l → Distinct (without a l)
unfolding without Distinct
without-distinct a [] d = tt
without-distinct a (b ∷ l) d = go (eqb a b) refl (without-distinct a l d.1)
  where
    go : (x : Bool) → eqb a b ≡ x → Distinct (without a l) → Distinct (cond x l (b ∷ without a l))
    go true e ih = d.1
    go false e ih = (without_other a b l (λ q. eqb-false a b e (sym q)) ∙ d.0, ih)
