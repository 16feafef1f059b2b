-- Tests that antt computes, and the laws that turn them into facts: `every` for each number of d bits, by halves, and
-- `entries` for each entry of a table.
-- Assumes nothing.
use mathlib.Core.Path.{◌≡◌, refl, sym, ap, ◌∙◌, subst}
use mathlib.Core.Bool.{Bool, true, false}
use Prim.Native.Nat.{ℕ, zero, suc, ◌+◌, ◌-◌, ◌*◌, ◌^◌, ◌<◌}
use native.Mathlib.Omega.{arith}
use native.Mathlib.Decide.{dec_lt}
use native.Mathlib.Nat.{pow-suc, zero-mul, zero-add, mul-one, add-zero, add-mul, mul_assoc, mul_comm}
use mathlib.Core.List.{List, [], ◌∷◌}
use lib.Arith.{lt-one}
use lib.ListN.{length, get_or}
use lib.Dec.{T}

abbrev pub both : Bool → Bool → Bool
both true b = b
both false b = false

pub both_left : (a b : Bool) → T (both a b) → T a
both_left true b t = tt
both_left false b t = t

pub both_right : (a b : Bool) → T (both a b) → T b
both_right true b t = t
both_right false b t = absurd t

-- the test passes at each of the 2 ^ d numbers from i * 2 ^ d on
abbrev pub every : (ℕ → Bool) → ℕ → ℕ → Bool
every p zero i = p i
every p (suc d) i = both (every p d (2 * i)) (every p d (2 * i + 1))

every-from : (p : ℕ → Bool) (d i : ℕ) → T (every p d i) → (j : ℕ) → j < 2 ^ d → T (p (i * 2 ^ d + j))
every-from p zero i t j h = subst (λ (n : ℕ). T (p n)) (sym (ap (λ (x : ℕ). i * 1 + x) (lt-one h) ∙ add-zero (i * 1) ∙ mul-one i)) t
every-from p (suc d) i t j h =
    go (every-from p d (2 * i) (both_left (every p d (2 * i)) (every p d (2 * i + 1)) t)) (every-from p d (2 * i + 1) (both_right (every p d (2 * i)) (every p d (2 * i + 1)) t)) (dec_lt j (2 ^ d))
  where
    front : i * 2 ^ suc d ≡ 2 * i * 2 ^ d
    front =
        ap (λ (x : ℕ). i * x) (pow-suc 2 d) ∙ sym (mul_assoc i (2 ^ d) 2) ∙ mul_comm (i * 2 ^ d) 2
        ∙ sym (mul_assoc 2 i (2 ^ d))

    go : ((k : ℕ) → k < 2 ^ d → T (p (2 * i * 2 ^ d + k))) → ((k : ℕ) → k < 2 ^ d → T (p ((2 * i + 1) * 2 ^ d + k)))
        → Dec (j < 2 ^ d) → T (p (i * 2 ^ suc d + j))
    go low high (yes l) = subst (λ (n : ℕ). T (p (n + j))) (sym front) (low j l)
    go low high (no l) =
        subst (λ (n : ℕ). T (p n)) (omega (arith, front, add-mul (2 * i) 1 (2 ^ d)))
        (high (j - 2 ^ d) (omega (arith, pow-suc 2 d)))

pub every-at : (p : ℕ → Bool) (d : ℕ) → T (every p d 0) → (j : ℕ) → j < 2 ^ d → T (p j)
every-at p d t j h = subst (λ (n : ℕ). T (p n)) (ap (λ (x : ℕ). x + j) (zero-mul (2 ^ d)) ∙ zero-add j) (every-from p d 0 t j h)

-- ---- a table of k entries, each tested with its place, counted from i; the length is part of the test

abbrev pub entries : (ℕ → ℕ → Bool) → ℕ → ℕ → List ℕ → Bool
entries f zero i [] = true
entries f zero i (x ∷ xs) = false
entries f (suc k) i [] = false
entries f (suc k) i (x ∷ xs) = both (f i x) (entries f k (suc i) xs)

pub entries-length : (f : ℕ → ℕ → Bool) (k i : ℕ) (xs : List ℕ) → T (entries f k i xs) → length xs ≡ k
entries-length f zero i [] t = refl
entries-length f zero i (x ∷ xs) t = absurd t
entries-length f (suc k) i [] t = absurd t
entries-length f (suc k) i (x ∷ xs) t = ap suc (entries-length f k (suc i) xs (both_right (f i x) (entries f k (suc i) xs) t))

entries_from : (f : ℕ → ℕ → Bool) (k i : ℕ) (xs : List ℕ) → T (entries f k i xs) → (j : ℕ) → j < k → T (f (i + j) (get_or xs j 0))
entries_from f zero i xs t j h = absurd (omega arith)
entries_from f (suc k) i [] t j h = absurd t
entries_from f (suc k) i (x ∷ xs) t zero h =
    subst (λ (m : ℕ). T (f m x)) (sym (add-zero i)) (both_left (f i x) (entries f k (suc i) xs) t)
entries_from f (suc k) i (x ∷ xs) t (suc j) h =
    subst (λ (m : ℕ). T (f m (get_or xs j 0))) (omega arith)
    (entries_from f k (suc i) xs (both_right (f i x) (entries f k (suc i) xs) t) j (omega arith))

pub entries_at : (f : ℕ → ℕ → Bool) (k : ℕ) (xs : List ℕ) → T (entries f k 0 xs) → (j : ℕ) → j < k → T (f j (get_or xs j 0))
entries_at f k xs t j h = subst (λ (m : ℕ). T (f m (get_or xs j 0))) (zero-add j) (entries_from f k 0 xs t j h)
