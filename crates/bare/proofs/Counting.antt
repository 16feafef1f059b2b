-- Laws of `counted`, the number of numbers below a bound that a test holds for. Nothing here is computed: the bounds are variables.
--
--   held              a test as a number: 1 where it holds
--   counted-agree     two tests that agree below the bound
--   counted_none      a test that holds nowhere
--   counted-apart     a test that is either of two which never hold together
--   counted-plus      below a + b: those below a, and those from a on
--   counted-xor       a xor with a number of k bits only puts the numbers of k bits into another order
--   volume, counted-ones    how many numbers of k bits have at most j ones, by Pascal's rule
--   counted-classes   m classes with v numbers in each are m * v numbers
--
-- Assumes nothing.
use mathlib.Core.Path.{◌≡◌, refl, sym, ap, ap₂, ◌∙◌}
use mathlib.Core.Bool.{Bool, true, false, cond, ◌&&◌, and-true}
use Prim.Native.Nat.{ℕ, zero, suc, ◌+◌, ◌-◌, ◌*◌, ◌^◌, ◌<◌}
use native.Mathlib.Omega.{arith}
use native.Mathlib.Decide.{ℕ_discrete, dec_lt}
use native.Mathlib.Nat.{pow-suc, add-zero, add-suc, add_comm, zero-mul, suc-mul}
use native.Mathlib.Numerals.{one-add}
use borrow.Author.Tests.{lt-ltb, le-ltb, eq-eqb, ne_eqb}
use lib.Arith.{lt-one}
use lib.Bits.{bit_xor, xor_comm, xor_zero_l, xor_block}
use lib.Count.{ones, ones_in, ones_cat}
use lib.Dec.{leb, ltb, eqb, leb-zero, leb-suc-zero, leb-suc-suc}
use Rattle.bits.proofs.Flips.{ones-zero}
use Rattle.bits.proofs.Search.{and_no}
use Rattle.bare.specs.Noise.{counted}

abbrev pub held : Bool → ℕ
held b = cond b 1 0

pub counted-agree : (f g : ℕ → Bool) (n : ℕ) → ((k : ℕ) → k < n → f k ≡ g k) → counted f n ≡ counted g n
unfolding counted
counted-agree f g zero h = refl
counted-agree f g (suc n) h =
    ap₂ (λ (b : Bool) (m : ℕ). held b + m) (h n (omega arith)) (counted-agree f g n (λ k l. h k (omega arith)))

pub counted_none : (f : ℕ → Bool) (n : ℕ) → ((k : ℕ) → k < n → f k ≡ false) → counted f n ≡ 0
unfolding counted
counted_none f zero h = refl
counted_none f (suc n) h =
    ap₂ (λ (b : Bool) (m : ℕ). held b + m) (h n (omega arith)) (counted_none f n (λ k l. h k (omega arith)))

pub counted-apart : (f g h : ℕ → Bool) (n : ℕ) → ((k : ℕ) → held (f k) ≡ held (g k) + held (h k)) → counted f n ≡ counted g n + counted h n
unfolding counted
counted-apart f g h zero e = refl
counted-apart f g h (suc n) e = omega (arith, e n, counted-apart f g h n e)

pub counted-plus : (f : ℕ → Bool) (a b : ℕ) → counted f (a + b) ≡ counted f a + counted (λ (n : ℕ). f (a + n)) b
unfolding counted
counted-plus f a zero = ap (counted f) (add-zero a) ∙ omega arith
counted-plus f a (suc b) = ap (counted f) (add-suc a b) ∙ omega (arith, counted-plus f a b)

-- ---- numbers of k bits

-- those with the highest bit clear, and those with it set
halves : (f : ℕ → Bool) (k : ℕ) → counted f (2 ^ suc k) ≡ counted f (2 ^ k) + counted (λ (n : ℕ). f (2 ^ k + n)) (2 ^ k)
halves f k = ap (counted f) (omega (arith, pow-suc 2 k)) ∙ counted-plus f (2 ^ k) (2 ^ k)

bit-clear : (k n : ℕ) → n ≡ 0 * 2 ^ k + n
bit-clear k n = omega arith

bit-set : (k n : ℕ) → 2 ^ k + n ≡ 1 * 2 ^ k + n
bit-set k n = omega arith

-- the highest bit of a xor, where one number has it, and where both do
module _ (k v n : ℕ) (hv : v < 2 ^ k) (hn : n < 2 ^ k) where
  pub xor-one : bit_xor v (2 ^ k + n) ≡ 2 ^ k + bit_xor v n
  xor-one = ap₂ bit_xor (bit-clear k v) (bit-set k n) ∙ xor_block k 0 1 v n hv hn ∙ sym (bit-set k (bit_xor v n))

  xor-both : bit_xor (2 ^ k + v) (2 ^ k + n) ≡ bit_xor v n
  xor-both = ap₂ bit_xor (bit-set k v) (bit-set k n) ∙ xor_block k 1 1 v n hv hn ∙ sym (bit-clear k (bit_xor v n))

module _ (k v : ℕ) (f : ℕ → Bool) (h : v < 2 ^ k)
    (ih : (g : ℕ → Bool) → counted g (2 ^ k) ≡ counted (λ (n : ℕ). g (bit_xor v n)) (2 ^ k)) where
  above : counted (λ (n : ℕ). f (2 ^ k + n)) (2 ^ k) ≡ counted (λ (n : ℕ). f (2 ^ k + bit_xor v n)) (2 ^ k)
  above = ih (λ (n : ℕ). f (2 ^ k + n))

  -- with the highest bit clear the halves stay, with it set they change places
  xor-clear : counted f (2 ^ suc k) ≡ counted (λ (n : ℕ). f (bit_xor v n)) (2 ^ suc k)
  xor-clear =
      halves f k
      ∙ ap₂ (λ (x y : ℕ). x + y) (ih f) (above ∙ counted-agree _ _ (2 ^ k) (λ n l. ap f (sym (xor-one k v n h l))))
      ∙ sym (halves (λ (n : ℕ). f (bit_xor v n)) k)

  xor-set : counted f (2 ^ suc k) ≡ counted (λ (n : ℕ). f (bit_xor (2 ^ k + v) n)) (2 ^ suc k)
  xor-set =
      halves f k
      ∙ ap₂ (λ (x y : ℕ). x + y) (ih f ∙ counted-agree _ _ (2 ^ k) (λ n l. ap f (sym (xor-both k v n h l))))
      (above ∙ counted-agree _ _ (2 ^ k) (λ n l. ap f (sym (xor_comm (2 ^ k + v) n ∙ xor-one k n v l h ∙ ap (λ (x : ℕ). 2 ^ k + x) (xor_comm n v)))))
      ∙ add_comm _ _
      ∙ sym (halves (λ (n : ℕ). f (bit_xor (2 ^ k + v) n)) k)

pub counted-xor : (k w : ℕ) (f : ℕ → Bool) → w < 2 ^ k → counted f (2 ^ k) ≡ counted (λ (n : ℕ). f (bit_xor w n)) (2 ^ k)
counted-xor zero w f h =
    counted-agree f (λ (n : ℕ). f (bit_xor w n)) (2 ^ zero)
    (λ n l. ap f (sym (xor_zero_l n) ∙ ap (λ (x : ℕ). bit_xor x n) (sym (lt-one h))))
counted-xor (suc k) w f h = go (dec_lt w (2 ^ k)) (λ v l g. counted-xor k v g l)
  where
    go : Dec (w < 2 ^ k) → ((v : ℕ) → v < 2 ^ k → (g : ℕ → Bool) → counted g (2 ^ k) ≡ counted (λ (n : ℕ). g (bit_xor v n)) (2 ^ k))
        → counted f (2 ^ suc k) ≡ counted (λ (n : ℕ). f (bit_xor w n)) (2 ^ suc k)
    go (yes l) ih = xor-clear k w f l (ih w l)
    go (no l) ih =
        let lower : w - 2 ^ k < 2 ^ k = omega (arith, pow-suc 2 k) in
        let whole : 2 ^ k + (w - 2 ^ k) ≡ w = omega arith in
        xor-set k (w - 2 ^ k) f lower (ih (w - 2 ^ k) lower)
        ∙ ap (λ (x : ℕ). counted (λ (n : ℕ). f (bit_xor x n)) (2 ^ suc k)) whole

-- ---- ones

ones-one : ones 1 ≡ 1
unfolding ones ones_in
ones-one = refl

-- how many numbers of k bits have at most j ones: the highest bit is clear, or set and one of the ones
unfoldable pub volume : ℕ → ℕ → ℕ
volume zero j = 1
volume (suc k) zero = volume k zero
volume (suc k) (suc j) = volume k (suc j) + volume k j

-- a set bit above k bits is one more
pub ones-set : (k n : ℕ) → n < 2 ^ k → ones (2 ^ k + n) ≡ suc (ones n)
ones-set k n h = ap ones (bit-set k n) ∙ ones_cat k 1 n h ∙ ap (λ (x : ℕ). x + ones n) ones-one ∙ one-add (ones n)

counted-first : (f : ℕ → Bool) → counted f 1 ≡ held (f 0)
unfolding counted
counted-first f = omega arith

pub counted-ones : (k j : ℕ) → counted (λ (n : ℕ). leb (ones n) j) (2 ^ k) ≡ volume k j
unfolding volume
counted-ones zero j = counted-first (λ (n : ℕ). leb (ones n) j) ∙ ap held (ap (λ (x : ℕ). leb x j) ones-zero ∙ leb-zero j)
counted-ones (suc k) zero =
    halves (λ (n : ℕ). leb (ones n) zero) k
    ∙ ap₂ (λ (x y : ℕ). x + y) (counted-ones k zero)
    (counted_none _ (2 ^ k) (λ n l. ap (λ (x : ℕ). leb x zero) (ones-set k n l) ∙ leb-suc-zero (ones n)))
    ∙ add-zero (volume k zero)
counted-ones (suc k) (suc j) =
    halves (λ (n : ℕ). leb (ones n) (suc j)) k
    ∙ ap₂ (λ (x y : ℕ). x + y) (counted-ones k (suc j))
    (counted-agree _ _ (2 ^ k) (λ n l. ap (λ (x : ℕ). leb x (suc j)) (ones-set k n l) ∙ leb-suc-suc (ones n) j) ∙ counted-ones k j)

-- ---- classes

-- a number below suc m is m, or below m, and not both
one_of : (x m : ℕ) → held (ltb x (suc m)) ≡ held (eqb x m) + held (ltb x m)
one_of x m = go (ℕ_discrete x m) (dec_lt x m)
  where
    go : Dec (x ≡ m) → Dec (x < m) → held (ltb x (suc m)) ≡ held (eqb x m) + held (ltb x m)
    go (yes e) d =
        ap held (lt-ltb x (suc m) (omega arith))
        ∙ sym (ap₂ (λ (a b : Bool). held a + held b) (eq-eqb x m e) (le-ltb x m (omega arith)))
    go (no e) (yes l) =
        ap held (lt-ltb x (suc m) (omega arith))
        ∙ sym (ap₂ (λ (a b : Bool). held a + held b) (ne_eqb x m e) (lt-ltb x m l))
    go (no e) (no l) =
        ap held (le-ltb x (suc m) (omega arith))
        ∙ sym (ap₂ (λ (a b : Bool). held a + held b) (ne_eqb x m e) (le-ltb x m (omega arith)))

-- the same under another test
one-of-these : (b : Bool) (x m : ℕ) → held (b && ltb x (suc m)) ≡ held (b && eqb x m) + held (b && ltb x m)
one-of-these true x m = one_of x m
one-of-these false x m = refl

module _ (f : ℕ → Bool) (class : ℕ → ℕ) (n v : ℕ) where
  below : (m : ℕ) → ((i : ℕ) → i < m → counted (λ (k : ℕ). f k && eqb (class k) i) n ≡ v)
      → counted (λ (k : ℕ). f k && ltb (class k) m) n ≡ m * v
  below zero each = counted_none _ n (λ k l. and_no (f k) (leb-suc-zero (class k))) ∙ sym (zero-mul v)
  below (suc m) each =
      counted-apart _ _ _ n (λ k. one-of-these (f k) (class k) m)
      ∙ ap₂ (λ (x y : ℕ). x + y) (each m (omega arith)) (below m (λ i l. each i (omega arith)))
      ∙ add_comm v (m * v) ∙ sym (suc-mul m v)

  -- each number is in one of m classes, and in each class the test holds for v numbers
  pub counted-classes : (m : ℕ) → ((k : ℕ) → k < n → class k < m)
      → ((i : ℕ) → i < m → counted (λ (k : ℕ). f k && eqb (class k) i) n ≡ v) → counted f n ≡ m * v
  counted-classes m classed each =
      counted-agree f (λ (k : ℕ). f k && ltb (class k) m) n
      (λ k l. sym (ap (λ (b : Bool). f k && b) (lt-ltb (class k) m (classed k l)) ∙ and-true (f k)))
      ∙ below m each
