-- The words of both codes: systematic, multiples of G(x), at least seven and eight bits apart.
--
--   word23-first, word23-last, word23-lt    the twelve bits of information, the eleven of remainder
--   word23-multiple, word23-only            a word is the one multiple of G(x) with its first twelve bits
--   word23-apart                            two words differ in at least seven bits
--   word24-odd, word24-apart                odd parity; two words differ in at least eight bits
--
-- Assumes nothing.
use mathlib.Core.Path.{◌≡◌, refl, sym, ap, ap₂, ◌∙◌, subst, subst₂}
use mathlib.Core.Bool.{Bool, true}
use Prim.Native.Nat.{ℕ, zero, suc, ◌+◌, ◌*◌, ◌/◌, ◌%◌, ◌^◌, ◌≤◌, ◌<◌}
use native.Mathlib.Omega.{arith}
use native.Mathlib.Nat.{mod-lt, le_trans}
use lib.Dec.{T, leb, leb→le, lit<}
use lib.Bits.{bit_xor, xor_self, xor_lt, xor_mod}
use lib.Count.{ones, ones_in, ones_cat}
use lib.Pow.{high, low, split, mod-mod-pow}
use Rattle.bits.specs.Bits.{flips}
use Rattle.bits.proofs.Flips.{xor-zero, ones-in, flips-parity, flips-low}
use Rattle.bits.proofs.Every.{every, every-at}
use Rattle.golay.specs.Code.{less, line, divide, remainder, word23, word24, Multiple}
use Rattle.golay.proofs.Division.{remainder-parts, remainder-small, remainder-xor, none-multiple, multiple-remainder}

-- ---- the (23,12) code

pub word23-place : (i : ℕ) → word23 i ≡ remainder i * 2 ^ 12 + i
unfolding word23
word23-place i = omega arith

pub word23-first : (i : ℕ) → i < 2 ^ 12 → word23 i % 2 ^ 12 ≡ i
word23-first i h = ap (λ (x : ℕ). x % 2 ^ 12) (word23-place i) ∙ low (remainder i) 12 h

pub word23-last : (i : ℕ) → i < 2 ^ 12 → word23 i / 2 ^ 12 ≡ remainder i
word23-last i h = ap (λ (x : ℕ). x / 2 ^ 12) (word23-place i) ∙ high (remainder i) 12 h

pub word23-lt : (i : ℕ) → i < 2 ^ 12 → word23 i < 2 ^ 23
word23-lt i h = omega (arith, word23-place i, remainder-small i (omega arith))

word23-none : (i : ℕ) → i < 2 ^ 12 → remainder (word23 i) ≡ 0
word23-none i h =
    remainder-parts (word23 i) ∙ ap₂ (λ (x y : ℕ). bit_xor (remainder x) y) (word23-first i h) (word23-last i h)
    ∙ xor_self (remainder i)

-- "the transmitted code M(x) is, therefore, a polynomial which is a multiple of the generator polynomial G(x)"
pub word23-multiple : (i : ℕ) → i < 2 ^ 12 → Multiple (word23 i)
word23-multiple i h = none-multiple (word23 i) (word23-none i h)

pub none-word : (n : ℕ) → remainder n ≡ 0 → n ≡ word23 (n % 2 ^ 12)
none-word n e =
    sym (split n 12)
    ∙ ap (λ (x : ℕ). x * 2 ^ 12 + n % 2 ^ 12)
    (sym (xor-zero (remainder (n % 2 ^ 12)) (n / 2 ^ 12) (sym (remainder-parts n) ∙ e)))
    ∙ sym (word23-place (n % 2 ^ 12))

-- and there is no other multiple of G(x) with these first twelve bits
pub word23-only : (n : ℕ) → Multiple n → n ≡ word23 (n % 2 ^ 12)
word23-only n m = none-word n (multiple-remainder n m)

pub word23-xor : (i j : ℕ) → i < 2 ^ 12 → j < 2 ^ 12 → bit_xor (word23 i) (word23 j) ≡ word23 (bit_xor i j)
word23-xor i j hi hj =
    none-word (bit_xor (word23 i) (word23 j))
    (remainder-xor (word23 i) (word23 j) ∙ ap₂ bit_xor (word23-none i hi) (word23-none j hj))
    ∙ ap word23 (xor_mod (word23 i) (word23 j) 12 ∙ ap₂ bit_xor (word23-first i hi) (word23-first j hj))

-- no word but that of 0 has fewer than seven ones: one test that antt computes over all 4,096
abbrev heavy : ℕ → ℕ → Bool
heavy zero w = true
heavy (suc i) w = leb 7 (ones_in 23 w)

all-heavy : T (every (λ (i : ℕ). heavy i (word23 i)) 12 0)
unfolding word23 remainder divide line less ones_in
all-heavy = tt

word23-heavy : (i : ℕ) → i < 2 ^ 12 → (i ≡ 0 → ⊥) → 7 ≤ ones (word23 i)
word23-heavy i h ne = subst (λ (x : ℕ). 7 ≤ x) (sym (ones-in 23 (word23 i) (word23-lt i h))) (seven i ne (every-at (λ (j : ℕ). heavy j (word23 j)) 12 all-heavy i h))
  where
    seven : (j : ℕ) → (j ≡ 0 → ⊥) → T (heavy j (word23 i)) → 7 ≤ ones_in 23 (word23 i)
    seven zero ne t = absurd (ne refl)
    seven (suc j) ne t = leb→le 7 (ones_in 23 (word23 i)) t

pub word23-apart : (i j : ℕ) → i < 2 ^ 12 → j < 2 ^ 12 → (i ≡ j → ⊥) → 7 ≤ flips (word23 i) (word23 j)
unfolding flips
word23-apart i j hi hj ne =
    subst (λ (x : ℕ). 7 ≤ ones x) (sym (word23-xor i j hi hj))
    (word23-heavy (bit_xor i j) (xor_lt 12 i j hi hj) (λ e. ne (xor-zero i j e)))

-- ---- the (24,12) code

unfoldable pub parity : ℕ → ℕ
parity i = suc (ones (word23 i)) % 2

pub parity-lt : (i : ℕ) → parity i < 2
unfolding parity
parity-lt i = mod-lt (suc (ones (word23 i))) (lit< tt)

pub parity-place : (i : ℕ) → word24 i ≡ parity i * 2 ^ 23 + word23 i
unfolding word24 parity
parity-place i = omega arith

pub word24-low : (i : ℕ) → i < 2 ^ 12 → word24 i % 2 ^ 23 ≡ word23 i
word24-low i h = ap (λ (x : ℕ). x % 2 ^ 23) (parity-place i) ∙ low (parity i) 23 (word23-lt i h)

pub word24-lt : (i : ℕ) → i < 2 ^ 12 → word24 i < 2 ^ 24
word24-lt i h = omega (arith, parity-place i, parity-lt i, word23-lt i h)

pub word24-first : (i : ℕ) → i < 2 ^ 12 → word24 i % 2 ^ 12 ≡ i
word24-first i h =
    sym (mod-mod-pow (word24 i) 11 12) ∙ ap (λ (x : ℕ). x % 2 ^ 12) (word24-low i h) ∙ word23-first i h

one_bit : (b : ℕ) → b < 2 → ones b ≡ b
unfolding ones ones_in
one_bit zero h = refl
one_bit (suc zero) h = refl
one_bit (suc (suc b)) h = absurd (omega arith)

-- "overall odd parity for the 24 bit block"
pub word24-odd : (i : ℕ) → i < 2 ^ 12 → ones (word24 i) % 2 ≡ 1
unfolding parity
word24-odd i h =
    ap (λ (x : ℕ). x % 2) (ap ones (parity-place i) ∙ ones_cat 23 (parity i) (word23 i) (word23-lt i h) ∙ ap (λ (x : ℕ). x + ones (word23 i)) (one_bit (parity i) (parity-lt i)))
    ∙ odd (ones (word23 i))
  where
    odd : (k : ℕ) → (suc k % 2 + k) % 2 ≡ 1
    odd k = omega arith

pub word24-apart : (i j : ℕ) → i < 2 ^ 12 → j < 2 ^ 12 → (i ≡ j → ⊥) → 8 ≤ flips (word24 i) (word24 j)
word24-apart i j hi hj ne =
    even (flips (word24 i) (word24 j)) (ones (word24 i)) (ones (word24 j))
    (le_trans (word23-apart i j hi hj ne)
    (subst₂ (λ (x y : ℕ). flips x y ≤ flips (word24 i) (word24 j)) (word24-low i hi) (word24-low j hj) (flips-low 23 (word24 i) (word24 j))))
    (flips-parity (word24 i) (word24 j)) (word24-odd i hi) (word24-odd j hj)
  where
    even : (d a b : ℕ) → 7 ≤ d → d % 2 ≡ (a + b) % 2 → a % 2 ≡ 1 → b % 2 ≡ 1 → 8 ≤ d
    even d a b h e p q = let s : (a + b) % 2 ≡ 0 = sum a b p q in omega arith
      where
        sum : (a b : ℕ) → a % 2 ≡ 1 → b % 2 ≡ 1 → (a + b) % 2 ≡ 0
        sum a b p q = omega arith
