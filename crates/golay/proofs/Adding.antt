-- The check bits of an information from those of its parts, and the table of them.
--
--   check-parts    the check bits are the remainder and the parity bit
--   check-split    those of the six low bits and of the six high bits, added
--   checks-right   the table's rule, by a test that antt computes over its 128 entries
--
-- Assumes nothing.
use mathlib.Core.Path.{◌≡◌, refl, sym, ap, ap₂, ◌∙◌}
use mathlib.Core.Bool.{Bool, true, false}
use borrow.Author.Tests.{lt-ltb, le-ltb}
use Prim.Native.Nat.{ℕ, zero, suc, ◌+◌, ◌-◌, ◌*◌, ◌/◌, ◌%◌, ◌^◌, ◌<◌}
use mathlib.Core.List.{List, [], ◌∷◌}
use native.Mathlib.Omega.{arith}
use native.Mathlib.Nat.{mod-lt, add-sub_cancel}
use lib.Dec.{T, eqb, ltb, eqb→eq, lit<}
use lib.Bits.{bit_xor, xor_comm, xor_block, xor_lt, xor_shifted, xor_zero_r}
use lib.Count.{ones, ones_in}
use lib.ListN.{get_or}
use lib.Pow.{split}
use Rattle.bits.specs.Bits.{flips}
use Rattle.bits.proofs.Every.{entries, entries-length, entries_at}
use Rattle.bits.proofs.Flips.{xor_assoc, flips-parity, ones-in}
use Rattle.golay.specs.Code.{less, line, divide, remainder, word23, check, Checks}
use Rattle.golay.proofs.Division.{remainder-xor, remainder-small}
use Rattle.golay.proofs.Words.{word23-xor, word23-lt, parity, parity-lt, parity-place, word23-place}

pub check-parts : (i : ℕ) → i < 2 ^ 12 → check i ≡ parity i * 2 ^ 11 + remainder i
unfolding check
check-parts i h =
    ap (λ (x : ℕ). x / 2 ^ 12) (parity-place i ∙ ap (λ (x : ℕ). parity i * 2 ^ 23 + x) (word23-place i))
    ∙ above (parity i) (remainder i)
  where
    above : (p r : ℕ) → (p * 2 ^ 23 + (r * 2 ^ 12 + i)) / 2 ^ 12 ≡ p * 2 ^ 11 + r
    above p r = omega arith

-- odd parity is not linear: it is off by the parity of 0, which is 1
parity-xor : (i j : ℕ) → i < 2 ^ 12 → j < 2 ^ 12 → parity (bit_xor i j) ≡ bit_xor (bit_xor (parity i) (parity j)) 1
unfolding parity flips
parity-xor i j hi hj =
    ap (λ (x : ℕ). suc (ones x) % 2) (sym (word23-xor i j hi hj))
    ∙ up (flips (word23 i) (word23 j)) (ones (word23 i)) (ones (word23 j)) (flips-parity (word23 i) (word23 j))
    ∙ sym (bits-xor (parity i) (parity j) (parity-lt i) (parity-lt j))
  where
    up : (d a b : ℕ) → d % 2 ≡ (a + b) % 2 → suc d % 2 ≡ (suc a % 2 + suc b % 2 + 1) % 2
    up d a b e = step d (a + b) e ∙ two a b
      where
        step : (d s : ℕ) → d % 2 ≡ s % 2 → suc d % 2 ≡ (s + 1) % 2
        step d s e = omega arith

        two : (a b : ℕ) → (a + b + 1) % 2 ≡ (suc a % 2 + suc b % 2 + 1) % 2
        two a b = omega arith

    bits-xor : (a b : ℕ) → a < 2 → b < 2 → bit_xor (bit_xor a b) 1 ≡ (a + b + 1) % 2
    bits-xor zero zero ha hb = refl
    bits-xor zero (suc zero) ha hb = refl
    bits-xor zero (suc (suc b)) ha hb = absurd (omega arith)
    bits-xor (suc zero) zero ha hb = refl
    bits-xor (suc zero) (suc zero) ha hb = refl
    bits-xor (suc zero) (suc (suc b)) ha hb = absurd (omega arith)
    bits-xor (suc (suc a)) b ha hb = absurd (omega arith)

-- the check bits of a sum, likewise off by those of 0
check-xor : (i j : ℕ) → i < 2 ^ 12 → j < 2 ^ 12 → check (bit_xor i j) ≡ bit_xor (bit_xor (check i) (check j)) (2 ^ 11)
check-xor i j hi hj =
    check-parts (bit_xor i j) (xor_lt 12 i j hi hj)
    ∙ ap₂ (λ (x y : ℕ). x * 2 ^ 11 + y) (parity-xor i j hi hj) (remainder-xor i j ∙ sym (xor_zero_r (bit_xor (remainder i) (remainder j))))
    ∙ sym (xor_block 11 (bit_xor (parity i) (parity j)) 1 (bit_xor (remainder i) (remainder j)) 0 (xor_lt 11 (remainder i) (remainder j) (small i hi) (small j hj)) (lit< tt))
    ∙ ap (λ (x : ℕ). bit_xor x (2 ^ 11)) (sym (xor_block 11 (parity i) (parity j) (remainder i) (remainder j) (small i hi) (small j hj)) ∙ sym (ap₂ bit_xor (check-parts i hi) (check-parts j hj)))
  where
    small : (k : ℕ) → k < 2 ^ 12 → remainder k < 2 ^ 11
    small k h = remainder-small k (omega arith)

-- those of the six low bits, less those of 0, and those of the six high bits
pub check-split : (i : ℕ) → i < 2 ^ 12 → bit_xor (bit_xor (check (i % 64)) (2 ^ 11)) (check (i / 64 * 64)) ≡ check i
check-split i h =
    xor_assoc (check (i % 64)) (2 ^ 11) (check (i / 64 * 64))
    ∙ ap (bit_xor (check (i % 64))) (xor_comm (2 ^ 11) (check (i / 64 * 64)))
    ∙ sym (xor_assoc (check (i % 64)) (check (i / 64 * 64)) (2 ^ 11))
    ∙ sym (check-xor (i % 64) (i / 64 * 64) (omega arith) (omega arith))
    ∙ ap check (xor_comm (i % 64) (i / 64 * 64) ∙ xor_shifted (i / 64) 6 (i % 64) (mod-lt i (lit< tt)) ∙ split i 6)

-- ---- the table

unfoldable pub checks : List ℕ
checks =
    0 ∷ 2787 ∷ 3526 ∷ 1829 ∷ 367 ∷ 2956 ∷ 3241 ∷ 1610 ∷ 734 ∷ 2109 ∷ 3864 ∷ 1531 ∷ 945 ∷ 2386 ∷ 3703 ∷ 1172 ∷ 1468 ∷
    3935 ∷ 2170 ∷ 665 ∷ 1235 ∷ 3632 ∷ 2325 ∷ 1014 ∷ 1890 ∷ 3457 ∷ 2724 ∷ 71 ∷ 1549 ∷ 3310 ∷ 3019 ∷ 296 ∷ 2459 ∷ 888 ∷
    1117 ∷ 3774 ∷ 2292 ∷ 535 ∷ 1330 ∷ 4049 ∷ 2885 ∷ 422 ∷ 1667 ∷ 3168 ∷ 2602 ∷ 201 ∷ 2028 ∷ 3343 ∷ 3111 ∷ 1732 ∷
    481 ∷ 2818 ∷ 3400 ∷ 1963 ∷ 142 ∷ 2669 ∷ 3833 ∷ 1050 ∷ 831 ∷ 2524 ∷ 3990 ∷ 1397 ∷ 592 ∷ 2227 ∷ 2048 ∷ 822 ∷ 1644 ∷
    3418 ∷ 3643 ∷ 1293 ∷ 87 ∷ 2913 ∷ 1685 ∷ 3491 ∷ 2297 ∷ 975 ∷ 174 ∷ 2968 ∷ 3778 ∷ 1524 ∷ 4041 ∷ 1279 ∷ 421 ∷ 2707 ∷
    2546 ∷ 708 ∷ 1950 ∷ 3240 ∷ 348 ∷ 2666 ∷ 3888 ∷ 1030 ∷ 1895 ∷ 3153 ∷ 2315 ∷ 573 ∷ 1393 ∷ 3655 ∷ 2845 ∷ 43 ∷ 842 ∷
    2172 ∷ 3366 ∷ 1552 ∷ 3044 ∷ 210 ∷ 1416 ∷ 3774 ∷ 3551 ∷ 1769 ∷ 947 ∷ 2181 ∷ 696 ∷ 2446 ∷ 3284 ∷ 2018 ∷ 1155 ∷
    4021 ∷ 2799 ∷ 473 ∷ 3117 ∷ 1819 ∷ 577 ∷ 2423 ∷ 2582 ∷ 288 ∷ 1146 ∷ 3916 ∷ []

-- in the form that computes, by remainder and parity: ones of a word counted in its 23 bits
abbrev computed : ℕ → ℕ
computed i = suc (ones_in 23 (word23 i)) % 2 * 2 ^ 11 + remainder i

abbrev half : Bool → ℕ → ℕ
half true k = bit_xor (2 ^ 11) (computed k)
half false k = computed ((k - 64) * 64)

all_right : T (entries (λ (k x : ℕ). eqb x (half (ltb k 64) k)) 128 0 checks)
unfolding checks ones_in word23 remainder divide line less
all_right = tt

computed-is : (i : ℕ) → i < 2 ^ 12 → computed i ≡ check i
unfolding parity
computed-is i h =
    ap (λ (x : ℕ). suc x % 2 * 2 ^ 11 + remainder i) (sym (ones-in 23 (word23 i) (word23-lt i h))) ∙ sym (check-parts i h)

entry : (k : ℕ) → k < 128 → get_or checks k 0 ≡ half (ltb k 64) k
entry k h = eqb→eq (get_or checks k 0) (half (ltb k 64) k) (entries_at (λ (k x : ℕ). eqb x (half (ltb k 64) k)) 128 checks all_right k h)

pub checks-right : Checks checks
checks-right = record {
  size = entries-length (λ (k x : ℕ). eqb x (half (ltb k 64) k)) 128 0 checks all_right;
  each = λ i h. ap₂ bit_xor (first i) (second i h) ∙ check-split i h;
}
  where
    first : (i : ℕ) → get_or checks (i % 64) 0 ≡ bit_xor (check (i % 64)) (2 ^ 11)
    first i =
        entry (i % 64) (omega arith) ∙ ap (λ (b : Bool). half b (i % 64)) (lt-ltb (i % 64) 64 (mod-lt i (lit< tt)))
        ∙ xor_comm (2 ^ 11) (computed (i % 64)) ∙ ap (λ (x : ℕ). bit_xor x (2 ^ 11)) (computed-is (i % 64) (omega arith))

    second : (i : ℕ) → i < 2 ^ 12 → get_or checks (i / 64 + 64) 0 ≡ check (i / 64 * 64)
    second i h =
        entry (i / 64 + 64) (omega arith) ∙ ap (λ (b : Bool). half b (i / 64 + 64)) (le-ltb (i / 64 + 64) 64 (omega arith))
        ∙ ap (λ (x : ℕ). computed (x * 64)) (add-sub_cancel (i / 64) 64) ∙ computed-is (i / 64 * 64) (omega arith)
