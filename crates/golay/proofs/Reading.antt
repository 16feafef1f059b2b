-- What the readers and writers rest on: words and remainders from check bits, and the nearest word by the table.
--
--   check-*              a word and a remainder from the check bits
--   corrected-nearest    n with the pattern of its remainder flipped back is the word nearest to n
--   nearest23-lt         each number of 23 bits has a nearest word: the code is perfect
--   nearest24-*          the nearest word of 24 bits, from that of the first 23
--   clean-*              what has no remainder, what has the right check bits
--
-- Assumes nothing.
use mathlib.Core.Path.{◌≡◌, sym, ap, ap₂, ◌∙◌, subst}
use Prim.Native.Nat.{ℕ, ◌+◌, ◌*◌, ◌/◌, ◌%◌, ◌^◌, ◌≤◌, ◌<◌}
use native.Mathlib.Omega.{arith}
use native.Mathlib.Nat.{mod-lt, le_trans}
use lib.Dec.{lit<}
use lib.Bits.{bit_xor, xor_self, xor_mod}
use lib.ListN.{get_or}
use lib.Pow.{low}
use Rattle.bits.specs.Bits.{flips}
use Rattle.bits.proofs.Flips.{flips-comm, flips-of, flips-low, flips-same}
use Rattle.golay.specs.Code.{remainder, word23, word24, check, nearest, Pattern}
use Rattle.golay.proofs.Adding.{check-parts}
use Rattle.golay.proofs.Division.{remainder-parts, remainder-small, remainder-xor}
use Rattle.golay.proofs.Nearest.{nearest-is, nearest-none}
use Rattle.golay.proofs.Rule.{patterns, patterns-right}
use Rattle.golay.proofs.Words.{word23-place, word23-apart, word24-apart, word24-first, word24-low, word24-lt, none-word}

-- ---- from the check bits

pub check-lt : (i : ℕ) → i < 4096 → check i < 4096
unfolding check
check-lt i h = let w = word24-lt i h in omega arith

pub check-word24 : (i : ℕ) → i < 4096 → i + check i * 4096 ≡ word24 i
unfolding check
check-word24 i h = omega (arith, word24-first i h)

pub check-remainder : (i : ℕ) → i < 4096 → check i % 2048 ≡ remainder i
check-remainder i h = ap (λ (x : ℕ). x % 2048) (check-parts i h) ∙ low _ 11 (remainder-small i (omega arith))

pub check-word23 : (i : ℕ) → i < 4096 → i + check i % 2048 * 4096 ≡ word23 i
check-word23 i h = omega (arith, check-remainder i h, word23-place i)

pub check-divides : (n : ℕ) → bit_xor (check (n % 4096) % 2048) (n / 4096) ≡ remainder n
check-divides n =
    ap (λ (x : ℕ). bit_xor x (n / 4096)) (check-remainder (n % 4096) (mod-lt n (lit< tt))) ∙ sym (remainder-parts n)

-- what is wrong with the check bits of 24 bits has the remainder of the first 23 in its first eleven
pub check-wrong : (n : ℕ) → bit_xor (check (n % 4096)) (n / 4096) % 2048 ≡ remainder (n % 2 ^ 23)
check-wrong n =
    xor_mod (check (n % 4096)) (n / 4096) 11
    ∙ ap₂ (λ (i x : ℕ). bit_xor (check i % 2048) x) low above
    ∙ check-divides (n % 2 ^ 23)
  where
    low : n % 4096 ≡ n % 2 ^ 23 % 4096
    low = omega arith

    above : n / 4096 % 2 ^ 11 ≡ n % 2 ^ 23 / 4096
    above = omega arith

-- ---- 23 bits

module _ (n e : ℕ) (h : n < 2 ^ 23) (p : Pattern (remainder n) e) where
  flipped-none : remainder (bit_xor n e) ≡ 0
  flipped-none = remainder-xor n e ∙ ap (bit_xor (remainder n)) p.own ∙ xor_self (remainder n)

  flipped-few : flips (word23 (bit_xor n e % 2 ^ 12)) n ≤ 3
  flipped-few =
      subst (λ (x : ℕ). flips x n ≤ 3) (none-word (bit_xor n e) flipped-none)
      (subst (λ (x : ℕ). x ≤ 3) (sym (flips-comm (bit_xor n e) n ∙ flips-of n e)) p.few)

  pub corrected-is : nearest word23 n ≡ bit_xor n e % 2 ^ 12
  corrected-is = nearest-is word23 word23-apart n (bit_xor n e % 2 ^ 12) (mod-lt (bit_xor n e) (lit< tt)) flipped-few

  pub corrected-nearest : bit_xor n e ≡ word23 (nearest word23 n)
  corrected-nearest = none-word (bit_xor n e) flipped-none ∙ ap word23 (sym corrected-is)

-- each number of 23 bits lies within three flips of a word, and of no other
pub nearest23-lt : (n : ℕ) → n < 2 ^ 23 → nearest word23 n < 4096
nearest23-lt n h =
    subst (λ (x : ℕ). x < 4096) (sym (corrected-is n _ h (patterns-right.each (remainder n) (remainder-small n h))))
    (mod-lt (bit_xor n (get_or patterns (remainder n) 0)) (lit< tt))

-- what leaves no remainder is its own nearest word
pub clean-nearest : (n : ℕ) → remainder n ≡ 0 → n ≡ word23 (nearest word23 n)
clean-nearest n e =
    none-word n e
    ∙ ap word23 (sym (nearest-is word23 word23-apart n (n % 2 ^ 12) (mod-lt n (lit< tt)) (omega (arith, ap (λ (x : ℕ). flips x n) (none-word n e), flips-same n))))

-- ---- 24 bits

module _ (n : ℕ) where
  -- what lies near in 24 bits lies near in the first 23
  low_near : (i : ℕ) → i < 4096 → flips (word24 i) n ≤ 3 → flips (word23 i) (n % 2 ^ 23) ≤ 3
  low_near i h f =
      le_trans (subst (λ (x : ℕ). flips x (n % 2 ^ 23) ≤ flips (word24 i) n) (word24-low i h) (flips-low 23 (word24 i) n)) f

  pub nearest24-is : (i : ℕ) → i < 4096 → flips (word24 i) n ≤ 3 → nearest word24 n ≡ i
  nearest24-is i h f = nearest-is word24 (λ a b ha hb ne. le_trans (omega arith) (word24-apart a b ha hb ne)) n i h f

  -- so where the nearest of the first 23 bits is too far off with the parity bit, there is none
  pub nearest24-none : 3 < flips (word24 (nearest word23 (n % 2 ^ 23))) n → nearest word24 n ≡ 4096
  nearest24-none far =
      nearest-none word24 n
      (λ i h f. elsewhere i f (nearest-is word23 word23-apart (n % 2 ^ 23) i h (low_near i h f)))
    where
      elsewhere : (i : ℕ) → flips (word24 i) n ≤ 3 → nearest word23 (n % 2 ^ 23) ≡ i → ⊥
      elsewhere i f e = omega (arith, ap (λ (k : ℕ). flips (word24 k) n) e)

-- a number with the check bits of its information is that information's word
pub clean-word : (n : ℕ) → check (n % 4096) ≡ n / 4096 → word24 (n % 4096) ≡ n
clean-word n e = sym (check-word24 (n % 4096) (omega arith)) ∙ omega (arith, e)
