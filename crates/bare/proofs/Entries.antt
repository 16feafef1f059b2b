-- Headers and words by the entries of the rows, which have what a pattern flips of the information, and its flips.
--
--   header-entry      a header by the entry of its remainder; entry-index, entry-flips: its parts fit
--   flips-24          the flips in all 24 bits of a word by those in the first 23 and the parity of all
--   judged-entry      a word by the entry of the remainder of its first 23 bits; near-lt: it fits
--
-- Assumes nothing.
use mathlib.Core.Path.{◌≡◌, refl, sym, ap, ap₂, ◌∙◌, subst}
use Prim.Native.Nat.{ℕ, ◌+◌, ◌*◌, ◌/◌, ◌%◌, ◌^◌, ◌≤◌, ◌<◌}
use native.Mathlib.Omega.{arith}
use lib.Bits.{bit_xor, xor_comm, xor_lt, xor_zero_l, xor_block}
use lib.Count.{ones, ones-le}
use lib.ListN.{get_or}
use Rattle.bits.specs.Bits.{flips}
use Rattle.bits.specs.Rows.{given}
use Rattle.bits.proofs.Flips.{flips-cat, flips-parity}
use Rattle.golay.specs.Code.{remainder, word23, word24, nearest}
use Rattle.golay.proofs.Division.{remainder-small}
use Rattle.golay.proofs.Fours.{entry_of, turned, flipped}
use Rattle.golay.proofs.Reading.{nearest23-lt}
use Rattle.golay.proofs.Rule.{patterns, patterns-right}
use Rattle.golay.proofs.Words.{parity, parity-lt, parity-place, word23-lt, word24-odd}
use Rattle.bare.specs.Bare.{header_read, Judged}
use Rattle.bare.proofs.Bare.{header_as, header-small, judged-by}

abbrev pattern : ℕ → ℕ
pattern n = get_or patterns (remainder n) 0

pattern-few : (n : ℕ) → n < 2 ^ 23 → ones (pattern n) ≤ 3
pattern-few n h = (patterns-right.each (remainder n) (remainder-small n h)).few

-- ---- headers

pub header-entry : (n v : ℕ) → n < 2 ^ 23 → v ≡ entry_of (get_or patterns (remainder n) 0)
    → header_read n ≡ record { number = 0; address = bit_xor (n % 4096) (v % 4096) % 1024; index = bit_xor (n % 4096) (v % 4096) / 1024; flips = v / 4096 }
unfolding header_as given
header-entry n v h e =
    header-small n h ∙ (λ j. record { number = 0; address = information j % 1024; index = information j / 1024; flips = all j })
  where
    low : v % 4096 ≡ pattern n % 4096
    low = omega (arith, e)

    high : v / 4096 ≡ ones (pattern n)
    high = omega (arith, e)

    information : nearest word23 n ≡ bit_xor (n % 4096) (v % 4096)
    information = sym (turned n (remainder n) (v % 4096) h refl low)

    all : flips (word23 (nearest word23 n)) n ≡ v / 4096
    all = sym (high ∙ flipped n h)

pub entry-index : (n v : ℕ) → bit_xor (n % 4096) (v % 4096) / 1024 ≤ 3
entry-index n v = omega (arith, xor_lt 12 (n % 4096) (v % 4096) (omega arith) (omega arith))

pub entry-flips : (n v : ℕ) → n < 2 ^ 23 → v ≡ entry_of (get_or patterns (remainder n) 0) → v / 4096 ≤ 3
entry-flips n v h e = omega (arith, e, pattern-few n h)

-- ---- words

small-flips : (a b : ℕ) → a < 2 → b < 2 → flips a b < 2
unfolding flips
small-flips a b ha hb = let l = ones-le 1 (bit_xor a b) (xor_lt 1 a b (omega arith) (omega arith)) in omega arith

-- the second of two parts by the parity of both
other-part : (total f b o k : ℕ) → total ≡ b + f → b < 2 → total % 2 ≡ (o + k) % 2 → o % 2 ≡ 1 → total ≡ f + (k + f + 1) % 2
other-part total f b o k e l p q = omega (arith, e, l, whole)
  where
    odd : (o + k) % 2 ≡ (k + 1) % 2
    odd = omega (arith, q)

    whole : (b + f) % 2 ≡ (k + 1) % 2
    whole = ap (λ (x : ℕ). x % 2) (sym e) ∙ p ∙ odd

module _ (n i : ℕ) (h : n < 2 ^ 24) (l : i < 4096) where
  flips-parts : flips (word24 i) n ≡ flips (parity i) (n / 2 ^ 23) + flips (word23 i) (n % 2 ^ 23)
  flips-parts =
      ap₂ flips (parity-place i) parts
      ∙ flips-cat 23 (parity i) (n / 2 ^ 23) (word23 i) (n % 2 ^ 23) (word23-lt i l) (omega arith)
    where
      parts : n ≡ n / 2 ^ 23 * 2 ^ 23 + n % 2 ^ 23
      parts = omega arith

  flips-24 : flips (word24 i) n ≡ flips (word23 i) (n % 2 ^ 23) + (ones n + flips (word23 i) (n % 2 ^ 23) + 1) % 2
  flips-24 =
      other-part (flips (word24 i) n) (flips (word23 i) (n % 2 ^ 23)) (flips (parity i) (n / 2 ^ 23)) (ones (word24 i)) (ones n)
      flips-parts (small-flips (parity i) (n / 2 ^ 23) (parity-lt i) (omega (arith, h))) (flips-parity (word24 i) n) (word24-odd i l)

module _ (n v : ℕ) (h : n < 2 ^ 24) (e : v ≡ entry_of (get_or patterns (remainder (n % 2 ^ 23)) 0)) where
  abbrev m : ℕ
  m = n % 2 ^ 23

  abbrev i : ℕ
  i = nearest word23 m

  abbrev f : ℕ
  f = flips (word23 i) m

  abbrev near : ℕ
  near = bit_xor (n % 4096) v

  -- information and flips of the first 23 bits, in one number
  near-is : near ≡ i + 4096 * f
  near-is =
      ap₂ bit_xor low above
      ∙ xor_block 12 0 (ones (pattern m)) (n % 4096) (pattern m % 4096) (omega arith) (omega arith)
      ∙ ap₂ (λ (x y : ℕ). x * 2 ^ 12 + y) (xor_zero_l (ones (pattern m)) ∙ flipped m (omega arith)) found
      ∙ omega arith
    where
      low : n % 4096 ≡ 0 * 2 ^ 12 + n % 4096
      low = omega arith

      above : v ≡ ones (pattern m) * 2 ^ 12 + pattern m % 4096
      above = omega (arith, e)

      found : bit_xor (n % 4096) (pattern m % 4096) ≡ i
      found = ap (λ (x : ℕ). bit_xor x (pattern m % 4096)) first ∙ turned m (remainder m) (pattern m % 4096) (omega arith) refl refl
        where
          first : n % 4096 ≡ m % 4096
          first = omega arith

  i_lt : i < 4096
  i_lt = nearest23-lt m (omega arith)

  flips-is : near / 4096 ≡ f
  flips-is = omega (arith, near-is, i_lt)

  pub near-lt : near < 2 ^ 14
  near-lt = omega (arith, near-is, i_lt, flipped m (omega arith), pattern-few m (omega arith))

  pub judged-entry : Judged n (near + (ones n + near / 4096 + 1) % 2 * 4096)
  unfolding flips
  judged-entry = subst (Judged n) (sym whole) (judged-by n i (word24 i) h refl refl)
    where
      all : ones (bit_xor n (word24 i)) ≡ f + (ones n + f + 1) % 2
      all = ap ones (xor_comm n (word24 i)) ∙ flips-24 n i h i_lt

      whole : near + (ones n + near / 4096 + 1) % 2 * 4096 ≡ i + ones (bit_xor n (word24 i)) * 4096
      whole = omega (arith, near-is, ap (λ (x : ℕ). (ones n + x + 1) % 2) flips-is, all)
