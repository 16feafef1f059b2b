-- Words of both codes by number, from outside: the headers, suffixes and words that were computed from 4.3.6.1.3 and 8.3.2 by two
-- programs apart from this one, the (23,12) ones also by a third party's decoder. They are literals here, and not made by our code.
--
-- Laws cannot see a definition that is changed together with its tables: the suffix sent lowest power first, m(x) taken as a plain
-- number, or both, are codes of distance 7 with the all-ones word, and even parity is a code of distance 8. All would be proved with their
-- tables made anew; these numbers would not.
--
--   suffixes        the eleven bits after each of the twelve unit informations
--   headers-17      address 17, indices 0 to 3
--   headers         at the edges of address and index
--   table-entries   six entries of the table of patterns
--   words           the words of 24 bits, odd parity
--   words-counted   words of 24 bits in the form that computes, of informations that are small
--
-- Assumes nothing.
use mathlib.Core.Path.{◌≡◌, refl, ap, ap₂}
use mathlib.Core.Bool.{Bool, true}
use mathlib.Core.List.{List, [], ◌∷◌, map}
use Prim.Native.Nat.{ℕ, suc, ◌+◌, ◌*◌, ◌/◌, ◌%◌, ◌^◌, ◌<◌}
use lib.Count.{ones_in}
use lib.Dec.{T, ltb, ltb→lt}
use lib.ListN.{get_or}
use Rattle.bits.proofs.Every.{both, both_left, both_right}
use Rattle.bits.proofs.Flips.{ones-in}
use Rattle.golay.specs.Code.{less, line, divide, remainder, word23, word24}
use Rattle.golay.proofs.Rule.{patterns}
use Rattle.golay.proofs.Words.{word23-lt}

-- ---- the (23,12) code: bits 0 to 9 address, 10 and 11 index, 12 to 22 suffix

pub suffixes : map (λ (i : ℕ). word23 i / 2 ^ 12) (1 ∷ 2 ∷ 4 ∷ 8 ∷ 16 ∷ 32 ∷ 64 ∷ 128 ∷ 256 ∷ 512 ∷ 1024 ∷ 2048 ∷ [])
    ≡ (0x2E3 ∷ 0x5C6 ∷ 0x16F ∷ 0x2DE ∷ 0x5BC ∷ 0x19B ∷ 0x336 ∷ 0x66C ∷ 0x63B ∷ 0x695 ∷ 0x7C9 ∷ 0x571 ∷ [])
unfolding word23 remainder divide line less
suffixes = refl

abbrev header : ℕ → ℕ → ℕ
header address index = word23 (address + 1024 * index)

pub headers-17 : map (header 17) (0 ∷ 1 ∷ 2 ∷ 3 ∷ []) ≡ (0x75F011 ∷ 0x096411 ∷ 0x22E811 ∷ 0x5E7C11 ∷ [])
unfolding word23 remainder divide line less
headers-17 = refl

pub headers : (header 1 0 ∷ header 1022 0 ∷ header 1023 0 ∷ header 1023 3 ∷ header 0 3 ∷ [])
    ≡ (0x2E3001 ∷ 0x7A43FE ∷ 0x5473FF ∷ 0x7FFFFF ∷ 0x2B8C00 ∷ [])
unfolding word23 remainder divide line less
headers = refl

-- the table's pattern of a remainder, whose first bit is weight 1
pub table-entries : map (λ (r : ℕ). get_or patterns r 0) (1 ∷ 2 ∷ 7 ∷ 15 ∷ 0x400 ∷ 0x7FF ∷ [])
    ≡ (0x001000 ∷ 0x002000 ∷ 0x007000 ∷ 0x200402 ∷ 0x400000 ∷ 0x0080A0 ∷ [])
unfolding patterns
table-entries = refl

-- ---- the (24,12) code

-- in the form that computes: the ones of a word counted in its 23 bits
abbrev pub counted : ℕ → ℕ
counted i = word23 i + 2 ^ 23 * (suc (ones_in 23 (word23 i)) % 2)

counted_is : (i : ℕ) → i < 2 ^ 12 → word24 i ≡ counted i
unfolding word24
counted_is i h = ap (λ (n : ℕ). word23 i + 2 ^ 23 * (suc n % 2)) (ones-in 23 (word23 i) (word23-lt i h))

abbrev pub small : List ℕ → Bool
small [] = true
small (i ∷ is) = both (ltb i (2 ^ 12)) (small is)

pub words-counted : (is : List ℕ) → T (small is) → map word24 is ≡ map counted is
words-counted [] t = refl
words-counted (i ∷ is) t =
    ap₂ (λ (x : ℕ) (xs : List ℕ). x ∷ xs) (counted_is i (ltb→lt i (2 ^ 12) (both_left (ltb i (2 ^ 12)) (small is) t)))
    (words-counted is (both_right (ltb i (2 ^ 12)) (small is) t))

pub words : map word24 (0 ∷ 1 ∷ 2 ∷ 2048 ∷ 0x123 ∷ 4095 ∷ []) ≡ (0x800000 ∷ 0x2E3001 ∷ 0x5C6002 ∷ 0x571800 ∷ 0x085123 ∷ 0x7FFFFF ∷ [])
unfolding word23 remainder divide line less ones_in
words = words-counted (0 ∷ 1 ∷ 2 ∷ 2048 ∷ 0x123 ∷ 4095 ∷ []) tt
