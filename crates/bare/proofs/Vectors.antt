-- The bare writings by number, from outside (the literals of `golay`'s vectors), and 33 and 28 on both sides of each bound of
-- section 6, by computation.
--
--   headers-written, words-written    what is written of an address and an index, and of an information
--   headers-read, words-read          what is read of these headers; of the word of 0 with no, one, three and four flips
--   within-each                       header 0x75F011 with no, one, two and three flips, at the settings 0 to 3
--   within-refused                    33 before 48 before 49
--   written-33, read-33               address 1,023 and 1,024, index 3 and 4, information 4,095 and 4,096; header 2^23 - 1 and 2^23, word 2^24
--   types-written, types-read, type-unreadable    the four types, bytes with two flips, and 55
--
-- Assumes nothing.
use mathlib.Core.Path.{◌≡◌, refl, sym, ap, ◌∙◌, subst}
use mathlib.Core.List.{List, [], ◌∷◌, map}
use Prim.Native.Nat.{ℕ, ◌^◌, ◌≤◌, ◌<◌}
use lib.Bits.{bit_xor}
use lib.Count.{ones, ones_in}
use lib.Dec.{lit<, lit≤}
use lib.ListN.{get_or}
use Rattle.bits.specs.Bits.{flips}
use Rattle.bits.specs.Rows.{refusal, given}
use Rattle.bits.proofs.Flips.{ones-in}
use Rattle.golay.specs.Code.{less, line, divide, remainder, word23}
use Rattle.golay.proofs.Vectors.{words}
use Rattle.bare.specs.Bare.{header_read, header_within, header_refused, header_written, word_read, word_written, type_near, type_as, type_read, among, type_written}
use Rattle.bare.specs.Bare.{HeaderAnswer}
use Rattle.bare.specs.Bare.{WordAnswer}
use Rattle.bare.specs.Bare.{Written}
use Rattle.bare.proofs.Bare.{word-written}
use Rattle.bare.proofs.Theorems.{header-back, within-flipped, within-beyond, word-flipped, word-four}

abbrev written : ℕ → Written
written n = record { number = 0; value = n }

abbrev refused : ℕ → Written
refused n = record { number = n; value = 0 }

-- ---- headers: addresses 17, 1, 1,022, 1,023 and 0, indices 0 to 3

pub headers-written : (header_written 17 0 ∷ header_written 17 1 ∷ header_written 17 2 ∷ header_written 17 3 ∷ header_written 1 0
    ∷ header_written 1022 0 ∷ header_written 1023 0 ∷ header_written 1023 3 ∷ header_written 0 3 ∷ [])
    ≡ map written (0x75F011 ∷ 0x096411 ∷ 0x22E811 ∷ 0x5E7C11 ∷ 0x2E3001 ∷ 0x7A43FE ∷ 0x5473FF ∷ 0x7FFFFF ∷ 0x2B8C00 ∷ [])
unfolding header_written refusal given word23 remainder divide line less
headers-written = refl

-- and read: no flips

abbrev pub clean : ℕ → ℕ → HeaderAnswer
clean address index = record { number = 0; address = address; index = index; flips = 0 }

pub header-17 : header_read 0x75F011 ≡ clean 17 0
unfolding header_written refusal given word23 remainder divide line less
header-17 = header-back 17 0 (lit≤ tt) (lit≤ tt)

pub headers-read : map header_read (0x75F011 ∷ 0x096411 ∷ 0x22E811 ∷ 0x5E7C11 ∷ 0x2E3001 ∷ 0x7A43FE ∷ 0x5473FF ∷ 0x7FFFFF ∷ 0x2B8C00 ∷ [])
    ≡ (clean 17 0 ∷ clean 17 1 ∷ clean 17 2 ∷ clean 17 3 ∷ clean 1 0 ∷ clean 1022 0 ∷ clean 1023 0 ∷ clean 1023 3 ∷ clean 0 3 ∷ [])
unfolding header_written refusal given word23 remainder divide line less
headers-read = λ i.
    header-17 i ∷ header-back 17 1 (lit≤ tt) (lit≤ tt) i ∷ header-back 17 2 (lit≤ tt) (lit≤ tt) i ∷ header-back 17 3 (lit≤ tt) (lit≤ tt) i
    ∷ header-back 1 0 (lit≤ tt) (lit≤ tt) i ∷ header-back 1022 0 (lit≤ tt) (lit≤ tt) i ∷ header-back 1023 0 (lit≤ tt) (lit≤ tt) i
    ∷ header-back 1023 3 (lit≤ tt) (lit≤ tt) i ∷ header-back 0 3 (lit≤ tt) (lit≤ tt) i ∷ []

-- ---- headers with a setting: address 17, index 0, as it is sent, and with bit 0, bits 0 and 5, bits 0, 5 and 22 turned over

abbrev turned : ℕ → HeaderAnswer
turned flips = record { number = 0; address = 17; index = 0; flips = flips }

module _ (e k most : ℕ) (h : e < 2 ^ 23) (c : ones_in 23 e ≡ k) (few : k ≤ 3) (l : most ≤ 3) where
  many : ones e ≡ k
  many = ones-in 23 e h ∙ c

  at : header_within (bit_xor 0x75F011 e) most ≡ header_within (bit_xor (header_written 17 0).value e) most
  unfolding header_written refusal given word23 remainder divide line less
  at = refl

  near : k ≤ most → header_within (bit_xor 0x75F011 e) most ≡ turned k
  near f =
      at ∙ within-flipped 17 0 e most (lit≤ tt) (lit≤ tt) h (subst (λ (x : ℕ). x ≤ 3) (sym many) few) l (subst (λ (x : ℕ). x ≤ most) (sym many) f)
      ∙ ap turned many

  far : most < k → header_within (bit_xor 0x75F011 e) most ≡ header_refused 49
  far f = at ∙ within-beyond 17 0 e most (lit≤ tt) (lit≤ tt) h (subst (λ (x : ℕ). x ≤ 3) (sym many) few) l (subst (λ (x : ℕ). most < x) (sym many) f)

-- 0x75F011, 0x75F010, 0x75F030, 0x35F030
pub within-each : (map (header_within 0x75F011) (0 ∷ 3 ∷ []) ≡ (turned 0 ∷ turned 0 ∷ []))
    × (map (header_within 0x75F010) (0 ∷ 1 ∷ 3 ∷ []) ≡ (header_refused 49 ∷ turned 1 ∷ turned 1 ∷ []))
    × (map (header_within 0x75F030) (1 ∷ 2 ∷ 3 ∷ []) ≡ (header_refused 49 ∷ turned 2 ∷ turned 2 ∷ []))
    × (map (header_within 0x35F030) (0 ∷ 2 ∷ 3 ∷ []) ≡ (header_refused 49 ∷ header_refused 49 ∷ turned 3 ∷ []))
unfolding ones_in
within-each = (
  λ i. near 0 0 0 (lit< tt) refl (lit≤ tt) (lit≤ tt) (lit≤ tt) i ∷ near 0 0 3 (lit< tt) refl (lit≤ tt) (lit≤ tt) (lit≤ tt) i ∷ [],
  λ i. far 1 1 0 (lit< tt) refl (lit≤ tt) (lit≤ tt) (lit< tt) i ∷ near 1 1 1 (lit< tt) refl (lit≤ tt) (lit≤ tt) (lit≤ tt) i
      ∷ near 1 1 3 (lit< tt) refl (lit≤ tt) (lit≤ tt) (lit≤ tt) i ∷ [],
  λ i. far 0x21 2 1 (lit< tt) refl (lit≤ tt) (lit≤ tt) (lit< tt) i ∷ near 0x21 2 2 (lit< tt) refl (lit≤ tt) (lit≤ tt) (lit≤ tt) i
      ∷ near 0x21 2 3 (lit< tt) refl (lit≤ tt) (lit≤ tt) (lit≤ tt) i ∷ [],
  λ i. far 0x400021 3 0 (lit< tt) refl (lit≤ tt) (lit≤ tt) (lit< tt) i ∷ far 0x400021 3 2 (lit< tt) refl (lit≤ tt) (lit≤ tt) (lit< tt) i
      ∷ near 0x400021 3 3 (lit< tt) refl (lit≤ tt) (lit≤ tt) (lit≤ tt) i ∷ [],
)

-- a header too large before a setting above 3, and that before the flips
pub within-refused : (header_within 8388608 4 ∷ header_within 8388608 0 ∷ header_within 0x35F030 4 ∷ header_within 0x75F011 4 ∷ [])
    ≡ (header_refused 33 ∷ header_refused 33 ∷ header_refused 48 ∷ header_refused 48 ∷ [])
unfolding header_within refusal given
within-refused = refl

-- ---- words of informations 0, 1, 2, 2,048, 0x123 and 4,095

pub words-written : map word_written (0 ∷ 1 ∷ 2 ∷ 2048 ∷ 0x123 ∷ 4095 ∷ [])
    ≡ map written (0x800000 ∷ 0x2E3001 ∷ 0x5C6002 ∷ 0x571800 ∷ 0x085123 ∷ 0x7FFFFF ∷ [])
unfolding word_written refusal given
words-written = ap (map written) words

-- 000000 is no word: it is read as 0 with one flip. Three flips are corrected, four are refused.
zero-written : word_written 0 ≡ written 0x800000
zero-written = word-written 0 (lit< tt) ∙ ap (λ (ws : List ℕ). written (get_or ws 0 0)) words

abbrev zero-with : ℕ → WordAnswer
zero-with flips = record { number = 0; information = 0; flips = flips }

zero-read : (e k : ℕ) → e < 2 ^ 24 → ones_in 24 e ≡ k → k ≤ 3 → word_read (bit_xor 0x800000 e) ≡ zero-with k
zero-read e k h c few =
    let o : ones e ≡ k = ones-in 24 e h ∙ c in
    ap (λ (w : Written). word_read (bit_xor w.value e)) (sym zero-written)
    ∙ word-flipped 0 e (lit< tt) h (subst (λ (x : ℕ). x ≤ 3) (sym o) few) ∙ ap zero-with o

pub zero-far : word_read 0x80000F ≡ record { number = 31; information = 0; flips = 0 }
unfolding ones ones_in
zero-far = ap (λ (w : Written). word_read (bit_xor w.value 15)) (sym zero-written) ∙ word-four 0 15 (lit< tt) (lit< tt) refl

pub words-read : map word_read (0x800000 ∷ 0x000000 ∷ 0x800007 ∷ 0x80000F ∷ [])
    ≡ (zero-with 0 ∷ zero-with 1 ∷ zero-with 3 ∷ record { number = 31; information = 0; flips = 0 } ∷ [])
unfolding ones_in
words-read = λ i.
    zero-read 0 0 (lit< tt) refl (lit≤ tt) i ∷ zero-read 0x800000 1 (lit< tt) refl (lit≤ tt) i ∷ zero-read 7 3 (lit< tt) refl (lit≤ tt) i
    ∷ zero-far i ∷ []

-- ---- 33

pub written-33 : (header_written 1024 0 ∷ header_written 0 4 ∷ header_written 1024 4 ∷ word_written 4096 ∷ [])
    ≡ (refused 33 ∷ refused 33 ∷ refused 33 ∷ refused 33 ∷ [])
unfolding header_written word_written refusal given
written-33 = refl

pub read-33 : ((header_read 8388607).number ∷ (header_read 8388608).number ∷ (word_read 16777216).number ∷ []) ≡ (0 ∷ 33 ∷ 33 ∷ [])
unfolding header_read word_read refusal
read-33 = refl

-- ---- types: 00, 3F, C7, F8; nothing is corrected on writing, two flips are on reading

pub types-written : map type_written (0x00 ∷ 0x3F ∷ 0xC7 ∷ 0xF8 ∷ 0x01 ∷ 0x55 ∷ [])
    ≡ (written 0x00 ∷ written 0x3F ∷ written 0xC7 ∷ written 0xF8 ∷ refused 28 ∷ refused 28 ∷ [])
unfolding type_written among refusal given
types-written = refl

pub types-read : map type_read (0x00 ∷ 0x3F ∷ 0xC7 ∷ 0xF8 ∷ 0x03 ∷ 0xFF ∷ 0x07 ∷ 0xFB ∷ [])
    ≡ (type_as 0x00 0 ∷ type_as 0x3F 0 ∷ type_as 0xC7 0 ∷ type_as 0xF8 0 ∷ type_as 0x00 2 ∷ type_as 0x3F 2 ∷ type_as 0xC7 2 ∷ type_as 0xF8 2 ∷ [])
unfolding type_read type_near refusal given flips ones ones_in
types-read = refl

pub type-unreadable : type_read 0x55 ≡ record { number = 28; value = 0; flips = 0 }
unfolding type_read type_near refusal given flips ones ones_in
type-unreadable = refl
