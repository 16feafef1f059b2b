-- The bare readings and writings of document 01, sections 1, 2 and 6: numbers in, a number and values out. A refused one
-- gives 0 as its values.
--
--   header_read, header_written      a header of 23 bits: address 10, index 2 (4.3.6.1), read as the nearest word
--   header_within n most            the same, but refused where more than `most` flips had to be corrected (document 02, Ask 7)
--   word_read, word_written          a word of 24 bits: information 12; Judged: information and flips as one number
--   types, type_near                the four type bytes (7.4.2.3), and the one within two flips of a byte (house rule)
--   type_read, type_written
use Rattle.std.specs.Prelude.{◌≡◌, Bool, true, false, cond, not, List, [], ◌∷◌, ℕ, ◌+◌, ◌*◌, ◌/◌, ◌%◌, ◌^◌, ◌≤◌, ◌<◌, leb, ltb, eqb}
use Rattle.bits.specs.Bits.{flips}
use Rattle.bits.specs.Rows.{row, refusal, given}
use Rattle.golay.specs.Code.{word23, word24, nearest}

-- what is answered: the number, 0 or a refusal's, and the values
pub record HeaderAnswer : Type 0 where
  pub number : ℕ
  pub address : ℕ
  pub index : ℕ
  pub flips : ℕ

pub record WordAnswer : Type 0 where
  pub number : ℕ
  pub information : ℕ
  pub flips : ℕ

pub record TypeAnswer : Type 0 where
  pub number : ℕ
  pub value : ℕ
  pub flips : ℕ

pub record Written : Type 0 where
  pub number : ℕ
  pub value : ℕ

-- 33: header 2^23 or more. Bits 0 to 9 are the address, 10 and 11 the index.
unfoldable pub header_read : ℕ → HeaderAnswer
header_read n =
    let answer = refusal (row (leb (2 ^ 23) n) 33 ∷ []) in
    let i = nearest word23 n in
    record { number = answer; address = given answer (i % 1024); index = given answer (i / 1024); flips = given answer (flips (word23 i) n) }

-- "the greatest number of flips to correct, 0 to 3"
abbrev pub most_flips : ℕ
most_flips = 3

-- 33: header 2^23 or more; 48: a setting above 3; 49: more flips than the setting
unfoldable pub header_within : ℕ → ℕ → HeaderAnswer
header_within n most =
    let i = nearest word23 n in
    let answer = refusal (row (leb (2 ^ 23) n) 33 ∷ row (ltb most_flips most) 48 ∷ row (ltb most (flips (word23 i) n)) 49 ∷ []) in
    record { number = answer; address = given answer (i % 1024); index = given answer (i / 1024); flips = given answer (flips (word23 i) n) }

-- a header that is refused
abbrev pub header_refused : ℕ → HeaderAnswer
header_refused number = record { number = number; address = 0; index = 0; flips = 0 }

-- 33: address above 1,023, index above 3
unfoldable pub header_written : ℕ → ℕ → Written
header_written address index =
    let answer = refusal (row (ltb 1023 address) 33 ∷ row (ltb 3 index) 33 ∷ []) in
    record { number = answer; value = given answer (word23 (address + 1024 * index)) }

-- 33: word 2^24 or more; 31: no word within three flips
unfoldable pub word_read : ℕ → WordAnswer
word_read n =
    let i = nearest word24 n in
    let answer = refusal (row (leb (2 ^ 24) n) 33 ∷ row (leb 4096 i) 31 ∷ []) in
    record { number = answer; information = given answer i; flips = given answer (flips (word24 i) n) }

-- A word of 24 bits as one number: its information, and 4,096 times its flips; with more than three it cannot be read.
pub record Judged (n v : ℕ) : Type 0 where
  pub read : v / 4096 ≤ 3 → word_read n ≡ record { number = 0; information = v % 4096; flips = v / 4096 }
  pub unread : 3 < v / 4096 → word_read n ≡ record { number = 31; information = 0; flips = 0 }

-- 33: information 4,096 or more
unfoldable pub word_written : ℕ → Written
word_written information =
    let answer = refusal (row (leb 4096 information) 33 ∷ []) in
    record { number = answer; value = given answer (word24 information) }

-- 7.4.2.3: data, reserved for control, reserved, scrambled data
abbrev pub types : List ℕ
types = 0x00 ∷ 0x3F ∷ 0xC7 ∷ 0xF8 ∷ []

-- the first of these values that lies within two flips of a byte, 256 where none does
unfoldable pub type_near : List ℕ → ℕ → ℕ
type_near [] b = 256
type_near (t ∷ ts) b = cond (leb (flips t b) 2) t (type_near ts b)

-- a readable type byte: its type and its flips
abbrev pub type_as : ℕ → ℕ → TypeAnswer
type_as t f = record { number = 0; value = t; flips = f }

-- 28: type unreadable
unfoldable pub type_read : ℕ → TypeAnswer
type_read b =
    let t = type_near types b in
    let answer = refusal (row (leb 256 t) 28 ∷ []) in
    record { number = answer; value = given answer t; flips = given answer (flips t b) }

-- whether a byte is one of these values
unfoldable pub among : List ℕ → ℕ → Bool
among [] b = false
among (t ∷ ts) b = cond (eqb t b) true (among ts b)

-- 28: no type; nothing is corrected on writing
unfoldable pub type_written : ℕ → Written
type_written b = let answer = refusal (row (not (among types b)) 28 ∷ []) in record { number = answer; value = given answer b }
