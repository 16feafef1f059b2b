-- A whole image from outside: address 17, index 0, type 00, useful bytes 0, 1, .. 89, plain. The 94 bytes were made by two programs
-- apart from this one, and are literals here.
--
--   plain           the image, 94 bytes
--   plain-made      it is the image of its header and its 91 bytes
--   plain-header, plain-bytes, plain-spare    which are read of it
--
-- Assumes nothing.
use mathlib.Core.Path.{◌≡◌, refl}
use mathlib.Core.List.{List, [], ◌∷◌}
use Prim.Native.Nat.{ℕ}
use Rattle.bits.specs.Bits.{bits_of, number, sent, numbers_in}
use Rattle.image.specs.Image.{header_of, bytes_of, spare_of, image_of}

abbrev pub plain : List ℕ
plain =
    0x11 ∷ 0xF0 ∷ 0x75 ∷ 0x00 ∷ 0x80 ∷ 0x00 ∷ 0x81 ∷ 0x01 ∷ 0x82 ∷ 0x02 ∷ 0x83 ∷ 0x03 ∷ 0x84 ∷ 0x04 ∷ 0x85 ∷ 0x05 ∷
    0x86 ∷ 0x06 ∷ 0x87 ∷ 0x07 ∷ 0x88 ∷ 0x08 ∷ 0x89 ∷ 0x09 ∷ 0x8A ∷ 0x0A ∷ 0x8B ∷ 0x0B ∷ 0x8C ∷ 0x0C ∷ 0x8D ∷ 0x0D ∷
    0x8E ∷ 0x0E ∷ 0x8F ∷ 0x0F ∷ 0x90 ∷ 0x10 ∷ 0x91 ∷ 0x11 ∷ 0x92 ∷ 0x12 ∷ 0x93 ∷ 0x13 ∷ 0x94 ∷ 0x14 ∷ 0x95 ∷ 0x15 ∷
    0x96 ∷ 0x16 ∷ 0x97 ∷ 0x17 ∷ 0x98 ∷ 0x18 ∷ 0x99 ∷ 0x19 ∷ 0x9A ∷ 0x1A ∷ 0x9B ∷ 0x1B ∷ 0x9C ∷ 0x1C ∷ 0x9D ∷ 0x1D ∷
    0x9E ∷ 0x1E ∷ 0x9F ∷ 0x1F ∷ 0xA0 ∷ 0x20 ∷ 0xA1 ∷ 0x21 ∷ 0xA2 ∷ 0x22 ∷ 0xA3 ∷ 0x23 ∷ 0xA4 ∷ 0x24 ∷ 0xA5 ∷ 0x25 ∷
    0xA6 ∷ 0x26 ∷ 0xA7 ∷ 0x27 ∷ 0xA8 ∷ 0x28 ∷ 0xA9 ∷ 0x29 ∷ 0xAA ∷ 0x2A ∷ 0xAB ∷ 0x2B ∷ 0xAC ∷ 0x2C ∷ []

-- the useful bytes 0, 1, .. 89
abbrev pub counting : List ℕ
counting =
    0 ∷ 1 ∷ 2 ∷ 3 ∷ 4 ∷ 5 ∷ 6 ∷ 7 ∷ 8 ∷ 9 ∷ 10 ∷ 11 ∷ 12 ∷ 13 ∷ 14 ∷ 15 ∷ 16 ∷ 17 ∷ 18 ∷ 19 ∷ 20 ∷ 21 ∷ 22 ∷ 23 ∷
    24 ∷ 25 ∷ 26 ∷ 27 ∷ 28 ∷ 29 ∷ 30 ∷ 31 ∷ 32 ∷ 33 ∷ 34 ∷ 35 ∷ 36 ∷ 37 ∷ 38 ∷ 39 ∷ 40 ∷ 41 ∷ 42 ∷ 43 ∷ 44 ∷ 45 ∷
    46 ∷ 47 ∷ 48 ∷ 49 ∷ 50 ∷ 51 ∷ 52 ∷ 53 ∷ 54 ∷ 55 ∷ 56 ∷ 57 ∷ 58 ∷ 59 ∷ 60 ∷ 61 ∷ 62 ∷ 63 ∷ 64 ∷ 65 ∷ 66 ∷ 67 ∷
    68 ∷ 69 ∷ 70 ∷ 71 ∷ 72 ∷ 73 ∷ 74 ∷ 75 ∷ 76 ∷ 77 ∷ 78 ∷ 79 ∷ 80 ∷ 81 ∷ 82 ∷ 83 ∷ 84 ∷ 85 ∷ 86 ∷ 87 ∷ 88 ∷ 89 ∷ []

pub plain-made : image_of 0x75F011 (0x00 ∷ counting) ≡ plain
unfolding image_of numbers_in number bits_of sent
plain-made = refl

pub plain-header : header_of plain ≡ 0x75F011
unfolding header_of number sent bits_of
plain-header = refl

pub plain-bytes : bytes_of plain ≡ 0x00 ∷ counting
unfolding bytes_of numbers_in number sent bits_of
plain-bytes = refl

pub plain-spare : spare_of plain ≡ 0
unfolding spare_of number sent bits_of
plain-spare = refl
