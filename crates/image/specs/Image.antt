-- The packet image of document 01, section 1 (ETS 300 352, 4.3.6): 94 bytes that hold the 751 bits of a packet in order of
-- transmission, bit k as the bit of weight 2^(k mod 8) in byte k/8, and a spare bit at 751.
--
--   header_of s      the 23 bits of the header, as a number
--   bytes_of s       the 728 bits after it: the type byte and 90 useful bytes (4.3.6.2)
--   spare_of s       the bit at place 751
--   image_of h bs    the image of a header and 91 bytes, its spare bit 0
--
-- "Bit k is the bit of weight 2^(k mod 8) in byte k/8" is what `sent 8` of the image's bytes says, each byte lowest bit
-- first; the law `sent-bit` of bits states it in those words.
use Rattle.std.specs.Prelude.{List, [], ◌∷◌, ◌++◌, ℕ, take, drop}
use Rattle.bits.specs.Bits.{bits_of, number, sent, numbers_in}

unfoldable pub header_of : List ℕ → ℕ
header_of s = number (take 23 (sent 8 s))

unfoldable pub bytes_of : List ℕ → List ℕ
bytes_of s = numbers_in 8 91 (drop 23 (sent 8 s))

unfoldable pub spare_of : List ℕ → ℕ
spare_of s = number (drop 751 (sent 8 s))

unfoldable pub image_of : ℕ → List ℕ → List ℕ
image_of h bs = numbers_in 8 94 (bits_of 23 h ++ (sent 8 bs ++ (0 ∷ [])))
