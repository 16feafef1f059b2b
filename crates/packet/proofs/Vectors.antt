-- Whole images by number, from outside: address 17, index 0, type 00, with the useful bytes 0, 1, .. 89, and with the data bytes
-- 0, 1, .. 44 protected. The 94 bytes of each were made by two programs apart from this one, and are literals. And what a packet is answered
-- by its type byte, in section 6's numbers.
--
--   plain-sent          the plain image, which `image` states
--   shielded            the protected image, 94 bytes
--   shielded-sent       it is what is sent
--   typed t             a packet with that type byte
--   types-answered      00 and 03 are data; 55 is 28, 3F is 29, C7 is 47, F8 is 30, each also with two flips. Beyond two: 0F, four
--                       flips of 00, is 29; 2A and 38, three of 3F, are 28 and 30
--   lengths-answered    no bytes, 93 and 95 bytes are 20
--   word-answered       a word with four flips is 31
--
-- Assumes nothing.
use mathlib.Core.Path.{◌≡◌, refl, ap}
use mathlib.Core.Bool.{true, false, cond}
use mathlib.Core.List.{List, [], ◌∷◌, map}
use Prim.Native.Nat.{ℕ, suc}
use native.Mathlib.Omega.{arith}
use lib.Count.{ones, ones_in}
use lib.Dec.{leb, ltb, lit<}
use lib.ListN.{drop}
use Rattle.bits.specs.Bits.{flips, bits_of, number, sent, numbers_in, blank}
use Rattle.bits.specs.Rows.{refusal}
use Rattle.golay.specs.Code.{less, line, divide, remainder, word23, word24, nearest}
use Rattle.bare.specs.Bare.{type_near}
use Rattle.bare.specs.Bare.{WordAnswer}
use Rattle.bare.proofs.Theorems.{word-unreadable}
use Rattle.bare.proofs.Vectors.{zero-far}
use Rattle.image.specs.Image.{bytes_of, image_of}
use Rattle.image.proofs.Vectors as image
use Rattle.words.specs.Protected.{words_of, informations, failed, words_read, data_read}
use Rattle.words.proofs.Vectors as words
use Rattle.packet.specs.Received.{type_of, useful_of, unreadable, received_number, written}
use Rattle.packet.specs.Damage.{sent_image}

pub plain-sent : sent_image false 17 0 image.counting ≡ image.plain
unfolding written word23 remainder divide line less
plain-sent = image.plain-made

abbrev pub shielded : List ℕ
shielded =
    0x11 ∷ 0xF0 ∷ 0x75 ∷ 0x00 ∷ 0x80 ∷ 0xD8 ∷ 0x71 ∷ 0x10 ∷ 0xD8 ∷ 0x8C ∷ 0x01 ∷ 0x62 ∷ 0x47 ∷ 0x28 ∷ 0x50 ∷ 0x34 ∷
    0x83 ∷ 0x73 ∷ 0x5E ∷ 0x40 ∷ 0x60 ∷ 0xB3 ∷ 0x04 ∷ 0xCD ∷ 0x1E ∷ 0x58 ∷ 0x58 ∷ 0x52 ∷ 0x86 ∷ 0x96 ∷ 0x39 ∷ 0x70 ∷
    0x08 ∷ 0xA6 ∷ 0x07 ∷ 0xA0 ∷ 0xE4 ∷ 0x88 ∷ 0x20 ∷ 0x0B ∷ 0x89 ∷ 0xA1 ∷ 0xC6 ∷ 0xA0 ∷ 0x70 ∷ 0xFF ∷ 0x0A ∷ 0x63 ∷
    0xFB ∷ 0xB8 ∷ 0x48 ∷ 0x1E ∷ 0x8C ∷ 0x44 ∷ 0xA1 ∷ 0xD0 ∷ 0x78 ∷ 0x99 ∷ 0x0D ∷ 0xFE ∷ 0x97 ∷ 0xE8 ∷ 0xF0 ∷ 0x21 ∷
    0x8F ∷ 0xEF ∷ 0x8E ∷ 0x00 ∷ 0xB1 ∷ 0xE3 ∷ 0x10 ∷ 0x69 ∷ 0x2F ∷ 0x19 ∷ 0xA1 ∷ 0x3B ∷ 0x92 ∷ 0x32 ∷ 0x08 ∷ 0x31 ∷
    0xF1 ∷ 0xCF ∷ 0x13 ∷ 0x04 ∷ 0x55 ∷ 0x49 ∷ 0x19 ∷ 0x04 ∷ 0x95 ∷ 0xE5 ∷ 0x5A ∷ 0x61 ∷ 0x49 ∷ 0x70 ∷ []

pub shielded-sent : sent_image true 17 0 words.counting ≡ shielded
unfolding written image_of numbers_in number bits_of sent word23 remainder divide line less
shielded-sent = ap (written 17 0 0x00) words.counting-useful

-- ---- by the type byte

abbrev typed : ℕ → List ℕ
typed t = written 17 0 t image.counting

pub types-answered : map (λ (t : ℕ). received_number false (typed t)) (0x00 ∷ 0x03 ∷ 0x55 ∷ 0x3F ∷ 0xFF ∷ 0xC7 ∷ 0x07 ∷ 0xF8 ∷ 0xFB ∷ 0x0F ∷ 0x2A ∷ 0x38 ∷ [])
    ≡ (0 ∷ 0 ∷ 28 ∷ 29 ∷ 29 ∷ 47 ∷ 47 ∷ 30 ∷ 30 ∷ 29 ∷ 28 ∷ 30 ∷ [])
unfolding received_number refusal unreadable type_of type_near flips ones ones_in bytes_of written image_of numbers_in number bits_of sent word23 remainder divide line less
types-answered = refl

pub lengths-answered : map (received_number false) ([] ∷ drop 1 image.plain ∷ (0 ∷ image.plain) ∷ image.plain ∷ []) ≡ (20 ∷ 20 ∷ 20 ∷ 0 ∷ [])
unfolding received_number refusal unreadable type_of type_near flips ones ones_in bytes_of numbers_in number bits_of sent
lengths-answered = refl

-- ---- 31: the first word is that of 0 with four flips

far : nearest word24 0x80000F ≡ 4096
far = word-unreadable 0x80000F (lit< tt) (λ e. omega (arith, e, ap (λ (w : WordAnswer). w.number) zero-far))

abbrev fourfold : List ℕ
fourfold = 0x0F ∷ 0x00 ∷ 0x80 ∷ blank 87

pub word-answered : received_number true (written 17 0 0x00 fourfold) ≡ 31
unfolding received_number refusal unreadable type_of type_near flips ones ones_in bytes_of useful_of data_read words_read words_of informations failed written image_of numbers_in number bits_of sent blank word23 remainder divide line less
word-answered = ap (λ (i : ℕ). cond (ltb (cond (leb 4096 i) 0 (suc (failed (informations (blank 29))))) 30) 31 0) far
