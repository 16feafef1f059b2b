-- Protected data by number, from outside: the data bytes 0, 1, .. 44 as ninety bytes. These were made by two programs apart from
-- this one, and are literals here. A split of the segments highest bit first, or words with their high byte first, would be proved with
-- the code changed alike; these bytes would not.
--
--   counting        the bytes 0, 1, .. 44
--   useful          the ninety bytes that carry them
--   counting-useful so they are protected
--   protected-counted    protected bytes in the form that computes
--   zeros-useful    and a packet of zeros is 00 00 80, 00 00 80, ..: odd parity
--
-- Assumes nothing.
use mathlib.Core.Path.{◌≡◌, ap}
use mathlib.Core.List.{List, [], ◌∷◌, map}
use Prim.Native.Nat.{ℕ}
use lib.Count.{ones_in}
use lib.Dec.{T}
use lib.ListN.{take}
use Rattle.bits.specs.Bits.{bits_of, number, sent, numbers_in, blank}
use Rattle.golay.specs.Code.{less, line, divide, remainder, word23}
use Rattle.golay.proofs.Vectors.{counted, small, words-counted}
use Rattle.words.specs.Protected.{protected}

-- the thirty informations of 45 bytes
abbrev pub segments : List ℕ → List ℕ
segments bytes = numbers_in 12 30 (sent 8 bytes)

abbrev pub counting : List ℕ
counting =
    0 ∷ 1 ∷ 2 ∷ 3 ∷ 4 ∷ 5 ∷ 6 ∷ 7 ∷ 8 ∷ 9 ∷ 10 ∷ 11 ∷ 12 ∷ 13 ∷ 14 ∷ 15 ∷ 16 ∷ 17 ∷ 18 ∷ 19 ∷ 20 ∷ 21 ∷ 22 ∷ 23 ∷
    24 ∷ 25 ∷ 26 ∷ 27 ∷ 28 ∷ 29 ∷ 30 ∷ 31 ∷ 32 ∷ 33 ∷ 34 ∷ 35 ∷ 36 ∷ 37 ∷ 38 ∷ 39 ∷ 40 ∷ 41 ∷ 42 ∷ 43 ∷ 44 ∷ []

abbrev pub useful : List ℕ
useful =
    0x00 ∷ 0xB1 ∷ 0xE3 ∷ 0x20 ∷ 0xB0 ∷ 0x19 ∷ 0x03 ∷ 0xC4 ∷ 0x8E ∷ 0x50 ∷ 0xA0 ∷ 0x68 ∷ 0x06 ∷ 0xE7 ∷ 0xBC ∷ 0x80 ∷
    0xC0 ∷ 0x66 ∷ 0x09 ∷ 0x9A ∷ 0x3D ∷ 0xB0 ∷ 0xB0 ∷ 0xA4 ∷ 0x0C ∷ 0x2D ∷ 0x73 ∷ 0xE0 ∷ 0x10 ∷ 0x4C ∷ 0x0F ∷ 0x40 ∷
    0xC9 ∷ 0x11 ∷ 0x41 ∷ 0x16 ∷ 0x12 ∷ 0x43 ∷ 0x8D ∷ 0x41 ∷ 0xE1 ∷ 0xFE ∷ 0x15 ∷ 0xC6 ∷ 0xF6 ∷ 0x71 ∷ 0x91 ∷ 0x3C ∷
    0x18 ∷ 0x89 ∷ 0x42 ∷ 0xA1 ∷ 0xF1 ∷ 0x32 ∷ 0x1B ∷ 0xFC ∷ 0x2F ∷ 0xD1 ∷ 0xE1 ∷ 0x43 ∷ 0x1E ∷ 0xDF ∷ 0x1D ∷ 0x01 ∷
    0x62 ∷ 0xC7 ∷ 0x21 ∷ 0xD2 ∷ 0x5E ∷ 0x32 ∷ 0x42 ∷ 0x77 ∷ 0x24 ∷ 0x65 ∷ 0x10 ∷ 0x62 ∷ 0xE2 ∷ 0x9F ∷ 0x27 ∷ 0x08 ∷
    0xAA ∷ 0x92 ∷ 0x32 ∷ 0x08 ∷ 0x2A ∷ 0xCB ∷ 0xB5 ∷ 0xC2 ∷ 0x92 ∷ 0xE0 ∷ []

pub protected-counted : (bytes : List ℕ) → T (small (segments bytes)) → protected bytes ≡ numbers_in 8 90 (sent 24 (map counted (segments bytes)))
unfolding protected
protected-counted bytes t = ap (λ (ns : List ℕ). numbers_in 8 90 (sent 24 ns)) (words-counted (segments bytes) t)

pub counting-useful : protected counting ≡ useful
unfolding numbers_in number bits_of sent word23 remainder divide line less ones_in
counting-useful = protected-counted counting tt

pub zeros-useful : take 9 (protected (blank 45)) ≡ (0x00 ∷ 0x00 ∷ 0x80 ∷ 0x00 ∷ 0x00 ∷ 0x80 ∷ 0x00 ∷ 0x00 ∷ 0x80 ∷ [])
unfolding numbers_in number bits_of sent blank word23 remainder divide line less ones_in
zeros-useful = ap (take 9) (protected-counted (blank 45) tt)
