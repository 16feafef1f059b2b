-- The plain reader's definitions against numbers from outside, by computation: how many patterns there are (the binomials of 23), their
-- order, and the header of address 17, index 0, which is 0x75F011, with flips.
--
--   counts          23 bits in 1, 23, 253 and 1,771 ways; 2,048 in all, as many as there are remainders
--   order           two flips in four bits; the last pattern of all
--   read-each       no flip, bit 0, bits 10 and 11 (the index), bits 0 to 2, at the settings 0 to 3
--   refused         33 before 48 before 49
--
-- Assumes nothing.
use mathlib.Core.Path.{◌≡◌, refl}
use mathlib.Core.List.{[], ◌∷◌, map}
use Prim.Native.Nat.{ℕ, ◌^◌}
use lib.Count.{ones, ones_in}
use lib.ListN.{length, get_or}
use Rattle.bits.specs.Rows.{refusal, given}
use Rattle.golay.specs.Code.{less, line, divide, remainder}
use Rattle.bare.specs.Bare.{header_refused}
use Rattle.bare.specs.Bare.{HeaderAnswer}
use Rattle.plain.specs.Plain.{error_patterns, trials, leaving, header_plain}

pub counts : map (λ (k : ℕ). length (error_patterns k 23)) (0 ∷ 1 ∷ 2 ∷ 3 ∷ []) ≡ (1 ∷ 23 ∷ 253 ∷ 1771 ∷ [])
unfolding error_patterns
counts = refl

pub in_all : length (trials 4) ≡ 2 ^ 11
unfolding error_patterns trials
in_all = refl

pub order : (error_patterns 2 4 ≡ (3 ∷ 5 ∷ 6 ∷ 9 ∷ 10 ∷ 12 ∷ [])) × (get_or (trials 4) 2047 0 ≡ 0x700000)
unfolding error_patterns trials
order = (refl, refl)

abbrev turned : ℕ → HeaderAnswer
turned flips = record { number = 0; address = 17; index = 0; flips = flips }

pub read-each : (map (header_plain 0x75F011) (0 ∷ 3 ∷ []) ≡ (turned 0 ∷ turned 0 ∷ []))
    × (map (header_plain 0x75F010) (0 ∷ 1 ∷ 3 ∷ []) ≡ (header_refused 49 ∷ turned 1 ∷ turned 1 ∷ []))
    × (map (header_plain 0x75FC11) (1 ∷ 2 ∷ 3 ∷ []) ≡ (header_refused 49 ∷ turned 2 ∷ turned 2 ∷ []))
    × (map (header_plain 0x75F016) (0 ∷ 2 ∷ 3 ∷ []) ≡ (header_refused 49 ∷ header_refused 49 ∷ turned 3 ∷ []))
unfolding header_plain refusal given trials error_patterns leaving remainder divide line less ones ones_in
read-each = (refl, refl, refl, refl)

pub refused : (header_plain 0x80000F 4 ≡ header_refused 33) × (header_plain 0xF 4 ≡ header_refused 48) × (header_plain 0xF 2 ≡ header_refused 49)
unfolding header_plain refusal given trials error_patterns leaving remainder divide line less ones ones_in
refused = (refl, refl, refl)
