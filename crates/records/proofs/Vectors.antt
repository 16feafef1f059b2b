-- The record format by number: section 7's kinds and lengths, its bad and cut records, and the places of its sample's seven records, by
-- computation. The bytes are the paper's.
--
--   sizes             the bodies of kinds 1 to 5: 94, 0, 5, 2, 2; of another kind longer than two bytes can say
--   kinds             a record of each kind
--   bad               another version, another kind, a length under 2, a length that is not the kind's
--   waiting           three bytes, and a record cut by one byte
--   ended             no bytes
--   written           a record as it is written
--   sample, sample-steps    the paper's 49 bytes, and what stands at each record's place
--
-- Assumes nothing.
use mathlib.Core.Path.{◌≡◌, refl}
use mathlib.Core.List.{List, [], ◌∷◌, map}
use Prim.Native.Nat.{ℕ}
use Rattle.bits.specs.Bits.{blank}
use Rattle.records.specs.declared.Step.{Step}
use Rattle.records.specs.declared.Step.TheVariants.{Record, End, More, Bad}
use Rattle.runs.specs.Numbers.{two_at}
use Rattle.records.specs.Format.{body_size, good_head, step_at, record_size, record_of}

abbrev first : List ℕ → Step
first s = step_at s 0

-- a packet's record with a body of n bytes
abbrev packet : ℕ → List ℕ
packet n = 0x00 ∷ 0x60 ∷ 0x01 ∷ 0x01 ∷ blank n

abbrev follow : List ℕ
follow = 0x00 ∷ 0x07 ∷ 0x01 ∷ 0x03 ∷ 0x00 ∷ 0x11 ∷ 0x01 ∷ 0x00 ∷ 0x02 ∷ []

pub sizes : (map body_size (1 ∷ 2 ∷ 3 ∷ 4 ∷ 5 ∷ 0 ∷ 6 ∷ []) ≡ (94 ∷ 0 ∷ 5 ∷ 2 ∷ 2 ∷ 65536 ∷ 65536 ∷ []))
    × (map (λ (k : ℕ). record_size (Record k 4)) (1 ∷ 2 ∷ 3 ∷ 4 ∷ 5 ∷ []) ≡ (98 ∷ 4 ∷ 9 ∷ 6 ∷ 6 ∷ []))
unfolding body_size record_size
sizes = (refl, refl)

pub kinds : map first (packet 94 ∷ (0x00 ∷ 0x02 ∷ 0x01 ∷ 0x02 ∷ []) ∷ follow ∷ (0x00 ∷ 0x04 ∷ 0x01 ∷ 0x04 ∷ 0x00 ∷ 0x11 ∷ [])
    ∷ (0x00 ∷ 0x04 ∷ 0x01 ∷ 0x05 ∷ 0x00 ∷ 0x11 ∷ []) ∷ [])
    ≡ (Record 1 4 ∷ Record 2 4 ∷ Record 3 4 ∷ Record 4 4 ∷ Record 5 4 ∷ [])
unfolding step_at good_head two_at body_size blank
kinds = refl

-- versions 2 and 0, kinds 0 and 6, lengths 0 and 1, lengths one short and one long, and a length lowest byte first
pub bad : map first ((0x00 ∷ 0x02 ∷ 0x02 ∷ 0x02 ∷ []) ∷ (0x00 ∷ 0x02 ∷ 0x00 ∷ 0x02 ∷ []) ∷ (0x00 ∷ 0x02 ∷ 0x01 ∷ 0x00 ∷ [])
    ∷ (0x00 ∷ 0x02 ∷ 0x01 ∷ 0x06 ∷ []) ∷ (0x00 ∷ 0x00 ∷ 0x01 ∷ 0x02 ∷ []) ∷ (0x00 ∷ 0x01 ∷ 0x01 ∷ 0x02 ∷ [])
    ∷ (0x00 ∷ 0x03 ∷ 0x01 ∷ 0x04 ∷ 0x00 ∷ 0x11 ∷ []) ∷ (0x00 ∷ 0x05 ∷ 0x01 ∷ 0x04 ∷ 0x00 ∷ 0x11 ∷ 0x00 ∷ []) ∷ (0x02 ∷ 0x00 ∷ 0x01 ∷ 0x02 ∷ []) ∷ [])
    ≡ (Bad ∷ Bad ∷ Bad ∷ Bad ∷ Bad ∷ Bad ∷ Bad ∷ Bad ∷ Bad ∷ [])
unfolding step_at good_head two_at body_size
bad = refl

pub waiting : map first ((0x00 ∷ []) ∷ (0x00 ∷ 0x02 ∷ 0x01 ∷ []) ∷ (0x00 ∷ 0x04 ∷ 0x01 ∷ 0x04 ∷ 0x00 ∷ []) ∷ packet 93 ∷ [])
    ≡ (More ∷ More ∷ More ∷ More ∷ [])
unfolding step_at good_head two_at body_size blank
waiting = refl

pub ended : first [] ≡ End
unfolding step_at
ended = refl

pub written : (record_of 2 [] ∷ record_of 3 (0x00 ∷ 0x11 ∷ 0x01 ∷ 0x00 ∷ 0x02 ∷ []) ∷ record_of 1 (blank 94) ∷ [])
    ≡ ((0x00 ∷ 0x02 ∷ 0x01 ∷ 0x02 ∷ []) ∷ follow ∷ packet 94 ∷ [])
unfolding record_of blank
written = refl

-- ---- the sample of section 7

abbrev pub sample : List ℕ
sample =
    0x00 ∷ 0x07 ∷ 0x01 ∷ 0x03 ∷ 0x00 ∷ 0x11 ∷ 0x01 ∷ 0x00 ∷ 0x02
    ∷ 0x00 ∷ 0x04 ∷ 0x01 ∷ 0x05 ∷ 0x00 ∷ 0x11
    ∷ 0x00 ∷ 0x07 ∷ 0x01 ∷ 0x03 ∷ 0x00 ∷ 0x11 ∷ 0x01 ∷ 0x00 ∷ 0x02
    ∷ 0x00 ∷ 0x02 ∷ 0x01 ∷ 0x02
    ∷ 0x00 ∷ 0x04 ∷ 0x01 ∷ 0x04 ∷ 0x00 ∷ 0x11
    ∷ 0x00 ∷ 0x04 ∷ 0x01 ∷ 0x05 ∷ 0x00 ∷ 0x11
    ∷ 0x00 ∷ 0x07 ∷ 0x01 ∷ 0x03 ∷ 0x00 ∷ 0x00 ∷ 0x01 ∷ 0x00 ∷ 0x02
    ∷ []

pub sample-steps : map (step_at sample) (0 ∷ 9 ∷ 15 ∷ 24 ∷ 28 ∷ 34 ∷ 40 ∷ 49 ∷ [])
    ≡ (Record 3 4 ∷ Record 5 13 ∷ Record 3 19 ∷ Record 2 28 ∷ Record 4 32 ∷ Record 5 38 ∷ Record 3 44 ∷ End ∷ [])
unfolding step_at good_head two_at body_size
sample-steps = refl
