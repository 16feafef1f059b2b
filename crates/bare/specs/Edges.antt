-- Document 01, section 8: both sides of each edge, P1 to P9 of the proved table. P10 to P12 join them with the packet call.
--
--   reads n a i      a header n reads address a, index i
--   reads_not n a i   it does not
--   typed b t        a type byte b reads the type t
--   untyped b        it is unreadable
use Rattle.std.specs.Prelude.{◌≡◌, List, [], ◌∷◌, ℕ, ◌+◌, ◌-◌, ◌^◌}
use Rattle.bare.specs.Bare.{header_read, type_read}

pub data Edge : Type 0 where
  reads : ℕ → ℕ → ℕ → Edge
  reads_not : ℕ → ℕ → ℕ → Edge
  typed : ℕ → ℕ → Edge
  untyped : ℕ → Edge

abbrev pub Reads : ℕ → ℕ → ℕ → Type 0
Reads n a i = ((header_read n).number ≡ 0) × ((header_read n).address ≡ a) × ((header_read n).index ≡ i)

abbrev pub Holds : Edge → Type 0
Holds (reads n a i) = Reads n a i
Holds (reads_not n a i) = Reads n a i → ⊥
Holds (typed b t) = ((type_read b).number ≡ 0) × ((type_read b).value ≡ t)
Holds (untyped b) = (type_read b).number ≡ 28

abbrev pub edges : List Edge
edges =
    -- P1: a header of 23 zeros. P2: the same with bits 0, 5 and 22 set
    reads 0 0 0
    ∷ reads (2 ^ 0 + 2 ^ 5 + 2 ^ 22) 0 0
    -- P3: 23 ones. P4: 23 ones with bits 1, 2, 20 cleared
    ∷ reads (2 ^ 23 - 1) 1023 3
    ∷ reads (2 ^ 23 - 1 - (2 ^ 1 + 2 ^ 2 + 2 ^ 20)) 1023 3
    -- P5: four ones, bits 0 to 3
    ∷ reads_not (2 ^ 0 + 2 ^ 1 + 2 ^ 2 + 2 ^ 3) 0 0
    -- P6 to P9
    ∷ typed 0x03 0x00
    ∷ typed 0x07 0xC7
    ∷ typed 0xFF 0x3F
    ∷ untyped 0x55
    ∷ []
