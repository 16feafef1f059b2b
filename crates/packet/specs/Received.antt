-- What a packet's type byte and data are read as, knowing no state (document 01, sections 1, 2 and 6; document 02, Ask 6), and the
-- image that is written.
--
--   type_of s, useful_of s           the type that the first of the 91 bytes is read as, 256 where none; the 90 others
--   has_fault protected s f         which of the faults it has
--   received_number protected s     20, 28, 29, 47, 30, 31 in this order, otherwise 0
--   received_bytes protected s      the 90 useful bytes, or the 45 of protected data
--   received protected s           number, place of the word that made it 31, index, bytes with 0 behind them
--   written address index type useful     the image of a packet
use Rattle.std.specs.Prelude.{Bool, true, false, cond, not, List, ◌∷◌, ◌++◌, ℕ, zero, suc, ◌+◌, ◌-◌, ◌*◌, leb, eqb, ltb, length, get_or, drop}
use Rattle.bits.specs.Bits.{blank}
use Rattle.bits.specs.Rows.{row, refusal, given}
use Rattle.bare.specs.Bare.{header_read, types, type_near}
use Rattle.golay.specs.Code.{word23}
use Rattle.image.specs.Image.{header_of, bytes_of, image_of}
use Rattle.words.specs.Protected.{data_read}
use Rattle.words.specs.Protected.{DataAnswer}
use Rattle.faults.specs.Faults.{Fault, number, type_unreadable, type_control, type_reserved, type_scrambled, word_unreadable, out_of_step, unreadables, rows_by}

-- What a packet is read as: its number, 0 or a refusal's, the place of the word that made it 31, its index, its bytes.
pub record ReadingAnswer : Type 0 where
  pub number : ℕ
  pub place : ℕ
  pub index : ℕ
  pub bytes : List ℕ

unfoldable pub type_of : List ℕ → ℕ
type_of s = type_near types (get_or (bytes_of s) 0 0)

unfoldable pub useful_of : List ℕ → List ℕ
useful_of s = drop 1 (bytes_of s)

-- 31: a protected word can't be read
unfoldable pub unreadable : Bool → List ℕ → Bool
unreadable false useful = false
unreadable true useful = ltb (data_read useful).place 30

-- which of the faults a packet has; whether it is in step is the slot's to say
abbrev pub has_fault : Bool → List ℕ → Fault → Bool
has_fault protected s type_unreadable = leb 256 (type_of s)
has_fault protected s type_control = eqb (type_of s) 0x3F
has_fault protected s type_reserved = eqb (type_of s) 0xC7
has_fault protected s type_scrambled = eqb (type_of s) 0xF8
has_fault protected s word_unreadable = unreadable protected (useful_of s)
has_fault protected s out_of_step = false

unfoldable pub received_number : Bool → List ℕ → ℕ
received_number protected s =
    refusal (row (not (eqb (length s) 94)) 20 ∷ rows_by (has_fault protected s) unreadables)

unfoldable pub received_bytes : Bool → List ℕ → List ℕ
received_bytes false s = useful_of s
received_bytes true s = (data_read (useful_of s)).bytes

-- bytes with 0 behind them to fill the room of 90; only 0 where the packet is refused
unfoldable pub filled : ℕ → List ℕ → List ℕ
filled zero bytes = bytes ++ blank (90 - length bytes)
filled (suc number) bytes = blank 90

unfoldable pub received : Bool → List ℕ → ReadingAnswer
received protected s =
    let answer = received_number protected s in
    record {
      number = answer;
      place = cond (eqb answer (number word_unreadable)) (data_read (useful_of s)).place 0;
      index = given answer (header_read (header_of s)).index;
      bytes = filled answer (received_bytes protected s);
    }

-- the three things a packet is read as: refused, plain bytes, protected data
abbrev pub refused_as : ℕ → ℕ → ReadingAnswer
refused_as number place = record { number = number; place = place; index = 0; bytes = blank 90 }

abbrev pub readable_as : ℕ → List ℕ → ReadingAnswer
readable_as index bytes = record { number = 0; place = 0; index = index; bytes = filled 0 bytes }

abbrev pub data_as : ℕ → DataAnswer → ReadingAnswer
data_as index d = cond (ltb d.place 30) (refused_as (number word_unreadable) d.place) (readable_as index d.bytes)

-- 4.3.6: header, type byte, useful bytes; the spare bit is 0
unfoldable pub written : ℕ → ℕ → ℕ → List ℕ → List ℕ
written address index type useful = image_of (word23 (address + 1024 * index)) (type ∷ useful)
