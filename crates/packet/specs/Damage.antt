-- What may come of a sent packet (demand 3 and document 01, section 4; document 02, Asks 6 and 7): at most the set number of flips in
-- the header, at most two in the type byte, at most four in each protected word, none in plain data.
--
--   data_size p            how many bytes a packet carries: 90 plain, 45 protected
--   carried p d           the useful bytes that carry them
--   sent_image ..          the image of a data packet, type byte 00
--   control_image a c u    the image of a control packet, type byte 3F, with any useful bytes
--   Kept, Any             what may come of the useful bytes
--   CameBy kept most s t  t came of the sent image s, with `most` flips in the header at the most, two in the type byte, and its useful
--                         bytes kept so
--   Came p most s t       of a data packet: four flips in each protected word at the most
--   Corrected p most s t  with no more than is corrected: three
--   ControlCame most s t  of a control packet: any flips in its useful bytes, which nobody reads
--   Refused r             a refusal by one of the faults that are seen in a packet
use Rattle.std.specs.Prelude.{◌≡◌, Bool, true, false, List, ℕ, ◌≤◌, ◌<◌, length, get_or}
use Rattle.bits.specs.Bits.{flips}
use Rattle.image.specs.Image.{header_of, bytes_of}
use Rattle.words.specs.Protected.{protected, words_of}
use Rattle.faults.specs.Faults.{unreadables, Numbered}
use Rattle.packet.specs.Received.{useful_of, written}
use Rattle.packet.specs.Received.{ReadingAnswer}

abbrev pub data_size : Bool → ℕ
data_size false = 90
data_size true = 45

abbrev pub carried : Bool → List ℕ → List ℕ
carried false bytes = bytes
carried true bytes = protected bytes

abbrev pub sent_image : Bool → ℕ → ℕ → List ℕ → List ℕ
sent_image p address index bytes = written address index 0x00 (carried p bytes)

-- 7.4.2.3: type byte 3F, "control or interpretation packets"
abbrev pub control_image : ℕ → ℕ → List ℕ → List ℕ
control_image address index useful = written address index 0x3F useful

-- useful bytes u became v, with at most so many flips in each protected word, and none in plain data
abbrev pub Kept : ℕ → Bool → List ℕ → List ℕ → Type 0
Kept most false u v = v ≡ u
Kept most true u v = (w : ℕ) → w < 30 → flips (get_or (words_of u) w 0) (get_or (words_of v) w 0) ≤ most

abbrev pub Any : List ℕ → List ℕ → Type 0
Any u v = Unit {0}

-- "demand 3 now needs no type byte there with more than two flips"
pub record CameBy (kept : List ℕ → List ℕ → Type 0) (most : ℕ) (s t : List ℕ) : Type 0 where
  pub size : length t ≡ 94
  pub header : flips (header_of s) (header_of t) ≤ most
  pub type : flips (get_or (bytes_of s) 0 0) (get_or (bytes_of t) 0 0) ≤ 2
  pub useful : kept (useful_of s) (useful_of t)

abbrev pub Came : Bool → ℕ → List ℕ → List ℕ → Type 0
Came p most s t = CameBy (Kept 4 p) most s t

abbrev pub Corrected : Bool → ℕ → List ℕ → List ℕ → Type 0
Corrected p most s t = CameBy (Kept 3 p) most s t

abbrev pub ControlCame : ℕ → List ℕ → List ℕ → Type 0
ControlCame most s t = CameBy Any most s t

abbrev pub Refused : ReadingAnswer → Type 0
Refused r = Numbered unreadables r.number
