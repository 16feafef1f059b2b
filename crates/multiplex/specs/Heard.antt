-- A machine that takes in the fields of a broadcast (document 02, Ask 4), as a caller sees it.
--
--   Machine         how it starts, how it answers a field and what it keeps; and of a component, for a frame count: the number and the fields
--                   that it shows, whether it says that a change is announced, in how many frames, and that not enough was heard to know
--   ours            the calls of this crate
use Rattle.std.specs.Prelude.{List, [], ◌∷◌, ℕ, zero, suc, ◌+◌, ◌/◌}
use Rattle.bits.specs.Bits.{blank}
use Rattle.runs.specs.Numbers.{eight_at}
use Rattle.map.specs.Map.{map_size}
use Rattle.map.specs.Calls.{take_answer, take_after, shown}

pub record Machine : Type 0 where
  pub start : List ℕ
  pub answer : List ℕ → List ℕ → ℕ
  pub after : List ℕ → List ℕ → List ℕ
  pub number : List ℕ → ℕ → ℕ → ℕ
  pub fields : List ℕ → ℕ → ℕ → List ℕ
  pub announced : List ℕ → ℕ → ℕ → ℕ
  pub frames : List ℕ → ℕ → ℕ → ℕ
  pub unknown : List ℕ → ℕ → ℕ → ℕ

-- n fields of eight bytes from a place on
unfoldable pub fields_from : ℕ → ℕ → List ℕ → List ℕ
fields_from zero at m = []
fields_from (suc n) at m = eight_at at m ∷ fields_from n (at + 8) m

unfoldable pub shown_fields : List ℕ → ℕ → ℕ → List ℕ
shown_fields m id count = fields_from ((shown m id count).len / 8) (shown m id count).at m

unfoldable pub ours : Machine
ours = record {
  start = blank map_size;
  answer = take_answer;
  after = take_after;
  number = λ m id count. (shown m id count).number;
  fields = shown_fields;
  announced = λ m id count. (shown m id count).announced;
  frames = λ m id count. (shown m id count).frames;
  unknown = λ m id count. (shown m id count).unknown;
}
