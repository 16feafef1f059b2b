-- Machines that do not keep a theorem's promise: it must be false of each.
--
--   deaf         takes every field, keeps nothing, and shows no component ever; and it says of none that it does not know
--   doubting     the same, but it says of every component that it does not know
--   mute         takes every field, keeps nothing, and says 46 of every component
--   refusing     ours, but it refuses every field
--   first_only    ours, but it keeps only the first field
--   late         ours, but whatever frame it is asked for, it shows the one that has ended
--   hasty        whatever field came last, it shows as the whole structure
--   clinging     shows one structure of one field ever
--   stubborn     goes on showing a structure whatever present fields come, or all ones. It is sure of component 7 alone, where the first two fields that it
--                hears are the same present field, in two frames one after the other of one configuration: then there is no other. It shows that one until a
--                field with the update flag comes, and says 46 of everything else. So it keeps all that `NeverWrong` says but the last field of `Whole`
--                (`stubborn-rest`, `stubborn-blank` in proofs/Stubborn.antt)
use Rattle.std.specs.Prelude.{Bool, cond, not, ◌&&◌, List, [], ◌∷◌, ℕ, zero, suc, eqb, get_or}
use Rattle.bits.specs.Bits.{blank}
use Rattle.field.specs.Field.{field_of, deletes}
use Rattle.field.specs.declared.Field.{Field}
use Rattle.frames.specs.Counts.{since, changes}
use Rattle.map.specs.Map.{map_size, frames_of}
use Rattle.map.specs.Calls.{take_answer, take_after, shown}
use Rattle.multiplex.specs.Heard.{Machine, shown_fields}
use Rattle.multiplex.specs.Example.{one}

unfoldable pub deaf : Machine
deaf = record {
  start = blank map_size;
  answer = λ m f. 0;
  after = λ m f. m;
  number = λ m id count. 0;
  fields = λ m id count. [];
  announced = λ m id count. 0;
  frames = λ m id count. 0;
  unknown = λ m id count. 0;
}

unfoldable pub doubting : Machine
doubting = record {
  start = [];
  answer = λ m f. 0;
  after = λ m f. m;
  number = λ m id count. 0;
  fields = λ m id count. [];
  announced = λ m id count. 0;
  frames = λ m id count. 0;
  unknown = λ m id count. 1;
}

unfoldable pub mute : Machine
mute = record {
  start = [];
  answer = λ m f. 0;
  after = λ m f. m;
  number = λ m id count. 46;
  fields = λ m id count. [];
  announced = λ m id count. 0;
  frames = λ m id count. 0;
  unknown = λ m id count. 0;
}

unfoldable pub refusing : Machine
refusing = record {
  start = blank map_size;
  answer = λ m f. 34;
  after = λ m f. m;
  number = λ m id count. (shown m id count).number;
  fields = shown_fields;
  announced = λ m id count. (shown m id count).announced;
  frames = λ m id count. (shown m id count).frames;
  unknown = λ m id count. (shown m id count).unknown;
}

unfoldable pub first_only : Machine
first_only = record {
  start = blank map_size;
  answer = take_answer;
  after = λ m f. cond (eqb (frames_of m).heard 0) (take_after m f) m;
  number = λ m id count. (shown m id count).number;
  fields = shown_fields;
  announced = λ m id count. (shown m id count).announced;
  frames = λ m id count. (shown m id count).frames;
  unknown = λ m id count. (shown m id count).unknown;
}

unfoldable pub late : Machine
late = record {
  start = blank map_size;
  answer = take_answer;
  after = take_after;
  number = λ m id count. (shown m id (frames_of m).last).number;
  fields = λ m id count. shown_fields m id (frames_of m).last;
  announced = λ m id count. (shown m id count).announced;
  frames = λ m id count. (shown m id count).frames;
  unknown = λ m id count. (shown m id count).unknown;
}

unfoldable pub hasty : Machine
hasty = record {
  start = [];
  answer = λ m f. 0;
  after = λ m f. f;
  number = λ m id count. 0;
  fields = λ m id count. (field_of m).tdms ∷ [];
  announced = λ m id count. 0;
  frames = λ m id count. 0;
  unknown = λ m id count. 0;
}

unfoldable pub clinging : Machine
clinging = record {
  start = [];
  answer = λ m f. 0;
  after = λ m f. m;
  number = λ m id count. 0;
  fields = λ m id count. one ∷ [];
  announced = λ m id count. 0;
  frames = λ m id count. 0;
  unknown = λ m id count. 0;
}

-- a present field of component 7
unfoldable pub seven : Field → Bool
seven r = eqb r.flag 0 && (eqb r.id 7 && not (deletes r.tdms))

-- from two frames one after the other, of one configuration
unfoldable pub together : ℕ → ℕ → Bool
together c d = eqb (since c d) 1 && not (changes c d)

-- what it keeps: nothing; 0, with count and field of the first frame; 1, with the field that it is sure of; 2, that it gave up
unfoldable pub held : List ℕ → Field → List ℕ
held [] r = cond (seven r) (0 ∷ r.count ∷ r.tdms ∷ []) (2 ∷ [])
held (zero ∷ m) r =
    cond (seven r && (eqb r.tdms (get_or m 1 0) && together (get_or m 0 0) r.count)) (1 ∷ r.tdms ∷ []) (2 ∷ [])
held (suc zero ∷ m) r = cond (eqb r.flag 0) (1 ∷ m) (2 ∷ [])
held (suc (suc n) ∷ m) r = 2 ∷ []

abbrev pub surely : List ℕ → ℕ → Bool
surely m id = eqb (get_or m 0 0) 1 && eqb id 7

unfoldable pub stubborn : Machine
stubborn = record {
  start = [];
  answer = λ m f. 0;
  after = λ m f. held m (field_of f);
  number = λ m id count. cond (surely m id) 0 46;
  fields = λ m id count. cond (surely m id) (get_or m 1 0 ∷ []) [];
  announced = λ m id count. 0;
  frames = λ m id count. 0;
  unknown = λ m id count. 0;
}
