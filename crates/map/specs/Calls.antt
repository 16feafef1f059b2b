-- The calls on the map, each as functions of what was lent (document 02, Ask 4). A refused call changes nothing.
--
--   start_answer, start_after    20
--   take_answer, take_after      20, 34, 44, 45: one field
--   shown m id count           what is known of a component in the frame with that count: 20, 34, 46
--   list_answer, list_after      20, 34: a mark for each component in that frame: 0 none, 1 whole, 2 unfinished, 3 not known
--   heard m id count           20, 34: the fields that were heard of it, whether they are known to be all or not
--   known m count              20, 34: how far what was heard reaches, and how many components are in force in that frame
use Rattle.std.specs.Prelude.{Bool, cond, not, ◌&&◌, ◌||◌, List, [], ◌∷◌, ℕ, zero, suc, ◌+◌, ◌*◌, leb, ltb, eqb, length}
use Rattle.bits.specs.Bits.{blank}
use Rattle.bits.specs.Rows.{Row, row, refusal, done}
use Rattle.field.specs.Field.{field_size, field_of, bad_field, deletes, panning}
use Rattle.field.specs.declared.Field.{Field}
use Rattle.structure.specs.Structure.{gathered, absence, deletion, said, structure_size, all_ones, nth, stored, settled_head}
use Rattle.frames.specs.Counts.{until, changing, again, skips, frames_after, enough, all_heard}
use Rattle.map.specs.Map.{ids, map_size, block_size, frames_of, with_frames, structure_at, with_structure, in_force, announced, good, each_from, changed_from, spoiled_both, present, counted, components}
use Rattle.structure.specs.declared.Structure.{Structure}
use Rattle.frames.specs.declared.Frames.{Frames}
use Rattle.map.specs.Answers.{Shown, Gathered, Reach}

-- ---- start

unfoldable pub start_answer : List ℕ → ℕ
start_answer m = refusal (row (not (eqb (length m) map_size)) 20 ∷ [])

unfoldable pub start_after : List ℕ → List ℕ
start_after m = done (start_answer m) (blank map_size) m

-- ---- taking in one field

-- "45 more than 128 components": a field of a component that its set has not, where the set has 128 for certain; old and new are
-- counted by themselves
unfoldable pub too_many : List ℕ → Field → Bool
too_many m r =
    let change = changing (frames_of m) r.count in
    let sure = all_heard (frames_of m) in
    not (deletes r.tdms) && (not (present r.flag change sure m r.id) && leb 128 (components r.flag change sure m))

unfoldable pub take_rows : List ℕ → List ℕ → List Row
take_rows m f =
    row (not (eqb (length m) map_size) || not (eqb (length f) field_size)) 20
    ∷ row (not (good m)) 34
    ∷ row (bad_field (field_of f)) 44
    ∷ row (not (eqb (field_of f).id panning) && (not (again (frames_of m) (field_of f).count) && too_many m (field_of f))) 45
    ∷ []

unfoldable pub take_answer : List ℕ → List ℕ → ℕ
take_answer m f = refusal (take_rows m f)

-- a change up to the field's frame
unfoldable pub changed_to : List ℕ → ℕ → List ℕ
changed_to m n = cond (changing (frames_of m) n) (changed_from ids 0 (all_heard (frames_of m)) m) m

-- nothing that is being gathered is taken for the whole where a frame was missed. The change comes first: what was announced in a
-- configuration that was heard to its last frame is whole by then, though the first frame behind the change was missed.
unfoldable pub up_to : List ℕ → ℕ → List ℕ
up_to m n = cond (skips (frames_of m) n) (each_from ids 0 spoiled_both (changed_to m n)) (changed_to m n)

-- a structure with the field taken in: an old one is not there, a new one is to be deleted
unfoldable pub put_in : Field → List ℕ → List ℕ
put_in r s =
    cond (deletes r.tdms) (cond (eqb r.flag 0) absence deletion) (gathered s r.tdms r.links)

unfoldable pub taken_in : Field → List ℕ → List ℕ
taken_in r m =
    cond (eqb r.id panning) m
    (with_structure r.id r.flag (put_in r (structure_at r.id r.flag m)) m)

unfoldable pub frame_taken : List ℕ → Field → List ℕ
frame_taken m r =
    cond (again (frames_of m) r.count) m
    (with_frames (frames_after (frames_of m) r.count) (taken_in r (up_to m r.count)))

unfoldable pub take_after : List ℕ → List ℕ → List ℕ
take_after m f = done (take_answer m f) (frame_taken m (field_of f)) m

-- ---- a component, in the frame with a count

-- what is in force then: the announced structure behind the change
unfoldable pub then_which : List ℕ → ℕ → ℕ → ℕ
then_which m id count = cond (changing (frames_of m) count && said (announced id m)) 1 0

unfoldable pub then_head : List ℕ → ℕ → ℕ → Structure
then_head m id count =
    cond (eqb (then_which m id count) 1) (settled_head (all_heard (frames_of m)) (announced id m)) (in_force id m)

unfoldable pub then_number : Structure → ℕ
then_number h = cond (ltb 0 h.fields && eqb h.whole 0) 46 0

-- nothing came of it in this configuration, and not enough was heard to hold that there is none
unfoldable pub unknown : Frames → Structure → Bool
unknown f h = eqb h.fields 0 && (eqb h.certain 0 && not (enough f))

-- where the fields stand, eight bytes each; whether a change is announced, and when it comes; and whether nothing is known of it
unfoldable pub found_of : Frames → ℕ → ℕ → Structure → Bool → Shown
found_of f id which h coming =
    let whole = eqb h.whole 1 in
    record {
      number = then_number h;
      at = cond whole (id * block_size + which * structure_size + 7) 0;
      len = cond whole (8 * h.fields) 0;
      announced = cond coming 1 0;
      frames = cond coming (until f.last) 0;
      unknown = cond (unknown f h) 1 0;
    }

unfoldable pub shown_at : List ℕ → ℕ → ℕ → Shown
shown_at m id count =
    found_of (frames_of m) id (then_which m id count) (then_head m id count) (said (announced id m))

unfoldable pub show_answer : List ℕ → ℕ
show_answer m = refusal (row (not (eqb (length m) map_size)) 20 ∷ row (not (good m)) 34 ∷ [])

unfoldable pub shown_by : ℕ → Shown → Shown
shown_by zero found = found
shown_by (suc number) found = record { number = suc number; at = 0; len = 0; announced = 0; frames = 0; unknown = 0 }

unfoldable pub shown : List ℕ → ℕ → ℕ → Shown
shown m id count = shown_by (show_answer m) (shown_at m id count)

-- ---- the components in the frame with a count

unfoldable pub mark_of : Shown → ℕ
mark_of a = cond (eqb a.number 46) 2 (cond (eqb a.len 0) (cond (eqb a.unknown 1) 3 0) 1)

unfoldable pub marks : ℕ → ℕ → List ℕ → ℕ → List ℕ
marks zero k m count = []
marks (suc n) k m count = mark_of (shown_at m k count) ∷ marks n (suc k) m count

unfoldable pub list_answer : List ℕ → List ℕ → ℕ
list_answer m out =
    refusal
    (row (not (eqb (length m) map_size) || not (eqb (length out) ids)) 20 ∷ row (not (good m)) 34 ∷ [])

unfoldable pub list_after : List ℕ → ℕ → List ℕ → List ℕ
list_after m count out = done (list_answer m out) (marks ids 0 m count) out

-- ---- what was heard of a component, in the frame with a count

-- as far as it was heard; a structure that was spoiled has only all ones
unfoldable pub heard_len : Structure → List ℕ → ℕ
heard_len h s = cond (eqb (nth 0 s) all_ones) 0 (8 * stored h)

unfoldable pub heard_at : List ℕ → ℕ → ℕ → Gathered
heard_at m id count =
    let which = then_which m id count in
    let h = then_head m id count in
    let len = heard_len h (structure_at id which m) in
    record {
      number = 0;
      at = cond (eqb len 0) 0 (id * block_size + which * structure_size + 7);
      len = len;
      whole = h.whole;
    }

unfoldable pub heard_by : ℕ → Gathered → Gathered
heard_by zero found = found
heard_by (suc number) found = record { number = suc number; at = 0; len = 0; whole = 0 }

unfoldable pub heard : List ℕ → ℕ → ℕ → Gathered
heard m id count = heard_by (show_answer m) (heard_at m id count)

-- ---- how far what was heard reaches

-- in force in the frame with a count, whole or not
unfoldable pub in_force_then : List ℕ → ℕ → ℕ → Bool
in_force_then m count k = ltb 0 (then_head m k count).fields

unfoldable pub known_at : List ℕ → ℕ → Reach
known_at m count = record {
  number = 0;
  row = (frames_of m).row;
  unbroken = (frames_of m).unbroken;
  components = counted (in_force_then m count) ids 0;
}

unfoldable pub known_by : ℕ → Reach → Reach
known_by zero found = found
known_by (suc number) found = record { number = suc number; row = 0; unbroken = 0; components = 0 }

unfoldable pub known : List ℕ → ℕ → Reach
known m count = known_by (show_answer m) (known_at m count)
