-- A component's structure as it is gathered, field by field (ETS 300 352, 4.5.4, LINKS): 71 bytes. This file and Map.antt alone have
-- byte places; docs/LAYOUT.md is the same table for people.
--
--   0    how many fields, 0 to 9; 9 where there are more than the eight that have room
--   1    1 where the structure is whole
--   2    LINKS of the last field that it was gathered from
--   3    1 where the component is to be deleted (announced structures only)
--   4    1 where it was begun over fields that were there, so that it may lack those that came before
--   5    one more than the place of the field that came last, of a whole structure; 0 where none came since a change or a missed frame
--   6    1 where it is certain in the running configuration: a field of it was heard, or that there is none, or a sure change put it there
--   7    eight fields of eight bytes: TDMS as one number, lowest byte first
--
--   head_of, with_head     the first seven bytes as a value
--   nth k s, with_nth     field k
--   stored h             how many fields have room
--   place_of s t          the place of t among the structure's fields; member s t: it is one of them
--   is_next s t           t comes in turn, in a whole structure: behind the field that came last, or any of its fields where none did
--   goes_on s t l         t goes on with the repetition that is being gathered: the same LINKS, and a greater key
--   turn_of s t l         what one more field does
--   gathered s t l       the structure with it taken in
--   spoiled s            a structure where a frame was missed, or may have been: what is being gathered may lack a field
--   deletion, absence    a structure that says that the component is to be deleted; that it is not there
--   good_head h           within these bounds
--   settled_head sure h   an announced structure as a change puts it in force: whole, unless a field may be missing
--   certainly h          the component is there for certain
use Rattle.std.specs.Prelude.{Bool, cond, ◌&&◌, ◌||◌, List, [], ◌∷◌, ℕ, ◌+◌, ◌-◌, ◌*◌, ◌^◌, leb, ltb, eqb, get_or}
use Rattle.bits.specs.Bits.{blank}
use Rattle.bits.specs.Search.{first}
use Rattle.runs.specs.Part.{put}
use Rattle.field.specs.Field.{key}
use Rattle.runs.specs.Numbers.{eight, eight_at}
use Rattle.structure.specs.declared.Structure.{Structure}
use Rattle.structure.specs.declared.Turn.{Turn}
use Rattle.structure.specs.declared.Turn.TheVariants.{Begins, Joins, Overflows, Completes, Known}

-- the house's bound; the standard has none
abbrev pub most : ℕ
most = 8

abbrev pub structure_size : ℕ
structure_size = 71

abbrev pub all_ones : ℕ
all_ones = 2 ^ 62 - 1

unfoldable pub head_of : List ℕ → Structure
head_of s = record {
  fields = get_or s 0 0;
  whole = get_or s 1 0;
  links = get_or s 2 0;
  deleted = get_or s 3 0;
  late = get_or s 4 0;
  last = get_or s 5 0;
  certain = get_or s 6 0;
}

abbrev pub head_bytes : Structure → List ℕ
head_bytes h = h.fields ∷ h.whole ∷ h.links ∷ h.deleted ∷ h.late ∷ h.last ∷ h.certain ∷ []

unfoldable pub with_head : Structure → List ℕ → List ℕ
with_head h s = put 0 7 (head_bytes h) s

unfoldable pub nth : ℕ → List ℕ → ℕ
nth k s = eight_at (7 + 8 * k) s

unfoldable pub with_nth : ℕ → ℕ → List ℕ → List ℕ
with_nth k t s = put (7 + 8 * k) 8 (eight t) s

unfoldable pub stored : Structure → ℕ
stored h = cond (ltb most h.fields) most h.fields

unfoldable pub place_of : List ℕ → ℕ → ℕ
place_of s t = first (λ (k : ℕ). eqb (nth k s) t) (stored (head_of s)) 0

unfoldable pub member : List ℕ → ℕ → Bool
member s t = ltb (place_of s t) (stored (head_of s))

-- behind the last field comes the first
unfoldable pub next_place : Structure → ℕ
next_place h = cond (ltb h.last (stored h)) h.last 0

unfoldable pub is_next : List ℕ → ℕ → Bool
is_next s t = cond (eqb (head_of s).last 0) (member s t) (eqb (nth (next_place (head_of s)) s) t)

-- "LINKS ... shall change on each repetition of the linked TDMS field(s)"; "in increasing order of FLN1", then FCP
unfoldable pub goes_on : List ℕ → ℕ → ℕ → Bool
goes_on s t l =
    let h = head_of s in
    ltb 0 h.fields && (eqb h.links l && ltb (key (nth (stored h - 1) s)) (key t))

-- A whole structure in which the field comes in turn stays as it is, and any other is begun anew: it lacks the field, or one of its own
-- did not come. Otherwise a field goes on with the repetition, or a repetition ends with it: if the next one begins with the same first
-- field, the gathered fields are all there are.
unfoldable pub turn_of : List ℕ → ℕ → ℕ → Turn
turn_of s t l =
    let h = head_of s in
    cond (eqb h.whole 1) (cond (is_next s t) Known Begins)
    (cond (goes_on s t l) (cond (ltb h.fields most) Joins Overflows)
    (cond (ltb 0 h.fields && (leb h.fields most && eqb (nth 0 s) t)) Completes Begins))

-- ---- heads

-- n fields, of which it is not known whether they are all
unfoldable pub gathering_head : ℕ → ℕ → Structure → Structure
gathering_head n l h =
    record { fields = n; whole = 0; links = l; deleted = 0; late = h.late; last = 0; certain = 1 }

-- they are all, and the first came last
unfoldable pub completed_head : ℕ → Structure → Structure
completed_head l h =
    record { fields = h.fields; whole = 1; links = l; deleted = 0; late = 0; last = 1; certain = 1 }

-- the same structure with other marks
unfoldable pub marked_head : ℕ → ℕ → Structure → Structure
marked_head last certain h = record {
  fields = h.fields;
  whole = h.whole;
  links = h.links;
  deleted = h.deleted;
  late = h.late;
  last = last;
  certain = certain;
}

-- one field alone, over those that were there
unfoldable pub late_of : Structure → ℕ
late_of h = cond (ltb 0 h.fields) 1 0

unfoldable pub beginning : ℕ → ℕ → ℕ → ℕ → List ℕ
beginning late certain t l =
    with_nth 0 t
    (with_head (record { fields = 1; whole = 0; links = l; deleted = 0; late = late; last = 0; certain = certain }) (blank structure_size))

unfoldable pub turned : Turn → List ℕ → ℕ → ℕ → List ℕ
turned Begins s t l = beginning (late_of (head_of s)) 1 t l
turned Joins s t l = let n = (head_of s).fields in with_nth n t (with_head (gathering_head (n + 1) l (head_of s)) s)
turned Overflows s t l = with_head (gathering_head (most + 1) l (head_of s)) s
turned Completes s t l = with_head (completed_head l (head_of s)) s
turned Known s t l = with_head (marked_head (place_of s t + 1) 1 (head_of s)) s

unfoldable pub gathered : List ℕ → ℕ → ℕ → List ℕ
gathered s t l = turned (turn_of s t l) s t l

-- What is being gathered may lack a field: a frame was missed, or a change came that may have cut its repetition off. It becomes one
-- field of all ones, which no structure has and no key is above, so that whatever comes begins anew. Of a whole one it is no longer
-- known which field came last.
unfoldable pub spoiled : List ℕ → List ℕ
spoiled s =
    let h = head_of s in
    cond (eqb h.whole 0 && ltb 0 h.fields) (beginning 1 h.certain all_ones 0) (with_head (marked_head 0 h.certain h) s)

unfoldable pub none_head : ℕ → Structure
none_head deleted =
    record { fields = 0; whole = 0; links = 0; deleted = deleted; late = 0; last = 0; certain = 1 }

unfoldable pub deletion : List ℕ
deletion = with_head (none_head 1) (blank structure_size)

unfoldable pub absence : List ℕ
absence = with_head (none_head 0) (blank structure_size)

-- something is said of the component
unfoldable pub said : Structure → Bool
said h = ltb 0 h.fields || eqb h.deleted 1

-- the component is there for certain
unfoldable pub certainly : Structure → Bool
certainly h = eqb h.certain 1 && ltb 0 h.fields

unfoldable pub good_head : Structure → Bool
good_head h =
    leb h.fields (most + 1) && (leb h.whole 1 && (leb h.links 1 && (leb h.deleted 1 && (leb h.late 1 && (leb h.certain 1
    && ((eqb h.whole 0 || (ltb 0 h.fields && leb h.fields most)) && (eqb h.deleted 0 || eqb h.fields 0)))))))

-- it holds every field that was announced, and there are no more than have room
unfoldable pub complete : Structure → Bool
complete h = eqb h.late 0 && (ltb 0 h.fields && leb h.fields most)

-- as a change puts it in force; sure: nothing more of it can come, and no frame was missed
unfoldable pub settled_head : Bool → Structure → Structure
settled_head sure h = record {
  fields = h.fields;
  whole = cond (sure && complete h) 1 h.whole;
  links = h.links;
  deleted = 0;
  late = h.late;
  last = 0;
  certain = cond sure h.certain 0;
}
