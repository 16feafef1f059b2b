-- The record (document 01, section 7): "a two-byte big-endian length of what follows, a version byte 1, a kind byte, a body: kind 1
-- packet (94), 2 subframe end (0), 3 follow (address 2, protection 1, limit 2), 4 leave (2), 5 ask (2). Numbers are big-endian."
--
--   body_size kind     how long the body of a kind is; of another kind longer than any length can say
--   good_head s at     the four bytes at a place begin a record: version 1, a kind, and its length
--   step_at s at       what stands at a place: a record with its kind and its body's place, the end, bytes that do not suffice yet,
--                     or a bad record
--   record_size step   how many bytes the record that stands at a place has, head and all; 0 where none stands
--   record_of kind b   a record, written
use Rattle.std.specs.Prelude.{Bool, cond, not, ◌&&◌, List, ◌∷◌, ℕ, ◌+◌, ◌-◌, ◌/◌, ◌%◌, ltb, eqb, length, get_or}
use Rattle.runs.specs.Numbers.{two_at}
use Rattle.records.specs.declared.Step.{Step}
use Rattle.records.specs.declared.Step.TheVariants.{Record, End, More, Bad}

unfoldable pub body_size : ℕ → ℕ
body_size kind =
    cond (eqb kind 1) 94 (cond (eqb kind 2) 0 (cond (eqb kind 3) 5 (cond (eqb kind 4) 2 (cond (eqb kind 5) 2 65536))))

-- "A length under 2, another version, another kind, a body length not the kind's" is none such
unfoldable pub good_head : List ℕ → ℕ → Bool
good_head s at = eqb (get_or s (at + 2) 0) 1 && eqb (two_at at s) (2 + body_size (get_or s (at + 3) 0))

unfoldable pub step_at : List ℕ → ℕ → Step
step_at s at =
    let left = length s - at in
    let kind = get_or s (at + 3) 0 in
    cond (eqb left 0) End
    (cond (ltb left 4) More (cond (not (good_head s at)) Bad (cond (ltb left (4 + body_size kind)) More (Record kind (at + 4)))))

-- how many bytes a record that stands at a place has, head and all; 0 where none stands
unfoldable pub record_size : Step → ℕ
record_size (Record kind body) = 4 + body_size kind
record_size End = 0
record_size More = 0
record_size Bad = 0

unfoldable pub record_of : ℕ → List ℕ → List ℕ
record_of kind body = (2 + length body) / 256 ∷ (2 + length body) % 256 ∷ 1 ∷ kind ∷ body
