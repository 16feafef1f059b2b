-- One slot's bytes (document 01, section 3). This file alone has byte places; docs/LAYOUT.md is the same table for people.
--
--   from 0     the unfinished group: room for 360 bytes
--   from 360   the last whole group: room for 360 bytes
--   from 720   the head: address, limit and age, four bytes each, lowest first; then protection, awaited index, the mark
--              that there is a whole group, the gap mark, one byte each
--   736        the whole slot
--
--   head_of s                the head that a slot's bytes hold
--   head_bytes h             its sixteen bytes
--   with_head h s            the slot with another head
--   unfinished s, stored s  the two rooms
--   with_unfinished, with_stored
--   kept_room n room         a room of which n bytes are kept, and 0 behind them
--   free s                  every byte 0
--   good_slot s              free, or with a good head
use Rattle.std.specs.Prelude.{Bool, true, ◌&&◌, ◌||◌, List, [], ◌∷◌, ◌++◌, ℕ, ◌+◌, ◌-◌, ◌%◌, eqb, get_or}
use Rattle.bits.specs.Bits.{blank}
use Rattle.runs.specs.Part.{part, put}
use Rattle.runs.specs.Numbers.{four, four_at}
use Rattle.head.specs.Head.{good_head}
use Rattle.head.specs.declared.Head.{Head}

abbrev pub room_size : ℕ
room_size = 360

abbrev pub whole_at : ℕ
whole_at = room_size

abbrev pub head_at : ℕ
head_at = whole_at + room_size

abbrev pub head_size : ℕ
head_size = 16

abbrev pub slot_size : ℕ
slot_size = head_at + head_size

unfoldable pub head_of : List ℕ → Head
head_of s = record {
  wish = record {
    address = four_at head_at s;
    limit = four_at (head_at + 4) s;
    protection = get_or s (head_at + 12) 0;
  };
  age = four_at (head_at + 8) s;
  awaited = get_or s (head_at + 13) 0;
  group = get_or s (head_at + 14) 0;
  gap = get_or s (head_at + 15) 0;
}

unfoldable pub head_bytes : Head → List ℕ
head_bytes h =
    four h.wish.address
    ++ (four h.wish.limit ++ (four h.age ++ (h.wish.protection % 256 ∷ h.awaited ∷ h.group ∷ h.gap ∷ [])))

unfoldable pub with_head : Head → List ℕ → List ℕ
with_head h s = put head_at head_size (head_bytes h) s

unfoldable pub unfinished : List ℕ → List ℕ
unfinished s = part 0 room_size s

unfoldable pub stored : List ℕ → List ℕ
stored s = part whole_at room_size s

unfoldable pub with_unfinished : List ℕ → List ℕ → List ℕ
with_unfinished room s = put 0 room_size room s

unfoldable pub with_stored : List ℕ → List ℕ → List ℕ
with_stored room s = put whole_at room_size room s

unfoldable pub kept_room : ℕ → List ℕ → List ℕ
kept_room n room = part 0 n room ++ blank (room_size - n)

unfoldable pub free : List ℕ → Bool
free [] = true
free (b ∷ s) = eqb b 0 && free s

-- "each slot is free (all 736 bytes 0) or has [a good head]"
unfoldable pub good_slot : List ℕ → Bool
good_slot s = free s || good_head (head_of s)
