-- "From start on, room that holds no group is 0; a good state isn't tested for that" (document 01, section 3).
--
--   CleanSlot x     behind the packets that a slot holds its unfinished room is 0, and behind the group that it shows, or where
--                   it shows none, its whole group's room
--   Clean s         each slot is so
--   StaysClean m    a start makes every state of the right length so, and every call keeps it so
use Rattle.std.specs.Prelude.{◌≡◌, cond, List, ℕ, ◌-◌, ◌*◌, ◌<◌, eqb, length, drop}
use Rattle.bits.specs.Bits.{blank}
use Rattle.slot.specs.Slot.{room_size, head_of, unfinished, stored}
use Rattle.head.specs.declared.Head.{Head}
use Rattle.table.specs.State.{state_size, slots, slot_at}
use Rattle.asking.specs.Asking.{group_length}
use Rattle.group.specs.Group.{block_of}
use Rattle.demands.specs.Machine.{Call, start, Machine}

-- how many bytes the packets that are held fill, and the group that is shown
unfoldable pub held_length : Head → ℕ
held_length h = h.awaited * block_of h

unfoldable pub shown_length : Head → ℕ
shown_length h = cond (eqb h.group 0) 0 (group_length h)

pub record CleanSlot (x : List ℕ) : Type 0 where
  pub unfinished : drop (held_length (head_of x)) (unfinished x) ≡ blank (room_size - held_length (head_of x))
  pub whole : drop (shown_length (head_of x)) (stored x) ≡ blank (room_size - shown_length (head_of x))

abbrev pub Clean : List ℕ → Type 0
Clean s = (k : ℕ) → k < slots → CleanSlot (slot_at k s)

pub record StaysClean (m : Machine) : Type 0 where
  pub begins : (s : List ℕ) → length s ≡ state_size → Clean (m.after start s)
  pub stays : (x : Call) (s : List ℕ) → Clean s → Clean (m.after x s)
