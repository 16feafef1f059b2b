-- One packet at the slot of its address (document 01, sections 4 and 6; document 02, Ask 6): what the slot answers to a reading, and its bytes
-- after. The byte places are the slot's; the rows are section 4's.
--
--   block_of h            how many bytes a packet brings: 90 plain, 45 protected
--   placed c b room      "at c times 90 or 45", no other byte of the room touched
--   begun_room c room     what a packet with place c is put into: a cleared room where c is 0, otherwise the room as it is
--   slot_joined c b s     the packet put into the slot's unfinished room
--   rooms_kept n s        the first n bytes of that room become the last whole group, and the room is cleared
--   rooms_moved mv c b s  both rooms after a row of the table, c the packet's place in its group; slot_moved: with the head
--   slot_dropped s        28, 47, 30, 31 and 32 "clear the slot's unfinished group, mark its gap and make it await 0"
--   refused_after n s     the slot after a refusal with number n
--   taken_number r h      the number that answers reading r where the head is h
--   answer_of n p a c     the answer with number n: with 32 the indices a awaited and c come, otherwise the place p
--   taken r h            the answer to reading r where the head is h
--   taken_after r s       the slot after it
use Rattle.std.specs.Prelude.{cond, List, ℕ, zero, suc, ◌+◌, ◌*◌, eqb, length, take}
use Rattle.bits.specs.Bits.{blank}
use Rattle.bits.specs.Rows.{further, done}
use Rattle.runs.specs.Part.{put}
use Rattle.slot.specs.Slot.{room_size, head_of, with_head, unfinished, with_unfinished, with_stored, kept_room}
use Rattle.head.specs.Head.{dropped_head}
use Rattle.head.specs.Move.{Move, started, held, whole, out_of_step, move_number, moved_head, row_at, place_at}
use Rattle.head.specs.declared.Head.{Head}
use Rattle.faults.specs.Faults as faults
use Rattle.faults.specs.Faults.{number_drops}
use Rattle.packet.specs.Received.{ReadingAnswer}
use Rattle.group.specs.declared.Answer.{Answer}

unfoldable pub block_of : Head → ℕ
block_of h = cond (eqb h.wish.protection 1) 45 90

unfoldable pub placed : ℕ → List ℕ → List ℕ → List ℕ
placed c b room = put (c * length b) (length b) b room

-- "Answer 1 clears the unfinished room and puts the packet's 90 or 45 bytes first; answer 2 puts them at c times 90 or 45 and
-- touches no other byte of the room; answer 3 does the same at 3 times, moves all 360 bytes to the whole group's room, with
-- 0 beyond 180 for protected groups, and clears the unfinished room." So the room is cleared where c is 0, by whatever row, and
-- c + 1 packets are kept.
unfoldable pub begun_room : ℕ → List ℕ → List ℕ
begun_room zero room = blank room_size
begun_room (suc c) room = room

unfoldable pub slot_joined : ℕ → List ℕ → List ℕ → List ℕ
slot_joined c b s = with_unfinished (placed c b (begun_room c (unfinished s))) s

unfoldable pub rooms_kept : ℕ → List ℕ → List ℕ
rooms_kept n s = with_unfinished (blank room_size) (with_stored (kept_room n (unfinished s)) s)

unfoldable pub rooms_moved : Move → ℕ → List ℕ → List ℕ → List ℕ
rooms_moved started c b s = slot_joined c b s
rooms_moved held c b s = slot_joined c b s
rooms_moved whole c b s = rooms_kept ((c + 1) * length b) (slot_joined c b s)
rooms_moved out_of_step c b s = with_unfinished (blank room_size) s

unfoldable pub slot_moved : Move → ℕ → List ℕ → List ℕ → List ℕ
slot_moved mv c b s = with_head (moved_head mv (head_of s)) (rooms_moved mv c b s)

unfoldable pub slot_dropped : List ℕ → List ℕ
slot_dropped s = with_head (dropped_head (head_of s)) (with_unfinished (blank room_size) s)

unfoldable pub taken_number : ReadingAnswer → Head → ℕ
taken_number r h = further r.number (move_number (row_at h r.index))

abbrev pub answer_of : ℕ → ℕ → ℕ → ℕ → Answer
answer_of n place awaited came = record {
  number = n;
  detail = cond (eqb n (faults.number faults.out_of_step)) awaited place;
  came = cond (eqb n (faults.number faults.out_of_step)) came 0;
}

-- "32 carries the index awaited and the index that came; 31 carries the word's place, 0 to 29, the first that failed." A reading has a
-- place with 31 only; the index awaited is that of the head before
abbrev pub taken : ReadingAnswer → Head → Answer
taken r h = answer_of (taken_number r h) r.place h.awaited r.index

-- a refusal drops by the list of faults
unfoldable pub refused_after : ℕ → List ℕ → List ℕ
refused_after n s = cond (number_drops n) (slot_dropped s) s

unfoldable pub taken_after : ReadingAnswer → List ℕ → List ℕ
taken_after r s =
    let h = head_of s in
    done r.number (slot_moved (row_at h r.index) (place_at h r.index) (take (block_of h) r.bytes) s) (refused_after r.number s)
