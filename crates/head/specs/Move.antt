-- The table of document 01, section 4: what a readable data packet does at a slot, by the index awaited and the one that
-- came. It is one table over two numbers: how many packets a group has, and how many of them make it whole.
--
--   Move                      its rows, by their answers: 1 started, 2 held, 3 whole, 32 out of step
--   per_of h, needs_of h        the two numbers of a slot with the head h
--   row_of needs a c           the row, where a is awaited and c came, c the packet's place in its group
--   move_of per needs a c      the same for any index c, which is taken modulo the packets of a group
--   row_at h c, place_at h c    the row and the place of a packet with index c at a slot with the head h
--   table_of a c               the table as document 01 writes it, for groups of four
--   move_number                the row's answer
--   moved_head                 the head after
use Rattle.std.specs.Prelude.{cond, ◌&&◌, ◌||◌, ℕ, ◌+◌, ◌%◌, leb, ltb, eqb}
use Rattle.head.specs.Head.{started_head, held_head, whole_head, dropped_head}
use Rattle.head.specs.declared.Head.{Head}

pub data Move : Type 0 where
  started : Move
  held : Move
  whole : Move
  out_of_step : Move

-- "A group is always four packets": a later profile changes the two numbers here, and nowhere else
unfoldable pub per_of : Head → ℕ
per_of h = 4

-- all of them make the group whole
unfoldable pub needs_of : Head → ℕ
needs_of h = per_of h

-- whole if c is 0 or awaited and c + 1 is at least `needs`; otherwise started if c is 0, held if c is awaited, else out of step
unfoldable pub row_of : ℕ → ℕ → ℕ → Move
row_of needs a c =
    cond ((eqb c 0 || eqb c a) && leb needs (c + 1)) whole (cond (eqb c 0) started (cond (eqb c a) held out_of_step))

unfoldable pub move_of : ℕ → ℕ → ℕ → ℕ → Move
move_of per needs a c = row_of needs a (c % per)

abbrev pub row_at : Head → ℕ → Move
row_at h c = move_of (per_of h) (needs_of h) h.awaited c

abbrev pub place_at : Head → ℕ → ℕ
place_at h c = c % per_of h

-- "any, 0"; "c, 1 or 2"; "3, 3"; "other, 1 to 3"
unfoldable pub table_of : ℕ → ℕ → Move
table_of a c = cond (eqb c 0) started (cond (eqb c a && ltb c 3) held (cond (eqb c a && eqb c 3) whole out_of_step))

unfoldable pub move_number : Move → ℕ
move_number started = 1
move_number held = 2
move_number whole = 3
move_number out_of_step = 32

unfoldable pub moved_head : Move → Head → Head
moved_head started h = started_head h
moved_head held h = held_head h
moved_head whole h = whole_head h
moved_head out_of_step h = dropped_head h
