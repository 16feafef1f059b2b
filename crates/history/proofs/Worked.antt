-- Worked examples, each by computation. Packet c of group i is the byte 4 * i + c, as in `Sharp`. The address is followed with limit 2.
--
--   broken                      packets 1 and 2 of group 0 are lost, packet 1 of group 1 is damaged, group 2 arrives whole
--   in_order, broken-recovers   no more than three are lost in a row; group 2 is handed out, and nothing else
--   midway                      followed in the middle of group 0
--   midway-in-order, midway-hands-out    that is in order too; group 1 is handed out, the first that is whole
--   mixed                       group 0, with control packets between its packets and behind them
--   mixed-in-order, control-between    that is in order; group 0 is handed out, and nothing else
--   out-of-step-clears          after packet 0, packet 2 is out of step: nothing is held any more
--   shown_along h f              what ask shows after each arrival
--   silence-shows               a whole group, then only ends of subframes: fresh after one, stale after two
--   damage-shows                a damaged packet: doubtful until the next whole group, then fresh
--   early-start-shows           a group begun before the last was whole: doubtful until it is whole, then fresh
--   lost-shows                  a lost packet shows when the next one arrives: fresh before, doubtful after
--   partial-shows               three packets of the next group, and none missing: fresh
--   control-shows               control packets: fresh as before; a group begun before the last was whole is a gap behind one as well
--   no-group-shows              nothing yet, though more subframes end than the limit
--   called-*                    by the transcript alone, newest first: 29 is no gap; a 1 after a 1 is one, with 29 between them as well;
--                               47 is one; a 1 after a 3 is none
--   single, singles             an address whose groups are one packet each; packets of it, with runs of more than three lost
--   singles-in-order            that is in order, whatever was lost
--   singles-hand-out            each readable packet is handed out by itself
--   singles-show                a lost packet leaves no mark, a damaged one does
--   single-begins-anew          what was held before is not joined to a group of one
--
-- Assumes nothing.
use mathlib.Core.Path.{◌≡◌, refl}
use mathlib.Core.List.{List, [], ◌∷◌, ◌++◌}
use Prim.Native.Nat.{ℕ}
use Rattle.head.specs.Head.{wish_of, ask_number}
use Rattle.head.specs.Move.{per_of, needs_of, row_of, move_of, move_number, moved_head}
use Rattle.faults.specs.Faults.{type_unreadable, word_unreadable, number_drops}
use Rattle.history.specs.Followed.{Followed, begun, joined, last_of, moved, dropped, aged, after, answer, followed, run, handed_out}
use Rattle.history.specs.Sent.{Arrival, came, damaged, control, subframe_end, event, events, InOrder}
use Rattle.history.specs.Transcript.{answered, is_whole, any_whole, since_whole, ends, before, marks, marked, called}
use Rattle.history.proofs.Laws.{is_next, ordered, ordered-holds}
use Rattle.history.proofs.Sharp.{sent}

unfoldable whole_group : ℕ → List Arrival
whole_group i = came i 0 ∷ came i 1 ∷ came i 2 ∷ came i 3 ∷ []

-- ---- what is handed out

unfoldable broken : List Arrival
broken = came 0 0 ∷ came 0 3 ∷ came 1 0 ∷ damaged 1 1 word_unreadable ∷ came 1 2 ∷ came 1 3 ∷ whole_group 2

in_order : InOrder 4 3 0 broken
unfolding broken whole_group ordered is_next
in_order = ordered-holds 4 3 0 broken refl

broken-recovers : handed_out (events sent broken) (followed (wish_of 17 0 2)) ≡ (8 ∷ 9 ∷ 10 ∷ 11 ∷ []) ∷ []
unfolding broken whole_group sent events event followed per_of needs_of handed_out after answer moved begun joined last_of dropped move_of row_of move_number moved_head
broken-recovers = refl

unfoldable midway : List Arrival
midway = came 0 2 ∷ came 0 3 ∷ whole_group 1

midway-in-order : InOrder 4 3 2 midway
unfolding midway whole_group ordered is_next
midway-in-order = ordered-holds 4 3 2 midway refl

midway-hands-out : handed_out (events sent midway) (followed (wish_of 17 0 2)) ≡ (4 ∷ 5 ∷ 6 ∷ 7 ∷ []) ∷ []
unfolding midway whole_group sent events event followed per_of needs_of handed_out after answer moved begun joined last_of move_of row_of move_number moved_head
midway-hands-out = refl

unfoldable mixed : List Arrival
mixed = came 0 0 ∷ control ∷ came 0 1 ∷ control ∷ control ∷ came 0 2 ∷ control ∷ came 0 3 ∷ control ∷ []

mixed-in-order : InOrder 4 3 0 mixed
unfolding mixed ordered is_next
mixed-in-order = ordered-holds 4 3 0 mixed refl

control-between : handed_out (events sent mixed) (followed (wish_of 17 0 2)) ≡ (0 ∷ 1 ∷ 2 ∷ 3 ∷ []) ∷ []
unfolding mixed sent events event followed per_of needs_of handed_out after answer moved begun joined last_of move_of row_of move_number moved_head
control-between = refl

-- seen in no group that is handed out, since the next begins anew
out-of-step-clears : (run (events sent (came 0 0 ∷ came 0 2 ∷ [])) (followed (wish_of 17 0 2))).unfinished ≡ []
unfolding sent events event followed per_of needs_of run after moved begun joined move_of row_of moved_head
out-of-step-clears = refl

-- ---- what ask shows

unfoldable shown_along : List Arrival → Followed → List ℕ
shown_along [] f = []
shown_along (a ∷ h) f = ask_number (after (event sent a) f).head ∷ shown_along h (after (event sent a) f)

silence-shows : shown_along (whole_group 0 ++ (subframe_end ∷ subframe_end ∷ [])) (followed (wish_of 17 0 2)) ≡ 4 ∷ 4 ∷ 4 ∷ 5 ∷ 5 ∷ 7 ∷ []
unfolding whole_group shown_along event followed per_of needs_of after moved aged move_of row_of moved_head ask_number
silence-shows = refl

damage-shows : shown_along (whole_group 0 ++ (damaged 1 0 type_unreadable ∷ came 1 1 ∷ whole_group 2)) (followed (wish_of 17 0 2))
    ≡ 4 ∷ 4 ∷ 4 ∷ 5 ∷ 6 ∷ 6 ∷ 6 ∷ 6 ∷ 6 ∷ 5 ∷ []
unfolding whole_group shown_along event followed per_of needs_of after moved dropped move_of row_of moved_head ask_number
damage-shows = refl

early-start-shows : shown_along (whole_group 0 ++ (came 1 0 ∷ came 1 1 ∷ whole_group 2)) (followed (wish_of 17 0 2))
    ≡ 4 ∷ 4 ∷ 4 ∷ 5 ∷ 5 ∷ 5 ∷ 6 ∷ 6 ∷ 6 ∷ 5 ∷ []
unfolding whole_group shown_along event followed per_of needs_of after moved move_of row_of moved_head ask_number
early-start-shows = refl

lost-shows : shown_along (whole_group 0 ++ (came 1 0 ∷ subframe_end ∷ came 1 2 ∷ [])) (followed (wish_of 17 0 2))
    ≡ 4 ∷ 4 ∷ 4 ∷ 5 ∷ 5 ∷ 5 ∷ 6 ∷ []
unfolding whole_group shown_along event followed per_of needs_of after moved aged move_of row_of moved_head ask_number
lost-shows = refl

partial-shows : shown_along (whole_group 0 ++ (came 1 0 ∷ came 1 1 ∷ subframe_end ∷ came 1 2 ∷ [])) (followed (wish_of 17 0 2))
    ≡ 4 ∷ 4 ∷ 4 ∷ 5 ∷ 5 ∷ 5 ∷ 5 ∷ 5 ∷ []
unfolding whole_group shown_along event followed per_of needs_of after moved aged move_of row_of moved_head ask_number
partial-shows = refl

-- an early start behind a control packet is a gap
control-shows : shown_along (whole_group 0 ++ (control ∷ came 1 0 ∷ control ∷ came 2 0 ∷ [])) (followed (wish_of 17 0 2))
    ≡ 4 ∷ 4 ∷ 4 ∷ 5 ∷ 5 ∷ 5 ∷ 5 ∷ 6 ∷ []
unfolding whole_group shown_along event followed per_of needs_of after moved move_of row_of moved_head ask_number
control-shows = refl

no-group-shows : shown_along (came 0 0 ∷ subframe_end ∷ subframe_end ∷ subframe_end ∷ []) (followed (wish_of 17 0 2)) ≡ 4 ∷ 4 ∷ 4 ∷ 4 ∷ []
unfolding shown_along event followed per_of needs_of after moved aged move_of row_of moved_head ask_number
no-group-shows = refl

-- ---- what the transcript calls for

called-control : called 2 (answered 29 ∷ answered 3 ∷ []) ≡ 5
unfolding called any_whole is_whole since_whole ends marked marks number_drops before
called-control = refl

called-early : called 2 (answered 1 ∷ answered 29 ∷ answered 1 ∷ answered 3 ∷ []) ≡ 6
unfolding called any_whole is_whole since_whole ends marked marks number_drops before
called-early = refl

called-reserved : called 2 (answered 47 ∷ answered 3 ∷ []) ≡ 6
unfolding called any_whole is_whole since_whole ends marked marks number_drops before
called-reserved = refl

called-next : called 2 (answered 1 ∷ answered 29 ∷ answered 3 ∷ []) ≡ 5
unfolding called any_whole is_whole since_whole ends marked marks number_drops before
called-next = refl

-- ---- groups of one packet

unfoldable single : ℕ → List ℕ → Followed
single awaited unfinished = record {
  per = 1;
  needs = 1;
  head = record { wish = wish_of 17 0 2; age = 0; awaited = awaited; group = 0; gap = 0 };
  unfinished = unfinished;
  last = [];
}

unfoldable singles : List Arrival
singles = came 0 0 ∷ came 5 0 ∷ damaged 6 0 word_unreadable ∷ came 60 0 ∷ []

singles-in-order : InOrder 1 0 0 singles
unfolding singles ordered is_next
singles-in-order = ordered-holds 1 0 0 singles refl

singles-hand-out : handed_out (events sent singles) (single 0 []) ≡ (0 ∷ []) ∷ (20 ∷ []) ∷ (240 ∷ []) ∷ []
unfolding single singles sent events event handed_out after answer moved begun joined last_of dropped move_of row_of move_number moved_head
singles-hand-out = refl

singles-show : shown_along singles (single 0 []) ≡ 5 ∷ 5 ∷ 6 ∷ 5 ∷ []
unfolding single singles shown_along event after moved dropped move_of row_of moved_head ask_number
singles-show = refl

single-begins-anew : handed_out (events sent (came 3 0 ∷ [])) (single 2 (98 ∷ 99 ∷ [])) ≡ (12 ∷ []) ∷ []
unfolding single sent events event handed_out after answer moved begun joined last_of move_of row_of move_number moved_head
single-begins-anew = refl
