-- One followed address as sections 4 and 5 of document 01 and Ask 6 of document 02 have it: its head, the bytes of its unfinished group and of its
-- last whole one; and two numbers, how many packets a group has and how many of them, from the first on, make it whole. No
-- place of a byte is told here.
--
--   Event                 what reaches a followed address: a readable data packet, a refused packet, a control packet among them, the end
--                         of a subframe
--   begun c u             what a packet with place c is joined to: nothing where c is 0, otherwise the unfinished group u
--   after, answer         what an event changes, and its answer
--   followed w            as follow leaves it
--   run, handed_out        a list of events in order: what is left, and what was handed out on the way
use Rattle.std.specs.Prelude.{cond, List, [], ◌∷◌, ◌++◌, ℕ, zero, suc, ◌%◌, eqb}
use Rattle.faults.specs.Faults.{Fault, number, drops}
use Rattle.head.specs.Head.{new_head, dropped_head, aged_head}
use Rattle.head.specs.Move.{Move, started, held, whole, out_of_step, per_of, needs_of, move_of, move_number, moved_head}
use Rattle.head.specs.declared.Head.{Head}
use Rattle.head.specs.declared.Wish.{Wish}

pub record Followed : Type 0 where
  pub per : ℕ
  pub needs : ℕ
  pub head : Head
  pub unfinished : List ℕ
  pub last : List ℕ

pub data Event : Type 0 where
  packet : ℕ → List ℕ → Event
  refused : Fault → Event
  ended : Event

-- "begins anew"
unfoldable pub begun : ℕ → List ℕ → List ℕ
begun zero unfinished = []
begun (suc c) unfinished = unfinished

-- section 4's table, the bytes, c the packet's place in its group: "begins anew", "joined on", "becomes the last whole group",
-- "cleared"
unfoldable pub joined : Move → ℕ → List ℕ → List ℕ → List ℕ
joined started c unfinished bytes = begun c unfinished ++ bytes
joined held c unfinished bytes = begun c unfinished ++ bytes
joined whole c unfinished bytes = []
joined out_of_step c unfinished bytes = []

unfoldable pub last_of : Move → ℕ → List ℕ → List ℕ → List ℕ → List ℕ
last_of started c unfinished bytes last = last
last_of held c unfinished bytes last = last
last_of whole c unfinished bytes last = begun c unfinished ++ bytes
last_of out_of_step c unfinished bytes last = last

unfoldable pub moved : Move → ℕ → List ℕ → Followed → Followed
moved mv c bytes f = record {
  per = f.per;
  needs = f.needs;
  head = moved_head mv f.head;
  unfinished = joined mv c f.unfinished bytes;
  last = last_of mv c f.unfinished bytes f.last;
}

-- 28, 47, 30, 31 and 32 "clear the slot's unfinished group, mark its gap and make it await 0"; nothing moves by a control packet, 29
unfoldable pub dropped : Followed → Followed
dropped f = record { per = f.per; needs = f.needs; head = dropped_head f.head; unfinished = []; last = f.last }

unfoldable pub aged : Followed → Followed
aged f = record { per = f.per; needs = f.needs; head = aged_head f.head; unfinished = f.unfinished; last = f.last }

unfoldable pub after : Event → Followed → Followed
after (packet c bytes) f = moved (move_of f.per f.needs f.head.awaited c) (c % f.per) bytes f
after (refused r) f = cond (drops r) (dropped f) f
after ended f = aged f

unfoldable pub answer : Event → Followed → ℕ
answer (packet c bytes) f = move_number (move_of f.per f.needs f.head.awaited c)
answer (refused r) f = number r
answer ended f = 0

unfoldable pub followed : Wish → Followed
followed w =
    let head = new_head w in
    record { per = per_of head; needs = needs_of head; head = head; unfinished = []; last = [] }

unfoldable pub run : List Event → Followed → Followed
run [] f = f
run (e ∷ es) f = run es (after e f)

-- "A group is handed out by answer 3 and by nothing else": the last whole group after each such answer.
unfoldable pub handed_out : List Event → Followed → List (List ℕ)
handed_out [] f = []
handed_out (e ∷ es) f = cond (eqb (answer e f) 3) ((after e f).last ∷ handed_out es (after e f)) (handed_out es (after e f))
