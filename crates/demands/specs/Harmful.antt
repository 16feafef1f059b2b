-- Machines that would harm a board, each ours but for one thing. Each is to be refuted by the demands themselves. Another answer to ask is
-- one to that question alone (`asking`).
--
--   torn           while index 1 to 3 is awaited, ask shows 360 zeros and still answers 5
--   silent         damage is answered 0, drops the open group and marks no gap
--   lenient        a follow of address 0 is done; long: an image of 95 bytes is; misnumbered: a subframe's end is answered 3
--   clinging       leave answers 0 and does nothing; half_started: start clears the rooms and keeps the heads
--   knowing        ask of an address that is not followed answers 5
--   bold           board text shows a doubtful group
--   greedy         an accepted follow fills every other free slot with addresses that nobody asked for
--   leaking        the slot that is left goes to another address
--   brittle        a subframe's end while the first slot is free leaves a bad state
--   trusting, hasty     right from a follow on: on a slot with dirt in its room, as only a hand makes it, ask answers 5 with the gap marked, and
--                  index 1 is answered 3
--   babbling       ask refused shows a byte; boasting: board text's number is always 5
--   startled       a control packet drops the group of its address; indulgent: one of type C7 does not
--   swapping       32 carries the two indices exchanged; lingering: they are told with every number
--   mute           every bare call gives 33 and 0
--   timid          the plain header reader never tries three flips
--   sparing        the writer sets the spare bit of the first image
--   unheeding      packets are read at 3, whatever the setting; severe: one refused with 49 drops the group of its address
--   forgetful      leave puts 3; harsh: start puts 0; stubborn: the setting's call answers 0 and puts nothing
use Rattle.std.specs.Prelude.{Bool, cond, not, ◌&&◌, ◌||◌, List, [], ◌∷◌, ℕ, zero, suc, ◌+◌, ◌-◌, ltb, eqb, length, get_or, set}
use Rattle.bits.specs.Bits.{blank}
use Rattle.bits.specs.Rows.{done}
use Rattle.slot.specs.Slot.{room_size, head_of, with_head, with_unfinished, with_stored, free}
use Rattle.head.specs.Head.{wish_of}
use Rattle.head.specs.declared.Head.{Head}
use Rattle.head.specs.declared.Wish.{Wish}
use Rattle.table.specs.State.{state_size, setting, with_setting, slots, slot_at, with_slot, find}
use Rattle.table.specs.Calls.{start_answer, start_after, follow_answer, follow_after, leave_answer, leave_after, end_answer, end_after, set_answer, set_after}
use Rattle.asking.specs.Asking.{asked, ask_part}
use Rattle.faults.specs.Faults.{number_drops}
use Rattle.group.specs.Group.{slot_dropped}
use Rattle.adapter.specs.Calls.{address_of, packet_answer, packet_after, write_after}
use Rattle.demands.specs.Machine.{Question, ask, Call, start, follow, leave, packet, subframe_end, set_flips, asks, Board, Details, Machine, ours, question_answer, our_answer, our_after, our_details, our_board, run, Bare, read_header, read_within, read_plain, write_header, read_word, write_word, read_type, write_type, bare_number, bare_values}
use Rattle.demands.specs.Rows.{index_of}
use Rattle.demands.specs.Empty.{but}

-- ---- one thing by each call, and ours but for one part

unfoldable pub by_call : {A : Type 0} → (List ℕ → A) → (Wish → List ℕ → A) → (ℕ → List ℕ → A) → (List ℕ → List ℕ → A) → (List ℕ → A)
    → (ℕ → List ℕ → A) → (Question → List ℕ → A) → Call → List ℕ → A
by_call st fo le pa en se qu start s = st s
by_call st fo le pa en se qu (follow w) s = fo w s
by_call st fo le pa en se qu (leave a) s = le a s
by_call st fo le pa en se qu (packet image) s = pa image s
by_call st fo le pa en se qu subframe_end s = en s
by_call st fo le pa en se qu (set_flips most) s = se most s
by_call st fo le pa en se qu (asks q) s = qu q s

-- another answer to follow, packet, subframe end and what only reads
abbrev answering : (Wish → List ℕ → ℕ) → (List ℕ → List ℕ → ℕ) → (List ℕ → ℕ) → (Question → List ℕ → ℕ) → Call → List ℕ → ℕ
answering fo pa en qu = by_call start_answer fo (λ a s. leave_answer s a) pa en (λ most s. set_answer s most) qu

abbrev follows : Wish → List ℕ → ℕ
follows w s = follow_answer s w

abbrev takes : List ℕ → List ℕ → ℕ
takes image s = packet_answer s image

-- another answer to ask
unfoldable pub asking : (ℕ → List ℕ → ℕ) → Question → List ℕ → ℕ
asking f (ask a) s = f a s

-- another state after start, follow, leave, packet and subframe end
abbrev leaving : (List ℕ → List ℕ) → (Wish → List ℕ → List ℕ) → (ℕ → List ℕ → List ℕ) → (List ℕ → List ℕ → List ℕ) → (List ℕ → List ℕ)
    → Call → List ℕ → List ℕ
leaving st fo le pa en = by_call st fo le pa en (λ most s. set_after s most) (λ q s. s)

abbrev followed : Wish → List ℕ → List ℕ
followed w s = follow_after s w

abbrev left : ℕ → List ℕ → List ℕ
left a s = leave_after s a

abbrev arrived : List ℕ → List ℕ → List ℕ
arrived image s = packet_after s image

abbrev showing : (ℕ → List ℕ → List ℕ) → (ℕ → List ℕ → List ℕ → Board) → Machine
showing shown board =
    record {
      answer = our_answer;
      after = our_after;
      details = ours.details;
      shown = shown;
      board = board;
      writes = ours.writes;
      written = ours.written;
      bare = ours.bare;
      values = ours.values;
    }

-- another telling of what a packet's number carries, another writer, other bare calls
abbrev speaking : (List ℕ → List ℕ → Details) → (ℕ → ℕ → List ℕ → List ℕ → List ℕ) → (Bare → ℕ) → (Bare → List ℕ) → Machine
speaking details written bare values =
    record {
      answer = our_answer;
      after = our_after;
      details = details;
      shown = ours.shown;
      board = ours.board;
      writes = ours.writes;
      written = written;
      bare = bare;
      values = values;
    }

-- the slot of an address
abbrev slot_of : List ℕ → ℕ → List ℕ
slot_of s a = slot_at (find s a) s

-- ---- what is shown, and what is answered

abbrev pub torn : Machine
torn =
    showing (λ a s. cond (ltb 0 (head_of (slot_of s a)).awaited && eqb (asked s a).number 5) (blank 360) (ask_part s a)) our_board

abbrev pub babbling : Machine
babbling = showing (λ a s. cond (ltb 7 (asked s a).number) (1 ∷ []) (ask_part s a)) our_board

abbrev pub bold : Machine
bold =
    showing (λ a s. ask_part s a)
    (λ a notice s. record {
      number = (asked s a).number;
      text = cond (eqb (asked s a).number 5 || eqb (asked s a).number 6) (ask_part s a) notice;
      state = s;
      notice = notice;
    })

abbrev pub boasting : Machine
boasting = showing (λ a s. ask_part s a) (λ a notice s. record { number = 5; text = (our_board a notice s).text; state = s; notice = notice })

-- a dropped group without a gap
abbrev quiet_head : Head → Head
quiet_head h = record {
  wish = h.wish;
  age = h.age;
  awaited = 0;
  group = h.group;
  gap = h.gap;
}

abbrev quietly : List ℕ → List ℕ → List ℕ
quietly image s =
    let k = find s (address_of image) in
    cond (number_drops (packet_answer s image))
    (with_slot k (with_head (quiet_head (head_of (slot_at k s))) (with_unfinished (blank room_size) (slot_at k s))) s) (packet_after s image)

abbrev pub silent : Machine
silent =
    but (answering follows (λ image s. cond (number_drops (packet_answer s image)) 0 (packet_answer s image)) end_answer question_answer)
    (leaving start_after followed left quietly end_after)

abbrev pub lenient : Machine
lenient = but (answering (λ w s. cond (eqb w.address 0) 0 (follow_answer s w)) takes end_answer question_answer) our_after

abbrev pub long : Machine
long = but (answering follows (λ image s. cond (eqb (length image) 95) 0 (packet_answer s image)) end_answer question_answer) our_after

abbrev pub misnumbered : Machine
misnumbered = but (answering follows takes (λ s. 3) question_answer) our_after

abbrev pub knowing : Machine
knowing = but (answering follows takes end_answer (asking (λ a s. cond (eqb (asked s a).number 27) 5 (asked s a).number))) our_after

-- ---- what is left

abbrev pub clinging : Machine
clinging = but our_answer (leaving start_after followed (λ a s. s) arrived end_after)

unfoldable pub roomless : ℕ → ℕ → List ℕ → List ℕ
roomless zero k s = s
roomless (suc n) k s = roomless n (suc k) (with_slot k (with_stored (blank room_size) (with_unfinished (blank room_size) (slot_at k s))) s)

abbrev pub half_started : Machine
half_started = but our_answer (leaving (roomless slots 0) followed left arrived end_after)

abbrev pub crowd : ℕ → ℕ → List Call
crowd p l =
    follow (wish_of 501 p l) ∷ follow (wish_of 502 p l) ∷ follow (wish_of 503 p l) ∷ follow (wish_of 504 p l)
    ∷ follow (wish_of 505 p l) ∷ follow (wish_of 506 p l) ∷ follow (wish_of 507 p l) ∷ follow (wish_of 508 p l)
    ∷ follow (wish_of 509 p l) ∷ follow (wish_of 510 p l) ∷ follow (wish_of 511 p l) ∷ follow (wish_of 512 p l)
    ∷ follow (wish_of 513 p l) ∷ follow (wish_of 514 p l) ∷ follow (wish_of 515 p l) ∷ follow (wish_of 516 p l)
    ∷ []

abbrev pub greedy : Machine
greedy =
    but our_answer (leaving start_after (λ w s. done (follow_answer s w) (run ours (crowd w.protection w.limit) (follow_after s w)) s) left arrived end_after)

abbrev pub leaking : Machine
leaking = but our_answer (leaving start_after followed (λ a s. done (leave_answer s a) (follow_after (leave_after s a) (wish_of 500 0 1)) s) arrived end_after)

abbrev pub brittle : Machine
brittle = but our_answer (leaving start_after followed left arrived (λ s. cond (free (slot_at 0 s)) (1 ∷ blank (state_size - 1)) (end_after s)))

-- ---- right only from a follow on

-- nothing is held, and yet the unfinished room is not 0
abbrev pub dirty : List ℕ → Bool
dirty x = not (eqb (get_or x 0 0) 0) && eqb (head_of x).awaited 0

abbrev pub trusting : Machine
trusting = but (answering follows takes end_answer (asking (λ a s. cond (dirty (slot_of s a)) 5 (asked s a).number))) our_after

abbrev pub hasty : Machine
hasty =
    but
    (answering follows (λ image s. cond (dirty (slot_of s (address_of image)) && eqb (index_of image) 1) 3 (packet_answer s image)) end_answer question_answer)
    our_after

-- ---- the setting

abbrev pub unheeding : Machine
unheeding =
    but (answering follows (λ image s. packet_answer (with_setting 3 s) image) end_answer question_answer)
    (leaving start_after followed left (λ image s. with_setting (setting s) (packet_after (with_setting 3 s) image)) end_after)

-- a packet answered n drops the group of its address
abbrev drops_at : ℕ → Machine
drops_at n =
    but our_answer
    (leaving start_after followed left
    (λ image s. let k = find s (address_of image) in
    cond (eqb (packet_answer s image) n) (with_slot k (slot_dropped (slot_at k s)) s) (packet_after s image))
    end_after)

abbrev pub severe : Machine
severe = drops_at 49

abbrev pub forgetful : Machine
forgetful = but our_answer (leaving start_after followed (λ a s. done (leave_answer s a) (with_setting 3 (leave_after s a)) s) arrived end_after)

abbrev pub harsh : Machine
harsh = but our_answer (leaving (λ s. done (start_answer s) (with_setting 0 (start_after s)) s) followed left arrived end_after)

abbrev pub stubborn : Machine
stubborn = but our_answer (by_call start_after followed left arrived end_after (λ most s. s) (λ q s. s))

-- ---- control packets, and type C7

abbrev pub startled : Machine
startled = drops_at 29

abbrev pub indulgent : Machine
indulgent = but our_answer (leaving start_after followed left (λ image s. cond (eqb (packet_answer s image) 47) s (packet_after s image)) end_after)

-- ---- what a packet's answer carries

abbrev telling : (List ℕ → List ℕ → Details) → Machine
telling details = speaking details ours.written ours.bare ours.values

abbrev pub swapping : Machine
swapping = telling (λ image s. record { detail = (our_details image s).came; came = (our_details image s).detail })

abbrev pub lingering : Machine
lingering = telling (λ image s. record { detail = (head_of (slot_of s (address_of image))).awaited; came = index_of image })

-- ---- the bare calls, and the writer

abbrev pub mute : Machine
mute = speaking ours.details ours.written (λ x. 33) (λ x. 0 ∷ [])

unfoldable pub at_most_two : Bare → Bare
at_most_two (read_header n) = read_header n
at_most_two (read_within n most) = read_within n most
at_most_two (read_plain n most) = read_plain n (cond (ltb 2 most) 2 most)
at_most_two (write_header a i) = write_header a i
at_most_two (read_word n) = read_word n
at_most_two (write_word i) = write_word i
at_most_two (read_type b) = read_type b
at_most_two (write_type b) = write_type b

abbrev pub timid : Machine
timid = speaking ours.details ours.written (λ x. bare_number (at_most_two x)) (λ x. bare_values (at_most_two x))

abbrev pub sparing : Machine
sparing =
    speaking ours.details (λ a p m o. let w = write_after a p m o in set w 93 (get_or w 93 0 + 128)) ours.bare ours.values
