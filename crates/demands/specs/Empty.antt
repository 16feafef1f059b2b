-- The empty versions of document 01, section 9, as machines. Each is to be refuted by the demands themselves.
--
--   fixed n m     one fixed answer n to every call, whatever m leaves and shows; refusing everything is one such
--   deaf n        ours, but every packet is answered n and changes nothing
--   untouching    our answers, and nothing is ever touched
--   nodding       ours for the first packet of a group; the others are answered 2, 2, 3 and change nothing
--   still         ours, but a subframe's end changes nothing: the age stands still
--   aging         ours, but each packet makes all groups a subframe older: the age is invented
use Rattle.std.specs.Prelude.{List, ℕ, zero, suc}
use Rattle.bare.specs.Bare.{header_read}
use Rattle.image.specs.Image.{header_of}
use Rattle.table.specs.Calls.{start_after, follow_after, leave_after, end_after, set_after}
use Rattle.adapter.specs.Calls.{packet_answer, packet_after}
use Rattle.demands.specs.Machine.{Call, start, follow, leave, packet, subframe_end, set_flips, asks, Machine, ours, our_answer}

-- ours, but for what is answered and left
abbrev pub but : (Call → List ℕ → ℕ) → (Call → List ℕ → List ℕ) → Machine
but answer after =
    record {
      answer = answer;
      after = after;
      details = ours.details;
      shown = ours.shown;
      board = ours.board;
      writes = ours.writes;
      written = ours.written;
      bare = ours.bare;
      values = ours.values;
    }

abbrev pub fixed : ℕ → Machine → Machine
fixed n m =
    record {
      answer = λ x s. n;
      after = m.after;
      details = m.details;
      shown = m.shown;
      board = m.board;
      writes = λ a p message output. n;
      written = m.written;
      bare = λ x. n;
      values = m.values;
    }

-- another answer to a packet, and another state after it; the same of a subframe's end
unfoldable pub answer_to : (List ℕ → List ℕ → ℕ) → Call → List ℕ → ℕ
answer_to f start s = our_answer start s
answer_to f (follow w) s = our_answer (follow w) s
answer_to f (leave a) s = our_answer (leave a) s
answer_to f (packet image) s = f s image
answer_to f subframe_end s = our_answer subframe_end s
answer_to f (set_flips most) s = our_answer (set_flips most) s
answer_to f (asks q) s = our_answer (asks q) s

unfoldable pub leaving : (List ℕ → List ℕ → List ℕ) → (List ℕ → List ℕ) → Call → List ℕ → List ℕ
leaving f g start s = start_after s
leaving f g (follow w) s = follow_after s w
leaving f g (leave a) s = leave_after s a
leaving f g (packet image) s = f s image
leaving f g subframe_end s = g s
leaving f g (set_flips most) s = set_after s most
leaving f g (asks q) s = s

abbrev pub deaf : ℕ → Machine
deaf n = but (answer_to (λ s image. n)) (leaving (λ s image. s) end_after)

abbrev pub untouching : Machine
untouching = but our_answer (λ x s. s)

unfoldable pub nods : ℕ → ℕ → ℕ
nods zero n = n
nods (suc zero) n = 2
nods (suc (suc zero)) n = 2
nods (suc (suc (suc c))) n = 3

unfoldable pub leaves : ℕ → List ℕ → List ℕ → List ℕ
leaves zero after s = after
leaves (suc c) after s = s

abbrev pub index_in : List ℕ → ℕ
index_in image = (header_read (header_of image)).index

abbrev pub nodding : Machine
nodding =
    but (answer_to (λ s image. nods (index_in image) (packet_answer s image)))
    (leaving (λ s image. leaves (index_in image) (packet_after s image) s) end_after)

abbrev pub still : Machine
still = but our_answer (leaving packet_after (λ s. s))

abbrev pub aging : Machine
aging = but our_answer (leaving (λ s image. end_after (packet_after s image)) end_after)
