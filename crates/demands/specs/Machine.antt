-- A machine as its user sees it: for each call an answer, and the bytes that it leaves of what was lent to it. Nothing here
-- says how a machine keeps what it knows.
--
--   Question        what a call that only reads asks of a lent state; asked_of: the address that it is about
--   Call            a call on a lent state; those that only read are one case, `asks q`, in all that is said of changes, and what they
--                   answer goes by the question
--   Bare            a bare call, numbers in and numbers out
--   bare_number, bare_values     what a bare call gives by the definitions of the standard
--   Board           what board text gives: number, text, and what was lent, afterwards
--   Details         what the packet call tells beside its number
--   Machine         answer and state after each call; what a packet's answer carries; the part that ask shows of an address; board text;
--                   the group writer; the bare calls
--   question_answer  what a call that only reads answers, by the same definitions as ours
--   ours            the definitions that the contracts of the crates table, asking and adapter cite
--   Bytes s         a list of bytes
--   run m h s       the state after a list of calls, in order
use Rattle.std.specs.Prelude.{List, [], ◌∷◌, ℕ, ◌<◌, length, get_or}
use Rattle.bare.specs.Bare.{header_read, header_within, header_written, word_read, word_written, type_read, type_written}
use Rattle.plain.specs.Plain.{header_plain}
use Rattle.head.specs.declared.Wish.{Wish}
use Rattle.table.specs.Calls.{start_answer, start_after, follow_answer, follow_after, leave_answer, leave_after, end_answer, end_after, set_answer, set_after}
use Rattle.asking.specs.Asking.{asked, ask_part, board_text}
use Rattle.adapter.specs.Calls.{packet_answered, packet_answer, packet_after, write_answer, write_after}

-- by the address
pub data Question : Type 0 where
  ask : ℕ → Question

unfoldable pub asked_of : Question → ℕ
asked_of (ask a) = a

pub data Call : Type 0 where
  start : Call
  follow : Wish → Call
  leave : ℕ → Call
  -- an image
  packet : List ℕ → Call
  subframe_end : Call
  -- the setting: the greatest number of flips to correct in a packet's header
  set_flips : ℕ → Call
  -- any call that only reads
  asks : Question → Call

-- the single readers and writers of sections 1 and 2
pub data Bare : Type 0 where
  read_header : ℕ → Bare
  -- a header, and the setting
  read_within : ℕ → ℕ → Bare
  -- the same without a table
  read_plain : ℕ → ℕ → Bare
  -- address, index
  write_header : ℕ → ℕ → Bare
  read_word : ℕ → Bare
  write_word : ℕ → Bare
  read_type : ℕ → Bare
  write_type : ℕ → Bare

-- "Board text is lent a state and a notice."
pub record Board : Type 0 where
  pub number : ℕ
  pub text : List ℕ
  pub state : List ℕ
  pub notice : List ℕ

-- document 02, Ask 6: with 32 the index awaited and the index that came; with 31 the word's place
pub record Details : Type 0 where
  pub detail : ℕ
  pub came : ℕ

pub record Machine : Type 0 where
  pub answer : Call → List ℕ → ℕ
  pub after : Call → List ℕ → List ℕ
  -- image, state
  pub details : List ℕ → List ℕ → Details
  pub shown : ℕ → List ℕ → List ℕ
  -- address, notice, state
  pub board : ℕ → List ℕ → List ℕ → Board
  -- address, protection, message, output
  pub writes : ℕ → ℕ → List ℕ → List ℕ → ℕ
  pub written : ℕ → ℕ → List ℕ → List ℕ → List ℕ
  -- a bare call's number, and the values beside it
  pub bare : Bare → ℕ
  pub values : Bare → List ℕ

unfoldable pub question_answer : Question → List ℕ → ℕ
question_answer (ask a) s = (asked s a).number

unfoldable pub our_answer : Call → List ℕ → ℕ
our_answer start s = start_answer s
our_answer (follow w) s = follow_answer s w
our_answer (leave a) s = leave_answer s a
our_answer (packet image) s = packet_answer s image
our_answer subframe_end s = end_answer s
our_answer (set_flips most) s = set_answer s most
our_answer (asks q) s = question_answer q s

unfoldable pub our_after : Call → List ℕ → List ℕ
our_after start s = start_after s
our_after (follow w) s = follow_after s w
our_after (leave a) s = leave_after s a
our_after (packet image) s = packet_after s image
our_after subframe_end s = end_after s
our_after (set_flips most) s = set_after s most
our_after (asks q) s = s

-- the bare calls by the standard's definitions: the number, and beside it
unfoldable pub bare_number : Bare → ℕ
bare_number (read_header n) = (header_read n).number
bare_number (read_within n most) = (header_within n most).number
bare_number (read_plain n most) = (header_plain n most).number
bare_number (write_header a i) = (header_written a i).number
bare_number (read_word n) = (word_read n).number
bare_number (write_word i) = (word_written i).number
bare_number (read_type b) = (type_read b).number
bare_number (write_type b) = (type_written b).number

-- of each header reader address, index and flips; the header; information and flips; the word; type and flips; the type
unfoldable pub bare_values : Bare → List ℕ
bare_values (read_header n) = (header_read n).address ∷ (header_read n).index ∷ (header_read n).flips ∷ []
bare_values (read_within n most) = (header_within n most).address ∷ (header_within n most).index ∷ (header_within n most).flips ∷ []
bare_values (read_plain n most) = (header_plain n most).address ∷ (header_plain n most).index ∷ (header_plain n most).flips ∷ []
bare_values (write_header a i) = (header_written a i).value ∷ []
bare_values (read_word n) = (word_read n).information ∷ (word_read n).flips ∷ []
bare_values (write_word i) = (word_written i).value ∷ []
bare_values (read_type b) = (type_read b).value ∷ (type_read b).flips ∷ []
bare_values (write_type b) = (type_written b).value ∷ []

unfoldable pub our_board : ℕ → List ℕ → List ℕ → Board
our_board a notice s = record { number = (asked s a).number; text = board_text s a notice; state = s; notice = notice }

unfoldable pub our_details : List ℕ → List ℕ → Details
our_details image s = record { detail = (packet_answered s image).detail; came = (packet_answered s image).came }

abbrev pub ours : Machine
ours = record {
  answer = our_answer;
  after = our_after;
  details = our_details;
  shown = λ a s. ask_part s a;
  board = our_board;
  writes = λ a p m o. write_answer a p (length m) (length o);
  written = write_after;
  bare = bare_number;
  values = bare_values;
}

abbrev pub Bytes : List ℕ → Type 0
Bytes s = (k : ℕ) → get_or s k 0 < 256

unfoldable pub run : Machine → List Call → List ℕ → List ℕ
run m [] s = s
run m (x ∷ h) s = run m h (m.after x s)
