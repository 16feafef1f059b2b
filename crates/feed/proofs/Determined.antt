-- For each `feed_…` call: any two results that its contract allows, of the answer and of every value and buffer lent to it to write in, are
-- equal. A part is handed back as its place and its length, so it is equal too. What is lent only to be read cannot change.
--
--   Two, Three, Four      numbers handed over, each said by a clause of a contract: any two such rows are equal
--   read-header-same .. write-type-same     the bare calls
--   received-same                           feed_received, with the room for the bytes
--   start-same .. write-group-same          the calls on a state, and the group writer
--   packet-without                          feed_packet_detail is feed_packet with the details beside it
--
-- Assumes nothing.
use mathlib.Core.Path.{◌≡◌, sym, ap, ◌∙◌}
use mathlib.Core.List.{List}
use Prim.Native.Nat.{ℕ}
use lib.ListN.{length}
use Rattle.bits.proofs.Determined.{determined}
use Rattle.bare.specs.Bare.{header_read, header_within, header_written, word_read, word_written, type_read, type_written}
use Rattle.bare.specs.Bare.{HeaderAnswer}
use Rattle.plain.specs.Plain.{header_plain}
use Rattle.plain.proofs.Theorems.{plain-is-table}
use Rattle.packet.specs.Received.{ReadingAnswer}
use Rattle.head.specs.declared.Wish.{Wish}
use Rattle.table.specs.Calls.{start_answer, start_after, follow_answer, follow_after, leave_answer, leave_after, end_answer, end_after, set_answer, set_after}
use Rattle.table.proofs.Determined as table
use Rattle.table.proofs.Determined.{Same}
use Rattle.asking.specs.Asking.{asked}
use Rattle.adapter.specs.Calls.{packet_answered, packet_answer, packet_after, write_answer, write_after}
use Rattle.adapter.proofs.Determined as adapter
use Rattle.adapter.proofs.Laws.{packet-number}
use Rattle.feed.specs.Board.{board_from, board_at, board_length}
use Rattle.feed.specs.Fed.{values, fed}

-- ---- rows of numbers

abbrev pub Two : ℕ → ℕ → Type 0
Two a b = (r x q y : ℕ) → r ≡ a → x ≡ b → q ≡ a → y ≡ b → (r ≡ q) × (x ≡ y)

two : (a b : ℕ) → Two a b
two a b r x q y ra xb qa yb = (determined ra qa, determined xb yb)

abbrev pub Three : ℕ → ℕ → ℕ → Type 0
Three a b c =
    (r x v q y w : ℕ) → r ≡ a → x ≡ b → v ≡ c → q ≡ a → y ≡ b → w ≡ c → (r ≡ q) × ((x ≡ y) × (v ≡ w))

three : (a b c : ℕ) → Three a b c
three a b c r x v q y w ra xb vc qa yb wc = (determined ra qa, (determined xb yb, determined vc wc))

abbrev pub Four : ℕ → ℕ → ℕ → ℕ → Type 0
Four a b c d =
    (r x v m q y w n : ℕ) → r ≡ a → x ≡ b → v ≡ c → m ≡ d → q ≡ a → y ≡ b → w ≡ c → n ≡ d
    → (r ≡ q) × ((x ≡ y) × ((v ≡ w) × (m ≡ n)))

four : (a b c d : ℕ) → Four a b c d
four a b c d r x v m q y w n ra xb vc md qa yb wc nd = (determined ra qa, (determined xb yb, (determined vc wc, determined md nd)))

-- ---- the bare calls: number and values

pub read-header-same : (n : ℕ) → Four (header_read n).number (header_read n).address (header_read n).index (header_read n).flips
read-header-same n = four (header_read n).number (header_read n).address (header_read n).index (header_read n).flips

pub read-header-within-same : (n most : ℕ)
    → Four (header_within n most).number (header_within n most).address (header_within n most).index (header_within n most).flips
read-header-within-same n most =
    four (header_within n most).number (header_within n most).address (header_within n most).index (header_within n most).flips

pub read-header-plain-same : (n most : ℕ)
    → Four (header_plain n most).number (header_plain n most).address (header_plain n most).index (header_plain n most).flips
read-header-plain-same n most =
    four (header_plain n most).number (header_plain n most).address (header_plain n most).index (header_plain n most).flips

-- what the plain call may give and leave is also what the call by the table may
pub either-reader : (n most r x v m : ℕ) → r ≡ (header_plain n most).number → x ≡ (header_plain n most).address
    → v ≡ (header_plain n most).index → m ≡ (header_plain n most).flips
    → (r ≡ (header_within n most).number) × ((x ≡ (header_within n most).address) × ((v ≡ (header_within n most).index) × (m ≡ (header_within n most).flips)))
either-reader n most r x v m e f g h =
    let same = plain-is-table n most in (
      e ∙ ap (λ (y : HeaderAnswer). y.number) same,
      (f ∙ ap (λ (y : HeaderAnswer). y.address) same, (g ∙ ap (λ (y : HeaderAnswer). y.index) same, h ∙ ap (λ (y : HeaderAnswer). y.flips) same)),
    )

pub write-header-same : (a i : ℕ) → Two (header_written a i).number (header_written a i).value
write-header-same a i = two (header_written a i).number (header_written a i).value

pub read-word-same : (n : ℕ) → Three (word_read n).number (word_read n).information (word_read n).flips
read-word-same n = three (word_read n).number (word_read n).information (word_read n).flips

pub write-word-same : (i : ℕ) → Two (word_written i).number (word_written i).value
write-word-same i = two (word_written i).number (word_written i).value

pub read-type-same : (b : ℕ) → Three (type_read b).number (type_read b).value (type_read b).flips
read-type-same b = three (type_read b).number (type_read b).value (type_read b).flips

pub write-type-same : (b : ℕ) → Two (type_written b).number (type_written b).value
write-type-same b = two (type_written b).number (type_written b).value

-- ---- a packet received: number, place, index and the room, by their values before

pub received-same : (protection : ℕ) (image : List ℕ) (before : ReadingAnswer) (r p i : ℕ) (b : List ℕ) (q o j : ℕ) (c : List ℕ)
    → values r p i b ≡ fed protection image before → values q o j c ≡ fed protection image before
    → (r ≡ q) × ((p ≡ o) × ((i ≡ j) × (b ≡ c)))
received-same protection image before r p i b q o j c e f =
    let same : values r p i b ≡ values q o j c = determined e f in (
      ap (λ (x : ReadingAnswer). x.number) same,
      (ap (λ (x : ReadingAnswer). x.place) same, (ap (λ (x : ReadingAnswer). x.index) same, ap (λ (x : ReadingAnswer). x.bytes) same)),
    )

-- ---- the calls on a state: as the calls behind them

pub start-same : (s : List ℕ) → Same (start_answer s) (start_after s)
start-same = table.start-same

pub follow-same : (s : List ℕ) (w : Wish) → Same (follow_answer s w) (follow_after s w)
follow-same = table.follow-same

pub leave_same : (s : List ℕ) (a : ℕ) → Same (leave_answer s a) (leave_after s a)
leave_same = table.leave_same

pub set_same : (s : List ℕ) (most : ℕ) → Same (set_answer s most) (set_after s most)
set_same = table.set_same

pub packet-same : (s image : List ℕ) → Same (packet_answer s image) (packet_after s image)
packet-same = adapter.packet-same

-- the same with what the number carries: number, the two values, and the state
pub packet-detail-same : (s image : List ℕ) (r x v q y w : ℕ) (t u : List ℕ) → r ≡ (packet_answered s image).number → t ≡ packet_after s image
    → x ≡ (packet_answered s image).detail → v ≡ (packet_answered s image).came → q ≡ (packet_answered s image).number → u ≡ packet_after s image
    → y ≡ (packet_answered s image).detail → w ≡ (packet_answered s image).came → ((r ≡ q) × ((x ≡ y) × (v ≡ w))) × (t ≡ u)
packet-detail-same s image r x v q y w t u ra tb xb vc qa ub yb wc =
    let a = packet_answered s image in
    (three a.number a.detail a.came r x v q y w ra xb vc qa yb wc, determined tb ub)

-- one call is the other without the details: what `feed_packet_detail` may answer and leave is what `feed_packet` may
pub packet-without : (s image : List ℕ) (r : ℕ) (t : List ℕ) → r ≡ (packet_answered s image).number → t ≡ packet_after s image
    → (r ≡ packet_answer s image) × (t ≡ packet_after s image)
packet-without s image r t e f = (e ∙ sym (packet-number s image), f)

pub subframe-end-same : (s : List ℕ) → Same (end_answer s) (end_after s)
subframe-end-same = table.end_same

-- number, place and length of the group
pub ask-same : (s : List ℕ) (a : ℕ) → Three (asked s a).number (asked s a).at (asked s a).len
ask-same s a = three (asked s a).number (asked s a).at (asked s a).len

-- number, the buffer that the part is in, its place there and its length
pub board-text-same : (s : List ℕ) (a : ℕ) (notice : List ℕ) → Four (asked s a).number (board_from s a) (board_at s a) (board_length s a notice)
board-text-same s a notice = four (asked s a).number (board_from s a) (board_at s a) (board_length s a notice)

-- ---- the group writer

pub write-group-same : (a p : ℕ) (message output : List ℕ) → Same (write_answer a p (length message) (length output)) (write_after a p message output)
write-group-same = adapter.write_same
