-- Document 01, section 6, with document 02's Asks 6 and 7: the rows of each call in its order, with their numbers written out. "A call is refused exactly when a
-- row in its order holds, and with the first such; otherwise it is accepted": then its answer is one of the call's own numbers.
--
-- The numbers and the order stand here once more, beside those that the contracts cite, so that no row can change with the code unseen.
-- So it is with follow's: its wish has rows of its own in the crate head, and they are not cited here. That both are the same is proved.
--
--   holds s a             a slot of the state has the address; of 0: a slot is free
--   wish_rows w taken full     follow's rows behind those of the state; address_rows: those of a call that names an address
--   rows_of x s            a call on a state
--   own_numbers x          what it answers where none of its rows holds
--   question_rows, question_numbers     the same of a call that only reads, by its question
--   write_rows, bare_rows   the group writer, and the single readers and writers
--   Answers rows own n    the number n is the first row's that holds, or where none does one of the call's own
use Rattle.std.specs.Prelude.{◌≡◌, Bool, not, ◌&&◌, ◌||◌, List, [], ◌∷◌, ℕ, ◌^◌, leb, ltb, eqb, length}
use Rattle.bits.specs.Rows.{Row, row, refusal}
use Rattle.bits.specs.Bits.{flips}
use Rattle.golay.specs.Code.{word23, word24, nearest}
use Rattle.bare.specs.Bare.{header_read, types, type_near, among}
use Rattle.image.specs.Image.{header_of, spare_of}
use Rattle.packet.specs.Received.{type_of, useful_of, unreadable}
use Rattle.slot.specs.Slot.{head_of}
use Rattle.head.specs.Head.{within}
use Rattle.head.specs.declared.Head.{Head}
use Rattle.head.specs.declared.Wish.{Wish}
use Rattle.table.specs.State.{setting, slot_at, find, good}
use Rattle.history.specs.Sent.{In}
use Rattle.adapter.specs.Calls.{address_of, flips_of, followed}
use Rattle.demands.specs.Machine.{Question, ask, Call, start, follow, leave, packet, subframe_end, set_flips, asks, Bare, read_header, read_within, read_plain, write_header, read_word, write_word, read_type, write_type}

-- ---- the calls on a state

abbrev pub holds : List ℕ → ℕ → Bool
holds s a = ltb (find s a) 16

-- 20 "state not 11,777", 34 "state not good"
abbrev pub state_rows : List ℕ → List Row → List Row
state_rows s rest = row (not (eqb (length s) 11777)) 20 ∷ row (not (good s)) 34 ∷ rest

-- 22 "address not 1 to 1,022", 23 "protection not 0 or 1", 24 "limit not 1 to 1,500", 25 "address already followed", 26 "no free
-- slot", the last two by what is followed and what is free
abbrev pub wish_rows : Wish → Bool → Bool → List Row
wish_rows w taken full =
    row (not (within 1 1022 w.address)) 22 ∷ row (ltb 1 w.protection) 23 ∷ row (not (within 1 1500 w.limit)) 24 ∷ row taken 25 ∷ row full 26 ∷ []

-- 22, 27 "address not followed"
abbrev pub address_rows : ℕ → Bool → List Row
address_rows a absent = row (not (within 1 1022 a)) 22 ∷ row absent 27 ∷ []

abbrev pub index_of : List ℕ → ℕ
index_of image = (header_read (header_of image)).index

-- 28 "type unreadable", 29 "the control type 3F", 47 "for type C7, directly after 29", 30 "type F8", 31 "a protected word can't be
-- read", 32 "out of step": at the slot of the packet's address
abbrev pub slot_rows : Head → List ℕ → List Row
slot_rows h image =
    row (leb 256 (type_of image)) 28
    ∷ row (eqb (type_of image) 0x3F) 29
    ∷ row (eqb (type_of image) 0xC7) 47
    ∷ row (eqb (type_of image) 0xF8) 30
    ∷ row (unreadable (eqb h.wish.protection 1) (useful_of image)) 31
    ∷ row (not (eqb (index_of image) 0) && not (eqb (index_of image) h.awaited)) 32
    ∷ []

unfoldable pub question_rows : Question → List ℕ → List Row
question_rows (ask a) s = state_rows s (address_rows a (not (holds s a)))

-- 48 "a setting above 3", 49 "more flips in the header than the setting"
unfoldable pub rows_of : Call → List ℕ → List Row
rows_of start s = row (not (eqb (length s) 11777)) 20 ∷ []
rows_of (follow w) s = state_rows s (wish_rows w (holds s w.address) (not (holds s 0)))
rows_of (leave a) s = state_rows s (address_rows a (not (holds s a)))
rows_of (packet image) s =
    row (not (eqb (length image) 94)) 20
    ∷ state_rows s
    (row (eqb (spare_of image) 1) 21
    ∷ row (ltb (setting s) (flips_of image)) 49
    ∷ row (not (followed s (address_of image))) 27
    ∷ slot_rows (head_of (slot_at (find s (address_of image)) s)) image)
rows_of subframe_end s = state_rows s []
rows_of (set_flips most) s = state_rows s (row (ltb 3 most) 48 ∷ [])
rows_of (asks q) s = question_rows q s

-- 4 nothing yet, 5 fresh, 6 doubtful, 7 stale
unfoldable pub question_numbers : Question → List ℕ
question_numbers (ask a) = 4 ∷ 5 ∷ 6 ∷ 7 ∷ []

-- 0 done; 1 started, 2 held, 3 whole
unfoldable pub own_numbers : Call → List ℕ
own_numbers start = 0 ∷ []
own_numbers (follow w) = 0 ∷ []
own_numbers (leave a) = 0 ∷ []
own_numbers (packet image) = 1 ∷ 2 ∷ 3 ∷ []
own_numbers subframe_end = 0 ∷ []
own_numbers (set_flips most) = 0 ∷ []
own_numbers (asks q) = question_numbers q

-- ---- the group writer, by the lengths of message and output

unfoldable pub write_rows : ℕ → ℕ → ℕ → ℕ → List Row
write_rows a p message output =
    row (not (within 1 1022 a)) 22
    ∷ row (ltb 1 p) 23
    ∷ row ((eqb p 0 && not (eqb message 360)) || (eqb p 1 && not (eqb message 180))) 20
    ∷ row (not (eqb output 376)) 20
    ∷ []

-- ---- the bare calls: 33 "a bare number too large"; 48, 49 as above; 31 no word within three flips; 28 no type within two, or not one of the four

-- a header, and the setting: of both readers, "Refusals: as the table reader" (document 02, Ask 10)
abbrev header_rows : ℕ → ℕ → List Row
header_rows n most = row (leb (2 ^ 23) n) 33 ∷ row (ltb 3 most) 48 ∷ row (ltb most (flips (word23 (nearest word23 n)) n)) 49 ∷ []

unfoldable pub bare_rows : Bare → List Row
bare_rows (read_header n) = row (leb (2 ^ 23) n) 33 ∷ []
bare_rows (read_within n most) = header_rows n most
bare_rows (read_plain n most) = header_rows n most
bare_rows (write_header a i) = row (ltb 1023 a) 33 ∷ row (ltb 3 i) 33 ∷ []
bare_rows (read_word n) = row (leb (2 ^ 24) n) 33 ∷ row (leb 4096 (nearest word24 n)) 31 ∷ []
bare_rows (write_word i) = row (leb 4096 i) 33 ∷ []
bare_rows (read_type b) = row (leb 256 (type_near types b)) 28 ∷ []
bare_rows (write_type b) = row (not (among types b)) 28 ∷ []

-- ---- an answer

pub record Answers (rows : List Row) (own : List ℕ) (n : ℕ) : Type 0 where
  pub refused : (refusal rows ≡ 0 → ⊥) → n ≡ refusal rows
  pub accepted : refusal rows ≡ 0 → In n own
