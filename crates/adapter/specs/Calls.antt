-- The packet call and the group writer (document 01, sections 4 and 6; document 02, Asks 6 and 7), each as two functions of what was lent: its answer,
-- and the bytes after.
--
--   address_of image          the address that its header is read with
--   followed s a             a slot of the state follows the address
--   flips_of image            how many flips its header is read with
--   beyond s image           more than the state's setting: the packet belongs to no slot
--   unplaced s image         20, 34, 21, which need no slot, 49 and 27
--   reading_at x image        what an image is received as where its slot has the bytes x
--   slot_answered, slot_after  what the slot of its address answers, and the state with that slot after; slot_answer: its number
--   refused_answer n          the answer that is a number and carries nothing
--   answered_by n x           that where n refuses, otherwise x
--   packet_answered, packet_after     the call's, with what 31 and 32 carry; packet_answer: its number
--   group_size p              the message of a group: 360 bytes plain, 180 protected
--   group_images p a m        its four images, indices 0 to 3
--   write_answer, write_after  22, 23, 20
use Rattle.std.specs.Prelude.{Bool, not, ◌&&◌, List, [], ◌∷◌, ◌++◌, ℕ, ◌*◌, ltb, eqb, length}
use Rattle.bits.specs.Rows.{Row, row, refusal, given, further, done}
use Rattle.bare.specs.Bare.{header_read}
use Rattle.image.specs.Image.{header_of, spare_of}
use Rattle.packet.specs.Received.{received}
use Rattle.packet.specs.Damage.{data_size, sent_image}
use Rattle.packet.specs.Received.{ReadingAnswer}
use Rattle.runs.specs.Part.{part}
use Rattle.slot.specs.Slot.{head_of}
use Rattle.head.specs.Head.{within}
use Rattle.table.specs.State.{slots, setting, slot_at, with_slot, find}
use Rattle.table.specs.Calls.{state_rows}
use Rattle.group.specs.Group.{taken, taken_after}
use Rattle.group.specs.declared.Answer.{Answer}

-- ---- packet: 20, 34, 21, 49, 27, 28, 29, 47, 30, 31, 32

unfoldable pub address_of : List ℕ → ℕ
address_of image = (header_read (header_of image)).address

unfoldable pub flips_of : List ℕ → ℕ
flips_of image = (header_read (header_of image)).flips

unfoldable pub beyond : List ℕ → List ℕ → Bool
beyond s image = ltb (setting s) (flips_of image)

-- a free slot has address 0, which is never followed
unfoldable pub followed : List ℕ → ℕ → Bool
followed s a = ltb 0 a && ltb (find s a) slots

-- the rows that need no slot, and then others
abbrev pub image_rows : List ℕ → List ℕ → List Row → List Row
image_rows s image rest = row (not (eqb (length image) 94)) 20 ∷ state_rows s (row (eqb (spare_of image) 1) 21 ∷ rest)

abbrev pub place_rows : List ℕ → List ℕ → List Row
place_rows s image = row (beyond s image) 49 ∷ row (not (followed s (address_of image))) 27 ∷ []

unfoldable pub unplaced : List ℕ → List ℕ → ℕ
unplaced s image = refusal (image_rows s image (place_rows s image))

unfoldable pub reading_at : List ℕ → List ℕ → ReadingAnswer
reading_at x image = received (eqb (head_of x).wish.protection 1) image

-- what the slot of the address answers, and the state with it after
abbrev pub slot_answered : List ℕ → List ℕ → Answer
slot_answered s image =
    let x = slot_at (find s (address_of image)) s in
    taken (reading_at x image) (head_of x)

unfoldable pub slot_answer : List ℕ → List ℕ → ℕ
slot_answer s image = (slot_answered s image).number

unfoldable pub slot_after : List ℕ → List ℕ → List ℕ
slot_after s image =
    let k = find s (address_of image) in
    with_slot k (taken_after (reading_at (slot_at k s) image) (slot_at k s)) s

-- a call that is refused before its slot is found has nothing to tell of a packet
abbrev pub refused_answer : ℕ → Answer
refused_answer n = record { number = n; detail = 0; came = 0 }

abbrev pub answered_by : ℕ → Answer → Answer
answered_by n x = record { number = further n x.number; detail = given n x.detail; came = given n x.came }

abbrev pub packet_answered : List ℕ → List ℕ → Answer
packet_answered s image = answered_by (unplaced s image) (slot_answered s image)

unfoldable pub packet_answer : List ℕ → List ℕ → ℕ
packet_answer s image = (packet_answered s image).number

unfoldable pub packet_after : List ℕ → List ℕ → List ℕ
packet_after s image = done (unplaced s image) (slot_after s image) s

-- ---- write group

abbrev pub group_size : Bool → ℕ
group_size p = 4 * data_size p

abbrev pub images_size : ℕ
images_size = 376

unfoldable pub packet_of : Bool → ℕ → List ℕ → ℕ → List ℕ
packet_of p a m i = sent_image p a i (part (i * data_size p) (data_size p) m)

unfoldable pub group_images : Bool → ℕ → List ℕ → List ℕ
group_images p a m = packet_of p a m 0 ++ (packet_of p a m 1 ++ (packet_of p a m 2 ++ packet_of p a m 3))

-- by the lengths of the message and of the output
unfoldable pub write_answer : ℕ → ℕ → ℕ → ℕ → ℕ
write_answer address protection message output =
    refusal
    (row (not (within 1 1022 address)) 22
    ∷ row (ltb 1 protection) 23
    ∷ row (not (eqb message (group_size (eqb protection 1)))) 20
    ∷ row (not (eqb output images_size)) 20
    ∷ [])

unfoldable pub write_after : ℕ → ℕ → List ℕ → List ℕ → List ℕ
write_after address protection message output =
    done (write_answer address protection (length message) (length output)) (group_images (eqb protection 1) address message) output
