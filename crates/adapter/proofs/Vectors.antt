-- The packet call and the group writer by number: section 6's rows on both sides, what a slot that follows 17 answers, and the writer's four
-- images. The images' first bytes were made by two programs apart from this one; the answers are the paper's.
--
--   writes            22 before 23 before 20; addresses 1 and 1,022 pass; messages of 360 and 180 bytes, an output of 376
--   message, images-begin     the message 0, 1, .. 179, and the first six bytes of its four images
--   packets           20 before 34 before 21 before 27
--   beyond-0, within-27, beyond-21     a header with one flip: 49 at the setting 0, after 21 and before 27, and changes nothing; at 1 it is read
--   arrived           what a packet is answered that is read as 17 where 17 is followed, protected
--   answers, starts   28, 29, 47, 30 by the type; 1 for a data packet with index 0; control-29, reserved-47: two of these
--   unfollowed-told   27 carries nothing
--   word-told         31 with place 2, where the third word has four flips
--   out-told          32 with 2 and 3, where a slot awaits 2 and index 3 comes
--
-- Assumes nothing.
use mathlib.Core.Path.{◌≡◌, refl, sym, ap, ap₂, ◌∙◌, subst}
use mathlib.Core.Bool.{true, cond, not, false}
use mathlib.Core.List.{List, [], ◌∷◌, ◌++◌, map}
use Prim.Native.Nat.{ℕ, suc, ◌<◌, ◌≤◌}
use native.Mathlib.Omega.{arith}
use lib.Count.{ones, ones_in}
use lib.Dec.{leb, eqb, lit<, lit≤}
use lib.ListN.{length, get_or, take, drop}
use Rattle.bits.specs.Bits.{flips, bits_of, number, sent, numbers_in, blank}
use Rattle.bits.specs.Rows.{refusal, further}
use Rattle.bits.specs.Search.{first}
use Rattle.bits.proofs.Rows.{refusal-miss, refusal-none}
use Rattle.bits.proofs.Runs.{Below, sent-below, numbers_in-below}
use Rattle.golay.specs.Code.{less, line, divide, remainder, word23, word24, nearest}
use Rattle.golay.proofs.Reading.{nearest24-is}
use Rattle.golay.proofs.Vectors as golay
use Rattle.bare.specs.Bare.{header_read, type_near}
use Rattle.bare.specs.Bare.{HeaderAnswer}
use Rattle.bare.specs.Bare.{WordAnswer}
use Rattle.bare.proofs.Theorems.{word-unreadable}
use Rattle.bare.proofs.Bare.{within-three}
use Rattle.bare.proofs.Vectors.{header-17, within-each, zero-far}
use Rattle.image.specs.Image.{header_of, bytes_of, spare_of, image_of}
use Rattle.image.proofs.Vectors as image
use Rattle.words.specs.Protected.{words_of, informations, failed, words_read, data_read}
use Rattle.words.proofs.Vectors as words
use Rattle.packet.specs.Received.{type_of, useful_of, received_number, received, refused_as, readable_as, written}
use Rattle.packet.specs.Damage.{sent_image}
use Rattle.packet.specs.Received.{ReadingAnswer}
use Rattle.packet.proofs.Answers.{index_of, answer-protected, is_data, data-short}
use Rattle.packet.proofs.Damages.{received-sent}
use Rattle.packet.proofs.Vectors.{shielded, shielded-sent}
use Rattle.runs.specs.Part.{part}
use Rattle.slot.specs.Slot.{head_of}
use Rattle.head.specs.Head.{wish_of, new_head}
use Rattle.head.specs.Move.{per_of, needs_of, row_of, move_of, move_number}
use Rattle.head.specs.declared.Head.{Head}
use Rattle.table.specs.State.{slots, setting, slot_at, find}
use Rattle.table.specs.Calls.{end_answer}
use Rattle.table.proofs.Looking.{state-34, state-rest}
use Rattle.table.proofs.States.{find-le}
use Rattle.table.proofs.Shows.{start-shows, find-place, follow-head, end-done}
use Rattle.table.proofs.Vectors.{spoiled, spoiled-length, spoiled-not, started, ok, nobody, followed, followed-17, followed-shows, one, set, set-ok, set-setting, set-absent}
use Rattle.group.specs.Group as group
use Rattle.group.specs.Group.{answer_of, taken_number}
use Rattle.group.specs.declared.Answer.{Answer}
use Rattle.group.proofs.Vectors.{answer}
use Rattle.adapter.specs.Calls as calls
use Rattle.adapter.proofs.Arriving.{image-0, image-placed, within-few, place-27}
use Rattle.adapter.proofs.Laws.{both-followed, Placed, placed-zero, size-refused, spare-refused, beyond-refused, answered-passed, packet-number, packet-refused}

-- ---- the writer, by the lengths of message and output

pub writes : (calls.write_answer 0 2 0 0 ∷ calls.write_answer 1023 2 0 0 ∷ calls.write_answer 1 2 0 0 ∷ calls.write_answer 1022 2 0 0
    ∷ calls.write_answer 17 0 359 376 ∷ calls.write_answer 17 0 361 376 ∷ calls.write_answer 17 0 180 376 ∷ calls.write_answer 17 1 179 376
    ∷ calls.write_answer 17 1 181 376 ∷ calls.write_answer 17 1 360 376 ∷ calls.write_answer 17 1 180 375 ∷ calls.write_answer 17 1 180 377
    ∷ calls.write_answer 1 0 360 376 ∷ calls.write_answer 1022 1 180 376 ∷ [])
    ≡ (22 ∷ 22 ∷ 23 ∷ 23 ∷ 20 ∷ 20 ∷ 20 ∷ 20 ∷ 20 ∷ 20 ∷ 20 ∷ 20 ∷ 0 ∷ 0 ∷ [])
unfolding calls.write_answer refusal
writes = refl

abbrev pub message : List ℕ
message =
    0 ∷ 1 ∷ 2 ∷ 3 ∷ 4 ∷ 5 ∷ 6 ∷ 7 ∷ 8 ∷ 9 ∷ 10 ∷ 11 ∷ 12 ∷ 13 ∷ 14 ∷ 15 ∷ 16 ∷ 17 ∷ 18 ∷ 19 ∷ 20 ∷ 21 ∷ 22 ∷ 23 ∷
    24 ∷ 25 ∷ 26 ∷ 27 ∷ 28 ∷ 29 ∷ 30 ∷ 31 ∷ 32 ∷ 33 ∷ 34 ∷ 35 ∷ 36 ∷ 37 ∷ 38 ∷ 39 ∷ 40 ∷ 41 ∷ 42 ∷ 43 ∷ 44 ∷ 45 ∷
    46 ∷ 47 ∷ 48 ∷ 49 ∷ 50 ∷ 51 ∷ 52 ∷ 53 ∷ 54 ∷ 55 ∷ 56 ∷ 57 ∷ 58 ∷ 59 ∷ 60 ∷ 61 ∷ 62 ∷ 63 ∷ 64 ∷ 65 ∷ 66 ∷ 67 ∷
    68 ∷ 69 ∷ 70 ∷ 71 ∷ 72 ∷ 73 ∷ 74 ∷ 75 ∷ 76 ∷ 77 ∷ 78 ∷ 79 ∷ 80 ∷ 81 ∷ 82 ∷ 83 ∷ 84 ∷ 85 ∷ 86 ∷ 87 ∷ 88 ∷ 89 ∷
    90 ∷ 91 ∷ 92 ∷ 93 ∷ 94 ∷ 95 ∷ 96 ∷ 97 ∷ 98 ∷ 99 ∷ 100 ∷ 101 ∷ 102 ∷ 103 ∷ 104 ∷ 105 ∷ 106 ∷ 107 ∷ 108 ∷ 109 ∷
    110 ∷ 111 ∷ 112 ∷ 113 ∷ 114 ∷ 115 ∷ 116 ∷ 117 ∷ 118 ∷ 119 ∷ 120 ∷ 121 ∷ 122 ∷ 123 ∷ 124 ∷ 125 ∷ 126 ∷ 127 ∷ 128 ∷
    129 ∷ 130 ∷ 131 ∷ 132 ∷ 133 ∷ 134 ∷ 135 ∷ 136 ∷ 137 ∷ 138 ∷ 139 ∷ 140 ∷ 141 ∷ 142 ∷ 143 ∷ 144 ∷ 145 ∷ 146 ∷ 147 ∷
    148 ∷ 149 ∷ 150 ∷ 151 ∷ 152 ∷ 153 ∷ 154 ∷ 155 ∷ 156 ∷ 157 ∷ 158 ∷ 159 ∷ 160 ∷ 161 ∷ 162 ∷ 163 ∷ 164 ∷ 165 ∷ 166 ∷
    167 ∷ 168 ∷ 169 ∷ 170 ∷ 171 ∷ 172 ∷ 173 ∷ 174 ∷ 175 ∷ 176 ∷ 177 ∷ 178 ∷ 179 ∷ []

-- the first six bytes of the image of useful bytes
abbrev computed : ℕ → List ℕ → List ℕ
computed i useful = take 6 (written 17 i 0x00 useful)

pub images-begin : map (λ (i : ℕ). take 6 (calls.packet_of true 17 message i)) (0 ∷ 1 ∷ 2 ∷ 3 ∷ [])
    ≡ ((0x11 ∷ 0xF0 ∷ 0x75 ∷ 0x00 ∷ 0x80 ∷ 0xD8 ∷ [])
    ∷ (0x11 ∷ 0x64 ∷ 0x09 ∷ 0x80 ∷ 0x16 ∷ 0x27 ∷ [])
    ∷ (0x11 ∷ 0xE8 ∷ 0x22 ∷ 0x00 ∷ 0xAD ∷ 0x6D ∷ [])
    ∷ (0x11 ∷ 0x7C ∷ 0x5E ∷ 0x80 ∷ 0x43 ∷ 0xBC ∷ [])
    ∷ [])
unfolding calls.packet_of part written image_of numbers_in number bits_of sent word23 remainder divide line less ones_in
images-begin = λ j.
    computed 0 (words.protected-counted (part 0 45 message) tt j) ∷ computed 1 (words.protected-counted (part 45 45 message) tt j)
    ∷ computed 2 (words.protected-counted (part 90 45 message) tt j) ∷ computed 3 (words.protected-counted (part 135 45 message) tt j) ∷ []

-- ---- packets: the rows before a slot

-- the plain image with its spare bit set
abbrev marked : List ℕ
marked = take 93 image.plain ++ (0xAC ∷ [])

marked-spare : spare_of marked ≡ 1
unfolding spare_of number sent bits_of
marked-spare = refl

refused : (s image : List ℕ) (n : ℕ) → calls.unplaced s image ≡ n → (n ≡ 0 → ⊥) → calls.packet_answer s image ≡ n
refused s image n e ne = (packet-refused s image (λ z. ne (sym e ∙ z))).0 ∙ e

spoiled-34 : calls.unplaced spoiled marked ≡ 34
unfolding calls.unplaced
spoiled-34 = refusal-miss (not (eqb (length marked) 94)) 20 _ refl ∙ state-34 spoiled _ spoiled-length spoiled-not

-- read as 17
address-17 : (image : List ℕ) → header_of image ≡ 0x75F011 → calls.address_of image ≡ 17
unfolding calls.address_of
address-17 image e = ap (λ (n : ℕ). (header_read n).address) e ∙ ap (λ (h : HeaderAnswer). h.address) header-17

-- and with no flip
flips-17 : (image : List ℕ) → header_of image ≡ 0x75F011 → calls.flips_of image ≡ 0
unfolding calls.flips_of
flips-17 image e = ap (λ (n : ℕ). (header_read n).flips) e ∙ ap (λ (h : HeaderAnswer). h.flips) header-17

-- which is within every setting
clean-within : (s image : List ℕ) → header_of image ≡ 0x75F011 → calls.beyond s image ≡ false
clean-within s image e = within-few s image (setting s) 0 refl (sym (flips-17 image e)) (omega arith)

pub unfollowed-told : calls.packet_answered started image.plain ≡ answer 27 0 0
unfolding first
unfollowed-told =
    let none = image-0 started image.plain refl 0 (sym (end-done started nobody start-shows)) refl 0 (sym image.plain-spare) (λ q. omega (arith, q)) in
    let away =
    place-27 started image.plain (clean-within started image.plain image.plain-header) 17 16 (sym (address-17 image.plain image.plain-header)) (find-place started nobody start-shows 17) refl
    (calls.refused_answer 27) refl in
    sym (image-placed started image.plain 0 none (calls.refused_answer 27) started refl away).0

unfollowed : calls.packet_answer started image.plain ≡ 27
unfollowed = packet-number started image.plain ∙ ap (λ (x : Answer). x.number) unfollowed-told

pub packets : (calls.packet_answer started [] ∷ calls.packet_answer spoiled (drop 1 image.plain) ∷ calls.packet_answer spoiled marked
    ∷ calls.packet_answer started marked ∷ calls.packet_answer started image.plain ∷ [])
    ≡ (20 ∷ 20 ∷ 34 ∷ 21 ∷ 27 ∷ [])
packets = λ i.
    refused started [] 20 (size-refused started [] (λ q. omega (arith, q))) (λ q. omega (arith, q)) i
    ∷ refused spoiled (drop 1 image.plain) 20 (size-refused spoiled (drop 1 image.plain) (λ q. omega (arith, q))) (λ q. omega (arith, q)) i
    ∷ refused spoiled marked 34 spoiled-34 (λ q. omega (arith, q)) i
    ∷ refused started marked 21 (spare-refused started marked refl ok marked-spare) (λ q. omega (arith, q)) i
    ∷ unfollowed i ∷ []

-- ---- the plain image with bit 0 of its header turned over, where nothing is followed, at the settings 0 and 1: 49, after 21 and before 27

abbrev pub turned : List ℕ
turned = 0x10 ∷ drop 1 image.plain

abbrev one-flip : HeaderAnswer
one-flip = record { number = 0; address = 17; index = 0; flips = 1 }

turned-read : header_read (header_of turned) ≡ one-flip
unfolding header_of number sent bits_of
turned-read = sym (within-three 0x75F010) ∙ ap (λ (hs : List HeaderAnswer). get_or hs 2 one-flip) within-each.1

pub turned-flips : calls.flips_of turned ≡ 1
unfolding calls.flips_of
turned-flips = ap (λ (h : HeaderAnswer). h.flips) turned-read

pub turned-address : calls.address_of turned ≡ 17
unfolding calls.address_of
turned-address = ap (λ (h : HeaderAnswer). h.address) turned-read

pub turned-spare : spare_of turned ≡ 0
unfolding spare_of number sent bits_of
turned-spare = refl

pub beyond-0 : calls.packet_answer (set 0) turned ≡ 49
beyond-0 =
    refused (set 0) turned 49
    (beyond-refused (set 0) turned refl (set-ok 0 (lit≤ tt)) (ap (λ (n : ℕ). eqb n 1) turned-spare)
    (omega (arith, turned-flips, set-setting 0))) (λ q. omega (arith, q))

-- "a header refused so .. changes nothing"
pub beyond-after : calls.packet_after (set 0) turned ≡ set 0
beyond-after = (packet-refused (set 0) turned (λ z. omega (arith, z, e))).1
  where
    e : calls.unplaced (set 0) turned ≡ 49
    e = beyond-refused (set 0) turned refl (set-ok 0 (lit≤ tt)) (ap (λ (n : ℕ). eqb n 1) turned-spare) (omega (arith, turned-flips, set-setting 0))

-- at 1 it is read, as an address that nobody follows
pub within-27 : calls.packet_answer (set 1) turned ≡ 27
unfolding first end_answer
within-27 =
    let ok = set-ok 1 (lit≤ tt) in
    let none =
    image-0 (set 1) turned refl 0 (sym (state-rest (set 1) [] ok.size ok.all-good ∙ refusal-none)) refl 0 (sym turned-spare) (λ q. omega (arith, q)) in
    let few = within-few (set 1) turned 1 1 (sym (set-setting 1)) (sym turned-flips) (lit≤ tt) in
    let at : 16 ≡ find (set 1) 17 = omega (arith, set-absent 1 17 (lit≤ tt), find-le (set 1) 17) in
    let away = place-27 (set 1) turned few 17 16 (sym turned-address) at refl (calls.refused_answer 27) refl in
    packet-number (set 1) turned
    ∙ ap (λ (x : Answer). x.number) (sym (image-placed (set 1) turned 0 none (calls.refused_answer 27) (set 1) refl away).0)

abbrev both : List ℕ
both = take 93 turned ++ (0xAC ∷ [])

both-spare : spare_of both ≡ 1
unfolding spare_of number sent bits_of
both-spare = refl

pub beyond-21 : calls.packet_answer (set 0) both ≡ 21
beyond-21 = refused (set 0) both 21 (spare-refused (set 0) both refl (set-ok 0 (lit≤ tt)) both-spare) (λ q. omega (arith, q))

-- ---- packets at the slot that follows 17, protected, and awaits 0

module _ (image : List ℕ) (l : length image ≡ 94) (h : header_of image ≡ 0x75F011) (spare : spare_of image ≡ 0) where
  found : find followed (calls.address_of image) ≡ 0
  unfolding first
  found = ap (find followed) (address-17 image h) ∙ sym (find-place followed one followed-shows 17)

  here : Placed followed image
  here = record {
    size = l;
    state = followed-shows.passed;
    spare = ap (λ (n : ℕ). eqb n 1) spare;
    within = omega (arith, flips-17 image h);
    place = both-followed followed (calls.address_of image) (subst (λ (a : ℕ). 0 < a) (sym (address-17 image h)) (lit< tt))
        (subst (λ (k : ℕ). k < slots) (sym found) (lit< tt));
  }

  head : head_of (slot_at (find followed (calls.address_of image)) followed) ≡ new_head (wish_of 17 1 2)
  unfolding first
  head = ap (λ (k : ℕ). head_of (slot_at k followed)) found ∙ follow-head started nobody start-shows (wish_of 17 1 2) followed-17

  pub arrived-told : calls.packet_answered followed image ≡ group.taken (received true image) (new_head (wish_of 17 1 2))
  unfolding calls.reading_at
  arrived-told =
      answered-passed (calls.unplaced followed image) (calls.slot_answered followed image) (placed-zero followed image here)
      ∙ ap (λ (x : Head). group.taken (received (eqb x.wish.protection 1) image) x) head

  pub arrived : calls.packet_answer followed image ≡ taken_number (received true image) (new_head (wish_of 17 1 2))
  arrived = packet-number followed image ∙ ap (λ (x : Answer). x.number) arrived-told

abbrev pub typed : ℕ → List ℕ
typed t = written 17 0 t image.counting

pub answers : map (λ (t : ℕ). calls.packet_answer followed (typed t)) (0x55 ∷ 0x3F ∷ 0xC7 ∷ 0xF8 ∷ []) ≡ (28 ∷ 29 ∷ 47 ∷ 30 ∷ [])
unfolding taken_number received received_number refusal further type_of type_near flips ones ones_in header_of bytes_of spare_of written image_of numbers_in number bits_of sent word23 remainder divide line less
answers = λ i.
    arrived (typed 0x55) refl refl refl i ∷ arrived (typed 0x3F) refl refl refl i ∷ arrived (typed 0xC7) refl refl refl i
    ∷ arrived (typed 0xF8) refl refl refl i ∷ []

-- of a control packet, and of one of type C7, by their places in that list
pub control-29 : calls.packet_answer followed (typed 0x3F) ≡ 29
control-29 = ap (λ (ns : List ℕ). get_or ns 1 0) answers

pub reserved-47 : calls.packet_answer followed (typed 0xC7) ≡ 47
reserved-47 = ap (λ (ns : List ℕ). get_or ns 2 0) answers

pub typed-17 : (t : ℕ) → header_of (typed t) ≡ 0x75F011 → calls.address_of (typed t) ≡ 17
typed-17 t h = address-17 (typed t) h

-- ---- a data packet with index 0 starts a group

bytes : Below 256 words.counting
unfolding numbers_in number bits_of sent
bytes = numbers_in-below 8 45 (sent 8 words.counting) (sent-below 8 words.counting)

shielded-read : received true shielded ≡ readable_as 0 words.counting
shielded-read = ap (received true) (sym shielded-sent) ∙ received-sent true 17 0 words.counting (lit≤ tt) (lit≤ tt) refl bytes

pub starts : calls.packet_answer followed shielded ≡ 1
unfolding taken_number further per_of needs_of row_of move_of move_number header_of spare_of number sent bits_of
starts = arrived shielded refl refl refl ∙ ap (λ (r : ReadingAnswer). taken_number r (new_head (wish_of 17 1 2))) shielded-read

-- ---- 31: the first two words are that of 0, and the third is it with four flips

near : nearest word24 0x800000 ≡ 0
unfolding flips ones ones_in
near = nearest24-is 0x800000 0 (lit< tt) (subst (λ (ws : List ℕ). flips (get_or ws 0 0) 0x800000 ≤ 3) (sym golay.words) (lit≤ tt))

far : nearest word24 0x80000F ≡ 4096
far = word-unreadable 0x80000F (lit< tt) (λ e. omega (arith, e, ap (λ (w : WordAnswer). w.number) zero-far))

abbrev third : List ℕ
third = written 17 0 0x00 (0x00 ∷ 0x00 ∷ 0x80 ∷ 0x00 ∷ 0x00 ∷ 0x80 ∷ 0x0F ∷ 0x00 ∷ 0x80 ∷ blank 81)

third-place : (data_read (useful_of third)).place ≡ 2
unfolding bytes_of useful_of data_read words_read words_of informations failed written image_of numbers_in number bits_of sent blank word23 remainder divide line less
third-place =
    ap₂ (λ (i j : ℕ). cond (leb 4096 i) 0 (suc (cond (leb 4096 i) 0 (suc (cond (leb 4096 j) 0 (suc (failed (informations (blank 27)))))))))
    near far

third-read : received true third ≡ refused_as 31 2
unfolding type_of type_near flips ones ones_in bytes_of written image_of numbers_in number bits_of sent blank word23 remainder divide line less
third-read =
    answer-protected third (is_data third refl refl)
    ∙ data-short (index_of third) (data_read (useful_of third)) (subst (λ (n : ℕ). n < 30) (sym third-place) (lit< tt))
    ∙ ap (refused_as 31) third-place

pub word-told : calls.packet_answered followed third ≡ answer 31 2 0
unfolding taken_number further header_of spare_of written image_of numbers_in number bits_of sent blank word23 remainder divide line less
word-told = arrived-told third refl refl refl ∙ ap (λ (r : ReadingAnswer). group.taken r (new_head (wish_of 17 1 2))) third-read

-- ---- 32: at any slot that awaits 2, protected, the packet with index 3

abbrev late : List ℕ
late = sent_image true 17 3 words.counting

module _ (s : List ℕ) (placed : Placed s late) where
  abbrev at : Head
  at = head_of (slot_at (find s (calls.address_of late)) s)

  late-read : at.wish.protection ≡ 1 → calls.reading_at (slot_at (find s (calls.address_of late)) s) late ≡ readable_as 3 words.counting
  unfolding calls.reading_at
  late-read p =
      ap (λ (n : ℕ). received (eqb n 1) late) p ∙ received-sent true 17 3 words.counting (lit≤ tt) (lit≤ tt) refl bytes

  pub out-told : at.wish.protection ≡ 1 → at.awaited ≡ 2 → calls.packet_answered s late ≡ answer 32 2 3
  unfolding taken_number further per_of needs_of row_of move_of move_number
  out-told p w =
      answered-passed (calls.unplaced s late) (calls.slot_answered s late) (placed-zero s late placed)
      ∙ ap₂ (λ (r : ReadingAnswer) (a : ℕ). answer_of (further r.number (move_number (move_of 4 4 a r.index))) r.place a r.index)
      (late-read p) w
