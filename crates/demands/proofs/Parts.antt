-- What the three demands share: what ask says and shows of a followed address, and what a packet call leaves of the state where
-- its image is placed.
--
--   ask-here, shown-here     ask says what the view's head says, and shows its group; asked-number: so of any head
--   part_none                a part of no bytes
--   followed-serves          a good state that follows an address
--   by_place                 an image is refused before its slot is asked, or it is placed
--   placed-serves            then its address is followed
--   placed-answer            the answer is the slot's
--   placed-here              the slot is what it makes of the reading
--   placed-others            every other slot is as it was, and so is the setting (placed-setting); placed-size: no byte more or less
--
-- Assumes nothing.
use mathlib.Core.Path.{◌≡◌, refl, sym, ap, ap₂, ◌∙◌}
use mathlib.Core.Bool.{Bool, true, false, cond, ◌||◌}
use mathlib.Core.List.{List, []}
use Prim.Native.Nat.{ℕ, ◌+◌, ◌*◌, ◌≤◌}
use native.Mathlib.Omega.{arith}
use native.Mathlib.Decide.{ℕ_discrete}
use borrow.Author.Tests.{eq-eqb, ne_eqb, le-ltb}
use lib.Dec.{leb, ltb, eqb}
use lib.ListN.{length}
use Rattle.packet.specs.Received.{ReadingAnswer}
use Rattle.runs.specs.Part.{part}
use Rattle.slot.specs.Slot.{slot_size, whole_at, room_size, head_of, stored}
use Rattle.head.specs.Head.{ask_number}
use Rattle.head.specs.declared.Head.{Head}
use Rattle.runs.proofs.Parts.{part-part}
use Rattle.table.specs.State.{state_size, setting, slot_at, with_slot, find, good}
use Rattle.table.proofs.States.{good-each, slot_same, slot-other, with-length, setting_kept}
use Rattle.table.proofs.Looking.{leave-0}
use Rattle.asking.specs.Asking.{Asked, group_length, asked_at, asked, ask_part}
use Rattle.asking.proofs.Laws.{asked-group, asked-none, asked-found}
use Rattle.group.specs.Group.{taken_number, taken_after}
use Rattle.adapter.specs.Calls.{address_of, followed, unplaced, reading_at, slot_answer, slot_after, packet_answer, packet_after}
use Rattle.adapter.proofs.Laws.{followed-both, Placed, placed, placed-zero, packet-placed}
use Rattle.demands.specs.Seen.{last_in, seen_in}
use Rattle.demands.proofs.Serving.{Serves, view, here-size, here-address, here-good, here-wish}
use Rattle.demands.proofs.Acting.{taken-does}
use Rattle.demands.proofs.Calling.{passed}

-- ---- ask

shown-none : (h : Head) → h.group ≡ 0 → ask_number h ≡ 4
unfolding ask_number
shown-none h e = ap (λ (b : Bool). cond b 4 (cond (leb h.wish.limit h.age) 7 (cond (eqb h.gap 1) 6 5))) (eq-eqb h.group 0 e)

last_none : (h : Head) (room : List ℕ) → h.group ≡ 0 → last_in h room ≡ []
unfolding last_in
last_none h room e = ap (λ (b : Bool). cond b [] (part 0 (group_length h) room)) (eq-eqb h.group 0 e)

last-group : (h : Head) (room : List ℕ) → (h.group ≡ 0 → ⊥) → last_in h room ≡ part 0 (group_length h) room
unfolding last_in
last-group h room ne = ap (λ (b : Bool). cond b [] (part 0 (group_length h) room)) (ne_eqb h.group 0 ne)

group-le : (h : Head) → group_length h ≤ room_size
unfolding group_length
group-le h = go (eqb h.wish.protection 1)
  where
    go : (b : Bool) → cond b 180 360 ≤ room_size
    go true = omega arith
    go false = omega arith

pub part_none : (s : List ℕ) → part 0 0 s ≡ []
unfolding part
part_none s = refl

-- a group's place in the state is the front of its room in the slot
group-place : (k n : ℕ) (s : List ℕ) → n ≤ room_size → part (k * slot_size + whole_at) n s ≡ part 0 n (stored (slot_at k s))
unfolding slot_at stored
group-place k n s h =
    sym (part-part 0 n whole_at room_size (part (k * slot_size) slot_size s) (omega arith) ∙ part-part whole_at n (k * slot_size) slot_size s (omega arith))

pub asked-number : (k : ℕ) (h : Head) → (asked_at k h).number ≡ ask_number h
asked-number k h = go (ℕ_discrete h.group 0)
  where
    go : Dec (h.group ≡ 0) → (asked_at k h).number ≡ ask_number h
    go (yes e) = ap (λ (x : Asked). x.number) (asked-none k h e) ∙ sym (shown-none h e)
    go (no ne) = ap (λ (x : Asked). x.number) (asked-group h ne k)

asked-shows : (k : ℕ) (s : List ℕ) → let h = head_of (slot_at k s) in part (asked_at k h).at (asked_at k h).len s ≡ last_in h (stored (slot_at k s))
asked-shows k s = go (ℕ_discrete (head_of (slot_at k s)).group 0)
  where
    h : Head
    h = head_of (slot_at k s)

    go : Dec ((head_of (slot_at k s)).group ≡ 0) → part (asked_at k h).at (asked_at k h).len s ≡ last_in h (stored (slot_at k s))
    go (yes e) = ap (λ (x : Asked). part x.at x.len s) (asked-none k h e) ∙ part_none s ∙ sym (last_none h (stored (slot_at k s)) e)
    go (no ne) =
        ap (λ (x : Asked). part x.at x.len s) (asked-group h ne k)
        ∙ group-place k (group_length h) s (group-le h) ∙ sym (last-group h (stored (slot_at k s)) ne)

module _ (s : List ℕ) (a : ℕ) (v : Serves s a) where
  asked_here : asked s a ≡ asked_at (find s a) (head_of (slot_at (find s a) s))
  asked_here =
      let b = here-wish s a v in
      let e = here-address s a v in
      let inside : (ltb a 1 || ltb 1022 a) ≡ false =
      ap₂ (λ (x y : Bool). x || y) (le-ltb a 1 (omega (arith, b.address-from, e))) (le-ltb 1022 a (omega (arith, b.address-to, e))) in
      sym (asked-found s a (find s a) _ _ (leave-0 s a (passed s a v) inside (find s a) refl v.found) refl refl refl)

  pub ask-here : (asked s a).number ≡ ask_number (view s a).head
  unfolding view seen_in
  ask-here = ap (λ (x : Asked). x.number) asked_here ∙ asked-number (find s a) (head_of (slot_at (find s a) s))

  pub shown-here : ask_part s a ≡ (view s a).last
  unfolding ask_part view seen_in
  shown-here = ap (λ (x : Asked). part x.at x.len s) asked_here ∙ asked-shows (find s a) s

-- ---- a packet call

pub followed-serves : (s : List ℕ) (a : ℕ) → length s ≡ state_size → good s ≡ true → followed s a ≡ true → Serves s a
followed-serves s a l g f =
    let both = followed-both s a f in
    record { size = l; all = good-each s g; pos = both.0; found = both.1 }

-- an image is refused before its slot is asked, or it is placed
pub by_place : {P : Type 0} (s image : List ℕ) → ((unplaced s image ≡ 0 → ⊥) → P) → (Placed s image → P) → P
by_place {P} s image f g = go (ℕ_discrete (unplaced s image) 0)
  where
    go : Dec (unplaced s image ≡ 0) → P
    go (yes z) = g (placed s image z)
    go (no ne) = f ne

module _ (s image : List ℕ) (p : Placed s image) where
  pub placed-serves : Serves s (address_of image)
  placed-serves = followed-serves s (address_of image) p.state.size p.state.all-good p.place

  abbrev k : ℕ
  k = find s (address_of image)

  abbrev r : ReadingAnswer
  r = reading_at (slot_at k s) image

  abbrev b : List ℕ
  b = taken_after r (slot_at k s)

  pub placed-answer : packet_answer s image ≡ taken_number r (head_of (slot_at k s))
  unfolding slot_answer
  placed-answer = (packet-placed s image (placed-zero s image p)).0

  after_is : packet_after s image ≡ with_slot k b s
  unfolding slot_after
  after_is = (packet-placed s image (placed-zero s image p)).1

  slot-long : length b ≡ slot_size
  slot-long =
      let v = placed-serves in
      (taken-does (slot_at k s) image (here-size s (address_of image) v) (here-good s (address_of image) v) p.size).size

  pub placed-size : length (packet_after s image) ≡ state_size
  placed-size = ap length after_is ∙ with-length s p.state.size k b placed-serves.found slot-long

  pub placed-setting : setting (packet_after s image) ≡ setting s
  placed-setting = ap setting after_is ∙ setting_kept s p.state.size k b placed-serves.found slot-long

  pub placed-here : slot_at k (packet_after s image) ≡ b
  placed-here = ap (slot_at k) after_is ∙ slot_same s p.state.size k b placed-serves.found slot-long

  pub placed-others : (j : ℕ) → (j ≡ k → ⊥) → slot_at j (packet_after s image) ≡ slot_at j s
  placed-others j ne = ap (slot_at j) after_is ∙ slot-other s p.state.size k b placed-serves.found slot-long j ne
