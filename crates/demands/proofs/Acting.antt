-- Our calls, each as the events that it means at a followed address: the laws that make our calls the system of which the crate
-- history speaks.
--
--   fault-answered, refused-not-zero    a refused reading's number: its fault's, and not 0
--   event-read, event-refused           what an image is to the address that it is read as
--   Does e x y n, taken-does            the slot's answer and the slot after it are the event's
--   protected_at s a                     the protection of the slot that follows the address
--
-- Assumes nothing.
use mathlib.Core.Path.{◌≡◌, refl, sym, ap, ◌∙◌, subst}
use mathlib.Core.Bool.{Bool, true, false, cond}
use mathlib.Core.List.{List}
use mathlib.Core.Logic.{◌⊎◌, inl, inr}
use Prim.Native.Nat.{ℕ, zero, suc}
use native.Mathlib.Omega.{arith}
use lib.Dec.{eqb}
use lib.ListN.{length, take}
use lib.Seq.{length-take-le}
use Rattle.bits.proofs.Rows.{further-refused, further-passed, done-passed}
use Rattle.packet.specs.Received.{received}
use Rattle.packet.specs.Damage.{data_size, Refused}
use Rattle.packet.specs.Received.{ReadingAnswer}
use Rattle.packet.proofs.Answers.{received-length, received-either}
use Rattle.slot.specs.Slot.{slot_size, head_of, good_slot}
use Rattle.head.specs.Head.{dropped_head, good_head}
use Rattle.head.specs.Move.{Move, moved_head, row_at, place_at}
use Rattle.head.specs.declared.Head.{Head}
use Rattle.slot.proofs.Goods.{good-slot}
use Rattle.head.proofs.Bounds.{good-dropped}
use Rattle.group.specs.Group.{refused_after, block_of, slot_moved, slot_dropped, taken_number, taken_after}
use Rattle.group.proofs.Doing.{block-le, taken-by}
use Rattle.group.proofs.Laws.{Fits, row_fits, moved-size, moved-good, moved-head, dropped-size, dropped-head}
use Rattle.faults.specs.Faults.{number, drops, fault_of}
use Rattle.faults.proofs.Laws.{fault-number, unreadable-not-zero}
use Rattle.history.proofs.Laws.{after-refused, after_kept}
use Rattle.history.specs.Followed.{Event, after, answer}
use Rattle.history.specs.Followed as one
use Rattle.adapter.specs.Calls.{reading_at}
use Rattle.table.specs.State.{slot_at, find}
use Rattle.demands.specs.Seen.{event_by, event_of, seen_in}
use Rattle.demands.proofs.View.{view-moved, view-dropped}
use Rattle.head.specs.declared.Wish.{Wish}
use Rattle.head.proofs.Moves.{moved-wish}

-- ---- what an image is to the address that it is read as

pub fault-answered : (r : ReadingAnswer) → Refused r → number (fault_of r.number) ≡ r.number
fault-answered r f = (fault-number r.number f).0

pub refused-not-zero : (r : ReadingAnswer) → Refused r → r.number ≡ 0 → ⊥
refused-not-zero r f z = unreadable-not-zero r.number f z

block_size : (h : Head) → data_size (eqb h.wish.protection 1) ≡ block_of h
unfolding block_of
block_size h = go (eqb h.wish.protection 1)
  where
    go : (b : Bool) → data_size b ≡ cond b 45 90
    go true = refl
    go false = refl

pub event-read : (p : Bool) (image : List ℕ) → (received p image).number ≡ 0
    → event_of p image ≡ one.packet (received p image).index (take (data_size p) (received p image).bytes)
unfolding event_of event_by
event-read p image e = ap (λ (n : ℕ). event_by n (received p image).index (take (data_size p) (received p image).bytes)) e

pub event-refused : (p : Bool) (image : List ℕ) → ((received p image).number ≡ 0 → ⊥) → event_of p image ≡ one.refused (fault_of (received p image).number)
unfolding event_of event_by
event-refused p image ne = go (received p image).number ne
  where
    go : (n : ℕ) → (n ≡ 0 → ⊥) → event_by n (received p image).index (take (data_size p) (received p image).bytes) ≡ one.refused (fault_of n)
    go zero q = absurd (q refl)
    go (suc n) q = refl

-- ---- at the slot of its address

pub record Does (e : Event) (x y : List ℕ) (n : ℕ) : Type 0 where
  pub size : length y ≡ slot_size
  pub good : good_slot y ≡ true
  pub address : (head_of y).wish.address ≡ (head_of x).wish.address
  pub seen : seen_in y ≡ after e (seen_in x)
  pub number : n ≡ answer e (seen_in x)

module _ (x image : List ℕ) (l : length x ≡ slot_size) (g : good_head (head_of x) ≡ true) where
  abbrev p : Bool
  p = eqb (head_of x).wish.protection 1

  abbrev r : ReadingAnswer
  r = received p image

  abbrev b : List ℕ
  b = take (data_size p) r.bytes

  abbrev mv : Move
  mv = row_at (head_of x) r.index

  abbrev place : ℕ
  place = place_at (head_of x) r.index

  fits : Fits mv place b x
  fits =
      row_fits r.index b x l g
      (length-take-le (data_size p) r.bytes (omega (arith, received-length p image, block_size (head_of x), block-le (head_of x))) ∙ block_size (head_of x))

  read-does : r.number ≡ 0 → Does (one.packet r.index b) x (taken_after r x) (taken_number r (head_of x))
  unfolding taken_after taken_number after answer seen_in
  read-does z =
      let e : taken_after r x ≡ slot_moved mv place b x =
      done-passed r.number _ (refused_after r.number x) z
      ∙ ap (λ (n : ℕ). slot_moved mv place (take n r.bytes) x) (sym (block_size (head_of x))) in
      let h : head_of (taken_after r x) ≡ moved_head mv (head_of x) = ap head_of e ∙ moved-head mv place b x fits in
      record {
        size = ap length e ∙ moved-size mv place b x fits;
        good = good-slot (taken_after r x) (ap good_head h ∙ moved-good mv place b x fits);
        address = ap (λ (y : Head). y.wish.address) h ∙ ap (λ (w : Wish). w.address) (moved-wish mv (head_of x));
        seen = ap seen_in e ∙ view-moved mv place b x fits;
        number = further-passed r.number _ z;
      }

  -- a refusal that drops
  dropped-does : Refused r → drops (fault_of r.number) ≡ true → Does (one.refused (fault_of r.number)) x (taken_after r x) (taken_number r (head_of x))
  unfolding taken_after taken_number after answer
  dropped-does f d =
      let ne = refused-not-zero r f in
      let e : taken_after r x ≡ slot_dropped x = taken-by r x true ne ((fault-number r.number f).1 ∙ d) in
      let h : head_of (taken_after r x) ≡ dropped_head (head_of x) = ap head_of e ∙ dropped-head x l g in
      record {
        size = ap length e ∙ dropped-size x l g;
        good = good-slot (taken_after r x) (ap good_head h ∙ good-dropped (head_of x) g);
        address = ap (λ (y : Head). y.wish.address) h;
        seen = ap seen_in e ∙ view-dropped x l g ∙ after-refused (fault_of r.number) (seen_in x) d;
        number = further-refused r.number _ ne ∙ sym (fault-answered r f);
      }

  -- one that does not, a control packet: the slot stays as it is
  kept-does : Refused r → drops (fault_of r.number) ≡ false → Does (one.refused (fault_of r.number)) x (taken_after r x) (taken_number r (head_of x))
  unfolding taken_after taken_number after answer
  kept-does f d =
      let ne = refused-not-zero r f in
      let e : taken_after r x ≡ x = taken-by r x false ne ((fault-number r.number f).1 ∙ d) in
      record {
        size = ap length e ∙ l;
        good = good-slot (taken_after r x) (ap (λ (y : List ℕ). good_head (head_of y)) e ∙ g);
        address = ap (λ (y : List ℕ). (head_of y).wish.address) e;
        seen = ap seen_in e ∙ after_kept (fault_of r.number) (seen_in x) d;
        number = further-refused r.number _ ne ∙ sym (fault-answered r f);
      }

  refused-does : Refused r → Does (one.refused (fault_of r.number)) x (taken_after r x) (taken_number r (head_of x))
  refused-does f = go (drops (fault_of r.number)) refl
    where
      go : (d : Bool) → drops (fault_of r.number) ≡ d → Does (one.refused (fault_of r.number)) x (taken_after r x) (taken_number r (head_of x))
      go true e = dropped-does f e
      go false e = kept-does f e

  pub taken-does : length image ≡ 94 → Does (event_of p image) x (taken_after (reading_at x image) x) (taken_number (reading_at x image) (head_of x))
  unfolding reading_at
  taken-does li = go (received-either p image li)
    where
      go : (r.number ≡ 0) ⊎ Refused r → Does (event_of p image) x (taken_after r x) (taken_number r (head_of x))
      go (inl z) = subst (λ (e : Event). Does e x (taken_after r x) (taken_number r (head_of x))) (sym (event-read p image z)) (read-does z)
      go (inr f) =
          subst (λ (e : Event). Does e x (taken_after r x) (taken_number r (head_of x))) (sym (event-refused p image (refused-not-zero r f)))
          (refused-does f)

abbrev pub protected_at : List ℕ → ℕ → Bool
protected_at s a = eqb (head_of (slot_at (find s a) s)).wish.protection 1
