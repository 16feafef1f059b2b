-- On every good state each of our calls leaves a good state of the right length, and changes the addresses of its slots as follow and
-- leave say and in no other way.
--
--   keeps-good           every call keeps a good state good
--   keeps-addresses      and its slots' addresses, but for those that it adds or takes away
--
-- Assumes nothing.
use mathlib.Core.Path.{◌≡◌, refl, sym, ap, ◌∙◌, subst}
use mathlib.Core.Bool.{Bool, cond, ◌&&◌}
use mathlib.Core.List.{List, []}
use Prim.Native.Nat.{ℕ, ◌<◌}
use native.Mathlib.Omega.{arith}
use native.Mathlib.Decide.{ℕ_discrete}
use borrow.Author.Tests.{eq-eqb, ne_eqb}
use lib.Dec.{eqb}
use lib.ListN.{length}
use Rattle.bits.specs.Bits.{blank}
use Rattle.bits.specs.Rows.{done}
use Rattle.bits.proofs.Rows.{done-passed, done_refused, done-either, refusal-none}
use Rattle.bits.proofs.Storing.{blank-length}
use Rattle.slot.specs.Slot.{slot_size, head_of, with_head}
use Rattle.head.specs.Head.{new_head}
use Rattle.head.specs.declared.Head.{Head}
use Rattle.head.specs.declared.Wish.{Wish}
use Rattle.head.proofs.Bounds.{good_new}
use Rattle.slot.proofs.Goods.{good-load, head-blank}
use Rattle.slot.proofs.Heads.{with_head-length}
use Rattle.table.specs.State.{state_size, with_setting, started_state, slots, slot_at, with_slot, address_at, find}
use Rattle.table.specs.Calls.{follow_answer, follow_after, leave_answer, leave_after, end_answer, end_after, ages, set_answer, set_after}
use Rattle.table.proofs.Looking.{state-rest}
use Rattle.table.proofs.States.{each-good, good-each, slot-length, with-length, address_is, address_same, address-other, set-length, address_kept}
use Rattle.table.proofs.Kept.{Followed, follow-passed, leave-passed, started-length, started-good, follow-good, leave-good, set-good, aged-slot, ages-good}
use Rattle.adapter.specs.Calls.{address_of, packet_after}
use Rattle.adapter.proofs.Laws.{Placed, packet-refused}
use Rattle.demands.specs.Machine.{Call, start, follow, leave, packet, subframe_end, set_flips, asks, our_after}
use Rattle.demands.specs.Rows.{rows_of}
use Rattle.demands.specs.Table.{Good, address_after}
use Rattle.demands.proofs.Serving.{here-size, here-good, ages-at, ages-long}
use Rattle.demands.proofs.Acting.{taken-does}
use Rattle.demands.proofs.Calling.{packet-here}
use Rattle.demands.proofs.Parts.{by_place, placed-serves, placed-here, placed-others}
use Rattle.demands.proofs.Examples.{empty-address}
use Rattle.demands.proofs.First.{begins}

pub started-state : Good started_state
started-state = record { size = started-length; good = each-good started_state started-good }

pub end-passed : (s : List ℕ) → Good s → end_answer s ≡ 0
unfolding end_answer
end-passed s g = state-rest s [] g.size g.good ∙ refusal-none

-- by whether a number is 0
pub either : {A : Type 0} (n : ℕ) → (n ≡ 0 → A) → ((n ≡ 0 → ⊥) → A) → A
either {A} n f g = go (ℕ_discrete n 0)
  where
    go : Dec (n ≡ 0) → A
    go (yes e) = f e
    go (no ne) = g ne

-- ---- good

-- an accepted follow makes one slot new
module _ (s : List ℕ) (w : Wish) (f : Followed s w) where
  abbrev at : ℕ
  at = find s 0

  abbrev new : List ℕ
  new = with_head (new_head w) (slot_at at s)

  at_length : length (slot_at at s) ≡ slot_size
  at_length = slot-length s f.state.size at f.room

  new-length : length new ≡ slot_size
  new-length = with_head-length (new_head w) (slot_at at s) at_length ∙ at_length

  new-address : (head_of new).wish.address ≡ w.address
  new-address =
      ap (λ (h : Head). h.wish.address) (good-load (new_head w) (good_new w f.wish) (slot_at at s) at_length)

follow-size : (s : List ℕ) (w : Wish) → length s ≡ state_size → length (follow_after s w) ≡ state_size
unfolding follow_after
follow-size s w e =
    either (follow_answer s w)
    (λ z. let f = follow-passed s w z in
    ap length (done-passed (follow_answer s w) _ s z) ∙ with-length s e (find s 0) (new s w f) f.room (new-length s w f))
    (λ ne. ap length (done_refused (follow_answer s w) _ s ne) ∙ e)

leave-size : (s : List ℕ) (a : ℕ) → length s ≡ state_size → length (leave_after s a) ≡ state_size
unfolding leave_after
leave-size s a e =
    either (leave_answer s a)
    (λ z. ap length (done-passed (leave_answer s a) _ s z) ∙ with-length s e (find s a) (blank slot_size) (leave-passed s a z).2 (blank-length slot_size))
    (λ ne. ap length (done_refused (leave_answer s a) _ s ne) ∙ e)

packet-good : (s image : List ℕ) → Good s → Good (packet_after s image)
packet-good s image g =
    by_place s image (λ ne. subst Good (sym (packet-refused s image ne).1) g)
    (λ p. let v = (packet-here s (address_of image) (placed-serves s image p) image
    (record { size = p.size; spare = p.spare; within = p.within; address = refl })).serves in
    record { size = v.size; good = each-good _ v.all })

end-keeps : (s : List ℕ) → Good s → Good (end_after s)
unfolding end_after
end-keeps s g =
    subst Good (sym (done-passed (end_answer s) (ages slots 0 s) s (end-passed s g)))
    (record {
      size = ages-long slots 0 s (omega arith) g.size;
      good = each-good _ (ages-good slots 0 s (omega arith) g.size (good-each s g.good));
    })

set-size : (s : List ℕ) (most : ℕ) → length s ≡ state_size → length (set_after s most) ≡ state_size
unfolding set_after
set-size s most e =
    either (set_answer s most)
    (λ z. ap length (done-passed (set_answer s most) _ s z) ∙ set-length s e most)
    (λ ne. ap length (done_refused (set_answer s most) _ s ne) ∙ e)

pub keeps-good : (x : Call) (s : List ℕ) → Good s → Good (our_after x s)
unfolding our_after
keeps-good start s g = subst Good (sym (begins s g.size)) started-state
keeps-good (follow w) s g = record { size = follow-size s w g.size; good = follow-good s w g.good }
keeps-good (leave a) s g = record { size = leave-size s a g.size; good = leave-good s a g.good }
keeps-good (packet image) s g = packet-good s image g
keeps-good subframe_end s g = end-keeps s g
keeps-good (set_flips most) s g = record { size = set-size s most g.size; good = set-good s most g.good }
keeps-good (asks q) s g = g

-- ---- addresses

module _ (s : List ℕ) (k : ℕ) (h : k < slots) where
  -- one slot is changed: its address there, and every other's
  changed-address : (j : ℕ) (b : List ℕ) (a : ℕ) → length s ≡ state_size → j < slots → length b ≡ slot_size → (head_of b).wish.address ≡ a
      → address_at (with_slot j b s) k ≡ cond (eqb k j) a (address_at s k)
  changed-address j b a l hj lb e = go (ℕ_discrete k j)
    where
      go : Dec (k ≡ j) → address_at (with_slot j b s) k ≡ cond (eqb k j) a (address_at s k)
      go (yes q) =
          ap (address_at (with_slot j b s)) q ∙ address_same s l j b hj lb ∙ e
          ∙ sym (ap (λ (x : Bool). cond x a (address_at s k)) (eq-eqb k j q))
      go (no q) = address-other s l j b hj lb k q ∙ sym (ap (λ (x : Bool). cond x a (address_at s k)) (ne_eqb k j q))

  -- a call that is refused, or accepted, by its answer n
  by_answer : (n a j : ℕ) (t : List ℕ) → (n ≡ 0 → address_at t k ≡ cond (eqb k j) a (address_at s k))
      → address_at (done n t s) k ≡ cond (eqb n 0 && eqb k j) a (address_at s k)
  by_answer n a j t accepted =
      either n
      (λ z. ap (λ (x : List ℕ). address_at x k) (done-passed n t s z) ∙ accepted z
      ∙ sym (ap (λ (x : Bool). cond (x && eqb k j) a (address_at s k)) (eq-eqb n 0 z)))
      (λ ne. ap (λ (x : List ℕ). address_at x k) (done_refused n t s ne)
      ∙ sym (ap (λ (x : Bool). cond (x && eqb k j) a (address_at s k)) (ne_eqb n 0 ne)))

  packet-address : (image : List ℕ) → address_at (packet_after s image) k ≡ address_at s k
  packet-address image =
      by_place s image (λ ne. ap (λ (x : List ℕ). address_at x k) (packet-refused s image ne).1) (λ p. go p (ℕ_discrete k (find s (address_of image))))
    where
      at : (t : List ℕ) → (head_of (slot_at k t)).wish.address ≡ (head_of (slot_at k s)).wish.address → address_at t k ≡ address_at s k
      at t e = sym (address_is t k) ∙ e ∙ address_is s k

      go : Placed s image → Dec (k ≡ find s (address_of image)) → address_at (packet_after s image) k ≡ address_at s k
      go p (no ne) = at _ (ap (λ (x : List ℕ). (head_of x).wish.address) (placed-others s image p k ne))
      go p (yes e) =
          let v = placed-serves s image p in
          let a = address_of image in
          at _ (ap (λ (j : ℕ). (head_of (slot_at j (packet_after s image))).wish.address) e ∙ ap (λ (x : List ℕ). (head_of x).wish.address) (placed-here s image p)
          ∙ (taken-does (slot_at (find s a) s) image (here-size s a v) (here-good s a v) p.size).address
          ∙ ap (λ (j : ℕ). (head_of (slot_at j s)).wish.address) (sym e))

  end-address : Good s → address_at (end_after s) k ≡ address_at s k
  unfolding end_after
  end-address g =
      let t = ages slots 0 s in
      ap (λ (x : List ℕ). address_at x k) (done-passed (end_answer s) t s (end-passed s g))
      ∙ sym (address_is t k) ∙ ap (λ (x : List ℕ). (head_of x).wish.address) (ages-at slots 0 s (omega arith) g.size k (omega arith) h)
      ∙ (aged-slot (slot_at k s) (slot-length s g.size k h) ((good-each s g.good).slot k h)).1 ∙ address_is s k

  set-address : (most : ℕ) → Good s → address_at (set_after s most) k ≡ address_at s k
  unfolding set_after
  set-address most g =
      done-either (λ (x : List ℕ). address_at x k ≡ address_at s k) (set_answer s most) (with_setting most s) s
      (λ z. address_kept s g.size most k h) refl

pub keeps-addresses : (x : Call) (s : List ℕ) → Good s → (k : ℕ) → k < slots → address_at (our_after x s) k ≡ address_after x s k
unfolding our_after address_after rows_of follow_answer follow_after leave_answer leave_after
keeps-addresses start s g k h = ap (λ (x : List ℕ). address_at x k) (begins s g.size) ∙ empty-address k h
keeps-addresses (follow w) s g k h =
    by_answer s k h (follow_answer s w) w.address (find s 0) _
    (λ z. let f = follow-passed s w z in
    changed-address s k h (find s 0) (new s w f) w.address g.size f.room (new-length s w f) (new-address s w f))
keeps-addresses (leave a) s g k h =
    by_answer s k h (leave_answer s a) 0 (find s a) _
    (λ z. changed-address s k h (find s a) (blank slot_size) 0 g.size (leave-passed s a z).2 (blank-length slot_size)
    (ap (λ (y : Head). y.wish.address) (head-blank slot_size)))
keeps-addresses (packet image) s g k h = packet-address s k h image
keeps-addresses subframe_end s g k h = end-address s k h g
keeps-addresses (set_flips most) s g k h = set-address s k h most g
keeps-addresses (asks q) s g k h = refl
