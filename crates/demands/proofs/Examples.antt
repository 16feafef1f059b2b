-- What the demands suppose can be met: a state in which nothing is followed yet, an accepted follow, a group of zeros that is sent
-- and arrives undamaged.
--
--   empty-state, accepted        the state of 0 alone, in which a follow is accepted
--   zeros, zeros-carried         what is sent
--   clean c, whole-group         packet c of group 0 as it was sent; all four
--   comes-at                     one of them at any address
--   whole-channel                they meet the channel's words; whole-arrived: all four arrived readable
--   clean_step, end_step         what a step of a history does, where the address is known
--   clean-arrives, clean-index, clean-event     one of them at its address, and as an event
--
-- Assumes nothing.
use mathlib.Core.Path.{◌≡◌, refl, sym, ap, ap₂, ◌∙◌}
use mathlib.Core.Bool.{Bool, false, cond, ◌||◌}
use mathlib.Core.List.{List, [], ◌∷◌}
use mathlib.Core.Logic.{inl, inr}
use Prim.Native.Nat.{ℕ, zero, suc, ◌≤◌, ◌<◌}
use native.Mathlib.Omega.{arith}
use native.Mathlib.Nat.{le_trans}
use native.Mathlib.Decide.{dec_lt}
use lib.Dec.{ltb, eqb, lit≤, lit<}
use borrow.Author.Tests.{not-false}
use Rattle.bits.specs.Bits.{blank}
use Rattle.bits.proofs.Storing.{blank-length}
use Rattle.bare.specs.Bare.{header_read}
use Rattle.image.specs.Image.{header_of}
use Rattle.packet.specs.Received.{received, readable_as}
use Rattle.packet.specs.Damage.{sent_image}
use Rattle.packet.specs.Received.{ReadingAnswer}
use Rattle.packet.proofs.Damages.{sent-corrected, corrected-came, sent-spare, received-sent, header-came}
use Rattle.head.specs.Head.{within, wish_of, good_wish}
use Rattle.head.proofs.Wishes.{outside, wish-passes}
use Rattle.slot.specs.Slot.{slot_size, head_of}
use Rattle.head.specs.declared.Head.{Head}
use Rattle.runs.proofs.Parts.{blank-at}
use Rattle.slot.proofs.Goods.{head-blank}
use Rattle.table.specs.State.{setting, started_state, slots, address_at, find}
use Rattle.table.specs.Calls.{follow_answer, end_after}
use Rattle.table.proofs.Looking.{Passed, follow-0}
use Rattle.table.proofs.States.{address_is, each-good, find-has, find_none}
use Rattle.table.proofs.Kept.{started-length, slot-started, started-good}
use Rattle.history.specs.Followed as one
use Rattle.history.specs.Sent.{Sent}
use Rattle.adapter.specs.Calls.{packet_answer, packet_after}
use Rattle.demands.specs.Machine.{packet, our_after, Bytes}
use Rattle.demands.specs.Demand3.{Stays, Carries, Happening, arrives, Comes, Channel, ReadableIn, Arrived}
use Rattle.demands.specs.Seen.{event_of, events_at, by}
use Rattle.demands.proofs.Calling.{Arrives, is-arrives, end-acts}
use Rattle.demands.proofs.Serving.{view, Kept}
use Rattle.demands.proofs.Telling.{next, answer-by}
use Rattle.demands.proofs.Channels.{came-arrives, came-event}

abbrev pub empty-state : List ℕ
empty-state = started_state

-- no slot of it has an address
pub empty-address : (k : ℕ) → k < slots → address_at empty-state k ≡ 0
empty-address k h =
    sym (address_is empty-state k) ∙ ap (λ (x : List ℕ). (head_of x).wish.address) (slot-started k h) ∙ ap (λ (h : Head). h.wish.address) (head-blank slot_size)

pub empty-passed : Passed empty-state
empty-passed = record { size = started-length; all-good = each-good empty-state started-good }

pub empty-absent : (a : ℕ) → 0 < a → slots ≤ find empty-state a
empty-absent a h = go (dec_lt (find empty-state a) slots)
  where
    go : Dec (find empty-state a < slots) → slots ≤ find empty-state a
    go (yes q) = absurd (omega (arith, find-has empty-state a q, empty-address (find empty-state a) q))
    go (no q) = omega arith

empty-free : find empty-state 0 < slots
empty-free = go (dec_lt (find empty-state 0) slots)
  where
    go : Dec (find empty-state 0 < slots) → find empty-state 0 < slots
    go (yes q) = q
    go (no q) = absurd (find_none empty-state 0 (omega arith) 0 (lit< tt) (empty-address 0 (lit< tt)))

pub accepted : (l : ℕ) → (ltb l 1 || ltb 1500 l) ≡ false → follow_answer empty-state (wish_of 17 0 l) ≡ 0
unfolding good_wish
accepted l t = follow-0 empty-state (wish_of 17 0 l) empty-passed (wish-passes (wish_of 17 0 l) (not-false (within 1 1500 l) (sym (outside 1 1500 l) ∙ t))) (find empty-state 17) refl (empty-absent 17 (lit< tt)) (find empty-state 0) refl empty-free

pub yes-2 : follow_answer empty-state (wish_of 17 0 2) ≡ 0
yes-2 = accepted 2 refl

-- ---- a group of zeros

abbrev pub zeros : Sent
zeros i c = blank 90

pub bytes-zero : (n : ℕ) → Bytes (blank n)
bytes-zero n k = omega (arith, blank-at n k)

pub zeros-carried : Carries false zeros
zeros-carried = record { size = λ i c h. blank-length 90; bytes = λ i c h. bytes-zero 90 }

abbrev pub clean : ℕ → List ℕ
clean c = sent_image false 17 c (blank 90)

abbrev pub whole-group : List Happening
whole-group = arrives 0 0 (clean 0) ∷ arrives 0 1 (clean 1) ∷ arrives 0 2 (clean 2) ∷ arrives 0 3 (clean 3) ∷ []

-- so at any address
pub comes-at : (a k : ℕ) → a ≤ 1023 → (c : ℕ) → c < 4 → Comes false a zeros k c 0 c (sent_image false a c (blank 90))
comes-at a k ha c h =
    let image = sent_image false a c (blank 90) in
    record {
      next = record { index = h; once = omega arith; lost = λ l. omega arith };
      came = corrected-came false k image image (sent-corrected false k a c (blank 90));
      spare = sent-spare false a c (blank 90) ha (omega arith) (blank-length 90) (bytes-zero 90);
    }

comes : (k c : ℕ) → c < 4 → Comes false 17 zeros k c 0 c (clean c)
comes k c h = comes-at 17 k (lit≤ tt) c h

pub whole-channel : (k : ℕ) → Channel false 17 zeros k 0 whole-group
unfolding Channel
whole-channel k = (comes k 0 (lit< tt), (comes k 1 (lit< tt), (comes k 2 (lit< tt), (comes k 3 (lit< tt), tt))))

pub clean-read : (c : ℕ) → c < 4 → received false (clean c) ≡ readable_as c (blank 90)
clean-read c h = received-sent false 17 c (blank 90) (lit≤ tt) (omega arith) (blank-length 90) (bytes-zero 90)

clean-number : (c : ℕ) → c < 4 → (received false (clean c)).number ≡ 0
clean-number c h = ap (λ (r : ReadingAnswer). r.number) (clean-read c h)

pub whole-arrived : Arrived false whole-group 0
unfolding Arrived ReadableIn
whole-arrived zero h = inl (refl, refl, clean-number 0 (lit< tt))
whole-arrived (suc zero) h = inr (inl (refl, refl, clean-number 1 (lit< tt)))
whole-arrived (suc (suc zero)) h = inr (inr (inl (refl, refl, clean-number 2 (lit< tt))))
whole-arrived (suc (suc (suc zero))) h = inr (inr (inr (inl (refl, refl, clean-number 3 (lit< tt)))))
whole-arrived (suc (suc (suc (suc c)))) h = absurd (omega arith)

-- ---- as events

-- at every setting
pub clean-arrives : (k c : ℕ) → c < 4 → Arrives 17 k (clean c)
clean-arrives k c h =
    let r = came-arrives false 0 17 c (blank 90) (clean c) (lit≤ tt) (lit≤ tt) h (blank-length 90) (bytes-zero 90) (comes 0 c h).came (comes 0 c h).spare in
    record { size = r.size; spare = r.spare; within = le_trans r.within (omega arith); address = r.address }

pub clean-index : (c : ℕ) → c < 4 → (header_read (header_of (clean c))).index ≡ c
clean-index c h = (header-came false 17 c (blank 90) (lit≤ tt) (omega arith) (blank-length 90) (bytes-zero 90) (clean c) (comes 3 c h).came.header).1

pub clean-read-event : (c : ℕ) → c < 4 → event_of false (clean c) ≡ one.packet c (blank 90)
clean-read-event c h =
    came-event false 0 17 c (blank 90) (clean c) (lit≤ tt) (lit≤ tt) h (blank-length 90) (bytes-zero 90) (comes 0 c h).came (clean-number c h)

stays_here : (c : ℕ) → Stays 17 (packet (clean c))
unfolding Stays
stays_here c = tt

pub clean-event : (k c : ℕ) → c < 4 → events_at 17 false k (packet (clean c)) ≡ one.packet c (blank 90) ∷ []
unfolding events_at
clean-event k c h =
    ap (λ (b : Bool). cond b (event_of false (clean c) ∷ []) []) (is-arrives 17 k (clean c) (clean-arrives k c h))
    ∙ ap (λ (e : one.Event). e ∷ []) (clean-read-event c h)

-- ---- a step of a history: one of the packets, or a subframe's end, where the address is known

pub record Steps (s : List ℕ) (c : ℕ) (f : one.Followed) : Type 0 where
  pub answer : packet_answer s (clean c) ≡ one.answer (one.packet c (blank 90)) f
  pub next : Kept (packet_after s (clean c)) 17 (one.after (one.packet c (blank 90)) f)

pub clean_step : (s : List ℕ) (f : one.Followed) → Kept s 17 f → f.head.wish.protection ≡ 0 → (c : ℕ) → c < 4 → Steps s c f
unfolding our_after one.run
clean_step s f k p c h =
    let plain : by (view s 17) ≡ false = ap by k.seen ∙ ap (λ (n : ℕ). eqb n 1) p in
    let n = next s 17 k.serves (packet (clean c)) (stays_here c) in
    record {
      answer = answer-by s 17 k.serves (clean c) (clean-arrives (setting s) c h)
          ∙ ap₂ (λ (b : Bool) (g : one.Followed). one.answer (event_of b (clean c)) g) plain k.seen
          ∙ ap (λ (e : one.Event). one.answer e f) (clean-read-event c h);
      next = record {
        serves = n.serves;
        seen = n.seen ∙ ap₂ (λ (b : Bool) (g : one.Followed). one.run (events_at 17 b (setting s) (packet (clean c))) g) plain k.seen
            ∙ ap (λ (es : List one.Event). one.run es f) (clean-event (setting s) c h);
      };
    }

pub end_step : (s : List ℕ) (f : one.Followed) → Kept s 17 f → Kept (end_after s) 17 (one.aged f)
unfolding one.after
end_step s f k = record { serves = (end-acts s 17 k.serves).serves; seen = (end-acts s 17 k.serves).seen ∙ ap one.aged k.seen }
