-- Machines that keep another table of addresses than the history's, refuted by it.
--
--   clinging-fails, half-started-fails     leave and start that leave something
--   greedy-fails, leaking-fails            follow and leave that follow what nobody asked for
--   brittle-fails                          a subframe's end that leaves a bad state
--
-- Assumes nothing.
use mathlib.Core.Path.{◌≡◌, refl, sym, ap, ◌∙◌, subst}
use mathlib.Core.Bool.{Bool, true, false, cond}
use mathlib.Core.List.{List, [], ◌∷◌}
use Prim.Native.Nat.{ℕ, zero, suc, ◌+◌, ◌≤◌, ◌<◌, ◌-◌}
use native.Mathlib.Omega.{arith}
use native.Mathlib.Decide.{ℕ_discrete}
use lib.Dec.{T, lit<}
use lib.ListN.{length}
use Rattle.bits.specs.Bits.{blank}
use Rattle.bits.specs.Rows.{refusal}
use Rattle.bits.specs.Search.{all}
use Rattle.bits.proofs.Rows.{done-passed}
use Rattle.bits.proofs.Storing.{blank-length}
use Rattle.runs.specs.Part.{part}
use Rattle.slot.specs.Slot.{room_size, slot_size, head_of, with_unfinished, with_stored, free, good_slot}
use Rattle.runs.specs.Numbers.{four_at}
use Rattle.head.specs.Head.{ask_number, good_head, wish_of, good_wish}
use Rattle.slot.proofs.Laws.{unfinished-head, unfinished-length, stored-head, stored-length}
use Rattle.slot.proofs.Goods.{blank-free}
use Rattle.table.specs.State.{state_size, slots, slot_at, with_slot, address_at, find, good_at, good}
use Rattle.table.specs.Calls.{start_after, follow_answer, follow_after, leave_answer, leave_after, end_after}
use Rattle.table.proofs.States.{slot-length, with-length, address_is, address_same, address-other, find-has}
use Rattle.table.proofs.Kept.{started-length, slot-started}
use Rattle.table.proofs.Vectors.{started-bytes}
use Rattle.asking.specs.Asking.{asked}
use Rattle.history.specs.Followed as one
use Rattle.demands.specs.Machine.{Call, follow, leave, subframe_end, ours, our_answer, our_after, run, question_answer}
use Rattle.demands.specs.Demand1.{Demand1}
use Rattle.demands.specs.Setting.{setting_after}
use Rattle.demands.specs.Table.{member, without, accepts, follow_now, followed_after, ByHistory, KeepsTable}
use Rattle.demands.specs.Harmful.{by_call, clinging, roomless, half_started, crowd, greedy, leaking, brittle}
use Rattle.demands.proofs.Calling.{follow-serves}
use Rattle.demands.proofs.Parts.{ask-here}
use Rattle.demands.proofs.First.{begins}
use Rattle.demands.proofs.Tables.{started-state}
use Rattle.demands.proofs.Followers.{history-run}
use Rattle.demands.proofs.Examples.{empty-state, empty-address, accepted}

abbrev begun : List ℕ
begun = start_after empty-state

-- ours from there on, by the calls alone
answers-then : (h : List Call) → ByHistory ours (followed_after h []) (setting_after h 3) (run ours h begun)
answers-then h =
    subst (λ (x : List ℕ). ByHistory ours (followed_after h []) (setting_after h 3) (run ours h x)) (sym (begins empty-state started-length)) (history-run h)

-- ---- leave and start

pub clinging-fails : KeepsTable clinging → ⊥
unfolding question_answer by_call run our_answer our_after followed_after follow_now accepts member without refusal one.followed ask_number
clinging-fails d =
    let t = follow_after begun (wish_of 17 0 1) in
    let k = follow-serves empty-state (wish_of 17 0 1) (accepted 1 refl) in
    let four : (asked t 17).number ≡ 4 =
    ap (λ (s : List ℕ). (asked (follow_after s (wish_of 17 0 1)) 17).number) (begins empty-state started-length)
    ∙ ask-here _ 17 k.serves ∙ ap (λ (f : one.Followed). ask_number f.head) k.seen in
    let gone : (asked t 17).number ≡ 27 =
    ((d.history empty-state started-length (follow (wish_of 17 0 1) ∷ leave 17 ∷ [])).asks 17).refused (λ z. omega (arith, z)) in
    omega (arith, four, gone)

-- the heads are kept
room-size : length (blank room_size) ≡ room_size
room-size = blank-length room_size

roomless-address : (n k : ℕ) (s : List ℕ) → n + k ≤ slots → length s ≡ state_size → (j : ℕ) → address_at (roomless n k s) j ≡ address_at s j
unfolding roomless
roomless-address zero k s h l j = refl
roomless-address (suc n) k s h l j =
    let x = slot_at k s in
    let hk : k < slots = omega arith in
    let lx = slot-length s l k hk in
    let y = with_unfinished (blank room_size) x in
    let ly = unfinished-length (blank room_size) x lx room-size ∙ lx in
    let b = with_stored (blank room_size) y in
    let lb = stored-length (blank room_size) y ly room-size ∙ ly in
    let head : head_of b ≡ head_of x = stored-head (blank room_size) y ly room-size ∙ unfinished-head (blank room_size) x lx room-size in
    roomless-address n (suc k) (with_slot k b s) (omega arith) (with-length s l k b hk lb) j
    ∙ go (ℕ_discrete j k) (λ q. ap (address_at (with_slot k b s)) q ∙ address_same s l k b hk lb ∙ ap (λ y. y.wish.address) head ∙ address_is s k ∙ ap (address_at s) (sym q))
    (λ q. address-other s l k b hk lb j q)
  where
    go : {A : Type 0} → Dec (j ≡ k) → (j ≡ k → A) → ((j ≡ k → ⊥) → A) → A
    go (yes e) f g = f e
    go (no e) f g = g e

pub half-started-fails : Demand1 half_started → ⊥
unfolding by_call
half-started-fails d =
    let k = follow-serves empty-state (wish_of 17 0 1) (accepted 1 refl) in
    let t = follow_after empty-state (wish_of 17 0 1) in
    let j = find t 17 in
    let kept : address_at (roomless slots 0 t) j ≡ 17 = roomless-address slots 0 t (omega arith) k.serves.size j ∙ find-has t 17 k.serves.found in
    let none : address_at (roomless slots 0 t) j ≡ 0 =
    ap (λ (s : List ℕ). address_at s j) (d.started t k.serves.size ∙ sym started-bytes) ∙ empty-address j k.serves.found in
    omega (arith, kept, none)

-- ---- follow and leave

pub greedy-fails : KeepsTable greedy → ⊥
unfolding by_call run our_answer our_after followed_after follow_now accepts member refusal
greedy-fails d =
    let zero-first : follow_answer begun (wish_of 17 0 1) ≡ 0 = (answers-then []).follows (wish_of 17 0 1) in
    let t = run ours (follow (wish_of 17 0 1) ∷ crowd 0 1) begun in
    let after : run greedy (follow (wish_of 17 0 1) ∷ []) begun ≡ t = done-passed (follow_answer begun (wish_of 17 0 1)) t begun zero-first in
    let full : follow_answer t (wish_of 18 0 1) ≡ 26 = (answers-then (follow (wish_of 17 0 1) ∷ crowd 0 1)).follows (wish_of 18 0 1) in
    let room : follow_answer (run greedy (follow (wish_of 17 0 1) ∷ []) begun) (wish_of 18 0 1) ≡ 0 =
    (d.history empty-state started-length (follow (wish_of 17 0 1) ∷ [])).follows (wish_of 18 0 1) in
    omega (arith, full, ap (λ (s : List ℕ). follow_answer s (wish_of 18 0 1)) (sym after) ∙ room)

pub leaking-fails : KeepsTable leaking → ⊥
unfolding by_call run our_answer our_after followed_after follow_now accepts member without refusal
leaking-fails d =
    let s = follow_after begun (wish_of 17 0 1) in
    let zero-leave : leave_answer s 17 ≡ 0 = (answers-then (follow (wish_of 17 0 1) ∷ [])).leaves 17 in
    let t = follow_after (leave_after s 17) (wish_of 500 0 1) in
    let h = follow (wish_of 17 0 1) ∷ leave 17 ∷ [] in
    let after : run leaking h begun ≡ t = done-passed (leave_answer s 17) t s zero-leave in
    let held : follow_answer t (wish_of 500 0 1) ≡ 25 = (answers-then (follow (wish_of 17 0 1) ∷ leave 17 ∷ follow (wish_of 500 0 1) ∷ [])).follows (wish_of 500 0 1) in
    let free-again : follow_answer (run leaking h begun) (wish_of 500 0 1) ≡ 0 = (d.history empty-state started-length h).follows (wish_of 500 0 1) in
    omega (arith, held, ap (λ (x : List ℕ). follow_answer x (wish_of 500 0 1)) (sym after) ∙ free-again)

-- ---- a subframe's end

-- a byte of a room, and no address
bad-state : good (1 ∷ blank (state_size - 1)) ≡ false
unfolding good good_at all good_slot good_wish good_head free head_of four_at slot_at part blank
bad-state = refl

pub brittle-fails : KeepsTable brittle → ⊥
unfolding by_call
brittle-fails d =
    let bad : Bool → List ℕ = λ b. cond b (1 ∷ blank (state_size - 1)) (end_after empty-state) in
    let g : good (bad (free (slot_at 0 empty-state))) ≡ true = (d.good subframe_end empty-state started-state).good in
    let nobody : free (slot_at 0 empty-state) ≡ true = ap free (slot-started 0 (lit< tt)) ∙ blank-free slot_size in
    let e : good (1 ∷ blank (state_size - 1)) ≡ true = sym (ap (λ (b : Bool). good (bad b)) nobody) ∙ g in
    subst T (sym e ∙ bad-state) tt
