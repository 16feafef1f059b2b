-- Machines that take a control packet for damage, type C7 for a control packet, or tell something else with a refusal than what it
-- carries (document 02, Ask 6), refuted by demand 1.
--
--   startled-fails, indulgent-fails    a control packet drops the group of its address; one of type C7 does not
--   swapping-fails, lingering-fails    32 carries the two indices exchanged; they are told with every number
--
-- Assumes nothing.
use mathlib.Core.Path.{◌≡◌, refl, sym, ap, ◌∙◌, subst}
use mathlib.Core.Bool.{false, cond}
use mathlib.Core.List.{List, []}
use Prim.Native.Nat.{ℕ}
use native.Mathlib.Omega.{arith}
use lib.Dec.{eqb, lit<, lit≤}
use Rattle.bits.specs.Bits.{bits_of, number, sent, numbers_in, blank}
use Rattle.bits.proofs.Storing.{blank-length}
use Rattle.golay.specs.Code.{less, line, divide, remainder, word23}
use Rattle.image.specs.Image.{header_of, image_of}
use Rattle.packet.specs.Received.{written}
use Rattle.packet.proofs.Damages.{sent-spare}
use Rattle.slot.specs.Slot.{head_of}
use Rattle.head.specs.Head.{wish_of}
use Rattle.head.specs.Move.{per_of, needs_of, row_of, move_of, move_number}
use Rattle.head.specs.declared.Head.{Head}
use Rattle.table.specs.State.{slot_at, find}
use Rattle.table.specs.Calls.{follow_after}
use Rattle.table.proofs.Vectors.{started, followed, followed-17}
use Rattle.history.specs.Followed as one
use Rattle.history.specs.Sent.{In}
use Rattle.adapter.specs.Calls.{address_of, packet_answer, packet_after}
use Rattle.adapter.proofs.Vectors.{typed, typed-17, control-29, reserved-47}
use Rattle.demands.specs.Machine.{packet, our_answer, run}
use Rattle.demands.specs.Setting.{setting_after}
use Rattle.demands.specs.Seen.{seen_in}
use Rattle.demands.specs.Table.{member, followed_after}
use Rattle.demands.specs.Demand1.{unchanging, dropping, DroppedBy, Demand1}
use Rattle.demands.specs.Harmful.{by_call, startled, indulgent, swapping, lingering}
use Rattle.demands.proofs.Numbers.{among_in}
use Rattle.demands.proofs.Serving.{view}
use Rattle.demands.proofs.Calling.{follow-serves}
use Rattle.demands.proofs.First.{demand-1}
use Rattle.demands.proofs.Followers.{history-run}
use Rattle.demands.proofs.Heeding.{dropped_at, fresh-gap, drop-changes}
use Rattle.demands.proofs.Examples.{empty-state, yes-2, bytes-zero, clean, clean-arrives, clean-index, clean_step}

-- ---- at the slot that has just begun to follow 17

abbrev control : List ℕ
control = typed 0x3F

abbrev reserved : List ℕ
reserved = typed 0xC7

control-17 : address_of control ≡ 17
unfolding header_of written image_of numbers_in number bits_of sent word23 remainder divide line less
control-17 = typed-17 0x3F refl

reserved-17 : address_of reserved ≡ 17
unfolding header_of written image_of numbers_in number bits_of sent word23 remainder divide line less
reserved-17 = typed-17 0xC7 refl

pub startled-fails : Demand1 startled → ⊥
unfolding by_call our_answer
startled-fails d =
    let kept = d.unchanged (packet control) followed (subst (λ (n : ℕ). In n unchanging) (sym control-29) (among_in 29 unchanging tt)) in
    let due = dropped_at (address_of control) followed in
    let same : due ≡ followed = sym (ap (λ (n : ℕ). cond (eqb n 29) due (packet_after followed control)) control-29) ∙ kept in
    drop-changes started (wish_of 17 1 2) followed-17 (ap (λ (a : ℕ). dropped_at a followed) (sym control-17) ∙ same)

pub indulgent-fails : Demand1 indulgent → ⊥
unfolding by_call our_answer DroppedBy
indulgent-fails d =
    let due = (d.dropped (packet reserved) followed (subst (λ (n : ℕ). In n dropping) (sym reserved-47) (among_in 47 dropping tt))).1 in
    let k = find followed (address_of reserved) in
    let left : cond (eqb (packet_answer followed reserved) 47) followed (packet_after followed reserved) ≡ followed =
    ap (λ (n : ℕ). cond (eqb n 47) followed (packet_after followed reserved)) reserved-47 in
    let marked : (head_of (slot_at k followed)).gap ≡ 1 = ap (λ (t : List ℕ). (head_of (slot_at k t)).gap) (sym left) ∙ ap (λ (h : Head). h.gap) due.head in
    omega (
      arith,
      marked,
      fresh-gap started (wish_of 17 1 2) followed-17,
      ap (λ (a : ℕ). (head_of (slot_at (find followed a) followed)).gap) reserved-17,
    )

-- ---- what is told

-- index 1 where 0 is awaited
abbrev begun : List ℕ
begun = follow_after empty-state (wish_of 17 0 2)

early-32 : packet_answer begun (clean 1) ≡ 32
unfolding one.followed one.answer per_of needs_of row_of move_of move_number
early-32 = (clean_step begun (one.followed (wish_of 17 0 2)) (follow-serves empty-state (wish_of 17 0 2) yes-2) refl 1 (lit< tt)).answer

awaits-0 : (head_of (slot_at (find begun (address_of (clean 1))) begun)).awaited ≡ 0
unfolding view seen_in one.followed
awaits-0 =
    ap (λ (a : ℕ). (head_of (slot_at (find begun a) begun)).awaited) (clean-arrives 3 1 (lit< tt)).address
    ∙ ap (λ (f : one.Followed). f.head.awaited) (follow-serves empty-state (wish_of 17 0 2) yes-2).seen

pub swapping-fails : Demand1 swapping → ⊥
unfolding our_answer
swapping-fails d =
    let theirs = (d.carries begun (clean 1)).out early-32 in
    let own = (demand-1.carries begun (clean 1)).out early-32 in
    omega (arith, theirs.0, own.1, awaits-0, clean-index 1 (lit< tt))

unfollowed-27 : packet_answer empty-state (clean 1) ≡ 27
unfolding run our_answer followed_after member setting_after
unfollowed-27 =
    let r = clean-arrives 3 1 (lit< tt) in
    (history-run []).packets (clean 1) r.size (sent-spare false 17 1 (blank 90) (lit≤ tt) (lit≤ tt) (blank-length 90) (bytes-zero 90)) r.within refl

pub lingering-fails : Demand1 lingering → ⊥
unfolding our_answer
lingering-fails d =
    let told = (d.carries empty-state (clean 1)).others (λ e. omega (arith, e, unfollowed-27)) (λ e. omega (arith, e, unfollowed-27)) in
    omega (arith, told.1, clean-index 1 (lit< tt))
