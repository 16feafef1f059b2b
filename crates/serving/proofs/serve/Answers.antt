-- `serving::serve`: one call by its kind. Assumes nothing.
use mathlib.Core.Path.{refl, sym, ap, ◌∙◌}
use Prim.Native.Nat.{ℕ}
use native.Mathlib.Omega.{arith}
use lib.ListN.{get_or}
use Rattle.head.specs.Head.{wish_of}
use Rattle.table.specs.Calls.{follow_answer, follow_after, leave_answer, leave_after}
use Rattle.asking.specs.Asking.{Asked, asked}
use Rattle.records.specs.Format.{body_size}
use Rattle.records.proofs.Laws.{size-two-le}
use Rattle.serving.specs.Served.{served_answer, served_after}
use Rattle.serving.proofs.Laws.{taken-as, served-ask}
use Rattle.serving.proofs.serve.Goals as goal

-- ---- the bytes that are read

pub two_at-requires : goal.two_at-requires
unfolding body_size
two_at-requires c = omega (arith, c.requires, ap body_size (taken-as _ _ _ c.try_from.ensures c.in-Follow.ensures))

pub bounds-body-2 : goal.bounds-body-2
unfolding body_size
bounds-body-2 c = omega (arith, c.requires, ap body_size (taken-as _ _ _ c.try_from.ensures c.in-Follow.ensures))

pub two_at-requires-in-Follow : goal.two_at-requires-in-Follow
unfolding body_size
two_at-requires-in-Follow c = omega (arith, c.requires, ap body_size (taken-as _ _ _ c.try_from.ensures c.in-Follow.ensures))

pub two_at-requires-in-Leave : goal.two_at-requires-in-Leave
unfolding body_size
two_at-requires-in-Leave c = omega (arith, c.requires, ap body_size (taken-as _ _ _ c.try_from.ensures c.in-Leave.ensures))

pub two_at-requires-in-Ask : goal.two_at-requires-in-Ask
two_at-requires-in-Ask c =
    let no = taken-as _ _ _ c.try_from.ensures c.in-Ask.ensures in
    omega (arith, c.requires, size-two-le c.args.kind no.0 no.1 no.2)

-- ---- the answers, and the state after

pub returns-in-Packet-clause-value : goal.returns-in-Packet-clause-value
unfolding served_answer
returns-in-Packet-clause-value c =
    let one = taken-as _ _ _ c.try_from.ensures c.in-Packet.ensures in
    c.packet.ensures.value ∙ sym (ap (λ (k : ℕ). served_answer k c.args.body.now c.args.state.now) one)

pub returns-in-Packet-clause-state_after : goal.returns-in-Packet-clause-state_after
unfolding served_after
returns-in-Packet-clause-state_after c =
    let one = taken-as _ _ _ c.try_from.ensures c.in-Packet.ensures in
    c.packet.ensures.state_after ∙ sym (ap (λ (k : ℕ). served_after k c.args.body.now c.args.state.now) one)

pub returns-in-SubframeEnd-clause-value : goal.returns-in-SubframeEnd-clause-value
unfolding served_answer
returns-in-SubframeEnd-clause-value c =
    let two = taken-as _ _ _ c.try_from.ensures c.in-SubframeEnd.ensures in
    c.told.ensures ∙ c.subframe_end.ensures.value ∙ sym (ap (λ (k : ℕ). served_answer k c.args.body.now c.args.state.now) two)

pub returns-in-SubframeEnd-clause-state_after : goal.returns-in-SubframeEnd-clause-state_after
unfolding served_after
returns-in-SubframeEnd-clause-state_after c =
    let two = taken-as _ _ _ c.try_from.ensures c.in-SubframeEnd.ensures in
    c.subframe_end.ensures.state_after ∙ sym (ap (λ (k : ℕ). served_after k c.args.body.now c.args.state.now) two)

pub returns-in-Follow-clause-value : goal.returns-in-Follow-clause-value
unfolding served_answer
returns-in-Follow-clause-value c =
    let three = taken-as _ _ _ c.try_from.ensures c.in-Follow.ensures in
    let b = c.args.body.now in
    let t = c.args.state.now in
    c.told-in-Follow.ensures ∙ c.follow.ensures.value
    ∙ ap (follow_answer t) (c.new-wish.ensures ∙ (λ i. wish_of (c.two_at.ensures i) (get_or b 2 0) (c.two_at-in-Follow.ensures i)))
    ∙ sym (ap (λ (k : ℕ). served_answer k b t) three)

pub returns-in-Follow-clause-state_after : goal.returns-in-Follow-clause-state_after
unfolding served_after
returns-in-Follow-clause-state_after c =
    let three = taken-as _ _ _ c.try_from.ensures c.in-Follow.ensures in
    let b = c.args.body.now in
    let t = c.args.state.now in
    c.follow.ensures.state_after
    ∙ ap (follow_after t) (c.new-wish.ensures ∙ (λ i. wish_of (c.two_at.ensures i) (get_or b 2 0) (c.two_at-in-Follow.ensures i)))
    ∙ sym (ap (λ (k : ℕ). served_after k b t) three)

pub returns-in-Leave-clause-value : goal.returns-in-Leave-clause-value
unfolding served_answer
returns-in-Leave-clause-value c =
    let four = taken-as _ _ _ c.try_from.ensures c.in-Leave.ensures in
    c.told-in-Leave.ensures ∙ c.leave.ensures.value ∙ ap (leave_answer c.args.state.now) c.two_at-in-Leave.ensures
    ∙ sym (ap (λ (k : ℕ). served_answer k c.args.body.now c.args.state.now) four)

pub returns-in-Leave-clause-state_after : goal.returns-in-Leave-clause-state_after
unfolding served_after
returns-in-Leave-clause-state_after c =
    let four = taken-as _ _ _ c.try_from.ensures c.in-Leave.ensures in
    c.leave.ensures.state_after ∙ ap (leave_after c.args.state.now) c.two_at-in-Leave.ensures
    ∙ sym (ap (λ (k : ℕ). served_after k c.args.body.now c.args.state.now) four)

pub returns-in-Ask-clause-value : goal.returns-in-Ask-clause-value
returns-in-Ask-clause-value c =
    let no = taken-as _ _ _ c.try_from.ensures c.in-Ask.ensures in
    let t = c.args.state.now in
    (served-ask _ c.args.body.now t _ t no.0 no.1 no.2 no.3
    (c.told-in-Ask.ensures ∙ ap (λ (r : Asked). r.number) (c.answer.ensures ∙ ap (asked t) c.two_at-in-Ask.ensures)) refl).0

pub returns-in-Ask-clause-state_after : goal.returns-in-Ask-clause-state_after
returns-in-Ask-clause-state_after c =
    let no = taken-as _ _ _ c.try_from.ensures c.in-Ask.ensures in
    let t = c.args.state.now in
    (served-ask _ c.args.body.now t _ t no.0 no.1 no.2 no.3 refl refl).1
