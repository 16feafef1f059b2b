-- `group::refused`: the number says whether it drops, and is told with the place.
use mathlib.Core.Path.{◌≡◌, ◌∙◌}
use mathlib.Core.Logic.{inl, inr}
use Rattle.packet.specs.Received.{refused_as}
use Rattle.group.specs.Group.{refused_after}
use Rattle.group.proofs.Doing.{refused-does, taken_refused, taken-told}
use Rattle.group.proofs.refused.Goals as goal
use Rattle.group.proofs.refused.Goals.{then-drop, else-drop}

pub returns : goal.returns
returns c =
    let r = refused_as c.args.number c.args.place in
    let t = taken_refused r c.args.head c.args.slot.now c.requires.head_value c.requires.fact in
    let after : c.if-drop.slot ≡ refused_after c.args.number c.args.slot.now =
    refused-does c.args.number c.args.slot.now c.if-drop.slot _ c.drop.ensures
    (elim c.if-drop.branch [ then-drop w ↦ inl (w.if-drop.true, w.slot-is ∙ w.dropped.ensures) | else-drop w ↦ inr (w.if-drop.false, w.slot-is) ]) in
    record { value = taken-told r c.args.head _ _ t.0 c.told.ensures; slot_after = after ∙ t.1 }
