-- `group::joined`: the room cleared where the packet is the first, then its bytes at their place.
use mathlib.Core.Path.{◌∙◌}
use mathlib.Core.Logic.{inl, inr}
use Rattle.group.proofs.Doing.{Begun, joined-does}
use Rattle.group.proofs.joined.Goals as goal
use Rattle.group.proofs.joined.Goals.{then-place-eq0, else-place-eq0}

pub returns : goal.returns
returns c =
    let begun : Begun c.args.place c.args.slot.now c.if-place-eq0.slot =
    elim c.if-place-eq0.branch [
      | then-place-eq0 w ↦ inl (w.if-place-eq0.true, w.slot-is ∙ w.empty.ensures)
      | else-place-eq0 w ↦ inr (w.if-place-eq0.false, w.slot-is)
    ] in
    joined-does c.args.place c.args.slot.now c.args.bytes.now c.requires.slot_len c.requires.place_bound c.requires.bytes_len_bound
    c.if-place-eq0.slot _ begun c.copy.ensures
