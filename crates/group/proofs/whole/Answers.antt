-- `group::whole`: the room kept and cleared, then the head.
use mathlib.Core.Path.{ap, ap₂, ◌∙◌}
use Rattle.bits.specs.Bits.{blank}
use Rattle.slot.specs.Slot.{room_size, with_head, with_unfinished}
use Rattle.group.specs.Group.{rooms_kept}
use Rattle.group.proofs.whole.Goals as goal

pub returns : goal.returns
unfolding rooms_kept
returns c =
    c.store.ensures
    ∙ ap₂ with_head c.whole.ensures (c.empty.ensures ∙ ap (with_unfinished (blank room_size)) c.keep.ensures)
