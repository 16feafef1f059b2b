use Rattle.slot.proofs.Rooms.{empty-lent}
use Rattle.slot.proofs.room.empty.Goals as goal

pub returns : goal.returns
returns c = empty-lent c.args.slot.now _ c.requires c.clear.ensures
