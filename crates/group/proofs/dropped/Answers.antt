-- `group::dropped`: the unfinished room cleared, then the head.
use Rattle.group.proofs.Doing.{drop-does}
use Rattle.group.proofs.dropped.Goals as goal

pub returns : goal.returns
returns c = drop-does c.args.slot.now c.args.head c.requires.head_value _ _ _ c.empty.ensures c.dropped.ensures c.store.ensures
