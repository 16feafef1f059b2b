-- The two structures of a component, one after the other. Assumes nothing.
use Rattle.map.proofs.Moving.{both-spoiled}
use Rattle.map.proofs.spoil_one.Goals as goal

pub returns : goal.returns
returns c = both-spoiled c.args.block.now _ _ c.requires c.spoil.ensures c.spoil-2.ensures
