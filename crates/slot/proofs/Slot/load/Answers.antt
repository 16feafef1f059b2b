use Rattle.slot.specs.Slot.{head_of}
use Rattle.slot.proofs.Slot.load.Goals as goal

pub returns : goal.returns
unfolding head_of
returns c = cc
