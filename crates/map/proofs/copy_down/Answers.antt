-- The copy puts the announced part in front. Assumes nothing.
use Rattle.runs.specs.Part.{part, put}
use Rattle.map.proofs.copy_down.Goals as goal

pub returns : goal.returns
unfolding part put
returns c = c.copy_within.ensures.after
