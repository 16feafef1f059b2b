use Rattle.bits.specs.Bits.{blank}
use Rattle.runs.proofs.clear.Goals as goal

pub returns : goal.returns
unfolding blank
returns c = c.fill.ensures.after (λ y e. e)
