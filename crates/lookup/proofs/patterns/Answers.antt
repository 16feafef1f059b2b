-- The constant is the list whose rule is proved.
use Rattle.golay.proofs.Rule.{patterns, patterns-right}
use Rattle.lookup.proofs.patterns.Goals as goal

pub returns : goal.returns
unfolding patterns
returns c = patterns-right
