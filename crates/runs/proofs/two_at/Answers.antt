use Rattle.std.proofs.Common.{arith}
use Rattle.runs.specs.Numbers.{two_at}
use Rattle.runs.proofs.two_at.Goals as goal

pub returns : goal.returns
unfolding two_at
returns c = omega (arith, c.from_be_bytes.ensures)
