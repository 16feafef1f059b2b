use Rattle.runs.proofs.Numbers.{four-written}
use Rattle.runs.proofs.put_four.Goals as goal

pub returns : goal.returns
returns c = rw (c.copy.ensures, c.to_le_bytes.ensures) (rw (four-written))
