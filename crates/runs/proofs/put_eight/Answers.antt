use Rattle.runs.proofs.Numbers.{eight-written}
use Rattle.runs.proofs.put_eight.Goals as goal

pub returns : goal.returns
returns c = rw (c.copy.ensures, c.to_le_bytes.ensures) (rw (eight-written))
