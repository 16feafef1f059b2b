use Rattle.runs.proofs.Numbers.{eight_at-read}
use Rattle.runs.proofs.eight_at.Goals as goal

pub returns : goal.returns
returns c = rw (c.from_le_bytes.ensures, c.array_at.ensures) (eight_at-read c.args.at c.args.s.now)
