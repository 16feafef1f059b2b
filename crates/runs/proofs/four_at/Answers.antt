use Rattle.runs.proofs.Numbers.{four_at-read}
use Rattle.runs.proofs.four_at.Goals as goal

pub returns : goal.returns
returns c = rw (c.from_le_bytes.ensures, c.array_at.ensures) (four_at-read c.args.at c.args.s.now)
