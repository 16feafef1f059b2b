use Rattle.image.proofs.Gathering.{header-gathered}
use Rattle.image.proofs.header.Goals as goal

pub returns : goal.returns
returns c = header-gathered c.args.image.now (λ k. (c.type_inv.image k).fits)
