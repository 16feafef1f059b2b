use Rattle.image.proofs.Gathering.{spare-gathered}
use Rattle.image.proofs.spare.Goals as goal

pub returns : goal.returns
returns c = spare-gathered c.args.image.now (λ k. (c.type_inv.image k).fits) c.requires
