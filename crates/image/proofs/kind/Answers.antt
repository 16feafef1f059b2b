use Rattle.std.proofs.Common.{arith}
use Rattle.image.proofs.Gathering.{byte-gathered}
use Rattle.image.proofs.kind.Goals as goal

pub returns : goal.returns
returns c = byte-gathered c.args.image.now (λ k. (c.type_inv.image k).fits) 0 (omega arith)
