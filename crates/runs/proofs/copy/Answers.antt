-- `runs::copy`: k bytes are copied.
use Rattle.std.proofs.Common.{refl, arith, length-set}
use lib.Seq.{paste-zero}
use Rattle.bits.proofs.Storing.{copied}
use Rattle.runs.proofs.Copying.{copy-end}
use Rattle.runs.proofs.copy.Goals as goal

pub loop-k-init : goal.loop-k-init
loop-k-init c = (refl, paste-zero c.args.to.now c.args.at c.args.from.now)

pub loop-k-preserved : goal.loop-k-preserved
loop-k-preserved c =
    let at = c.loop-k in (
      simp length-set at.invariant.0,
      copied c.args.to.now c.args.from.now at.to c.args.at _ at.k at.invariant.1 refl (omega arith) (omega arith),
    )

pub returns : goal.returns
returns c = copy-end c.args.to.now c.args.at c.args.from.now c.loop-k.to c.loop-k.k c.loop-k.invariant.1 (omega arith)
