-- The masks and the sums are 0 exactly if the head is good. Assumes nothing.
use Rattle.structure.proofs.Faults.{faults-good}
use Rattle.structure.proofs.Structure.faults.Goals as goal

pub returns : goal.returns
returns c =
    faults-good c.args.s.now (λ k. (c.type_inv.s k).fits) c.four_at-low.result c.four_at-high.result
    c.four_at-low.ensures c.four_at-high.ensures
