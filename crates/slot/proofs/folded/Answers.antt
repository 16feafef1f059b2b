use Rattle.std.proofs.Common.{◌∙◌}
use Rattle.slot.proofs.Steps.{fold_next, fold_end}
use Rattle.slot.proofs.folded.Goals as goal

pub loop-byte-preserved : goal.loop-byte-preserved
loop-byte-preserved c = fold_next c.loop-byte.all c.loop-byte.byte-index c.args.slot.now c.loop-byte-test.true ∙ c.loop-byte.invariant

pub returns : goal.returns
returns c = fold_end c.loop-byte.all c.loop-byte.byte-index c.args.slot.now c.loop-byte-test.false ∙ c.loop-byte.invariant
