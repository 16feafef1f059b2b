-- What is announced comes into force, or the structure stays; nothing is announced behind the change. Assumes nothing.
use mathlib.Core.Path.{refl}
use Rattle.runs.specs.Part.{part}
use Rattle.map.proofs.Moving.{change-said, change-unsaid}
use Rattle.map.proofs.change_one.Goals as goal

pub returns-then-said : goal.returns-then-said
unfolding part
returns-then-said c =
    change-said c.args.sure c.args.block.now c.requires _ c.load-coming.ensures _ c.said.ensures c.if-said.true _ _ _ _
    c.copy_down.ensures c.settle.ensures refl c.clear.ensures

pub returns-else-said : goal.returns-else-said
unfolding part
returns-else-said c =
    change-unsaid c.args.sure c.args.block.now c.requires _ c.load-coming.ensures _ c.said.ensures c.if-said.false _ _ _
    c.stay.ensures refl c.clear-else-said.ensures
