use Rattle.std.proofs.Common.{refl, ap, ◌∙◌}
use Rattle.head.specs.Head.{aged_head}
use Rattle.table.proofs.Doing.{slot-stored, ages-turn, ages-end}
use Rattle.table.proofs.age.Goals as goal

pub loop-k-preserved : goal.loop-k-preserved
loop-k-preserved c =
    let at = c.loop-k in
    let aged = c.aged-aged.ensures ∙ ap aged_head c.head.ensures in
    let after = ages-turn at.k at.state _ at.invariant.0 c.loop-k-test.true (slot-stored _ _ at.k at.k at.state _ aged refl c.store.ensures) in
    (after.0, after.1 ∙ at.invariant.1)

pub returns : goal.returns
returns c = ages-end c.loop-k.k c.loop-k.state _ c.loop-k-test.false c.loop-k.invariant.1
