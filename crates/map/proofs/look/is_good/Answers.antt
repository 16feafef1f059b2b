-- The fold over the components: its beginning, a turn and its end. Assumes nothing.
use mathlib.Core.Path.{sym, ap, ◌∙◌}
use mathlib.Core.Bool.{Bool, ◌&&◌, and-true}
use lib.Dec.{eqb}
use Rattle.bits.specs.Search.{all}
use Rattle.frames.specs.Counts.{good_frames}
use Rattle.map.specs.Map.{ids, good_at, good}
use Rattle.map.proofs.Looking.{faults-next, faults-end}
use Rattle.map.proofs.look.is_good.Goals as goal

pub loop-id-init : goal.loop-id-init
unfolding good
loop-id-init c =
    ap (λ (b : Bool). b && all (good_at c.args.map.now) ids 0)
    (and-true c.good-frames.result ∙ c.good-frames.ensures ∙ ap good_frames c.frames_of.ensures)

pub loop-id-preserved : goal.loop-id-preserved
loop-id-preserved c =
    faults-next c.args.map.now c.good-frames.result c.loop-id.faults c.loop-id.id c.faults_at-faults.result c.loop-id-test.true
    c.faults_at-faults.ensures c.loop-id.invariant

pub returns-then-frames : goal.returns-then-frames
returns-then-frames c =
    ap (λ (b : Bool). b && eqb c.loop-id.faults 0) (sym c.if-frames.true)
    ∙ faults-end c.args.map.now c.good-frames.result c.loop-id.faults c.loop-id.id c.loop-id-test.false c.loop-id.invariant
