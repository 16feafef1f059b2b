-- An or is 0 exactly if both parts are. Assumes nothing.
use mathlib.Core.Path.{ap, ap₂, ◌∙◌}
use mathlib.Core.Bool.{◌&&◌}
use lib.Dec.{eqb}
use Rattle.structure.specs.declared.Structure.{Structure}
use Rattle.structure.proofs.Faults.{or-test}
use Rattle.structure.proofs.Structure.faults_in_force.Goals as goal

pub returns : goal.returns
returns c =
    or-test c.faults.result c.load.result.deleted
    ∙ ap₂ ◌&&◌ c.faults.ensures (ap (λ (h : Structure). eqb h.deleted 0) c.load.ensures)
