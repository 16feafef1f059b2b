-- Both heads are good, and that in force is not to be deleted. Assumes nothing.
use Rattle.map.proofs.Looking.{force-lent, coming-lent, faults-both}
use Rattle.map.proofs.look.faults_at.Goals as goal

pub returns : goal.returns
returns c =
    faults-both c.args.id c.args.map.now c.faults_in_force-force.result c.faults.result _ _ c.faults_in_force-force.ensures c.faults.ensures
    (force-lent c.args.id c.args.map.now) (coming-lent c.args.id c.args.map.now)
