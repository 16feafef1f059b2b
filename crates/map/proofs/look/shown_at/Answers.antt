-- A component has two structures. Assumes nothing.
use native.Mathlib.Omega.{arith}
use Rattle.map.proofs.Looking.{which-lt}
use Rattle.map.proofs.look.shown_at.Goals as goal

pub found-requires-clause-which_bound : goal.found-requires-clause-which_bound
found-requires-clause-which_bound c = omega (arith, c.then_at-then.ensures.0, which-lt c.args.map.now c.args.id c.args.count)
