-- The next field is one of those that have room. Assumes nothing.
use native.Mathlib.Omega.{arith}
use Rattle.structure.proofs.Turns.{next-to}
use Rattle.structure.proofs.is_next.Goals as goal

pub nth-requires-clause-k_bound : goal.nth-requires-clause-k_bound
nth-requires-clause-k_bound c = omega (arith, next-to c.load-head.result)
