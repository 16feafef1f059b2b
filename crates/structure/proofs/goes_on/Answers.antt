-- There is a last field, and it has room. Assumes nothing.
use native.Mathlib.Omega.{arith}
use Rattle.structure.proofs.Turns.{stored-from, stored-to}
use Rattle.structure.proofs.goes_on.Goals as goal

pub overflow_sub-stored : goal.overflow_sub-stored
overflow_sub-stored c = omega (arith, stored-from c.load-head.result c.if-head-eq0.false)

pub nth-last-requires-clause-k_bound : goal.nth-last-requires-clause-k_bound
nth-last-requires-clause-k_bound c = omega (arith, stored-to c.load-head.result)
