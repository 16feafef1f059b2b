-- What was found is the first of the slots from k on. Assumes nothing.
use Rattle.std.proofs.Common.{◌≡◌, ◌-◌}
use Rattle.bits.specs.Search.{first}
use Rattle.table.proofs.States.{has}
use Rattle.table.proofs.look.find.Given as goal

abbrev pub invariant-loop-k : goal.invariant-loop-k
invariant-loop-k l = l.found ≡ first (has l.state l.address) (16 - l.k) l.k
