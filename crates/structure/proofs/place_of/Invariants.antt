use Rattle.std.proofs.Common.{◌≡◌}
use Rattle.structure.proofs.Turns.{first_from}
use Rattle.structure.proofs.place_of.Given as goal

abbrev pub invariant-loop-k : goal.invariant-loop-k
invariant-loop-k l = l.place ≡ first_from l.s l.tdms l.k
