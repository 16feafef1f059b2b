use Rattle.std.proofs.Common.{◌≡◌, ◌-◌, length}
use Rattle.table.specs.State.{slots, state_size}
use Rattle.table.specs.Calls.{ages}
use Rattle.table.proofs.age.Given as goal

abbrev pub invariant-loop-k : goal.invariant-loop-k
invariant-loop-k l = (length l.state ≡ state_size) × (ages (slots - l.k) l.k l.state ≡ ages slots 0 l.initial.state)
