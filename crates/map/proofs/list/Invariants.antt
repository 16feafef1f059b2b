-- The marks up to a component are stored. Assumes nothing.
use Rattle.std.proofs.Common.{◌≡◌, length, take}
use Rattle.map.specs.Map.{ids}
use Rattle.map.specs.Calls.{marks}
use Rattle.map.proofs.list.Given as goal

abbrev pub invariant-loop-id : goal.invariant-loop-id
invariant-loop-id l = (length l.out ≡ ids) × (take l.id l.out ≡ take l.id (marks ids 0 l.map l.count))
