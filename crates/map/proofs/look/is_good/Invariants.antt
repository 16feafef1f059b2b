-- What was found so far, and the components from the next on, tell whether the map is good. Assumes nothing.
use Rattle.std.proofs.Common.{◌≡◌, ◌-◌, ◌&&◌, eqb}
use Rattle.bits.specs.Search.{all}
use Rattle.map.specs.Map.{ids, good_at, good}
use Rattle.map.proofs.look.is_good.Given as goal

abbrev pub invariant-loop-id : goal.invariant-loop-id
invariant-loop-id l = ((l.frames && eqb l.faults 0) && all (good_at l.map) (ids - l.id) l.id) ≡ good l.map
