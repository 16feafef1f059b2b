-- Those counted so far, and those from the next component on. Assumes nothing.
use Rattle.std.proofs.Common.{◌≡◌, ◌≤◌, ◌<◌, ℕ, Bool}
use Rattle.map.specs.Map.{ids, counted}
use Rattle.map.proofs.Looking.{counts}
use Rattle.map.proofs.look.counted.Given as goal

abbrev pub invariant-loop-id : goal.invariant-loop-id
invariant-loop-id g l =
    (l.count ≤ l.id)
    × ((p : ℕ → Bool) → ((id : ℕ) (b : Bool) → id < ids → goal.F-post g l.fn.holds id b → b ≡ p id) → counts p l.count l.id ≡ counted p ids 0)
