-- `table::follow`: the answer first, then the new head in the lowest free slot. Assumes nothing.
use mathlib.Core.Path.{sym}
use native.Mathlib.Omega.{arith}
use Rattle.table.specs.Calls.{follow_after}
use Rattle.table.proofs.Doing.{kept, changed, follow-length, slot-stored}
use Rattle.table.proofs.follow.Goals as goal

pub returns-in_err-k-clause-state_after : goal.returns-in_err-k-clause-state_after
unfolding follow_after
returns-in_err-k-clause-state_after c = kept _ _ _ _ c.in_err-k.ensures.value

pub slice_bounds-store-end : goal.slice_bounds-store-end
slice_bounds-store-end c = omega (arith, c.in_ok-k.ensures.lowest_free.1, follow-length _ _ (sym c.in_ok-k.ensures.value))

pub returns-clause-state_after : goal.returns-clause-state_after
unfolding follow_after
returns-clause-state_after c =
    changed _ _ _ _ c.in_ok-k.ensures.value
    (slot-stored _ _ c.in_ok-k.k _ c.args.state.now _ c.new.ensures c.in_ok-k.ensures.lowest_free.0 c.store.ensures)
