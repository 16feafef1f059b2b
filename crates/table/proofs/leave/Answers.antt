-- `table::leave`: the answer first, then the slot cleared. Assumes nothing.
use mathlib.Core.Path.{sym}
use native.Mathlib.Omega.{arith}
use Rattle.table.specs.Calls.{leave_after}
use Rattle.table.proofs.Doing.{kept, changed, leave-length, slot-cleared}
use Rattle.table.proofs.leave.Goals as goal

pub returns-in_err-k-clause-state_after : goal.returns-in_err-k-clause-state_after
unfolding leave_after
returns-in_err-k-clause-state_after c = kept _ _ _ _ c.in_err-k.ensures.value

pub slice_bounds-clear-end : goal.slice_bounds-clear-end
slice_bounds-clear-end c = omega (arith, c.in_ok-k.ensures.of_address.1, leave-length _ _ (sym c.in_ok-k.ensures.value))

pub returns-clause-state_after : goal.returns-clause-state_after
unfolding leave_after
returns-clause-state_after c =
    let s = c.args.state.now in
    let place = c.in_ok-k.ensures.of_address in
    changed _ _ _ _ c.in_ok-k.ensures.value
    (slot-cleared c.in_ok-k.k _ s _ (leave-length s _ (sym c.in_ok-k.ensures.value)) (omega (arith, place.0, place.1)) place.0 c.clear.ensures)
