-- `table::subframe_end`: the answer first, then every slot aged. Assumes nothing.
use mathlib.Core.Path.{sym}
use Rattle.table.specs.Calls.{end_after}
use Rattle.table.proofs.Doing.{kept, changed, end-length}
use Rattle.table.proofs.subframe_end.Goals as goal

pub returns-in_err-checked-clause-state_after : goal.returns-in_err-checked-clause-state_after
unfolding end_after
returns-in_err-checked-clause-state_after c = kept _ _ _ _ c.in_err-checked.ensures

pub age-requires : goal.age-requires
age-requires c = end-length c.args.state.now (sym c.in_ok-checked.ensures)

pub returns-clause-state_after : goal.returns-clause-state_after
unfolding end_after
returns-clause-state_after c = changed _ _ _ _ c.in_ok-checked.ensures c.age.ensures
