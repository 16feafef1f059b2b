-- `table::look::slot_of`: the rows of leave and ask, one after the other. Assumes nothing.
use mathlib.Core.Path.{sym, ap, ◌∙◌}
use Rattle.std.proofs.lemmas.Result.{err_from_is_err_and}
use Rattle.faults.specs.Refusals.{told}
use Rattle.table.proofs.Looking.{state-passed, leave-state, leave-22, leave-found}
use Rattle.table.proofs.look.slot_of.Goals as goal

pub returns-in_err-checked-clause-value : goal.returns-in_err-checked-clause-value
returns-in_err-checked-clause-value c =
    let p = err_from_is_err_and c.from_residual.result c.from_residual.ensures.1 in
    rw (p.1, p.2) (leave-state _ _ c.in_err-checked.ensures c.args.address)

pub returns-then-address-clause-value : goal.returns-then-address-clause-value
returns-then-address-clause-value c =
    sym (leave-22 c.args.state.now c.args.address (state-passed _ (sym c.in_ok-checked.ensures)) c.if-address.true)

pub find-requires : goal.find-requires
find-requires c = (state-passed _ (sym c.in_ok-checked.ensures)).size

pub returns-clause-value : goal.returns-clause-value
returns-clause-value c =
    let passed = state-passed c.args.state.now (sym c.in_ok-checked.ensures) in
    ap told c.ok_or.ensures.value
    ∙ leave-found _ _ passed c.if-address.false _ c.find.ensures.place c.find.ensures.in_slots
