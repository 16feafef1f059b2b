-- `table::set_header_flips`: the rows of the state, 48, then the byte stored. Assumes nothing.
use mathlib.Core.Path.{sym}
use native.Mathlib.Omega.{arith}
use Rattle.std.proofs.lemmas.Result.{err_from_is_err_and}
use Rattle.faults.specs.declared.refusal.Refusal.TheVariants.{Setting}
use Rattle.table.specs.Calls.{set_after}
use Rattle.table.proofs.Looking.{state-passed, set-state, set-48, set-0}
use Rattle.table.proofs.Doing.{kept, changed, setting-stored}
use Rattle.table.proofs.set_header_flips.Goals as goal

pub returns-in_err-checked-clause-value : goal.returns-in_err-checked-clause-value
returns-in_err-checked-clause-value c =
    let p = err_from_is_err_and c.from_residual.result c.from_residual.ensures.1 in
    rw (p.1, p.2) (set-state _ _ c.in_err-checked.ensures c.args.most)

pub returns-in_err-checked-clause-state_after : goal.returns-in_err-checked-clause-state_after
unfolding set_after
returns-in_err-checked-clause-state_after c = kept _ _ _ _ (set-state _ _ c.in_err-checked.ensures c.args.most)

pub returns-then-most-gt-CORRECTED-clause-value : goal.returns-then-most-gt-CORRECTED-clause-value
returns-then-most-gt-CORRECTED-clause-value c =
    sym (set-48 _ _ (state-passed _ (sym c.in_ok-checked.ensures)) c.if-most-gt-CORRECTED.true)

pub returns-then-most-gt-CORRECTED-clause-state_after : goal.returns-then-most-gt-CORRECTED-clause-state_after
unfolding set_after
returns-then-most-gt-CORRECTED-clause-state_after c =
    kept Setting _ _ _ (sym (set-48 _ _ (state-passed _ (sym c.in_ok-checked.ensures)) c.if-most-gt-CORRECTED.true))

pub bounds-state-11776 : goal.bounds-state-11776
bounds-state-11776 c = omega (arith, (state-passed c.args.state.now (sym c.in_ok-checked.ensures)).size)

pub returns-clause-value : goal.returns-clause-value
returns-clause-value c =
    sym (set-0 _ _ (state-passed _ (sym c.in_ok-checked.ensures)) c.if-most-gt-CORRECTED.false)

pub returns-clause-state_after : goal.returns-clause-state_after
unfolding set_after
returns-clause-state_after c =
    let passed = state-passed c.args.state.now (sym c.in_ok-checked.ensures) in
    changed _ _ _ _ (sym (set-0 _ _ passed c.if-most-gt-CORRECTED.false)) (setting-stored _ _ passed.size)
