-- `asking::ask`: the slice is the part that the answer names. Assumes nothing.
use mathlib.Core.Path.{sym, ap, ◌∙◌}
use native.Mathlib.Omega.{arith}
use Rattle.std.proofs.lemmas.Result.{err_from_is_err_and}
use Rattle.std.specs.Prelude.{Ok}
use Rattle.asking.specs.Asking.{told_asked}
use Rattle.asking.proofs.Laws.{asked-part, asked-empty, asked-shown}
use Rattle.asking.proofs.ask.Goals as goal

pub returns-in_err-shown-clause-part : goal.returns-in_err-shown-clause-part
returns-in_err-shown-clause-part c =
    let p = err_from_is_err_and c.from_residual.result c.from_residual.ensures.1 in
    rw p.1 (asked-empty c.args.state.now c.args.address _ c.in_err-shown.ensures)

pub returns-in_default-clause-part : goal.returns-in_default-clause-part
returns-in_default-clause-part c =
    asked-empty c.args.state.now c.args.address 4 (ap told_asked (ap Ok (sym c.in_default.is)) ∙ c.in_ok-shown.ensures)

pub overflow_add-end : goal.overflow_add-end
overflow_add-end c = omega (arith, asked-shown c.args.state.now c.args.address _ c.in-Some.shown c.in-Some.is c.in_ok-shown.ensures)

pub slice_bounds-result-end : goal.slice_bounds-result-end
slice_bounds-result-end c = omega (arith, asked-shown c.args.state.now c.args.address _ c.in-Some.shown c.in-Some.is c.in_ok-shown.ensures)

pub returns-clause-part : goal.returns-clause-part
returns-clause-part c =
    asked-part c.args.state.now c.args.address _ (ap told_asked (ap Ok (sym c.in-Some.is)) ∙ c.in_ok-shown.ensures)
