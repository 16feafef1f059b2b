-- `table::look::room_for`: the state's rows, the wish's, and follow's own. Assumes nothing.
use mathlib.Core.Path.{sym, ap, ◌∙◌}
use Rattle.std.proofs.lemmas.Result.{err_from_is_err_and}
use Rattle.faults.specs.Refusals.{told}
use Rattle.table.proofs.Looking.{state-passed, follow-state, follow-wished, follow-again, follow-found}
use Rattle.table.proofs.look.room_for.Goals as goal

pub returns-in_err-checked-clause-value : goal.returns-in_err-checked-clause-value
returns-in_err-checked-clause-value c =
    let p = err_from_is_err_and c.from_residual.result c.from_residual.ensures.1 in
    rw (p.1, p.2) (follow-state _ _ c.in_err-checked.ensures c.args.wish)

pub returns-in_err-answer-clause-value : goal.returns-in_err-answer-clause-value
returns-in_err-answer-clause-value c =
    let p = err_from_is_err_and c.from_residual-in_err-answer.result c.from_residual-in_err-answer.ensures.1 in
    rw (p.1, p.2) (follow-wished _ _ (state-passed _ (sym c.in_ok-checked.ensures)) _ c.in_err-answer.ensures)

pub find-requires : goal.find-requires
find-requires c = (state-passed _ (sym c.in_ok-checked.ensures)).size

pub returns-then-is_some-clause-value : goal.returns-then-is_some-clause-value
returns-then-is_some-clause-value c =
    follow-again _ _ (state-passed _ (sym c.in_ok-checked.ensures)) (sym c.in_ok-answer.ensures) _ c.find.ensures.place
    (sym c.is_some.ensures ∙ c.if-is_some.true) c.find.ensures.in_slots

pub find-requires-2 : goal.find-requires-2
find-requires-2 c = (state-passed _ (sym c.in_ok-checked.ensures)).size

pub returns-clause-value : goal.returns-clause-value
returns-clause-value c =
    let passed = state-passed c.args.state.now (sym c.in_ok-checked.ensures) in
    ap told c.ok_or.ensures.value
    ∙ follow-found _ _ passed (sym c.in_ok-answer.ensures) _ c.find.ensures.place (sym c.is_some.ensures ∙ c.if-is_some.false)
    _ c.find-2.ensures.place c.find-2.ensures.in_slots
