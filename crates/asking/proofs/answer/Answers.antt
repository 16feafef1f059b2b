-- `asking::answer`: the rows first, then the head of the address's slot. Assumes nothing.
use mathlib.Core.Path.{sym}
use Rattle.std.proofs.lemmas.Result.{err_from_is_err_and}
use Rattle.faults.proofs.Refusals.{number-not-zero}
use Rattle.table.proofs.Doing.{leave-length}
use Rattle.asking.proofs.Laws.{asked-refused, asked-found}
use Rattle.asking.proofs.answer.Goals as goal

pub returns-in_err-k : goal.returns-in_err-k
returns-in_err-k c =
    let p = err_from_is_err_and c.from_residual.result c.from_residual.ensures.1 in
    rw (p.1, p.2) (asked-refused c.args.state.now c.args.address _ c.in_err-k.ensures.value (number-not-zero _))

pub head-requires-clause-state_len : goal.head-requires-clause-state_len
head-requires-clause-state_len c = leave-length _ _ (sym c.in_ok-k.ensures.value)

pub returns : goal.returns
returns c =
    let place = c.in_ok-k.ensures.of_address in
    asked-found c.args.state.now c.args.address _ _ _ (sym c.in_ok-k.ensures.value) place.0 c.head.ensures c.of.ensures
