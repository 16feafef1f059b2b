-- `adapter::write::group`: the answer first, then the four images.
use mathlib.Core.Path.{refl, sym, ◌∙◌}
use Rattle.std.proofs.lemmas.Result.{err_from_is_err_and}
use Rattle.bits.proofs.Rows.{done_refused, done-passed}
use Rattle.faults.proofs.Refusals.{number-not-zero}
use Rattle.adapter.specs.Calls.{write_after}
use Rattle.adapter.proofs.Writing.{writable}
use Rattle.adapter.proofs.write.group.Goals as goal

pub returns-in_err-answer-clause-value : goal.returns-in_err-answer-clause-value
returns-in_err-answer-clause-value c =
    let p = err_from_is_err_and c.from_residual.result c.from_residual.ensures.1 in
    rw (p.1, p.2) c.in_err-answer.ensures

pub returns-in_err-answer-clause-output_after : goal.returns-in_err-answer-clause-output_after
unfolding write_after
returns-in_err-answer-clause-output_after c =
    sym (done_refused _ _ c.args.output.now (λ z. number-not-zero c.in_err-answer.field-0.0 (c.in_err-answer.ensures ∙ z)))

pub images-requires-clause-address_bound : goal.images-requires-clause-address_bound
images-requires-clause-address_bound c = (writable c.args.address c.args.protection _ _ 0 c.in_ok-answer.ensures refl).address

pub images-requires-clause-message_len : goal.images-requires-clause-message_len
images-requires-clause-message_len c = (writable c.args.address c.args.protection _ _ 0 c.in_ok-answer.ensures refl).message

pub images-requires-clause-output_len : goal.images-requires-clause-output_len
images-requires-clause-output_len c = (writable c.args.address c.args.protection _ _ 0 c.in_ok-answer.ensures refl).output

pub returns-clause-output_after : goal.returns-clause-output_after
unfolding write_after
returns-clause-output_after c = c.images.ensures ∙ sym (done-passed _ _ c.args.output.now (sym c.in_ok-answer.ensures))
