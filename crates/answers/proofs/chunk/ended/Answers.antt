-- What is told of a record cut short.
use Rattle.std.proofs.Common.{sym, ap, ◌∙◌, ◌==◌, ℕ, true≢false}
use Rattle.answers.specs.Text.{lines}
use Rattle.answers.proofs.Turning.{cut_some}
use Rattle.answers.proofs.chunk.ended.Goals as goal

pub returns-clause-out_after : goal.returns-clause-out_after
returns-clause-out_after c =
    let some = cut_some c.args.kept.now (λ none. true≢false (sym (c.if-is_empty.ensures ∙ ap (λ (k : ℕ). k == 0) none))) in
    c.put_lines.ensures.out_after ∙ ap (lines c.args.number) (sym some)
