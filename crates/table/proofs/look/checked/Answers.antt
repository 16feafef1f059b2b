-- The rows 20 and 34 of `table::look::checked`. Assumes nothing.
use mathlib.Core.Path.{sym, ◌∙◌}
use mathlib.Core.List.{[]}
use Rattle.bits.proofs.Rows.{refusal-none}
use Rattle.table.specs.Calls.{end_answer}
use Rattle.table.proofs.Looking.{state-20, state-34, state-rest}
use Rattle.table.proofs.look.checked.Goals as goal

pub returns-then-state-ne-SIZE : goal.returns-then-state-ne-SIZE
unfolding end_answer
returns-then-state-ne-SIZE c = sym (state-20 c.args.state.now [] c.if-state-ne-SIZE.true)

pub returns-then-is_good : goal.returns-then-is_good
unfolding end_answer
returns-then-is_good c =
    sym (state-rest c.args.state.now [] c.if-state-ne-SIZE.false (sym c.is_good.ensures ∙ c.if-is_good.true) ∙ refusal-none)

pub returns-else-is_good : goal.returns-else-is_good
unfolding end_answer
returns-else-is_good c =
    sym (state-34 c.args.state.now [] c.if-state-ne-SIZE.false (sym c.is_good.ensures ∙ c.if-is_good.false))
