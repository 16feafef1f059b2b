-- `group::Row`: the row's number.
use mathlib.Core.Path.{◌≡◌, sym, ap, ◌∙◌}
use Rattle.head.specs.Move.{move_number}
use Rattle.group.specs.Told.{told_row}
use Rattle.group.specs.declared.Row.{Row}
use Rattle.group.proofs.U8FromRow.from.Goals as goal

numbered : (r s : Row) → r ≡ s → move_number (told_row s) ≡ move_number (told_row r)
numbered r s e = sym (ap (λ (x : Row). move_number (told_row x)) e)

pub returns-in-Started : goal.returns-in-Started
unfolding move_number
returns-in-Started c = numbered _ _ c.in-Started.is

pub returns-in-Held : goal.returns-in-Held
unfolding move_number
returns-in-Held c = numbered _ _ c.in-Held.is

pub returns-in-Whole : goal.returns-in-Whole
unfolding move_number
returns-in-Whole c = numbered _ _ c.in-Whole.is

pub returns-in-OutOfStep : goal.returns-in-OutOfStep
unfolding move_number
returns-in-OutOfStep c = c.into.ensures ∙ numbered _ _ c.in-OutOfStep.is
