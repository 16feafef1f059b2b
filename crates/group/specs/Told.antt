-- The code's names of the rows of section 4's table.
--
--   told_row     the row of head/specs/Move.antt
use Rattle.head.specs.Move.{Move, started, held, whole, out_of_step}
use Rattle.group.specs.declared.Row.{Row}
use Rattle.group.specs.declared.Row.TheVariants.{Started, Held, Whole, OutOfStep}

abbrev pub told_row : Row → Move
told_row Started = started
told_row Held = held
told_row Whole = whole
told_row OutOfStep = out_of_step
