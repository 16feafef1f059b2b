-- `table::look::head`: a lent slot is loaded. Assumes nothing.
use mathlib.Core.Path.{ap, ◌∙◌}
use Rattle.slot.specs.Slot.{head_of}
use Rattle.table.proofs.Looking.{slot-part}
use Rattle.table.proofs.look.head.Goals as goal

pub returns : goal.returns
returns c = c.load.ensures ∙ ap head_of (slot-part c.args.k c.args.state.now)
