-- `records::reading::size_at` meets its contract: which of the four steps was returned is given in each arm, and `looked`'s contract says
-- that it is what stands at the place. Assumes nothing.
use Rattle.std.proofs.Common.{ℕ, ◌+◌, ap, ◌∙◌, arith}
use Rattle.records.specs.Format.{record_size}
use Rattle.records.proofs.Laws.{size-le}
use Rattle.records.proofs.reading.size_at.Goals as goal

pub overflow_add-result : goal.overflow_add-result
overflow_add-result c = omega (arith, size-le _ _ c.body_size.ensures)

pub returns-in-Record : goal.returns-in-Record
unfolding record_size
returns-in-Record c = ap (λ (n : ℕ). 4 + n) c.body_size.ensures ∙ ap record_size c.in-Record.ensures

pub returns-in-End : goal.returns-in-End
unfolding record_size
returns-in-End c = ap record_size c.in-End.ensures

pub returns-in-More : goal.returns-in-More
unfolding record_size
returns-in-More c = ap record_size c.in-More.ensures

pub returns-in-Bad : goal.returns-in-Bad
unfolding record_size
returns-in-Bad c = ap record_size c.in-Bad.ensures
