-- `asking::Freshness::of`: stale before doubtful before fresh. Assumes nothing.
use mathlib.Core.Path.{sym}
use Rattle.asking.proofs.Laws.{shown-7, shown-6, shown-5}
use Rattle.asking.proofs.Freshness.of.Goals as goal

pub returns-then-head : goal.returns-then-head
returns-then-head c = λ ne. sym (shown-7 c.args.head ne c.if-head.true)

pub returns-then-head-eq1 : goal.returns-then-head-eq1
returns-then-head-eq1 c = λ ne. sym (shown-6 c.args.head ne c.if-head.false c.if-head-eq1.true)

pub returns-else-head-eq1 : goal.returns-else-head-eq1
returns-else-head-eq1 c = λ ne. sym (shown-5 c.args.head ne c.if-head.false c.if-head-eq1.false)
