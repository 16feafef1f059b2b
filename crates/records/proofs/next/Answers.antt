-- `records::next`: the end, too few bytes, a bad head, a body cut short, a record. Assumes nothing.
use mathlib.Core.Path.{sym, ◌∙◌}
use native.Mathlib.Omega.{arith}
use Rattle.records.proofs.Laws.{size-le, step_end, step-short, step-bad, step_cut, step-record}
use Rattle.records.proofs.next.Goals as goal

pub returns-then-s-at : goal.returns-then-s-at
returns-then-s-at c = sym (step_end _ _ c.if-s-at.true)

pub returns-then-left-lt-HEAD : goal.returns-then-left-lt-HEAD
returns-then-left-lt-HEAD c = sym (step-short _ _ c.if-s-at.false c.if-left-lt-HEAD.true)

pub returns-then-not-good_head : goal.returns-then-not-good_head
returns-then-not-good_head c =
    sym (step-bad _ _ c.if-s-at.false c.if-left-lt-HEAD.false (sym c.good_head.ensures ∙ c.if-not-good_head.true))

pub overflow_add-body_size : goal.overflow_add-body_size
overflow_add-body_size c = omega (arith, size-le _ _ c.body_size.ensures)

pub returns-then-left-body_size : goal.returns-then-left-body_size
returns-then-left-body_size c =
    sym (step_cut _ _ c.if-s-at.false c.if-left-lt-HEAD.false (sym c.good_head.ensures ∙ c.if-not-good_head.false)
    (omega (arith, c.if-left-body_size.true, c.body_size.ensures)))

pub returns-else-left-body_size : goal.returns-else-left-body_size
returns-else-left-body_size c =
    sym (step-record _ _ c.if-s-at.false c.if-left-lt-HEAD.false (sym c.good_head.ensures ∙ c.if-not-good_head.false)
    (omega (arith, c.if-left-body_size.false, c.body_size.ensures)))
