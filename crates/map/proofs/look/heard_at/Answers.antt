-- The fields so far, where there are any, and the mark. Assumes nothing.
use mathlib.Core.Path.{refl}
use mathlib.Core.Bool.{true, false}
use native.Mathlib.Omega.{arith}
use borrow.Author.Tests.{eq-eqb, ne_eqb}
use Rattle.map.proofs.Looking.{which-lt, heard-then}
use Rattle.map.proofs.look.heard_at.Goals as goal

pub heard_len-len-requires-clause-which_bound : goal.heard_len-len-requires-clause-which_bound
heard_len-len-requires-clause-which_bound c = omega (arith, c.then_at-then.ensures.0, which-lt c.args.map.now c.args.id c.args.count)

pub overflow_mul-at-else-len-eq0 : goal.overflow_mul-at-else-len-eq0
overflow_mul-at-else-len-eq0 c = omega (arith, c.then_at-then.ensures.0, which-lt c.args.map.now c.args.id c.args.count)

pub overflow_add-at : goal.overflow_add-at
overflow_add-at c = omega (arith, c.then_at-then.ensures.0, which-lt c.args.map.now c.args.id c.args.count)

pub overflow_add-at-else-len-eq0 : goal.overflow_add-at-else-len-eq0
overflow_add-at-else-len-eq0 c = omega (arith, c.then_at-then.ensures.0, which-lt c.args.map.now c.args.id c.args.count)

pub returns-then-len-eq0 : goal.returns-then-len-eq0
returns-then-len-eq0 c =
    heard-then c.args.map.now c.args.id c.args.count _ _ _ c.then_at-then.ensures.0 c.then_at-then.ensures.1 c.heard_len-len.ensures
    true (eq-eqb _ 0 c.if-len-eq0.true) _ refl

pub returns-else-len-eq0 : goal.returns-else-len-eq0
returns-else-len-eq0 c =
    heard-then c.args.map.now c.args.id c.args.count _ _ _ c.then_at-then.ensures.0 c.then_at-then.ensures.1 c.heard_len-len.ensures
    false (ne_eqb _ 0 c.if-len-eq0.false) _ refl
