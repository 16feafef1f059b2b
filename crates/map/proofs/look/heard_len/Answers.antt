-- None of a structure that was spoiled, otherwise those that have room. Assumes nothing.
use mathlib.Core.Path.{◌∙◌, ap}
use native.Mathlib.Omega.{arith}
use Rattle.structure.specs.Structure.{nth}
use Rattle.structure.proofs.Turns.{stored-to}
use Rattle.map.proofs.Looking.{structure-lent, heard-spoiled, heard-fields}
use Rattle.map.proofs.look.heard_len.Goals as goal

pub overflow_mul-result : goal.overflow_mul-result
overflow_mul-result c = omega (arith, stored-to c.args.head)

pub returns-then-nth : goal.returns-then-nth
returns-then-nth c =
    heard-spoiled c.args.head _ _ (c.nth.ensures ∙ ap (nth 0) (structure-lent c.args.id c.args.which c.args.map.now)) c.if-nth.true

pub returns-else-nth : goal.returns-else-nth
returns-else-nth c =
    heard-fields c.args.head _ _ (c.nth.ensures ∙ ap (nth 0) (structure-lent c.args.id c.args.which c.args.map.now)) c.if-nth.false _
    c.stored.ensures
