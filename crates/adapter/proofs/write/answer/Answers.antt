-- `adapter::write::answer`: the rows 22, 23, 20, 20, one after the other.
use mathlib.Core.Path.{◌≡◌, ◌∙◌}
use lib.Dec.{eqb}
use Rattle.adapter.specs.Calls.{group_size}
use Rattle.adapter.proofs.Writing.{write-22, write-23, write-message, write-output, write-0, size-180, size-360}
use Rattle.adapter.proofs.write.answer.Goals as goal
use Rattle.adapter.proofs.write.answer.Goals.{Joined-protection-eq1, then-protection-eq1, else-protection-eq1}

size : (c : Joined-protection-eq1) → c.if-protection-eq1.right ≡ group_size (eqb c.args.protection 1)
size c =
    let p = c.args.protection in
    elim c.if-protection-eq1.branch [
      | then-protection-eq1 w ↦ w.right-is ∙ size-180 p w.if-protection-eq1.true
      | else-protection-eq1 w ↦ w.right-is ∙ size-360 p w.if-protection-eq1.false
    ]

pub returns-then-address : goal.returns-then-address
returns-then-address c = write-22 c.args.address c.args.protection c.args.message c.args.output c.if-address.true

pub returns-then-protection-gt1 : goal.returns-then-protection-gt1
returns-then-protection-gt1 c = write-23 c.args.address c.args.protection c.args.message c.args.output c.if-address.false c.if-protection-gt1.true

pub returns-then-message-right : goal.returns-then-message-right
returns-then-message-right c =
    write-message c.args.address c.args.protection c.args.message c.args.output c.if-address.false c.if-protection-gt1.false _ (size c.before)
    c.if-message-right.true

pub returns-then-output-ne-IMAGES : goal.returns-then-output-ne-IMAGES
returns-then-output-ne-IMAGES c =
    write-output c.args.address c.args.protection c.args.message c.args.output c.if-address.false c.if-protection-gt1.false _ (size c.before.before)
    c.if-message-right.false c.if-output-ne-IMAGES.true

pub returns-else-output-ne-IMAGES : goal.returns-else-output-ne-IMAGES
returns-else-output-ne-IMAGES c =
    write-0 c.args.address c.args.protection c.args.message c.args.output c.if-address.false c.if-protection-gt1.false _ (size c.before.before)
    c.if-message-right.false c.if-output-ne-IMAGES.false
