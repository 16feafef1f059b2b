-- `adapter::checked`: the row 20, then 20 and 34 of the state, then 21. Assumes nothing.
use mathlib.Core.Path.{refl}
use Rattle.std.proofs.lemmas.Result.{err_from_is_err_and}
use Rattle.faults.proofs.Refusals.{number-not-zero}
use Rattle.adapter.proofs.Arriving.{image-20, image-state, image-21, image-0}
use Rattle.adapter.proofs.checked.Goals as goal

pub returns-then-image-ne-IMAGE : goal.returns-then-image-ne-IMAGE
returns-then-image-ne-IMAGE c = image-20 c.args.state.now c.args.image.now c.if-image-ne-IMAGE.true

pub returns-in_err-checked : goal.returns-in_err-checked
returns-in_err-checked c =
    let p = err_from_is_err_and c.from_residual.result c.from_residual.ensures.1 in
    rw (p.1, p.2)
    (image-state c.args.state.now c.args.image.now c.if-image-ne-IMAGE.false _ c.in_err-checked.ensures (number-not-zero _))

pub returns-then-spare-eq1 : goal.returns-then-spare-eq1
returns-then-spare-eq1 c =
    image-21 c.args.state.now c.args.image.now c.if-image-ne-IMAGE.false 0 c.in_ok-checked.ensures refl _ c.spare.ensures
    c.if-spare-eq1.true

pub returns : goal.returns
returns c =
    image-0 c.args.state.now c.args.image.now c.if-image-ne-IMAGE.false 0 c.in_ok-checked.ensures refl _ c.spare.ensures
    c.if-spare-eq1.false
