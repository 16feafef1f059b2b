use Rattle.std.proofs.Common.{◌+◌, drop, add-one, arith, length-set}
use Rattle.bits.proofs.Storing.{stored, agreed}
use Rattle.image.specs.Image.{bytes_of}
use Rattle.image.proofs.Laws.{useful-length}
use Rattle.image.proofs.Gathering.{useful-gathered}
use Rattle.image.proofs.useful.Goals as goal

pub loop-j-preserved : goal.loop-j-preserved
loop-j-preserved c =
    let image = c.args.image.now in
    let at = c.loop-j in (
      simp length-set at.invariant.0,
      stored at.useful (drop 1 (bytes_of image)) at.j (at.j + 1) _ at.invariant.1 (omega arith) (omega (arith, useful-length image)) (add-one at.j)
          (useful-gathered image (λ k. (c.type_inv.image k).fits) at.j (omega arith)),
    )

pub returns : goal.returns
returns c =
    let image = c.args.image.now in
    agreed c.loop-j.useful (drop 1 (bytes_of image)) 90 c.loop-j.j c.loop-j.invariant.1 c.loop-j.invariant.0 (useful-length image) (omega arith)
