-- `adapter::write::images`: the four images in a row.
use mathlib.Core.Path.{refl}
use native.Mathlib.Omega.{arith}
use Rattle.adapter.proofs.Writing.{put_to, put-more, put-all}
use Rattle.adapter.proofs.write.images.Goals as goal

pub loop-index-init : goal.loop-index-init
unfolding put_to
loop-index-init c = refl

pub loop-index-preserved : goal.loop-index-preserved
loop-index-preserved c =
    put-more c.args.protected c.args.address c.args.message.now c.args.output.now c.loop-index.index _ _ c.loop-index.invariant c.one.ensures

pub returns : goal.returns
returns c =
    put-all c.args.protected c.args.address c.args.message.now c.args.output.now _ c.requires.output_len c.loop-index.index (omega arith) c.loop-index.invariant
