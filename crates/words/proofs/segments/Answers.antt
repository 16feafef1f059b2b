use Rattle.std.proofs.Common.{◌+◌, ◌*◌, ◌<◌, arith, length-set}
use Rattle.bits.specs.Bits.{sent, numbers_in}
use Rattle.bits.proofs.Runs.{Below}
use Rattle.bits.proofs.Storing.{agreed}
use Rattle.words.proofs.Packing.{two-stored, segments-length, segment-first, segment-second}
use Rattle.words.proofs.segments.Goals as goal

pub loop-v-preserved : goal.loop-v-preserved
loop-v-preserved c =
    let d = c.args.bytes.now in
    let h : Below 256 d = λ k. (c.type_inv.bytes k).fits in
    let at = c.loop-v in
    let l : at.v < 15 = omega arith in
    let long = segments-length d in (
      simp length-set at.invariant.0,
      two-stored at.informations (numbers_in 12 30 (sent 8 d)) (at.v * 2) ((at.v + 1) * 2) _ _ at.invariant.1 (omega arith) (omega arith)
          (omega arith) (segment-first d h at.v l) (segment-second d h at.v l),
    )

pub returns : goal.returns
returns c =
    let d = c.args.bytes.now in
    agreed c.loop-v.informations (numbers_in 12 30 (sent 8 d)) 30 (c.loop-v.v * 2) c.loop-v.invariant.1 c.loop-v.invariant.0
    (segments-length d) (omega arith)
