use Rattle.std.proofs.Common.{◌+◌, ◌*◌, ◌<◌, arith, length-set}
use Rattle.bits.proofs.Storing.{agreed}
use Rattle.words.specs.Protected.{data_of}
use Rattle.words.proofs.Packing.{three-stored, data-length, data-first, data-second, data-third}
use Rattle.words.proofs.gathered.Goals as goal

pub loop-v-preserved : goal.loop-v-preserved
loop-v-preserved c =
    let is = c.args.informations in
    let h = c.requires in
    let at = c.loop-v in
    let l : at.v < 15 = omega arith in
    let long = data-length is in (
      simp length-set at.invariant.0,
      three-stored at.bytes (data_of is) (at.v * 3) ((at.v + 1) * 3) _ _ _ at.invariant.1 (omega arith) (omega arith)
          (omega arith) (data-first is h at.v l) (data-second is h at.v l) (data-third is h at.v l),
    )

pub returns : goal.returns
returns c =
    let is = c.args.informations in
    agreed c.loop-v.bytes (data_of is) 45 (c.loop-v.v * 3) c.loop-v.invariant.1 c.loop-v.invariant.0 (data-length is) (omega arith)
