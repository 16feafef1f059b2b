use Rattle.std.proofs.Common.{◌≡◌, ◌+◌, ◌*◌, ◌<◌, map, get_or, sym, ◌∙◌, arith, length-set}
use Rattle.bits.specs.Bits.{sent, numbers_in}
use Rattle.bits.proofs.Runs.{numbers_in-length}
use Rattle.bits.proofs.Storing.{agreed, get_d_map}
use Rattle.golay.specs.Code.{word24}
use Rattle.golay.proofs.Words.{word24-lt}
use Rattle.words.proofs.Packing.{three-stored, word24s-below, coded-first, coded-second, coded-third}
use Rattle.words.proofs.coded.Goals as goal

pub overflow_cast-useful-in-loop-w-2 : goal.overflow_cast-useful-in-loop-w-2
overflow_cast-useful-in-loop-w-2 c = omega (arith, c.data_word-n.ensures, word24-lt _ (c.requires c.loop-w.w))

pub loop-w-preserved : goal.loop-w-preserved
loop-w-preserved c =
    let is = c.args.informations in
    let ns = map word24 is in
    let h = word24s-below is c.requires in
    let at = c.loop-w in
    let w = at.w in
    let l : w < 30 = omega arith in
    let n = c.data_word-n.result in
    let e : n ≡ get_or ns w 0 = c.data_word-n.ensures ∙ sym (get_d_map word24 is w (omega arith)) in
    let long = numbers_in-length 8 90 (sent 24 ns) in (
      simp length-set at.invariant.0,
      three-stored at.useful (numbers_in 8 90 (sent 24 ns)) (w * 3) ((w + 1) * 3) _ _ _ at.invariant.1 (omega arith) (omega arith) (omega arith)
          (coded-first ns h w l n e) (coded-second ns h w l n e) (coded-third ns h w l n e),
    )

pub returns : goal.returns
returns c =
    let ns = map word24 c.args.informations in
    agreed c.loop-w.useful (numbers_in 8 90 (sent 24 ns)) 90 (c.loop-w.w * 3) c.loop-w.invariant.1 c.loop-w.invariant.0
    (numbers_in-length 8 90 (sent 24 ns)) (omega arith)
