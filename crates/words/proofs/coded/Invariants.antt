use Rattle.std.proofs.Common.{◌≡◌, ◌*◌, length, take, map}
use Rattle.bits.specs.Bits.{sent, numbers_in}
use Rattle.golay.specs.Code.{word24}
use Rattle.words.proofs.coded.Given as goal

abbrev pub invariant-loop-w : goal.invariant-loop-w
invariant-loop-w l = (length l.useful ≡ 90) × (take (l.w * 3) l.useful ≡ take (l.w * 3) (numbers_in 8 90 (sent 24 (map word24 l.informations))))
