use Rattle.std.proofs.Common.{◌≡◌, ◌*◌, length, take}
use Rattle.bits.specs.Bits.{sent, numbers_in}
use Rattle.words.proofs.segments.Given as goal

abbrev pub invariant-loop-v : goal.invariant-loop-v
invariant-loop-v l = (length l.informations ≡ 30) × (take (l.v * 2) l.informations ≡ take (l.v * 2) (numbers_in 12 30 (sent 8 l.bytes)))
