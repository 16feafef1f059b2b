use Rattle.std.proofs.Common.{◌≡◌, ◌*◌, length, take}
use Rattle.words.specs.Protected.{data_of}
use Rattle.words.proofs.gathered.Given as goal

abbrev pub invariant-loop-v : goal.invariant-loop-v
invariant-loop-v l = (length l.bytes ≡ 45) × (take (l.v * 3) l.bytes ≡ take (l.v * 3) (data_of l.informations))
