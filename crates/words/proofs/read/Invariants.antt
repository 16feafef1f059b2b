use Rattle.std.proofs.Common.{◌≡◌, length, take}
use Rattle.words.specs.Protected.{words_of, informations}
use Rattle.words.proofs.Each.{Reached}
use Rattle.words.proofs.read.Given as goal

abbrev pub invariant-loop-w : goal.invariant-loop-w
invariant-loop-w l =
    (length l.informations ≡ 30) × (take l.w l.informations ≡ take l.w (informations (words_of l.useful))) × Reached (words_of l.useful) l.w l.flips
