-- `bare::turned`: the language's count of ones is the number of flips.
use mathlib.Core.Path.{refl}
use Rattle.bits.specs.Bits.{flips}
use Rattle.bare.proofs.turned.Goals as goal

pub returns : goal.returns
unfolding flips
returns c = refl
