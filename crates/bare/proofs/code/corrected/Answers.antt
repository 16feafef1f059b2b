-- `bare::code::corrected`: the table's pattern for the remainder, flipped back, gives the nearest word.
use mathlib.Core.Path.{ap, ◌∙◌}
use Prim.Native.Nat.{ℕ}
use native.Mathlib.Omega.{arith}
use lib.Bits.{bit_xor}
use lib.ListN.{get_or}
use Rattle.golay.specs.Code.{remainder}
use Rattle.golay.proofs.Division.{remainder-small}
use Rattle.golay.proofs.Reading.{corrected-nearest}
use Rattle.bare.proofs.code.corrected.Goals as goal

pub bounds-patterns-r : goal.bounds-patterns-r
bounds-patterns-r c =
    omega (arith, c.requires.patterns.size, c.requires.r_value, remainder-small c.args.n c.requires.n_bound)

pub returns : goal.returns
returns c =
    ap (λ (r : ℕ). bit_xor c.args.n (get_or c.args.patterns.now r 0)) c.requires.r_value
    ∙ corrected-nearest c.args.n _ c.requires.n_bound
    (c.requires.patterns.each (remainder c.args.n) (remainder-small c.args.n c.requires.n_bound))
