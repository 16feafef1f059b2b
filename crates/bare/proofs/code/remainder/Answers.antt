-- `bare::code::remainder`: the first twelve bits are divided by the check bits; the last eleven are added to what they leave.
use Rattle.golay.proofs.Reading.{check-divides}
use mathlib.Core.Path.{ap, ◌∙◌}
use Prim.Native.Nat.{ℕ, ◌/◌, ◌%◌}
use lib.Bits.{bit_xor}
use Rattle.bare.proofs.code.remainder.Goals as goal

pub returns : goal.returns
returns c = ap (λ (x : ℕ). bit_xor (x % 2048) (c.args.n / 4096)) c.check.ensures ∙ check-divides c.args.n
