-- `bare::code::data_word`: information and all twelve check bits.
use native.Mathlib.Omega.{arith}
use Rattle.golay.proofs.Reading.{check-lt, check-word24}
use Rattle.bare.proofs.code.data_word.Goals as goal

pub overflow_mul-result : goal.overflow_mul-result
overflow_mul-result c = omega (arith, check-lt c.args.i c.requires)

pub overflow_add-result : goal.overflow_add-result
overflow_add-result c = omega (arith, check-lt c.args.i c.requires)

pub returns : goal.returns
returns c = omega (arith, check-word24 c.args.i c.requires)
