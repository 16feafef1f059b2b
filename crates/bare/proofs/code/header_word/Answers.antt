-- `bare::code::header_word`: information and check bits without the parity bit.
use Rattle.golay.proofs.Reading.{check-word23}
use mathlib.Core.Path.{ap, ◌∙◌}
use Prim.Native.Nat.{ℕ, ◌+◌, ◌*◌, ◌%◌}
use Rattle.bare.proofs.code.header_word.Goals as goal

pub returns : goal.returns
returns c = ap (λ (x : ℕ). c.args.i + x % 2048 * 4096) c.check.ensures ∙ check-word23 c.args.i c.requires
