-- `bare::judged`: a word as it stands, or by the remainder, which is in what is wrong with the check bits.
use mathlib.Core.Path.{sym, ap, ◌∙◌}
use Prim.Native.Nat.{ℕ, ◌/◌, ◌%◌}
use lib.Bits.{bit_xor}
use Rattle.bits.proofs.Flips.{xor-zero}
use Rattle.golay.proofs.Reading.{check-wrong}
use Rattle.bare.proofs.Bare.{judged-clean}
use Rattle.bare.proofs.judged.Goals as goal

pub returns-then-wrong-eq0 : goal.returns-then-wrong-eq0
returns-then-wrong-eq0 c =
    judged-clean c.args.n c.requires (sym c.check.ensures ∙ xor-zero c.check.result (c.args.n / 4096) c.if-wrong-eq0.true)

pub damaged-requires-clause-r_value : goal.damaged-requires-clause-r_value
damaged-requires-clause-r_value c = ap (λ (x : ℕ). bit_xor x (c.args.n / 4096) % 2048) c.check.ensures ∙ check-wrong c.args.n
