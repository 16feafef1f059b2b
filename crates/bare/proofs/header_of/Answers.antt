-- `bare::header_of`: address, index and flips from the nearest word.
use mathlib.Core.Path.{sym, subst}
use Prim.Native.Nat.{ℕ, ◌<◌, ◌^◌}
use native.Mathlib.Omega.{arith}
use lib.Bits.{bit_xor, xor_lt}
use lib.Count.{ones-le}
use Rattle.golay.specs.Code.{word23, nearest}
use Rattle.golay.proofs.Reading.{nearest23-lt}
use Rattle.golay.proofs.Words.{word23-lt}
use Rattle.bare.proofs.Bare.{header-word}
use Rattle.bare.proofs.header_of.Goals as goal

pub overflow_cast-result-3 : goal.overflow_cast-result-3
overflow_cast-result-3 c =
    let small : c.args.word < 2 ^ 23 =
    subst (λ (x : ℕ). x < 2 ^ 23) (sym c.requires.word_value) (word23-lt (nearest word23 c.args.n) (nearest23-lt c.args.n c.requires.n_bound)) in
    omega (arith, ones-le 23 (bit_xor c.args.n c.args.word) (xor_lt 23 c.args.n c.args.word c.requires.n_bound small))

pub returns : goal.returns
returns c = sym (header-word c.args.n c.args.word c.requires.n_bound c.requires.word_value)
