-- `bare::write_header`: the rows of 33, then the word.
use mathlib.Core.Path.{sym, ◌∙◌}
use native.Mathlib.Omega.{arith}
use Rattle.bare.proofs.Bare.{header-address, header-index, header-written}
use Rattle.bare.proofs.write_header.Goals as goal

pub returns-then-address-ge-ADDRESSES : goal.returns-then-address-ge-ADDRESSES
returns-then-address-ge-ADDRESSES c = sym (header-address c.args.address c.args.index (omega arith))

pub returns-then-index-ge-INDICES : goal.returns-then-index-ge-INDICES
returns-then-index-ge-INDICES c = sym (header-index c.args.address c.args.index (omega arith) (omega arith))

pub returns : goal.returns
returns c =
    (λ j. record { number = 0; value = c.header_word.ensures j })
    ∙ sym (header-written c.args.address c.args.index (omega arith) (omega arith))
