-- `bare::read_word`: 33 where it is too large.
use mathlib.Core.Path.{sym}
use Rattle.bare.proofs.Bare.{word-large}
use Rattle.bare.proofs.read_word.Goals as goal

pub returns-then-n-ge-NUMBERS : goal.returns-then-n-ge-NUMBERS
returns-then-n-ge-NUMBERS c = sym (word-large c.args.n c.if-n-ge-NUMBERS.true)
