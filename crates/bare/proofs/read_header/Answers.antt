-- `bare::read_header`: 33; a word as it stands.
use mathlib.Core.Path.{sym, ◌∙◌}
use Rattle.golay.proofs.Reading.{clean-nearest}
use Rattle.bare.proofs.Bare.{header-large}
use Rattle.bare.proofs.read_header.Goals as goal

pub returns-then-n-ge-NUMBERS : goal.returns-then-n-ge-NUMBERS
returns-then-n-ge-NUMBERS c = sym (header-large c.args.n c.if-n-ge-NUMBERS.true)

pub header_of-requires-clause-word_value : goal.header_of-requires-clause-word_value
header_of-requires-clause-word_value c = clean-nearest c.args.n (sym c.remainder-rest.ensures ∙ c.if-rest-eq0.true)
