-- `bare::write_word`: 33, or the word.
use mathlib.Core.Path.{sym, ◌∙◌}
use Rattle.bare.proofs.Bare.{word-much, word-written}
use Rattle.bare.proofs.write_word.Goals as goal

pub returns-then-information-ge-INFORMATIONS : goal.returns-then-information-ge-INFORMATIONS
returns-then-information-ge-INFORMATIONS c = sym (word-much c.args.information c.if-information-ge-INFORMATIONS.true)

pub returns : goal.returns
returns c =
    (λ j. record { number = 0; value = c.data_word.ensures j }) ∙ sym (word-written c.args.information c.if-information-ge-INFORMATIONS.false)
