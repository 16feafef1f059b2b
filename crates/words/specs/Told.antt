-- How the code's answers about protected data are told: what can be read with the place 30, what cannot with the place of the word and 0
-- for what was not read.
--
--   told_words, told_data     by the records of specs/Protected.antt
use Rattle.std.specs.Prelude.{Result, Ok, Err}
use Rattle.bits.specs.Bits.{blank}
use Rattle.words.specs.Protected.{WordsAnswer, DataAnswer, data_of}
use Rattle.words.specs.declared.Data.{Data}
use Rattle.words.specs.declared.Words.{Words}
use Rattle.words.specs.declared.Unreadable.{Unreadable}

abbrev pub told_words : Result Words Unreadable → WordsAnswer
told_words (Ok w) = record { place = 30; flips = w.flips; informations = w.informations }
told_words (Err e) = record { place = e.place; flips = 0; informations = blank 30 }

abbrev pub told_data : Result Data Unreadable → DataAnswer
told_data (Ok d) = record { place = 30; flips = d.flips; bytes = d.bytes }
told_data (Err e) = record { place = e.place; flips = 0; bytes = data_of (blank 30) }
