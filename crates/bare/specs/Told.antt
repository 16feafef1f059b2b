-- How the answers of the bare calls in code are told: a value with the number 0, a refusal with its number and with 0 for every value.
--
--   byte_of kind      the type byte of a kind of packet (7.4.2.3)
--   told_header ..    by the records of specs/Bare.antt
use Rattle.std.specs.Prelude.{ℕ, Result, Ok, Err}
use Rattle.faults.specs.Refusals.{number_of}
use Rattle.faults.specs.declared.refusal.Refusal.{Refusal}
use Rattle.bare.specs.Bare.{HeaderAnswer, WordAnswer, TypeAnswer, Written}
use Rattle.bare.specs.declared.Header.{Header}
use Rattle.bare.specs.declared.Word.{Word}
use Rattle.bare.specs.declared.TypeByte.{TypeByte}
use Rattle.bare.specs.declared.kind.Kind.{Kind}
use Rattle.bare.specs.declared.kind.Kind.TheVariants.{Data, Control, Reserved, Scrambled}

abbrev pub told_header : Result Header Refusal → HeaderAnswer
told_header (Ok h) = record { number = 0; address = h.address; index = h.index; flips = h.flips }
told_header (Err r) = record { number = number_of r; address = 0; index = 0; flips = 0 }

abbrev pub told_word : Result Word Refusal → WordAnswer
told_word (Ok w) = record { number = 0; information = w.information; flips = w.flips }
told_word (Err r) = record { number = number_of r; information = 0; flips = 0 }

abbrev pub byte_of : Kind → ℕ
byte_of Data = 0x00
byte_of Control = 0x3F
byte_of Reserved = 0xC7
byte_of Scrambled = 0xF8

abbrev pub told_type : Result TypeByte Refusal → TypeAnswer
told_type (Ok t) = record { number = 0; value = byte_of t.kind; flips = t.flips }
told_type (Err r) = record { number = number_of r; value = 0; flips = 0 }

abbrev pub told_number : Result ℕ Refusal → Written
told_number (Ok n) = record { number = 0; value = n }
told_number (Err r) = record { number = number_of r; value = 0 }

abbrev pub told_kind : Result Kind Refusal → Written
told_kind (Ok k) = record { number = 0; value = byte_of k }
told_kind (Err r) = record { number = number_of r; value = 0 }
