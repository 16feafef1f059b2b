-- How the code's answers about a packet are told: what is read with the number 0, what is not with its refusal's number, the place of the
-- word that cannot be read, and 0 for what was not read.
--
--   told_reading      by the record of specs/Received.antt
--   unread_as r       refused with r, and with no word's place
--   at_word e         refused with 31, at the word
use Rattle.std.specs.Prelude.{Result, Ok, Err}
use Rattle.bits.specs.Bits.{blank}
use Rattle.faults.specs.Refusals.{number_of}
use Rattle.faults.specs.declared.refusal.Refusal.{Refusal}
use Rattle.faults.specs.declared.refusal.Refusal.TheVariants.{WordUnreadable}
use Rattle.words.specs.declared.Unreadable.{Unreadable}
use Rattle.packet.specs.Received.{ReadingAnswer}
use Rattle.packet.specs.declared.Reading.{Reading}
use Rattle.packet.specs.declared.Unread.{Unread}

abbrev pub told_reading : Result Reading Unread → ReadingAnswer
told_reading (Ok r) = record { number = 0; place = 0; index = r.index; bytes = r.bytes }
told_reading (Err u) = record { number = number_of u.refusal; place = u.place; index = 0; bytes = blank 90 }

abbrev pub unread_as : Refusal → Unread
unread_as r = record { refusal = r; place = 0 }

abbrev pub at_word : Unreadable → Unread
at_word e = record { refusal = WordUnreadable; place = e.place }
