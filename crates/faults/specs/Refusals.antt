-- Why a call is refused: the numbers of document 01, section 6, and of document 02, each with its refusal in words.
--
--   number_of r     the number that is given back
--   told result     what a call is answered that gives nothing beside its number: 0 where it is done, otherwise the refusal's
use Rattle.std.specs.Prelude.{ℕ, Result, Ok, Err}
use Rattle.faults.specs.declared.refusal.Refusal.{Refusal}
use Rattle.faults.specs.declared.refusal.Refusal.TheVariants.{Length, SpareBit, Address, Protection, Limit, Followed, Full, NotFollowed, TypeUnreadable, TypeControl, TypeScrambled, WordUnreadable, OutOfStep, TooLarge, State, BadPair, TooMany, Unfinished, TypeReserved, Setting, BeyondSetting}

abbrev pub number_of : Refusal → ℕ
number_of Length = 20
number_of SpareBit = 21
number_of Address = 22
number_of Protection = 23
number_of Limit = 24
number_of Followed = 25
number_of Full = 26
number_of NotFollowed = 27
number_of TypeUnreadable = 28
number_of TypeControl = 29
number_of TypeScrambled = 30
number_of WordUnreadable = 31
number_of OutOfStep = 32
number_of TooLarge = 33
number_of State = 34
number_of BadPair = 44
number_of TooMany = 45
number_of Unfinished = 46
number_of TypeReserved = 47
number_of Setting = 48
number_of BeyondSetting = 49

abbrev pub told : {A : Type 0} → Result A Refusal → ℕ
told (Ok done) = 0
told (Err refusal) = number_of refusal
