-- Why a packet whose address is found among those followed is refused (document 01, section 6; document 02, Ask 6): one list, with
-- the number of each, in the order in which it is looked for, and whether it drops the unfinished group.
--
--   Fault            section 6's rows 28 to 32, with 47 "for type C7, directly after 29"
--   number           what is answered
--   drops            28, 47, 30, 31 and 32 "clear the slot's unfinished group, mark its gap and make it await 0"; "a control packet no
--                    longer drops a group or marks a gap"
--   unreadables      those that are seen in the packet itself, in their order; out_of_step comes behind them and needs the slot
--   faults           all of them
--   rows_by p fs      the rows of some faults, where p says which are there
--   Numbered fs n    n is the number of one of them
--   fault_of n        the first of them with a number
--   number_drops n    n is the number of a fault that drops
use Rattle.std.specs.Prelude.{◌≡◌, Bool, true, false, cond, ◌&&◌, ◌||◌, List, [], ◌∷◌, ◌++◌, ◌⊎◌, ℕ, eqb}
use Rattle.bits.specs.Rows.{Row, row}

-- "type unreadable", "the control type 3F", "type C7", "type F8", "a protected word can't be read", "out of step". In the standard
-- (7.4.2.3) 3F is "reserved for potential use with control or interpretation packets", C7 "reserved", F8 "with conditional access scrambling"
pub data Fault : Type 0 where
  type_unreadable : Fault
  type_control : Fault
  type_reserved : Fault
  type_scrambled : Fault
  word_unreadable : Fault
  out_of_step : Fault

abbrev pub number : Fault → ℕ
number type_unreadable = 28
number type_control = 29
number type_reserved = 47
number type_scrambled = 30
number word_unreadable = 31
number out_of_step = 32

abbrev pub drops : Fault → Bool
drops type_unreadable = true
drops type_control = false
drops type_reserved = true
drops type_scrambled = true
drops word_unreadable = true
drops out_of_step = true

abbrev pub unreadables : List Fault
unreadables = type_unreadable ∷ type_control ∷ type_reserved ∷ type_scrambled ∷ word_unreadable ∷ []

abbrev pub faults : List Fault
faults = unreadables ++ (out_of_step ∷ [])

abbrev pub rows_by : (Fault → Bool) → List Fault → List Row
rows_by p [] = []
rows_by p (f ∷ fs) = row (p f) (number f) ∷ rows_by p fs

abbrev pub Numbered : List Fault → ℕ → Type 0
Numbered [] n = ⊥
Numbered (f ∷ fs) n = (n ≡ number f) ⊎ Numbered fs n

abbrev fault_in : List Fault → ℕ → Fault
fault_in [] n = out_of_step
fault_in (f ∷ fs) n = cond (eqb n (number f)) f (fault_in fs n)

unfoldable pub fault_of : ℕ → Fault
fault_of n = fault_in faults n

abbrev drops_in : List Fault → ℕ → Bool
drops_in [] n = false
drops_in (f ∷ fs) n = (eqb n (number f) && drops f) || drops_in fs n

unfoldable pub number_drops : ℕ → Bool
number_drops n = drops_in faults n
