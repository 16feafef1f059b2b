-- What is asked of the state, as functions of what was lent (document 01, sections 5 and 6). Nothing is changed.
--
--   Asked             a number, and the place and the length of a group
--   freshness_number, told_asked      how an answer of the code is told as that
--   number_by, part_by      the number and the part, where an answer of the code has the freshness, or the part itself
--   asked s a         ask's answer (20, 34, 22, 27 before), and where the group stands in the state
--   ask_part s a       the part of the state that holds the group
--   board_text         the stored group where ask's number is 5, otherwise the whole notice
use Rattle.std.specs.Prelude.{cond, List, [], ℕ, zero, suc, ◌+◌, ◌*◌, eqb, Option, Some, None, Result, Ok, Err}
use Rattle.faults.specs.Refusals.{number_of}
use Rattle.faults.specs.declared.refusal.Refusal.{Refusal}
use Rattle.runs.specs.Part.{part}
use Rattle.slot.specs.Slot.{slot_size, whole_at, head_of}
use Rattle.head.specs.Head.{ask_number}
use Rattle.head.specs.declared.Head.{Head}
use Rattle.table.specs.State.{slot_at, find}
use Rattle.table.specs.Calls.{leave_answer}
use Rattle.asking.specs.declared.Freshness.{Freshness}
use Rattle.asking.specs.declared.Freshness.TheVariants.{Fresh, Doubtful, Stale}
use Rattle.asking.specs.declared.Shown.{Shown}

-- 4 to 7 or a refusal; with 5 to 7 the place and the length of the group in the state
pub record Asked : Type 0 where
  pub number : ℕ
  pub at : ℕ
  pub len : ℕ

abbrev pub freshness_number : Freshness → ℕ
freshness_number Fresh = 5
freshness_number Doubtful = 6
freshness_number Stale = 7

-- 4 where there is nothing yet
abbrev pub told_asked : Result (Option Shown) Refusal → Asked
told_asked (Ok None) = record { number = 4; at = 0; len = 0 }
told_asked (Ok (Some shown)) = record { number = freshness_number shown.freshness; at = shown.at; len = shown.len }
told_asked (Err refusal) = record { number = number_of refusal; at = 0; len = 0 }

abbrev pub number_by : {A : Type 0} → (A → Freshness) → Result (Option A) Refusal → ℕ
number_by freshness (Ok None) = 4
number_by freshness (Ok (Some x)) = freshness_number (freshness x)
number_by freshness (Err refusal) = number_of refusal

abbrev pub part_by : {A : Type 0} → (A → List ℕ) → Result (Option A) Refusal → List ℕ
part_by bytes (Ok None) = []
part_by bytes (Ok (Some x)) = bytes x
part_by bytes (Err refusal) = []

-- ---- ask, by `shown`: "Answers 5 to 7 come with the part of the state that holds the group, at its true length"

-- 360 bytes plain, 180 protected
unfoldable pub group_length : Head → ℕ
group_length h = cond (eqb h.wish.protection 1) 180 360

-- a followed address, in slot k
unfoldable pub asked_at : ℕ → Head → Asked
asked_at k h =
    cond (eqb h.group 0) (record { number = 4; at = 0; len = 0 })
    (record { number = ask_number h; at = k * slot_size + whole_at; len = group_length h })

-- refused, or a followed address
unfoldable pub asked_by : ℕ → Asked → Asked
asked_by zero found = found
asked_by (suc number) found = record { number = suc number; at = 0; len = 0 }

unfoldable pub asked : List ℕ → ℕ → Asked
asked s address = asked_by (leave_answer s address) (asked_at (find s address) (head_of (slot_at (find s address) s)))

unfoldable pub ask_part : List ℕ → ℕ → List ℕ
ask_part s address = part (asked s address).at (asked s address).len s

-- ---- board text

unfoldable pub board_text : List ℕ → ℕ → List ℕ → List ℕ
board_text s address notice = cond (eqb (asked s address).number 5) (ask_part s address) notice
