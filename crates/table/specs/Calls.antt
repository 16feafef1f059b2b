-- The calls that change the state, each as two functions of what was lent: its answer, and the bytes after (document 01,
-- sections 3, 5 and 6; document 02, Ask 7). A refused call changes nothing.
--
--   start_answer, start_after     20
--   follow_answer, follow_after   20, 34, 22, 23, 24, 25, 26
--   leave_answer, leave_after     20, 34, 22, 27
--   end_answer, end_after         20, 34: the end of a subframe
--   set_answer, set_after         20, 34, 48: the setting
use Rattle.std.specs.Prelude.{not, List, [], ◌∷◌, ℕ, zero, suc, ltb, eqb, length}
use Rattle.bits.specs.Bits.{blank}
use Rattle.bits.specs.Rows.{Row, row, refusal, done}
use Rattle.bare.specs.Bare.{most_flips}
use Rattle.slot.specs.Slot.{slot_size, head_of, with_head}
use Rattle.head.specs.Head.{wish_rows, new_head, aged_head, within}
use Rattle.head.specs.declared.Wish.{Wish}
use Rattle.table.specs.State.{slots, state_size, started_state, with_setting, slot_at, with_slot, find, good}

-- 20: state not 11,777; 34: state not good; then the call's own rows
abbrev pub state_rows : List ℕ → List Row → List Row
state_rows s rest = row (not (eqb (length s) state_size)) 20 ∷ row (not (good s)) 34 ∷ rest

-- ---- start: "Starting sets every byte to 0", but for the setting

unfoldable pub start_answer : List ℕ → ℕ
start_answer s = refusal (row (not (eqb (length s) state_size)) 20 ∷ [])

unfoldable pub start_after : List ℕ → List ℕ
start_after s = done (start_answer s) started_state s

-- ---- follow: "Follow takes the lowest free slot, with awaited index, marks and age 0."

unfoldable pub follow_answer : List ℕ → Wish → ℕ
follow_answer s w =
    refusal
    (state_rows s
    (wish_rows w
    (row (ltb (find s w.address) slots) 25
    ∷ row (not (ltb (find s 0) slots)) 26
    ∷ [])))

unfoldable pub follow_after : List ℕ → Wish → List ℕ
follow_after s w =
    let k = find s 0 in
    done (follow_answer s w) (with_slot k (with_head (new_head w) (slot_at k s)) s) s

-- ---- leave: "Leave sets the slot to 0; a freed slot is taken again."

unfoldable pub leave_answer : List ℕ → ℕ → ℕ
leave_answer s address =
    refusal (state_rows s (row (not (within 1 1022 address)) 22 ∷ row (not (ltb (find s address) slots)) 27 ∷ []))

unfoldable pub leave_after : List ℕ → ℕ → List ℕ
leave_after s address = done (leave_answer s address) (with_slot (find s address) (blank slot_size) s) s

-- ---- the end of a subframe

unfoldable pub end_answer : List ℕ → ℕ
end_answer s = refusal (state_rows s [])

-- n slots from k on, each aged
unfoldable pub ages : ℕ → ℕ → List ℕ → List ℕ
ages zero k s = s
ages (suc n) k s = ages n (suc k) (with_slot k (with_head (aged_head (head_of (slot_at k s))) (slot_at k s)) s)

unfoldable pub end_after : List ℕ → List ℕ
end_after s = done (end_answer s) (ages slots 0 s) s

-- ---- the setting: the greatest number of flips to correct in a packet's header

unfoldable pub set_answer : List ℕ → ℕ → ℕ
set_answer s most = refusal (state_rows s (row (ltb most_flips most) 48 ∷ []))

unfoldable pub set_after : List ℕ → ℕ → List ℕ
set_after s most = done (set_answer s most) (with_setting most s) s
