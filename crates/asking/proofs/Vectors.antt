-- Ask and the board text by number: section 6's rows and section 5's answers, with the lengths of groups. The numbers are the paper's.
--
--   groups            a group in slot 0: 5 to 7 by age and gap, of 180 bytes protected and 360 plain; none yet: 4 and an empty part
--   asks              20, 34, 22, 27 and 4, each with an empty part
--   boards            what a board gets in those cases: the whole notice
--
-- Assumes nothing.
use mathlib.Core.Path.{◌≡◌, refl, sym}
use mathlib.Core.List.{List, [], ◌∷◌}
use Prim.Native.Nat.{ℕ, ◌-◌}
use native.Mathlib.Omega.{arith}
use lib.Dec.{lit<, lit≤}
use Rattle.bits.specs.Bits.{blank}
use Rattle.bits.specs.Search.{first}
use Rattle.head.specs.Head.{wish_of, new_head, ask_number}
use Rattle.head.specs.declared.Head.{Head}
use Rattle.table.specs.State.{state_size}
use Rattle.table.specs.Calls.{leave_answer}
use Rattle.table.proofs.Looking.{leave-22}
use Rattle.table.proofs.Shows.{start-shows, find-place, follow-head}
use Rattle.table.proofs.Vectors.{spoiled, started, followed, one, nobody, ok, unknown, known, leave-20, leave-34, followed-17, followed-shows}
use Rattle.asking.specs.Asking.{Asked, group_length, asked_at, asked, board_text}
use Rattle.asking.proofs.Laws.{bare, asked-refused, asked-found, asked-none, board-notice}

-- ---- a head in slot 0: address 17, limit 2

abbrev head : ℕ → ℕ → ℕ → ℕ → Head
head protection group gap age =
    record { wish = wish_of 17 protection 2; age = age; awaited = 0; group = group; gap = gap }

-- a number with the group's length, which stands at 360 in the slot
abbrev shows : ℕ → ℕ → Asked
shows number len = record { number = number; at = 360; len = len }

pub groups : (asked_at 0 (head 1 1 0 0) ∷ asked_at 0 (head 1 1 0 1) ∷ asked_at 0 (head 1 1 0 2) ∷ asked_at 0 (head 1 1 1 1) ∷ asked_at 0 (head 1 1 1 2)
    ∷ asked_at 0 (head 0 1 0 1) ∷ asked_at 0 (head 0 1 1 1) ∷ asked_at 0 (head 0 1 1 2) ∷ asked_at 0 (head 1 0 0 0) ∷ asked_at 0 (head 0 0 1 0) ∷ [])
    ≡ (shows 5 180 ∷ shows 5 180 ∷ shows 7 180 ∷ shows 6 180 ∷ shows 7 180 ∷ shows 5 360 ∷ shows 6 360 ∷ shows 7 360 ∷ bare 4 ∷ bare 4 ∷ [])
unfolding asked_at ask_number group_length
groups = refl

-- ---- the rows

pub refused : (s : List ℕ) (a r : ℕ) → leave_answer s a ≡ r → (r ≡ 0 → ⊥) → asked s a ≡ bare r
refused s a r e ne = sym (asked-refused s a r (sym e) ne)

-- followed, and no group yet
pub nothing_yet : asked followed 17 ≡ bare 4
unfolding first
nothing_yet =
    sym (asked-found followed 17 0 (new_head (wish_of 17 1 2)) (bare 4) (known followed one followed-shows 17 refl (lit< tt))
    (find-place followed one followed-shows 17) (sym (follow-head started nobody start-shows (wish_of 17 1 2) followed-17)) (sym (asked-none 0 (new_head (wish_of 17 1 2)) refl)))

pub asks : (asked (blank (state_size - 1)) 0 ∷ asked spoiled 0 ∷ asked started 0 ∷ asked started 1023 ∷ asked started 1 ∷ asked started 1022
    ∷ asked followed 18 ∷ asked followed 17 ∷ [])
    ≡ (bare 20 ∷ bare 34 ∷ bare 22 ∷ bare 22 ∷ bare 27 ∷ bare 27 ∷ bare 27 ∷ bare 4 ∷ [])
unfolding first
asks = λ i.
    refused (blank (state_size - 1)) 0 20 leave-20 (λ q. omega (arith, q)) i ∷ refused spoiled 0 34 leave-34 (λ q. omega (arith, q)) i
    ∷ refused started 0 22 (leave-22 started 0 ok refl) (λ q. omega (arith, q)) i
    ∷ refused started 1023 22 (leave-22 started 1023 ok refl) (λ q. omega (arith, q)) i
    ∷ refused started 1 27 (unknown started nobody start-shows 1 refl (lit≤ tt)) (λ q. omega (arith, q)) i
    ∷ refused started 1022 27 (unknown started nobody start-shows 1022 refl (lit≤ tt)) (λ q. omega (arith, q)) i
    ∷ refused followed 18 27 (unknown followed one followed-shows 18 refl (lit≤ tt)) (λ q. omega (arith, q)) i
    ∷ nothing_yet i ∷ []

-- ---- the board text

pub boards : (notice : List ℕ) → (board_text spoiled 0 notice ∷ board_text started 17 notice ∷ board_text followed 17 notice ∷ [])
    ≡ (notice ∷ notice ∷ notice ∷ [])
unfolding first
boards notice = λ i.
    sym (board-notice spoiled 0 notice (bare 34) (sym (refused spoiled 0 34 leave-34 (λ q. omega (arith, q)))) (λ q. omega (arith, q))) i
    ∷ sym (board-notice started 17 notice (bare 27)
    (sym (refused started 17 27 (unknown started nobody start-shows 17 refl (lit≤ tt)) (λ q. omega (arith, q)))) (λ q. omega (arith, q))) i
    ∷ sym (board-notice followed 17 notice (bare 4) (sym nothing_yet) (λ q. omega (arith, q))) i ∷ []
