-- What a slot's answer carries, by number: the answers are the paper's, and what each carries is written out.
--
--   readable c         a readable data packet with index c
--   awaiting a         a slot's head that awaits index a
--   out-carries        32: the index awaited and the one that came, in this order, of every pair that is out of step
--   word-carries       31: the place of the word, 0, 15 or 29, and no index, although one is awaited
--   others-carry       1, 2, 3 and the other refusals carry nothing
--
-- Assumes nothing.
use mathlib.Core.Path.{◌≡◌, refl}
use mathlib.Core.List.{[], ◌∷◌}
use Prim.Native.Nat.{ℕ}
use Rattle.bits.specs.Rows.{further}
use Rattle.packet.specs.Received.{refused_as, readable_as}
use Rattle.packet.specs.Received.{ReadingAnswer}
use Rattle.head.specs.Head.{wish_of}
use Rattle.head.specs.Move.{per_of, needs_of, row_of, move_of, move_number}
use Rattle.head.specs.declared.Head.{Head}
use Rattle.group.specs.declared.Answer.{Answer}
use Rattle.group.specs.Group.{taken, taken_number}

abbrev readable : ℕ → ReadingAnswer
readable c = readable_as c []

abbrev awaiting : ℕ → Head
awaiting a = record { wish = wish_of 17 1 2; age = 0; awaited = a; group = 0; gap = 0 }

abbrev pub answer : ℕ → ℕ → ℕ → Answer
answer number first came = record { number = number; detail = first; came = came }

pub out-carries : (taken (readable 1) (awaiting 0) ∷ taken (readable 2) (awaiting 0) ∷ taken (readable 3) (awaiting 0)
    ∷ taken (readable 2) (awaiting 1) ∷ taken (readable 3) (awaiting 1) ∷ taken (readable 1) (awaiting 2)
    ∷ taken (readable 3) (awaiting 2) ∷ taken (readable 1) (awaiting 3) ∷ taken (readable 2) (awaiting 3) ∷ [])
    ≡ (answer 32 0 1 ∷ answer 32 0 2 ∷ answer 32 0 3 ∷ answer 32 1 2 ∷ answer 32 1 3 ∷ answer 32 2 1 ∷ answer 32 2 3
    ∷ answer 32 3 1 ∷ answer 32 3 2 ∷ [])
unfolding taken_number further per_of needs_of row_of move_of move_number
out-carries = refl

pub word-carries : (taken (refused_as 31 0) (awaiting 2) ∷ taken (refused_as 31 15) (awaiting 1) ∷ taken (refused_as 31 29) (awaiting 3) ∷ [])
    ≡ (answer 31 0 0 ∷ answer 31 15 0 ∷ answer 31 29 0 ∷ [])
unfolding taken_number further
word-carries = refl

pub others-carry : (taken (readable 0) (awaiting 2) ∷ taken (readable 2) (awaiting 2) ∷ taken (readable 3) (awaiting 3)
    ∷ taken (refused_as 28 0) (awaiting 2) ∷ taken (refused_as 29 0) (awaiting 2) ∷ taken (refused_as 47 0) (awaiting 3)
    ∷ taken (refused_as 30 0) (awaiting 1) ∷ [])
    ≡ (answer 1 0 0 ∷ answer 2 0 0 ∷ answer 3 0 0 ∷ answer 28 0 0 ∷ answer 29 0 0 ∷ answer 47 0 0 ∷ answer 30 0 0 ∷ [])
unfolding taken_number further per_of needs_of row_of move_of move_number
others-carry = refl
