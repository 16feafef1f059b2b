-- Document 01, section 8: both sides of each edge, the whole proved table, P1 to P12.
--
--   bare e                a row of the bare calls, P1 to P9
--   answers a c n         awaiting a, a readable data packet with index c is answered n
--   marks a c n           the same, and its gap is marked
use Rattle.std.specs.Prelude.{◌≡◌, List, [], ◌∷◌, ◌++◌, map, ℕ}
use Rattle.bare.specs.Edges as below
use Rattle.packet.specs.Received.{ReadingAnswer}
use Rattle.head.specs.Move.{row_at, moved_head}
use Rattle.head.specs.declared.Head.{Head}
use Rattle.group.specs.Group.{taken_number}

pub data Edge : Type 0 where
  bare : below.Edge → Edge
  answers : ℕ → ℕ → ℕ → Edge
  marks : ℕ → ℕ → ℕ → Edge

abbrev pub Answers : ℕ → ℕ → ℕ → Type 0
Answers a c n = (r : ReadingAnswer) (h : Head) → r.number ≡ 0 → r.index ≡ c → h.awaited ≡ a → taken_number r h ≡ n

abbrev pub Holds : Edge → Type 0
Holds (bare e) = below.Holds e
Holds (answers a c n) = Answers a c n
Holds (marks a c n) = Answers a c n × ((h : Head) → h.awaited ≡ a → (moved_head (row_at h c) h).gap ≡ 1)

-- P10: awaiting 2, index 2 is held. P11: awaiting 2, index 0 starts and marks a gap. P12: awaiting 0, index 1 is 32
abbrev pub steps : List Edge
steps = answers 2 2 2 ∷ marks 2 0 1 ∷ answers 0 1 32 ∷ []

abbrev pub edges : List Edge
edges = map bare below.edges ++ steps
