-- P1 to P12 hold: one list, one statement. Assumes nothing.
use mathlib.Core.Path.{◌≡◌, refl, ap, ap₂, ◌∙◌}
use mathlib.Core.List.{List, [], ◌∷◌, ◌++◌, map}
use mathlib.Core.Bool.{cond}
use Prim.Native.Nat.{ℕ}
use lib.Dec.{ltb}
use Rattle.bits.proofs.Rows.{further-passed}
use Rattle.bits.specs.All.{All}
use Rattle.bare.specs.Edges as below
use Rattle.bare.proofs.Edges as proved
use Rattle.head.specs.Move.{per_of, needs_of, row_of, move_of, move_number, moved_head}
use Rattle.group.specs.Group.{taken_number}
use Rattle.group.specs.Edges.{Edge, bare, Answers, Holds, steps, edges}

-- the answer is section 4's table's
answers_by : (a c n : ℕ) → move_number (move_of 4 4 a c) ≡ n → Answers a c n
unfolding taken_number per_of needs_of
answers_by a c n e r h z i w =
    further-passed r.number _ z ∙ ap₂ (λ (x y : ℕ). move_number (move_of 4 4 x y)) w i ∙ e

-- the rows of the bare calls, and then others
bare-then : (es : List below.Edge) (rest : List Edge) → All below.Holds es → All Holds rest → All Holds (map bare es ++ rest)
bare-then [] rest h k = k
bare-then (e ∷ es) rest h k = (h.0, bare-then es rest h.1 k)

steps-hold : All Holds steps
unfolding move_of row_of per_of needs_of move_number moved_head
steps-hold =
    (answers_by _ _ _ refl, ((answers_by _ _ _ refl, λ h e. ap (λ (x : ℕ). cond (ltb 0 x) 1 h.gap) e), (answers_by _ _ _ refl, tt)))

pub edges-hold : All Holds edges
edges-hold = bare-then below.edges steps proved.edges-hold steps-hold
