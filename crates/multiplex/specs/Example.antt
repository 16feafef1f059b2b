-- Fields of the examples, and a short broadcast for the request's own case: its first frame has count 125, so that configurations begin with
-- frames 5, 133, 261 and every 128th one from there on.
--
--   configuration 0    nothing
--   configuration 1    component 7 in two linked fields
--   configuration 2    component 7 with another second field
--   from 3 on          nothing: component 7 is deleted
--
--   script             what the first ten frames carry: the structure of configuration 1, twice; behind its change that structure's own fields
--                      and those of configuration 2, by turns. Panning vectors from then on
--   told               the same, and from frame 133 on that component 7 is to be deleted
use Rattle.std.specs.Prelude.{cond, List, [], ◌∷◌, ℕ, zero, suc, ltb, eqb}
use Rattle.field.specs.Field.{tdms_of}
use Rattle.multiplex.specs.Air.{Carries, new, old, gone, vectors, Air}

-- lines 1 to 20 and 22 to 40, the same clock periods; and the same again further down
abbrev pub one : ℕ
one = tdms_of 0 19 21 39 9 205

abbrev pub two : ℕ
two = tdms_of 100 119 1023 1023 9 205

abbrev pub other : ℕ
other = tdms_of 200 209 1023 1023 9 205

abbrev pub burst : ℕ
burst = tdms_of 22 309 334 621 231 583

-- both line pairs all ones
abbrev pub none : ℕ
none = tdms_of 1023 1023 1023 1023 1023 1023

-- ---- the broadcast

unfoldable pub structures : ℕ → List ℕ
structures zero = []
structures (suc zero) = one ∷ two ∷ []
structures (suc (suc zero)) = one ∷ other ∷ []
structures (suc (suc (suc j))) = []

unfoldable pub pick : List Carries → ℕ → Carries
pick [] t = vectors 0 0 0
pick (c ∷ cs) zero = c
pick (c ∷ cs) (suc t) = pick cs t

abbrev pub script : List Carries
script =
    new 7 0 0 ∷ new 7 1 0 ∷ new 7 0 1 ∷ new 7 1 1 ∷ vectors 0 0 0
    ∷ old 7 0 0 ∷ new 7 0 0 ∷ old 7 1 0 ∷ new 7 1 0 ∷ old 7 0 1 ∷ []

unfoldable pub told : ℕ → Carries
told t = cond (ltb t 133) (pick script t) (gone 1 7 none 0)

unfoldable pub example : Air
example = record { origin = 125; config = λ j id. cond (eqb id 7) (structures j) []; carries = told }
