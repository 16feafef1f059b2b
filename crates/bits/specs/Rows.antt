-- Document 01, section 6: "A call is refused exactly when a row in its order holds, and with the first such; otherwise it
-- is accepted."
--
--   row test number   a row of an order: when it holds, and the number given back then
--   refusal rows      the number of the first row that holds; 0 where none does
--   given number v    what is given back beside a number: v where nothing is refused, otherwise 0
--   further number n  the answer, where n is what answers if nothing is refused
--   done number after before    what a call leaves of lent bytes: changed where nothing is refused, otherwise as they were
use Rattle.std.specs.Prelude.{Bool, cond, List, [], ◌∷◌, ℕ, zero, suc}

pub data Row : Type 0 where
  row : Bool → ℕ → Row

unfoldable pub refusal : List Row → ℕ
refusal [] = 0
refusal (row test number ∷ rest) = cond test number (refusal rest)

unfoldable pub given : ℕ → ℕ → ℕ
given zero v = v
given (suc number) v = 0

unfoldable pub further : ℕ → ℕ → ℕ
further zero n = n
further (suc number) n = suc number

unfoldable pub done : ℕ → List ℕ → List ℕ → List ℕ
done zero after before = after
done (suc number) after before = before
