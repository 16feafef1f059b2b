-- What the record program prints, as bytes (document 01, section 7): "prints `answers 1`, then a line for each record: its number
-- from 1, a space, the answer".
--
--   decimal n     a number's decimal digits, the highest first and no 0 in front; for numbers below 10^20, as all of 64 bits are
--   line k n      a record's number, a space, its answer, a line end
--   lines k ns    a line for each answer, numbered from k on
--   heading       `answers 1` and a line end
--   text ns       the heading, and the lines from 1 on
use Rattle.std.specs.Prelude.{cond, List, [], ◌∷◌, ◌++◌, ℕ, zero, suc, ◌+◌, ◌/◌, ◌%◌, ltb}

-- at most so many digits
unfoldable pub digits : ℕ → ℕ → List ℕ
digits zero n = []
digits (suc most) n = cond (ltb n 10) ((48 + n) ∷ []) (digits most (n / 10) ++ ((48 + n % 10) ∷ []))

unfoldable pub decimal : ℕ → List ℕ
decimal n = digits 20 n

unfoldable pub line : ℕ → ℕ → List ℕ
line k n = decimal k ++ (32 ∷ (decimal n ++ (10 ∷ [])))

unfoldable pub lines : ℕ → List ℕ → List ℕ
lines k [] = []
lines k (n ∷ ns) = line k n ++ lines (k + 1) ns

unfoldable pub heading : List ℕ
heading = 97 ∷ 110 ∷ 115 ∷ 119 ∷ 101 ∷ 114 ∷ 115 ∷ 32 ∷ 49 ∷ 10 ∷ []

unfoldable pub text : List ℕ → List ℕ
text ns = heading ++ lines 1 ns
