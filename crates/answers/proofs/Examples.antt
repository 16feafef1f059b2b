-- Worked examples of the text: the least and the largest number of 64 bits, and document 01's sample output (section 7).
-- Assumes nothing.
use mathlib.Core.Path.{◌≡◌, refl}
use mathlib.Core.List.{[], ◌∷◌}
use Prim.Native.Nat.{◌-◌, ◌^◌}
use Rattle.answers.specs.Text.{digits, decimal, line, lines, heading, text}

-- `0`
pub decimal-least : decimal 0 ≡ 48 ∷ []
unfolding decimal digits
decimal-least = refl

-- `18446744073709551615`
pub decimal-largest : decimal (2 ^ 64 - 1)
    ≡ 49 ∷ 56 ∷ 52 ∷ 52 ∷ 54 ∷ 55 ∷ 52 ∷ 52 ∷ 48 ∷ 55 ∷ 51 ∷ 55 ∷ 48 ∷ 57 ∷ 53 ∷ 53 ∷ 49 ∷ 54 ∷ 49 ∷ 53 ∷ []
unfolding decimal digits
decimal-largest = refl

-- `answers 1`, `1 0`, `2 4`, `3 25`, `4 0`, `5 0`, `6 27`, `7 22`
pub sample-text : text (0 ∷ 4 ∷ 25 ∷ 0 ∷ 0 ∷ 27 ∷ 22 ∷ [])
    ≡ 97 ∷ 110 ∷ 115 ∷ 119 ∷ 101 ∷ 114 ∷ 115 ∷ 32 ∷ 49 ∷ 10
    ∷ 49 ∷ 32 ∷ 48 ∷ 10
    ∷ 50 ∷ 32 ∷ 52 ∷ 10
    ∷ 51 ∷ 32 ∷ 50 ∷ 53 ∷ 10
    ∷ 52 ∷ 32 ∷ 48 ∷ 10
    ∷ 53 ∷ 32 ∷ 48 ∷ 10
    ∷ 54 ∷ 32 ∷ 50 ∷ 55 ∷ 10
    ∷ 55 ∷ 32 ∷ 50 ∷ 50 ∷ 10 ∷ []
unfolding text heading lines line decimal digits
sample-text = refl
