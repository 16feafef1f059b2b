-- The plain header reader of document 02, Ask 10: it "tries the error patterns themselves, fewest flips first". It stands on the division
-- of 4.3.6.1.3 alone and names no table, neither that of the patterns nor that of the check bits.
--
--   error_patterns k b    the error patterns with k flips, all of them in bits 0 to b - 1, in the order of their numbers
--   trials f             those of 23 bits with fewer than f flips: no flip, then one flip, then two ..
--   leaving n es         the first of these patterns that, flipped in n, leaves a word; 2^23 where none does
--   pattern_of found     what the code finds, as that number
--   header_plain          what a header is read as at a setting
use Rattle.std.specs.Prelude.{Option, None, Some, cond, List, [], ◌∷◌, ◌++◌, map, ℕ, zero, suc, ◌+◌, ◌/◌, ◌%◌, ◌^◌, leb, ltb, eqb}
use Rattle.std.specs.Int.Bits.{bit_xor}
use Rattle.std.specs.Int.Count.{ones}
use Rattle.bits.specs.Rows.{row, refusal, given}
use Rattle.golay.specs.Code.{remainder}
use Rattle.bare.specs.Bare.{most_flips}
use Rattle.bare.specs.Bare.{HeaderAnswer}

-- Bit b is not flipped, or it is, and one flip fewer lies below it.
unfoldable pub error_patterns : ℕ → ℕ → List ℕ
error_patterns zero b = 0 ∷ []
error_patterns (suc k) zero = []
error_patterns (suc k) (suc b) = error_patterns (suc k) b ++ map (λ (e : ℕ). 2 ^ b + e) (error_patterns k b)

-- "fewest flips first"
unfoldable pub trials : ℕ → List ℕ
trials zero = []
trials (suc f) = trials f ++ error_patterns f 23

-- 4.3.6.1.3: a word is "a polynomial which is a multiple of the generator polynomial G(x)"; the division leaves nothing.
unfoldable pub leaving : ℕ → List ℕ → ℕ
leaving n [] = 2 ^ 23
leaving n (e ∷ es) = cond (eqb (remainder (bit_xor n e)) 0) e (leaving n es)

abbrev pub pattern_of : Option ℕ → ℕ
pattern_of None = 2 ^ 23
pattern_of (Some e) = e

-- 33: header 2^23 or more; 48: a setting above 3; 49: no pattern of as many flips as the setting, or fewer, leaves a word. Bits 0 to 9 of
-- the word are the address, 10 and 11 the index (4.3.6.1); the flips are those of the pattern.
unfoldable pub header_plain : ℕ → ℕ → HeaderAnswer
header_plain n most =
    let e = leaving n (trials (suc most)) in
    let answer = refusal (row (leb (2 ^ 23) n) 33 ∷ row (ltb most_flips most) 48 ∷ row (leb (2 ^ 23) e) 49 ∷ []) in
    let word = bit_xor n e in
    record { number = answer; address = given answer (word % 1024); index = given answer (word / 1024 % 4); flips = given answer (ones e) }
