-- Numbers in a run of bytes.
--
--   two_at at s                two bytes, highest first, as records have them (document 01, section 7)
--   four n, four_at at s       a number as four bytes, lowest first, and the number at a place
--   eight n, eight_at at s     the same with eight bytes
use Rattle.std.specs.Prelude.{List, [], ◌∷◌, ◌++◌, ℕ, ◌+◌, ◌*◌, ◌/◌, ◌%◌, ◌^◌, get_or}

unfoldable pub two_at : ℕ → List ℕ → ℕ
two_at at s = 256 * get_or s at 0 + get_or s (at + 1) 0

unfoldable pub four : ℕ → List ℕ
four n = n % 256 ∷ n / 256 % 256 ∷ n / 65536 % 256 ∷ n / 16777216 % 256 ∷ []

unfoldable pub four_at : ℕ → List ℕ → ℕ
four_at at s = get_or s at 0 + 256 * get_or s (at + 1) 0 + 65536 * get_or s (at + 2) 0 + 16777216 * get_or s (at + 3) 0

unfoldable pub eight : ℕ → List ℕ
eight n = four n ++ four (n / 2 ^ 32)

unfoldable pub eight_at : ℕ → List ℕ → ℕ
eight_at at s = four_at at s + 2 ^ 32 * four_at (at + 4) s
