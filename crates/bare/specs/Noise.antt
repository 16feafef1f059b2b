-- How often noise is read as a header (document 02, Ask 7: "On an empty channel, noise always reads as some header, and now and then as
-- an address of ours"): of all numbers of 23 bits, how many are read at each setting, and how many as one address.
--
--   counted f n        how many of the numbers below n a test holds for
--   readable most n    n is read at this setting
--   read_as a most n    and as this address
--   Noise              of the 2^23 numbers, at the settings 0, 1, 2 and 3
use Rattle.std.specs.Prelude.{◌≡◌, Bool, cond, ◌&&◌, List, [], ◌∷◌, map, ℕ, zero, suc, ◌+◌, ◌*◌, ◌^◌, ◌<◌, eqb}
use Rattle.bare.specs.Bare.{header_within}

unfoldable pub counted : (ℕ → Bool) → ℕ → ℕ
counted f zero = 0
counted f (suc n) = cond (f n) 1 0 + counted f n

unfoldable pub readable : ℕ → ℕ → Bool
readable most n = eqb (header_within n most).number 0

unfoldable pub read_as : ℕ → ℕ → ℕ → Bool
read_as a most n = readable most n && eqb (header_within n most).address a

abbrev pub settings : List ℕ
settings = 0 ∷ 1 ∷ 2 ∷ 3 ∷ []

-- 1, 24, 277 and 2,048: the patterns of 23 bits with so many ones at the most. There are 4,096 words, four of each address.
pub record Noise : Type 0 where
  pub all : map (λ (most : ℕ). counted (readable most) (2 ^ 23)) settings ≡ (4096 * 1 ∷ 4096 * 24 ∷ 4096 * 277 ∷ 4096 * 2048 ∷ [])
  pub address : (a : ℕ) → a < 1024
      → map (λ (most : ℕ). counted (read_as a most) (2 ^ 23)) settings ≡ (4 * 1 ∷ 4 * 24 ∷ 4 * 277 ∷ 4 * 2048 ∷ [])
