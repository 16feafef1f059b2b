-- The first number that passes a test, and whether all do.
--
--   first p k i     the least number from i on, of k numbers, that passes; i + k where none does
--   all p k i       each of k numbers from i on passes
use Rattle.std.specs.Prelude.{Bool, true, cond, ◌&&◌, ℕ, zero, suc}

unfoldable pub first : (ℕ → Bool) → ℕ → ℕ → ℕ
first p zero i = i
first p (suc k) i = cond (p i) i (first p k (suc i))

unfoldable pub all : (ℕ → Bool) → ℕ → ℕ → Bool
all p zero i = true
all p (suc k) i = p i && all p k (suc i)
