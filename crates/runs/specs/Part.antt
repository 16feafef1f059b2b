-- A part of a run of bytes, and the run with that part replaced.
--
--   part at n s      the n bytes from place at on
--   put at n b s     s with the n bytes from place at on replaced by b
use Rattle.std.specs.Prelude.{List, ◌++◌, ℕ, take, drop}

unfoldable pub part : ℕ → ℕ → List ℕ → List ℕ
part at n s = take n (drop at s)

unfoldable pub put : ℕ → ℕ → List ℕ → List ℕ → List ℕ
put at n b s = take at s ++ (b ++ drop n (drop at s))
