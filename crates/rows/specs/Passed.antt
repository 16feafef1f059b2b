-- When a row passes.
--
--   wanted           where what a row awaits stands among its numbers: behind sixteen places for arguments
--   most             how many numbers a call may answer
--   Same ws vs       each number that a row with the numbers ws awaits is the one that came of vs
use Rattle.std.specs.Prelude.{◌≡◌, ℕ, ◌+◌, ◌<◌, List, slice_index}

abbrev pub wanted : ℕ
wanted = 16

abbrev pub most : ℕ
most = 8

abbrev pub Same : List ℕ → List ℕ → Type 0
Same ws vs = (k : ℕ) → k < most → slice_index ws (wanted + k) ≡ slice_index vs k
