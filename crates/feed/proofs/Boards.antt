-- Board text across the C boundary.
--
--   board-part                    the part that they name in the buffer that they name is the board text
--
-- Assumes nothing.
use mathlib.Core.Path.{◌≡◌, refl}
use mathlib.Core.Bool.{Bool, true, false, cond}
use mathlib.Core.List.{List}
use Prim.Native.Nat.{ℕ}
use lib.Dec.{eqb}
use lib.ListN.{length}
use lib.Seq.{take-length}
use Rattle.runs.specs.Part.{part}
use Rattle.asking.specs.Asking.{asked, ask_part, board_text}
use Rattle.feed.specs.Board.{board_from, board_at, board_length}

pub board-part : (s : List ℕ) (a : ℕ) (notice : List ℕ)
    → part (board_at s a) (board_length s a notice) (cond (eqb (board_from s a) 1) s notice) ≡ board_text s a notice
unfolding board_from board_at board_length board_text ask_part part
board-part s a notice = go (eqb (asked s a).number 5)
  where
    go : (b : Bool)
        → part (cond b (asked s a).at 0) (cond b (asked s a).len (length notice)) (cond (eqb (cond b 1 0) 1) s notice)
        ≡ cond b (part (asked s a).at (asked s a).len s) notice
    go true = refl
    go false = take-length notice
