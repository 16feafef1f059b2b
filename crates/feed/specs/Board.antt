-- Board text across the C boundary: from which lent buffer the part comes, its place there and its length.
--
--   board_from s a          1 the state, 0 the notice
--   board_at, board_length
use Rattle.std.specs.Prelude.{cond, List, ℕ, eqb, length}
use Rattle.asking.specs.Asking.{asked}

unfoldable pub board_from : List ℕ → ℕ → ℕ
board_from s a = cond (eqb (asked s a).number 5) 1 0

unfoldable pub board_at : List ℕ → ℕ → ℕ
board_at s a = cond (eqb (asked s a).number 5) (asked s a).at 0

unfoldable pub board_length : List ℕ → ℕ → List ℕ → ℕ
board_length s a notice = cond (eqb (asked s a).number 5) (asked s a).len (length notice)
