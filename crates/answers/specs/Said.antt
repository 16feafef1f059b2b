-- The record program's progress, as a function of what its reads give, without reads and writes.
--
--   Progress               the state, the bytes kept of the last buffer, the number of the next record, and whether it goes on
--   begun                  as it is before the first read
--   spoken t s             the answers that are printed for a buffer's bytes, on a state: those of its whole records, and 35 where the
--                          record behind them is bad
--   printed p c            what is printed for a chunk that a read gave
--   turned t s k, onward p c     the progress after a buffer's bytes; after a chunk, which stands behind the kept bytes
--   at_end p                what is printed at the end of the file: 35's line where bytes are kept
--   told p c, next p c     the same of a read that may give nothing, which is the end of the file
--   after cs, said cs      the progress after the chunks cs, and what is printed for them
--   held                   the progress that the program's own values stand for
--   Reached p              it is the progress after some chunks
--   Offered out            what may be written on standard output: the heading, or what is told of a read
use Rattle.std.specs.Prelude.{◌≡◌, Bool, true, false, cond, List, [], ◌∷◌, ◌++◌, ℕ, ◌+◌, length, take, drop}
use Rattle.table.specs.State.{started_state}
use Rattle.records.specs.declared.Step.{Step}
use Rattle.records.specs.declared.Step.TheVariants.{Record, End, More, Bad}
use Rattle.serving.specs.Served.{pass, on_bad, cut}
use Rattle.answers.specs.Text.{lines, heading}

pub record Progress : Type 0 where
  pub state : List ℕ
  pub kept : List ℕ
  pub number : ℕ
  pub going : Bool

unfoldable pub begun : Progress
begun = record { state = started_state; kept = []; number = 1; going = true }

-- ---- one read

-- behind a bad record it does not go on
unfoldable pub goes : Step → Bool
goes (Record kind body) = true
goes End = true
goes More = true
goes Bad = false

unfoldable pub spoken : List ℕ → List ℕ → List ℕ
spoken t s = let p = pass (length s) s 0 t in p.answers ++ on_bad p.last []

unfoldable pub printed : Progress → List ℕ → List ℕ
printed p c = cond p.going (lines p.number (spoken p.state (p.kept ++ c))) []

unfoldable pub turned : List ℕ → List ℕ → ℕ → Progress
turned t s k =
    let p = pass (length s) s 0 t in
    record { state = p.state; kept = drop p.at s; number = k + length (spoken t s); going = goes p.last }

unfoldable pub onward : Progress → List ℕ → Progress
onward p c = cond p.going (turned p.state (p.kept ++ c) p.number) p

unfoldable pub at_end : Progress → List ℕ
at_end p = cond p.going (lines p.number (cut p.kept)) []

unfoldable pub told : Progress → List ℕ → List ℕ
told p [] = at_end p
told p (b ∷ c) = printed p (b ∷ c)

unfoldable pub next : Progress → List ℕ → Progress
next p [] = record { state = p.state; kept = p.kept; number = p.number; going = false }
next p (b ∷ c) = onward p (b ∷ c)

-- ---- the reads so far

unfoldable pub after_from : Progress → List (List ℕ) → Progress
after_from p [] = p
after_from p (c ∷ cs) = after_from (onward p c) cs

unfoldable pub said_from : Progress → List (List ℕ) → List ℕ
said_from p [] = []
said_from p (c ∷ cs) = printed p c ++ said_from (onward p c) cs

unfoldable pub after : List (List ℕ) → Progress
after cs = after_from begun cs

unfoldable pub said : List (List ℕ) → List ℕ
said cs = said_from begun cs

-- ---- what the program's functions say

-- the progress that the program's values stand for: so many bytes of the buffer are kept, at its front
unfoldable pub held : List ℕ → List ℕ → ℕ → ℕ → Bool → Progress
held t buffer kept number going = record { state = t; kept = take kept buffer; number = number; going = going }

-- it is the progress after some chunks
pub record Reached (p : Progress) : Type 0 where
  pub chunks : List (List ℕ)
  pub so : p ≡ after chunks

pub data Offered (out : List ℕ) : Type 0 where
  first : out ≡ heading → Offered out
  further : (p : Progress) (c : List ℕ) → Reached p → out ≡ told p c → Offered out
