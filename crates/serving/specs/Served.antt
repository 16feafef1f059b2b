-- What records do to a state (document 01, section 7), and what the record program is to print for a file.
--
--   wish_in b                      what a follow record wishes
--   served_answer, served_after     one record's call: its answer, and the state after it
--   Pass                          what a pass over records gives: the answers, the state after, the place it came to, what stands there
--   pass n s at t                 the records of s from a place on, at most n of them, on the state t
--   ending                        the answer behind the last record: 35 where it is cut or bad, nothing at the end
--   file_answers s                 "start, then each record's call in turn, stop at the first bad one"
--   chunk_answers cs               the same of a file that comes cut into chunks, the tail of each carried over
use Rattle.std.specs.Prelude.{cond, List, [], ◌∷◌, ◌++◌, ℕ, zero, suc, ◌+◌, eqb, length, get_or, drop}
use Rattle.runs.specs.Part.{part}
use Rattle.table.specs.State.{started_state}
use Rattle.head.specs.Head.{wish_of}
use Rattle.head.specs.declared.Wish.{Wish}
use Rattle.table.specs.Calls.{follow_answer, follow_after, leave_answer, leave_after, end_answer, end_after}
use Rattle.asking.specs.Asking.{asked}
use Rattle.adapter.specs.Calls.{packet_answer, packet_after}
use Rattle.records.specs.declared.Step.{Step}
use Rattle.records.specs.declared.Step.TheVariants.{Record, End, More, Bad}
use Rattle.runs.specs.Numbers.{two_at}
use Rattle.records.specs.Format.{body_size, step_at}

-- ---- one record

-- "follow (address 2, protection 1, limit 2)"
abbrev pub wish_in : List ℕ → Wish
wish_in b = wish_of (two_at 0 b) (get_or b 2 0) (two_at 3 b)

unfoldable pub served_answer : ℕ → List ℕ → List ℕ → ℕ
served_answer kind b t =
    cond (eqb kind 1) (packet_answer t b)
    (cond (eqb kind 2) (end_answer t)
    (cond (eqb kind 3) (follow_answer t (wish_in b))
    (cond (eqb kind 4) (leave_answer t (two_at 0 b)) (asked t (two_at 0 b)).number)))

unfoldable pub served_after : ℕ → List ℕ → List ℕ → List ℕ
served_after kind b t =
    cond (eqb kind 1) (packet_after t b)
    (cond (eqb kind 2) (end_after t)
    (cond (eqb kind 3) (follow_after t (wish_in b)) (cond (eqb kind 4) (leave_after t (two_at 0 b)) t)))

-- ---- a pass over records

pub record Pass : Type 0 where
  pub answers : List ℕ
  pub state : List ℕ
  pub at : ℕ
  pub last : Step

abbrev pub stopped : List ℕ → ℕ → Step → Pass
stopped t at last = record { answers = []; state = t; at = at; last = last }

abbrev pub behind : ℕ → Pass → Pass
behind n p = record { answers = n ∷ p.answers; state = p.state; at = p.at; last = p.last }

-- a record goes on, anything else stops
unfoldable pub on_step : Step → (ℕ → ℕ → Pass) → (Step → Pass) → Pass
on_step (Record kind body) go stop = go kind body
on_step End go stop = stop End
on_step More go stop = stop More
on_step Bad go stop = stop Bad

unfoldable pub pass : ℕ → List ℕ → ℕ → List ℕ → Pass
pass zero s at t = stopped t at (step_at s at)
pass (suc n) s at t =
    on_step (step_at s at)
    (λ kind body. let b = part body (body_size kind) s in
    behind (served_answer kind b t) (pass n s (body + body_size kind) (served_after kind b t)))
    (stopped t at)

-- ---- a file

unfoldable pub ending : Step → List ℕ
ending (Record kind body) = []
ending End = []
ending More = 35 ∷ []
ending Bad = 35 ∷ []

unfoldable pub file_from : List ℕ → List ℕ → List ℕ
file_from s t = let p = pass (length s) s 0 t in p.answers ++ ending p.last

unfoldable pub file_answers : List ℕ → List ℕ
file_answers s = file_from s started_state

-- what is left at the end of the file is a record cut short
unfoldable pub cut : List ℕ → List ℕ
cut [] = []
cut (b ∷ carried) = 35 ∷ []

unfoldable pub on_bad : Step → List ℕ → List ℕ
on_bad (Record kind body) rest = rest
on_bad End rest = rest
on_bad More rest = rest
on_bad Bad rest = 35 ∷ []

unfoldable pub chunks_from : List (List ℕ) → List ℕ → List ℕ → List ℕ
chunks_from [] carried t = cut carried
chunks_from (c ∷ cs) carried t =
    let s = carried ++ c in
    let p = pass (length s) s 0 t in
    p.answers ++ on_bad p.last (chunks_from cs (drop p.at s) p.state)

unfoldable pub chunk_answers : List (List ℕ) → List ℕ
chunk_answers cs = chunks_from cs [] started_state

unfoldable pub joined : List (List ℕ) → List ℕ
joined [] = []
joined (c ∷ cs) = c ++ joined cs
