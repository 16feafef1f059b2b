-- What ask is to say, told from the answers alone (demand 3: "fresh exactly while fewer subframes than its limit have ended
-- since it was handed out and no gap has been marked since"). No slot is looked into here.
--
--   Entry            a packet's answer at the address, or the end of a subframe
--   told es f t      the entries of a list of events, the newest first, on top of t
--   since_whole t     the entries since the last answer 3
--   ends t           how many subframes ended in them
--   before t         the last answer, 29 passed over: a control packet stands between a group's packets and is none of them
--   marked t         a gap was marked in them: an answer 28, 47, 30, 31 or 32, or a 1 directly after a 1 or 2, 29 passed over
--   called limit t   4 where there is no 3; otherwise 7, 6 or 5 by the entries since the last one
use Rattle.std.specs.Prelude.{Bool, false, cond, not, ◌&&◌, ◌||◌, List, [], ◌∷◌, ℕ, suc, leb, eqb}
use Rattle.faults.specs.Faults.{number, type_control, number_drops}
use Rattle.history.specs.Followed.{Followed, Event, packet, refused, ended, after, answer}

pub data Entry : Type 0 where
  answered : ℕ → Entry
  subframe : Entry

unfoldable pub entry : Event → Followed → Entry
entry (packet c bytes) f = answered (answer (packet c bytes) f)
entry (refused r) f = answered (answer (refused r) f)
entry ended f = subframe

unfoldable pub told : List Event → Followed → List Entry → List Entry
told [] f t = t
told (e ∷ es) f t = told es (after e f) (entry e f ∷ t)

unfoldable pub is_whole : Entry → Bool
is_whole (answered n) = eqb n 3
is_whole subframe = false

unfoldable pub any_whole : List Entry → Bool
any_whole [] = false
any_whole (e ∷ t) = is_whole e || any_whole t

unfoldable pub since_whole : List Entry → List Entry
since_whole [] = []
since_whole (e ∷ t) = cond (is_whole e) [] (e ∷ since_whole t)

unfoldable pub ends : List Entry → ℕ
ends [] = 0
ends (answered n ∷ t) = ends t
ends (subframe ∷ t) = suc (ends t)

-- the last answer before that is no control packet's, 0 where there is none
unfoldable pub before : List Entry → ℕ
before [] = 0
before (answered n ∷ t) = cond (eqb n (number type_control)) (before t) n
before (subframe ∷ t) = before t

-- "a gap is marked by this table and by refusals" 28, 47, 30, 31 and 32, "and by nothing else"
unfoldable pub marks : Entry → ℕ → Bool
marks (answered n) m = number_drops n || (eqb n 1 && (eqb m 1 || eqb m 2))
marks subframe m = false

unfoldable pub marked : List Entry → Bool
marked [] = false
marked (e ∷ t) = marks e (before t) || marked t

unfoldable pub called : ℕ → List Entry → ℕ
called limit t = cond (not (any_whole t)) 4 (cond (leb limit (ends (since_whole t))) 7 (cond (marked (since_whole t)) 6 5))
