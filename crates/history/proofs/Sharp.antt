-- Three is sharp for groups of four: with four packets lost in a row, packet 0 of one group and packets 1, 2 and 3 of the next make a group that nobody
-- sent; and ask says fresh where packets were lost. Control packets between them shorten no run. That a refusal of a group's packet
-- drops is needed too; and a control packet that is taken for another refusal costs a group.
--
--   sent, history           each packet is one byte, its number; packet 0 of group 0 comes, then packets 1, 2 and 3 of group 1
--   four-lost               four are lost in a row, and no more
--   joined-wrong            what is handed out
--   not-sent                it is no group that was sent
--   wrong-group             where such a one is handed out, that is not exactly any groups that were sent
--   sharp                   so it is not exactly the groups that arrived whole
--   between                 the same packets, with three control packets where the four are lost
--   between-lost, between-not    four are lost in a row, and no more; it is not in order with three
--   between-wrong, between-sharp    what is handed out, and that it is not exactly the groups that arrived whole
--   unnoticed               group 0 comes, then packet 0 of group 1 and, behind four that are lost, packet 1 of group 2
--   unnoticed-order         four are lost in a row, and no more
--   unnoticed-held          packet 1 of group 2 is taken for that of group 1: answered 2
--   unnoticed-fresh         so ask goes on to say fresh
--   unnoticed-missed        though packets sent after group 0 were lost
--   sharp-missed            so what ask says is not told by what came
--   taken_for r              packet 2 of group 0 comes and is refused with r, then packets 2 and 3 of group 1
--   taken-for-order         in order, where r drops
--   taken-for-wrong, taken-for-not-sent, taken-for-sharp    where its type is read as that of a control packet: what is handed out, that
--                           it is no group that was sent, and not exactly the groups that arrived whole
--   unseen                  group 0 comes, then packet 0 of group 1, its type read as that of a control packet
--   unseen-fresh, unseen-missed    ask says fresh, though a packet sent after group 0 was unreadable
--   mistaken r              the packets of a group, and in their middle one that is refused with r
--   mistaken-lost, mistaken-kept    a control packet whose type is unreadable: the group is lost; readable, it is handed out
--
-- Assumes nothing.
use mathlib.Core.Path.{◌≡◌, refl, sym, ap, ◌∙◌}
use mathlib.Core.Bool.{Bool, true, ◌&&◌}
use mathlib.Core.List.{List, [], ◌∷◌}
use mathlib.Core.Logic.{◌⊎◌, inl, inr}
use Prim.Native.Nat.{ℕ, zero, suc, ◌+◌, ◌*◌, ◌<◌}
use native.Mathlib.Omega.{arith}
use lib.Dec.{lit<, lit≤}
use Rattle.head.specs.Head.{wish_of, ask_number}
use Rattle.head.specs.Move.{per_of, needs_of, row_of, move_of, move_number, moved_head}
use Rattle.faults.specs.Faults.{Fault, type_unreadable, type_control, drops}
use Rattle.history.specs.Followed.{Event, packet, refused, begun, joined, last_of, moved, dropped, after, answer, followed, run, handed_out}
use Rattle.history.specs.Missing.{Reached, Missed, endings, Last, Judged}
use Rattle.history.specs.Sent.{Sent, Arrival, came, damaged, control, event, events, InOrder, group, groups, CameIn, Readable, Exactly}
use Rattle.history.proofs.Laws.{is_next, ordered, ordered-holds}
use Rattle.history.proofs.Full.{damaged-other}

unfoldable pub sent : Sent
sent i c = (4 * i + c) ∷ []

unfoldable pub history : List Arrival
history = came 0 0 ∷ came 1 1 ∷ came 1 2 ∷ came 1 3 ∷ []

pub four-lost : InOrder 4 4 0 history
unfolding history ordered is_next
four-lost = ordered-holds 4 4 0 history refl

pub joined-wrong : handed_out (events sent history) (followed (wish_of 17 0 2)) ≡ (0 ∷ 5 ∷ 6 ∷ 7 ∷ []) ∷ []
unfolding history events event sent followed per_of needs_of handed_out after answer moved begun joined last_of move_of row_of move_number moved_head
joined-wrong = refl

pub not-sent : (i : ℕ) → group 4 sent i ≡ 0 ∷ 5 ∷ 6 ∷ 7 ∷ [] → ⊥
unfolding group sent
not-sent i e =
    let first : 4 * i + 0 ≡ 0 = cc in
    let second : 4 * i + 1 ≡ 5 = cc in
    omega arith

wrong-group : (g : List ℕ) → ((i : ℕ) → group 4 sent i ≡ g → ⊥)
    → (h : List Arrival) → handed_out (events sent h) (followed (wish_of 17 0 2)) ≡ g ∷ []
    → Exactly 4 sent (Readable 4 h) (handed_out (events sent h) (followed (wish_of 17 0 2))) → ⊥
unfolding groups
wrong-group g none h wrong x = go x.which (sym x.bytes ∙ wrong)
  where
    go : (which : List ℕ) → groups 4 sent which ≡ g ∷ [] → ⊥
    go [] e =
        let z : ◌≡◌ {A = ℕ} 0 1 = cc in
        omega arith
    go (i ∷ which) e =
        let p : group 4 sent i ≡ g = cc in
        none i p

pub sharp : Exactly 4 sent (Readable 4 history) (handed_out (events sent history) (followed (wish_of 17 0 2))) → ⊥
sharp = wrong-group (0 ∷ 5 ∷ 6 ∷ 7 ∷ []) not-sent history joined-wrong

-- ---- control packets between them

unfoldable pub between : List Arrival
between = came 0 0 ∷ control ∷ control ∷ control ∷ came 1 1 ∷ came 1 2 ∷ came 1 3 ∷ []

pub between-lost : InOrder 4 4 0 between
unfolding between ordered is_next
between-lost = ordered-holds 4 4 0 between refl

pub between-not : InOrder 4 3 0 between → ⊥
unfolding between InOrder
between-not o = omega (arith, o.1.0.lost (lit< tt))

pub between-wrong : handed_out (events sent between) (followed (wish_of 17 0 2)) ≡ (0 ∷ 5 ∷ 6 ∷ 7 ∷ []) ∷ []
unfolding between events event sent followed per_of needs_of handed_out after answer moved begun joined last_of move_of row_of move_number moved_head
between-wrong = refl

pub between-sharp : Exactly 4 sent (Readable 4 between) (handed_out (events sent between) (followed (wish_of 17 0 2))) → ⊥
between-sharp = wrong-group (0 ∷ 5 ∷ 6 ∷ 7 ∷ []) not-sent between between-wrong

-- ---- what ask says

unfoldable pub since : List Arrival
since = came 1 0 ∷ came 2 1 ∷ []

unfoldable pub unnoticed : List Arrival
unnoticed = came 0 0 ∷ came 0 1 ∷ came 0 2 ∷ came 0 3 ∷ since

pub unnoticed-order : InOrder 4 4 0 unnoticed
unfolding unnoticed since ordered is_next
unnoticed-order = ordered-holds 4 4 0 unnoticed refl

pub unnoticed-held : answer (event sent (came 2 1))
    (run (events sent (came 0 0 ∷ came 0 1 ∷ came 0 2 ∷ came 0 3 ∷ came 1 0 ∷ [])) (followed (wish_of 17 0 2))) ≡ 2
unfolding events event followed per_of needs_of run after answer moved move_of row_of move_number moved_head
unnoticed-held = refl

pub unnoticed-fresh : ask_number (run (events sent unnoticed) (followed (wish_of 17 0 2))).head ≡ 5
unfolding unnoticed since events event followed per_of needs_of run after moved move_of row_of moved_head ask_number
unnoticed-fresh = refl

-- packet 1 of group 1
pub unnoticed-missed : Missed 4 0 since
unfolding since Reached CameIn
unnoticed-missed =
    record { group = 1; index = 1; below = lit< tt; after = lit< tt; reached = inr (inl (lit≤ tt)); absent = absent }
  where
    absent : (came 1 0 ≡ came 1 1) ⊎ ((came 2 1 ≡ came 1 1) ⊎ ⊥) → ⊥
    absent (inl e) =
        let z : ◌≡◌ {A = ℕ} 0 1 = cc in
        omega arith
    absent (inr (inl e)) =
        let z : ◌≡◌ {A = ℕ} 2 1 = cc in
        omega arith
    absent (inr (inr x)) = x

unnoticed-whole : Readable 4 unnoticed 0
unfolding unnoticed Readable CameIn
unnoticed-whole zero l = inl refl
unnoticed-whole (suc zero) l = inr (inl refl)
unnoticed-whole (suc (suc zero)) l = inr (inr (inl refl))
unnoticed-whole (suc (suc (suc zero))) l = inr (inr (inr (inl refl)))
unnoticed-whole (suc (suc (suc (suc c)))) l = absurd (omega arith)

unnoticed-last : Last 4 unnoticed 0 since
unfolding unnoticed since Readable CameIn
unnoticed-last = record {
  before = came 0 0 ∷ came 0 1 ∷ came 0 2 ∷ [];
  split = refl;
  whole = unnoticed-whole;
  none = λ j l w. none j (omega arith) (w 3 (lit< tt));
}
  where
    other : (i c j : ℕ) → c < 3 → came i c ≡ came j 3 → ⊥
    other i c j l e =
        let r : c ≡ 3 = cc in
        omega arith

    none : (j : ℕ) → 0 < j → CameIn j 3 unnoticed → ⊥
    none j l (inl e) = other 0 0 j (lit< tt) e
    none j l (inr (inl e)) = other 0 1 j (lit< tt) e
    none j l (inr (inr (inl e))) = other 0 2 j (lit< tt) e
    none j l (inr (inr (inr (inl e)))) =
        let r : 0 ≡ j = cc in
        omega arith
    none j l (inr (inr (inr (inr (inl e))))) = other 1 0 j (lit< tt) e
    none j l (inr (inr (inr (inr (inr (inl e)))))) = other 2 1 j (lit< tt) e
    none j l (inr (inr (inr (inr (inr (inr x)))))) = x

pub sharp-missed : Judged 4 2 unnoticed (ask_number (run (events sent unnoticed) (followed (wish_of 17 0 2))).head) → ⊥
unfolding since endings
sharp-missed x =
    let six = sym unnoticed-fresh ∙ x.doubtful 0 since unnoticed-last (lit< tt) unnoticed-missed in
    omega arith

-- ---- a group's packet that is taken for a control packet

-- so many flips in its type byte that it is read as 3F
unfoldable pub taken_for : Fault → List Arrival
taken_for r = came 0 0 ∷ came 0 1 ∷ damaged 0 2 r ∷ came 1 2 ∷ came 1 3 ∷ []

pub taken-for-order : (r : Fault) → drops r ≡ true → InOrder 4 3 0 (taken_for r)
unfolding taken_for ordered is_next
taken-for-order r e = ordered-holds 4 3 0 (taken_for r) (ap (λ (b : Bool). b && true) e)

pub taken-for-wrong : handed_out (events sent (taken_for type_control)) (followed (wish_of 17 0 2)) ≡ (0 ∷ 1 ∷ 6 ∷ 7 ∷ []) ∷ []
unfolding taken_for events event sent followed per_of needs_of handed_out after answer moved begun joined last_of move_of row_of move_number moved_head
taken-for-wrong = refl

pub taken-for-not-sent : (i : ℕ) → group 4 sent i ≡ 0 ∷ 1 ∷ 6 ∷ 7 ∷ [] → ⊥
unfolding group sent
taken-for-not-sent i e =
    let first : 4 * i + 0 ≡ 0 = cc in
    let third : 4 * i + 2 ≡ 6 = cc in
    omega arith

pub taken-for-sharp : Exactly 4 sent (Readable 4 (taken_for type_control))
    (handed_out (events sent (taken_for type_control)) (followed (wish_of 17 0 2))) → ⊥
taken-for-sharp = wrong-group (0 ∷ 1 ∷ 6 ∷ 7 ∷ []) taken-for-not-sent (taken_for type_control) taken-for-wrong

unfoldable pub unseen : List Arrival
unseen = came 0 0 ∷ came 0 1 ∷ came 0 2 ∷ came 0 3 ∷ damaged 1 0 type_control ∷ []

pub unseen-fresh : ask_number (run (events sent unseen) (followed (wish_of 17 0 2))).head ≡ 5
unfolding unseen events event followed per_of needs_of run after moved move_of row_of moved_head ask_number
unseen-fresh = refl

pub unseen-missed : Missed 4 0 (damaged 1 0 type_control ∷ [])
unfolding Reached CameIn
unseen-missed =
    record { group = 1; index = 0; below = lit< tt; after = lit< tt; reached = inl (lit≤ tt); absent = absent }
  where
    absent : (damaged 1 0 type_control ≡ came 1 0) ⊎ ⊥ → ⊥
    absent (inl e) = damaged-other 1 0 type_control 1 0 e
    absent (inr x) = x

-- ---- a control packet that is taken for another refusal

-- three flips in its type byte: 28
unfoldable pub mistaken : Fault → List Event
mistaken r = packet 0 (0 ∷ []) ∷ packet 1 (1 ∷ []) ∷ refused r ∷ packet 2 (2 ∷ []) ∷ packet 3 (3 ∷ []) ∷ []

pub mistaken-lost : handed_out (mistaken type_unreadable) (followed (wish_of 17 0 2)) ≡ []
unfolding mistaken followed per_of needs_of handed_out after answer moved dropped begun joined last_of move_of row_of move_number moved_head
mistaken-lost = refl

pub mistaken-kept : handed_out (mistaken type_control) (followed (wish_of 17 0 2)) ≡ (0 ∷ 1 ∷ 2 ∷ 3 ∷ []) ∷ []
unfolding mistaken followed per_of needs_of handed_out after answer moved begun joined last_of move_of row_of move_number moved_head
mistaken-kept = refl
