-- What the code of a row does to the slot, step by step, against the row's definition.
--
--   room-put, room_joined          a put into the slot within the unfinished room is a put into that room
--   begun-length, placed-length    a room keeps its length; joined_length: and so does the slot
--   Begun c s t                    what the code joins on to: the slot with its room cleared where c is 0, otherwise the slot
--   joined-does                    what it then has is the packet at its place
--   start-does .. drop-does        the last steps of each row come to the row; out-drops: the last row is a drop
--   row-does                       the row that was chosen, with its answer
--   at_test, out-test              what the test for a packet out of step says
--   dropped-long, refused-long     neither a drop nor a refusal makes the slot shorter
--   refused-does                   a refusal drops by the code's test
--   block-45, block-90             how many bytes a packet brings; block-le: at most 90
--   taken_refused, taken-moved     the number with the slot after it, by the reading's number
--   taken-told                     the number told with what it carries is the answer
--
-- Assumes nothing.
use mathlib.Core.Path.{◌≡◌, refl, sym, ap, ap₂, ◌∙◌}
use mathlib.Core.Bool.{Bool, true, false, cond, not, ◌&&◌}
use mathlib.Core.List.{List, ◌++◌, append_assoc}
use mathlib.Core.Logic.{◌⊎◌, inl, inr}
use Prim.Native.Nat.{ℕ, zero, suc, ◌+◌, ◌*◌, ◌≤◌}
use native.Mathlib.Nat.{mul-le-mul_right}
use native.Mathlib.Omega.{arith}
use borrow.Author.Tests.{eq-eqb, ne_eqb, eqb-true, eqb-false, not-true}
use lib.Dec.{eqb}
use lib.ListN.{length, take, drop, length-drop}
use lib.Seq.{take-append-le, drop-append-le}
use Rattle.bits.specs.Bits.{blank}
use Rattle.bits.proofs.Rows.{further-refused, further-passed, done_refused, done-passed}
use Rattle.bits.proofs.Search.{and_left, and_right}
use Rattle.bits.proofs.Storing.{blank-length}
use Rattle.runs.specs.Part.{put}
use Rattle.slot.specs.Slot.{room_size, slot_size, head_of, with_head, unfinished, with_unfinished}
use Rattle.head.specs.Head.{started_head, held_head, whole_head, dropped_head}
use Rattle.head.specs.Move.{Move, started, held, whole, out_of_step, move_number, moved_head, row_at, place_at}
use Rattle.head.specs.declared.Head.{Head}
use Rattle.runs.proofs.Parts.{put-part, put-length}
use Rattle.slot.proofs.Laws.{unfinished-room, unfinished-length}
use Rattle.slot.proofs.Heads.{with_head-length}
use Rattle.packet.specs.Received.{ReadingAnswer}
use Rattle.faults.specs.Faults.{number_drops}
use Rattle.group.specs.declared.Answer.{Answer}
use Rattle.group.specs.Group.{block_of, placed, begun_room, slot_joined, rooms_kept, rooms_moved, slot_moved, slot_dropped, refused_after, answer_of, taken, taken_number, taken_after}

-- in front of anything
put_front : (at n : ℕ) (b r x : List ℕ) → at + n ≤ length r → put at n b (r ++ x) ≡ put at n b r ++ x
unfolding put
put_front at n b r x h =
    ap₂ (λ (y z : List ℕ). y ++ (b ++ z)) (take-append-le at r x (omega arith))
    (ap (drop n) (drop-append-le at r x (omega arith)) ∙ drop-append-le n (drop at r) x (omega (arith, length-drop at r)))
    ∙ ap (λ (y : List ℕ). take at r ++ y) (sym (append_assoc b (drop n (drop at r)) x))
    ∙ sym (append_assoc (take at r) (b ++ drop n (drop at r)) x)

-- the room stands at the front of the slot
room-front : (r s : List ℕ) → with_unfinished r s ≡ r ++ drop room_size s
unfolding with_unfinished put
room-front r s = refl

pub room-put : (at n : ℕ) (b r s : List ℕ) → length r ≡ room_size → at + n ≤ room_size → put at n b (with_unfinished r s) ≡ with_unfinished (put at n b r) s
room-put at n b r s l h =
    ap (put at n b) (room-front r s) ∙ put_front at n b r (drop room_size s) (omega arith) ∙ sym (room-front (put at n b r) s)

room-same : (s : List ℕ) → with_unfinished (unfinished s) s ≡ s
unfolding with_unfinished unfinished
room-same s = put-part 0 room_size s

pub room_joined : (at n : ℕ) (b s : List ℕ) → length s ≡ slot_size → at + n ≤ room_size → put at n b s ≡ with_unfinished (put at n b (unfinished s)) s
room_joined at n b s l h = ap (put at n b) (sym (room-same s)) ∙ room-put at n b (unfinished s) s (unfinished-room s l) h

pub placed-length : (c : ℕ) (b r : List ℕ) → length r ≡ room_size → c ≤ 3 → length b ≤ 90 → length (placed c b r) ≡ room_size
unfolding placed
placed-length c b r l h lb =
    put-length (c * length b) (length b) b r (omega (arith, mul-le-mul_right (length b) h)) refl ∙ l

pub begun-length : (c : ℕ) (r : List ℕ) → length r ≡ room_size → length (begun_room c r) ≡ room_size
unfolding begun_room
begun-length zero r l = blank-length room_size
begun-length (suc c) r l = l

begun-later : (c : ℕ) (r : List ℕ) → (c ≡ 0 → ⊥) → begun_room c r ≡ r
unfolding begun_room
begun-later zero r n = absurd (n refl)
begun-later (suc c) r n = refl

-- ---- a packet is joined on

abbrev pub Begun : ℕ → List ℕ → List ℕ → Type 0
Begun c s t = ((c ≡ 0) × (t ≡ with_unfinished (blank room_size) s)) ⊎ ((c ≡ 0 → ⊥) × (t ≡ s))

pub begun-long : (c : ℕ) (s t : List ℕ) → length s ≡ slot_size → Begun c s t → length t ≡ slot_size
begun-long c s t l (inl (z, e)) = ap length e ∙ unfinished-length (blank room_size) s l (blank-length room_size) ∙ l
begun-long c s t l (inr (n, e)) = ap length e ∙ l

module _ (c : ℕ) (s b : List ℕ) (l : length s ≡ slot_size) (h : c ≤ 3) (lb : length b ≤ 90) where
  pub place-ends : c * length b + length b ≤ room_size
  place-ends = omega (arith, mul-le-mul_right (length b) h)

  pub room-length : length (placed c b (begun_room c (unfinished s))) ≡ room_size
  room-length = placed-length c b (begun_room c (unfinished s)) (begun-length c (unfinished s) (unfinished-room s l)) h lb

  pub joined_length : length (slot_joined c b s) ≡ slot_size
  unfolding slot_joined
  joined_length = unfinished-length (placed c b (begun_room c (unfinished s))) s l room-length ∙ l

  pub joined-does : (t u : List ℕ) → Begun c s t → u ≡ put (c * length b) (length b) b t → u ≡ slot_joined c b s
  unfolding slot_joined placed begun_room
  joined-does t u (inl (z, et)) eu =
      eu ∙ ap (put (c * length b) (length b) b) et ∙ room-put (c * length b) (length b) b (blank room_size) s (blank-length room_size) place-ends
      ∙ ap (λ (x : ℕ). with_unfinished (put (c * length b) (length b) b (begun_room x (unfinished s))) s) (sym z)
  joined-does t u (inr (n, et)) eu =
      eu ∙ ap (put (c * length b) (length b) b) et ∙ room_joined (c * length b) (length b) b s l place-ends
      ∙ ap (λ (r : List ℕ). with_unfinished (put (c * length b) (length b) b r) s) (sym (begun-later c (unfinished s) n))

-- ---- the rows

module _ (c : ℕ) (s b : List ℕ) (h : Head) (e : h ≡ head_of s) (t v : List ℕ) (et : t ≡ slot_joined c b s) where
  pub start-does : (g : Head) → g ≡ started_head h → v ≡ with_head g t → v ≡ slot_moved started c b s
  unfolding slot_moved moved_head rooms_moved
  start-does g eg ev = ev ∙ ap₂ with_head (eg ∙ ap started_head e) et

  pub held-does : (g : Head) → g ≡ held_head h → v ≡ with_head g t → v ≡ slot_moved held c b s
  unfolding slot_moved moved_head rooms_moved
  held-does g eg ev = ev ∙ ap₂ with_head (eg ∙ ap held_head e) et

  pub whole-does : (n : ℕ) → n ≡ (c + 1) * length b → v ≡ with_head (whole_head h) (rooms_kept n t) → v ≡ slot_moved whole c b s
  unfolding slot_moved moved_head rooms_moved
  whole-does n en ev = ev ∙ ap₂ with_head (ap whole_head e) (ap₂ rooms_kept en et)

pub drop-does : (s : List ℕ) (h : Head) → h ≡ head_of s → (t v : List ℕ) (g : Head) → t ≡ with_unfinished (blank room_size) s → g ≡ dropped_head h
    → v ≡ with_head g t → v ≡ slot_dropped s
unfolding slot_dropped
drop-does s h e t v g et eg ev = ev ∙ ap₂ with_head (eg ∙ ap dropped_head e) et

pub dropped-long : (s : List ℕ) → length s ≡ slot_size → length (slot_dropped s) ≡ slot_size
unfolding slot_dropped
dropped-long s l =
    let emptied : length (with_unfinished (blank room_size) s) ≡ slot_size = unfinished-length (blank room_size) s l (blank-length room_size) ∙ l in
    with_head-length (dropped_head (head_of s)) (with_unfinished (blank room_size) s) emptied ∙ emptied

-- a refusal drops by its number
pub refused-does : (n : ℕ) (s t : List ℕ) (d : Bool) → d ≡ number_drops n
    → ((d ≡ true) × (t ≡ slot_dropped s)) ⊎ ((d ≡ false) × (t ≡ s)) → t ≡ refused_after n s
unfolding refused_after
refused-does n s t d e (inl (h, et)) = et ∙ sym (ap (λ (b : Bool). cond b (slot_dropped s) s) (sym e ∙ h))
refused-does n s t d e (inr (h, et)) = et ∙ sym (ap (λ (b : Bool). cond b (slot_dropped s) s) (sym e ∙ h))

pub refused-long : (n : ℕ) (s : List ℕ) → length s ≡ slot_size → length (refused_after n s) ≡ slot_size
unfolding refused_after
refused-long n s l = go (number_drops n)
  where
    go : (b : Bool) → length (cond b (slot_dropped s) s) ≡ slot_size
    go true = dropped-long s l
    go false = l

-- the row that was chosen, with its answer
pub row-does : (mv : Move) (h : Head) (i n : ℕ) (b s v : List ℕ) → row_at h i ≡ mv → n ≡ move_number mv → v ≡ slot_moved mv (place_at h i) b s
    → (n ≡ move_number (row_at h i)) × (v ≡ slot_moved (row_at h i) (place_at h i) b s)
row-does mv h i n b s v e en ev = (en ∙ ap move_number (sym e), ev ∙ ap (λ (x : Move). slot_moved x (place_at h i) b s) (sym e))

pub out-test : (c a : ℕ) → (not (eqb c 0) && not (eqb c a)) ≡ true → (c ≡ 0 → ⊥) × (c ≡ a → ⊥)
out-test c a e = (
  eqb-false c 0 (not-true (eqb c 0) (and_left (not (eqb c 0)) (not (eqb c a)) e)),
  eqb-false c a (not-true (eqb c a) (and_right (not (eqb c 0)) (not (eqb c a)) e)),
)

pub at_test : (c a : ℕ) → (not (eqb c 0) && not (eqb c a)) ≡ false → (c ≡ 0) ⊎ (c ≡ a)
at_test c a = go (eqb c 0) (eqb c a) refl refl
  where
    go : (f g : Bool) → eqb c 0 ≡ f → eqb c a ≡ g → (not f && not g) ≡ false → (c ≡ 0) ⊎ (c ≡ a)
    go true g p q e = inl (eqb-true c 0 p)
    go false true p q e = inr (eqb-true c a q)
    go false false p q e =
        let z : ◌≡◌ {A = ℕ} 0 1 = cc in
        absurd (omega arith)

pub numbers : (move_number started ≡ 1) × (move_number held ≡ 2) × (move_number whole ≡ 3) × (move_number out_of_step ≡ 32)
unfolding move_number
numbers = (refl, refl, refl, refl)

-- a row out of step is a drop
pub out-drops : (c : ℕ) (b s : List ℕ) → slot_dropped s ≡ slot_moved out_of_step c b s
unfolding slot_dropped slot_moved moved_head rooms_moved
out-drops c b s = refl

-- ---- a packet's bytes

pub block-45 : (h : Head) → h.wish.protection ≡ 1 → 45 ≡ block_of h
unfolding block_of
block-45 h e = sym (ap (λ (b : Bool). cond b 45 90) (eq-eqb h.wish.protection 1 e))

pub block-90 : (h : Head) → (h.wish.protection ≡ 1 → ⊥) → 90 ≡ block_of h
unfolding block_of
block-90 h e = sym (ap (λ (b : Bool). cond b 45 90) (ne_eqb h.wish.protection 1 e))

pub block-le : (h : Head) → block_of h ≤ 90
unfolding block_of
block-le h = go (eqb h.wish.protection 1)
  where
    go : (b : Bool) → cond b 45 90 ≤ 90
    go true = omega arith
    go false = omega arith

-- ---- the number with the slot after it, by the reading's number

module _ (r : ReadingAnswer) (h : Head) (s : List ℕ) (e : h ≡ head_of s) where
  pub taken_refused : (r.number ≡ 0 → ⊥) → (r.number ≡ taken_number r h) × (refused_after r.number s ≡ taken_after r s)
  unfolding taken_number taken_after
  taken_refused ne = (sym (further-refused r.number _ ne), sym (done_refused r.number _ (refused_after r.number s) ne))

  pub taken-moved : (n : ℕ) (b t : List ℕ) → r.number ≡ 0 → n ≡ move_number (row_at h r.index) → b ≡ take (block_of h) r.bytes
      → t ≡ slot_moved (row_at h r.index) (place_at h r.index) b s → (n ≡ taken_number r h) × (t ≡ taken_after r s)
  unfolding taken_number taken_after
  taken-moved n b t z en eb et = (
    en ∙ sym (further-passed r.number _ z),
    et ∙ ap₂ (λ (x : Head) (y : List ℕ). slot_moved (row_at x r.index) (place_at x r.index) y s) e
        (eb ∙ ap (λ (x : Head). take (block_of x) r.bytes) e) ∙ sym (done-passed r.number _ (refused_after r.number s) z),
  )

pub taken-told : (r : ReadingAnswer) (h : Head) (n : ℕ) (x : Answer) → n ≡ taken_number r h → x ≡ answer_of n r.place h.awaited r.index → x ≡ taken r h
taken-told r h n x en ex = ex ∙ ap (λ (m : ℕ). answer_of m r.place h.awaited r.index) en

-- a refusal that drops, or leaves the slot
pub taken-by : (r : ReadingAnswer) (s : List ℕ) (d : Bool) → (r.number ≡ 0 → ⊥) → number_drops r.number ≡ d → taken_after r s ≡ cond d (slot_dropped s) s
unfolding taken_after refused_after
taken-by r s d ne e =
    done_refused r.number _ (refused_after r.number s) ne ∙ ap (λ (b : Bool). cond b (slot_dropped s) s) e
