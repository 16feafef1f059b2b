-- Laws of ask and of the board text, as the code has them.
--
--   shown-*, asked-group, asked-none, length-*    what ask says of a head
--   asked-refused, asked-found    ask's answer, by the answer of the rows
--   asked-within, asked-part      the group's place is in the state, and the slice is that part
--   asked-empty, asked-shown      the part, where nothing is shown and where a group is
--   board-notice, board-group     the board text, by the number; is-fresh .. board-aside, by the answer
--
-- Assumes nothing.
use mathlib.Core.Path.{◌≡◌, refl, sym, ap, ◌∙◌, subst}
use mathlib.Core.Bool.{Bool, true, false, cond}
use mathlib.Core.List.{List, []}
use Prim.Native.Nat.{ℕ, zero, suc, ◌+◌, ◌-◌, ◌*◌, ◌≤◌, ◌<◌}
use native.Mathlib.Omega.{arith}
use borrow.Author.Tests.{le-leb, lt-leb, eq-eqb, ne_eqb}
use lib.Dec.{leb, eqb}
use lib.ListN.{length, take, drop}
use Rattle.runs.specs.Part.{part}
use Rattle.slot.specs.Slot.{slot_size, whole_at, head_of}
use Rattle.head.specs.Head.{ask_number}
use Rattle.head.specs.declared.Head.{Head}
use Rattle.table.specs.State.{state_size, slots, slot_at, find}
use Rattle.table.specs.Calls.{leave_answer}
use Rattle.table.proofs.Kept.{leave-passed}
use Rattle.faults.specs.Refusals.{number_of}
use Rattle.faults.specs.declared.refusal.Refusal.{Refusal}
use Rattle.faults.proofs.Refusals.{number-from-20}
use Rattle.std.specs.Prelude.{Option, Some, Ok}
use Rattle.asking.specs.contracts.Freshness.{the_type}
use denote.Enum.Bare.{sameb}
use Rattle.bits.proofs.Search.{clash}
use Rattle.asking.specs.declared.Shown.{Shown}
use Rattle.asking.specs.declared.Freshness.{Freshness}
use Rattle.asking.specs.declared.Freshness.TheVariants.{Fresh, Doubtful, Stale}
use Rattle.asking.specs.Asking.{Asked, freshness_number, told_asked, group_length, asked_at, asked_by, asked, ask_part, board_text}

-- ---- what ask says of a head

module _ (h : Head) (ne : h.group ≡ 0 → ⊥) where
  shown-group : ask_number h ≡ cond (leb h.wish.limit h.age) 7 (cond (eqb h.gap 1) 6 5)
  unfolding ask_number
  shown-group = ap (λ (b : Bool). cond b 4 (cond (leb h.wish.limit h.age) 7 (cond (eqb h.gap 1) 6 5))) (ne_eqb h.group 0 ne)

  pub shown-7 : h.wish.limit ≤ h.age → ask_number h ≡ 7
  shown-7 q = shown-group ∙ ap (λ (b : Bool). cond b 7 (cond (eqb h.gap 1) 6 5)) (le-leb h.wish.limit h.age q)

  shown-young : h.age < h.wish.limit → ask_number h ≡ cond (eqb h.gap 1) 6 5
  shown-young q = shown-group ∙ ap (λ (b : Bool). cond b 7 (cond (eqb h.gap 1) 6 5)) (lt-leb h.wish.limit h.age q)

  pub shown-6 : h.age < h.wish.limit → h.gap ≡ 1 → ask_number h ≡ 6
  shown-6 q g = shown-young q ∙ ap (λ (b : Bool). cond b 6 5) (eq-eqb h.gap 1 g)

  pub shown-5 : h.age < h.wish.limit → (h.gap ≡ 1 → ⊥) → ask_number h ≡ 5
  shown-5 q g = shown-young q ∙ ap (λ (b : Bool). cond b 6 5) (ne_eqb h.gap 1 g)

  pub asked-group : (k : ℕ) → asked_at k h ≡ record { number = ask_number h; at = k * slot_size + whole_at; len = group_length h }
  unfolding asked_at
  asked-group k = rw (ne_eqb h.group 0 ne)

pub asked-none : (k : ℕ) (h : Head) → h.group ≡ 0 → asked_at k h ≡ record { number = 4; at = 0; len = 0 }
unfolding asked_at
asked-none k h e = rw (eq-eqb h.group 0 e)

pub length-180 : (h : Head) → h.wish.protection ≡ 1 → group_length h ≡ 180
unfolding group_length
length-180 h e = rw (eq-eqb h.wish.protection 1 e)

pub length-360 : (h : Head) → (h.wish.protection ≡ 1 → ⊥) → group_length h ≡ 360
unfolding group_length
length-360 h e = rw (ne_eqb h.wish.protection 1 e)

-- ---- ask, by the rows

abbrev pub bare : ℕ → Asked
bare n = record { number = n; at = 0; len = 0 }

pub asked-refused : (s : List ℕ) (a r : ℕ) → r ≡ leave_answer s a → (r ≡ 0 → ⊥) → bare r ≡ asked s a
unfolding asked asked_by
asked-refused s a r e ne = ap bare e ∙ go (leave_answer s a) e
  where
    go : (m : ℕ) → r ≡ m → bare m ≡ asked_by m (asked_at (find s a) (head_of (slot_at (find s a) s)))
    go zero q = absurd (ne q)
    go (suc m) q = refl

pub asked-found : (s : List ℕ) (a k : ℕ) (h : Head) (x : Asked) → leave_answer s a ≡ 0 → k ≡ find s a → h ≡ head_of (slot_at k s)
    → x ≡ asked_at k h → x ≡ asked s a
unfolding asked asked_by
asked-found s a k h x z e eh ex =
    ex ∙ ap (asked_at k) eh ∙ ap (λ (j : ℕ). asked_at j (head_of (slot_at j s))) e
    ∙ ap (λ (m : ℕ). asked_by m (asked_at (find s a) (head_of (slot_at (find s a) s)))) (sym z)

-- a group's place is in its slot
abbrev ends : Asked → ℕ
ends x = x.at + x.len

group-ends : (k : ℕ) (h : Head) → k < slots → ends (asked_at k h) ≤ state_size
unfolding asked_at group_length
group-ends k h l = go (eqb h.group 0) (eqb h.wish.protection 1)
  where
    go : (g p : Bool) → ends (cond g (bare 4) (record { number = ask_number h; at = k * slot_size + whole_at; len = cond p 180 360 })) ≤ state_size
    go true p = omega arith
    go false true = omega arith
    go false false = omega arith

pub asked-within : (s : List ℕ) (a : ℕ) (r : Asked) → r ≡ asked s a → r.at + r.len ≤ length s
unfolding asked asked_by
asked-within s a r e = subst (λ (x : Asked). ends x ≤ length s) (sym e) (go (leave_answer s a) refl)
  where
    go : (m : ℕ) → leave_answer s a ≡ m → ends (asked_by m (asked_at (find s a) (head_of (slot_at (find s a) s)))) ≤ length s
    go zero q = omega (arith, (leave-passed s a q).0.size, group-ends (find s a) (head_of (slot_at (find s a) s)) (leave-passed s a q).2)
    go (suc m) q = omega arith

-- a group that is shown is in the state
pub asked-shown : (s : List ℕ) (a : ℕ) (o : Option Shown) (x : Shown) → o ≡ Some x → told_asked (Ok o) ≡ asked s a → x.at + x.len ≤ length s
asked-shown s a o x q e = asked-within s a (told_asked (Ok (Some x))) (ap (λ (y : Option Shown). told_asked (Ok y)) (sym q) ∙ e)

pub asked-part : (s : List ℕ) (a : ℕ) (r : Asked) → r ≡ asked s a → take (r.at + r.len - r.at) (drop r.at s) ≡ ask_part s a
unfolding ask_part part
asked-part s a r e =
    let n : r.at + r.len - r.at ≡ r.len = omega arith in
    ap (λ (m : ℕ). take m (drop r.at s)) n ∙ ap (λ (x : Asked). part x.at x.len s) e

pub asked-empty : (s : List ℕ) (a n : ℕ) → bare n ≡ asked s a → [] ≡ ask_part s a
unfolding ask_part part
asked-empty s a n e = ap (λ (x : Asked). part x.at x.len s) e

-- ---- board text

module _ (s : List ℕ) (a : ℕ) (notice : List ℕ) (r : Asked) (e : r ≡ asked s a) where
  by_number : (b : Bool) → eqb r.number 5 ≡ b → cond b (ask_part s a) notice ≡ board_text s a notice
  unfolding board_text
  by_number b q = ap (λ (t : Bool). cond t (ask_part s a) notice) (sym q ∙ ap (λ (x : Asked). eqb x.number 5) e)

  pub board-notice : (r.number ≡ 5 → ⊥) → notice ≡ board_text s a notice
  board-notice ne = by_number false (ne_eqb r.number 5 ne)

  pub board-group : r.number ≡ 5 → ask_part s a ≡ board_text s a notice
  board-group q = by_number true (eq-eqb r.number 5 q)

-- the code's test of a freshness
pub is-fresh : (f : Freshness) → sameb the_type f Fresh ≡ true → f ≡ Fresh
is-fresh Fresh e = refl
is-fresh Doubtful e = clash (sym e)
is-fresh Stale e = clash (sym e)

pub not-fresh : (f : Freshness) → sameb the_type f Fresh ≡ false → f ≡ Fresh → ⊥
not-fresh f e q = clash (sym (ap (λ (x : Freshness). sameb the_type x Fresh) q) ∙ e)

-- by the answer: nothing yet, a refusal, a group
module _ (s : List ℕ) (a : ℕ) (notice : List ℕ) where
  other : (n : ℕ) → n ≡ (asked s a).number → (n ≡ 5 → ⊥) → notice ≡ board_text s a notice
  other n e ne = board-notice s a notice (asked s a) refl (λ q. ne (e ∙ q))

  pub board-none : 4 ≡ (asked s a).number → notice ≡ board_text s a notice
  board-none e = other 4 e (λ q. omega (arith, q))

  pub board-refused : (r : Refusal) → number_of r ≡ (asked s a).number → notice ≡ board_text s a notice
  board-refused r e = other (number_of r) e (λ q. omega (arith, q, number-from-20 r))

  pub board-fresh : (f : Freshness) → f ≡ Fresh → freshness_number f ≡ (asked s a).number → (g : List ℕ) → g ≡ ask_part s a
      → g ≡ board_text s a notice
  board-fresh f q e g p = p ∙ board-group s a notice (asked s a) refl (sym e ∙ ap freshness_number q)

  pub board-aside : (f : Freshness) → (f ≡ Fresh → ⊥) → freshness_number f ≡ (asked s a).number → notice ≡ board_text s a notice
  board-aside f ne e = other (freshness_number f) e (not-5 f ne)
    where
      not-5 : (f : Freshness) → (f ≡ Fresh → ⊥) → freshness_number f ≡ 5 → ⊥
      not-5 Fresh ne q = ne refl
      not-5 Doubtful ne q = omega (arith, q)
      not-5 Stale ne q = omega (arith, q)
