-- What the functions of `look` rest on.
--
--   slot-part        a lent part of 736 bytes is a slot
--   find-down, find-hit, find-pass, find-place     the search from the last slot to the first
--   state-*          the rows of the state, before a call's own
--   follow-state, leave-state, set-state     what the state is refused with is what each call is refused with
--   leave-22 .., follow-wish ..    the rows of leave, ask and follow, in the code's tests; set-48, set-0, the setting's
--
-- Assumes nothing.
use mathlib.Core.Path.{◌≡◌, refl, sym, ap, ◌∙◌, subst}
use mathlib.Core.Bool.{Bool, true, false, cond, not, ◌||◌}
use mathlib.Core.List.{List, [], ◌∷◌}
use Prim.Native.Nat.{ℕ, suc, ◌+◌, ◌-◌, ◌*◌, ◌≤◌, ◌<◌}
use native.Mathlib.Omega.{arith}
use borrow.Author.Tests.{lt-ltb, le-ltb, ltb-false, eq-eqb, ne_eqb, eqb-true, not-false}
use lib.Dec.{ltb, eqb}
use lib.ListN.{length, take, drop}
use Rattle.bits.specs.Rows.{Row, row, refusal}
use Rattle.bits.proofs.Search.{clash}
use Rattle.bits.specs.Search.{first}
use Rattle.std.specs.Bool.{then_some}
use Rattle.std.specs.Prelude.{Option, Some, None, IfSome}
use Rattle.std.specs.Option.{is_some, ok_or}
use Rattle.bits.proofs.Rows.{refusal-hit, refusal-miss, refusal-passed, refusal-none}
use Rattle.bare.specs.Bare.{most_flips}
use Rattle.faults.specs.Refusals.{number_of, told}
use Rattle.faults.specs.declared.refusal.Refusal.{Refusal}
use Rattle.faults.specs.declared.refusal.Refusal.TheVariants.{Full, NotFollowed}
use Rattle.faults.proofs.Refusals.{number-not-zero}
use Rattle.runs.specs.Part.{part}
use Rattle.slot.specs.Slot.{slot_size, head_of}
use Rattle.head.specs.Head.{within, wish_rows, wish_answer}
use Rattle.head.specs.declared.Wish.{Wish}
use Rattle.head.specs.declared.Head.{Head}
use Rattle.head.proofs.Wishes.{outside, wish-refused, wish-rest}
use Rattle.table.specs.State.{slots, state_size, slot_at, address_at, find, place_of, good}
use Rattle.table.specs.Calls.{state_rows, end_answer, follow_answer, leave_answer, set_answer}
use Rattle.table.proofs.States.{has, find-le}

pub slot-part : (k : ℕ) (s : List ℕ) → take (k * slot_size + slot_size - k * slot_size) (drop (k * slot_size) s) ≡ slot_at k s
unfolding slot_at part
slot-part k s = ap (λ (n : ℕ). take n (drop (k * slot_size) s)) count
  where
    count : k * slot_size + slot_size - k * slot_size ≡ slot_size
    count = omega arith

-- ---- the search

pub find-down : (s : List ℕ) (a k j found : ℕ) → k ≡ suc j → k ≤ slots → found ≡ first (has s a) (slots - k) k
    → cond (has s a j) j found ≡ first (has s a) (slots - j) j
unfolding first
find-down s a k j found e h f =
    let more : slots - j ≡ suc (slots - k) = omega arith in
    ap (λ (x : ℕ). cond (has s a j) j x) (f ∙ ap (first (has s a) (slots - k)) e)
    ∙ sym (ap (λ (n : ℕ). first (has s a) n j) more)

-- the two ways of a turn
module _ (s : List ℕ) (a k found : ℕ) (h : Head) (pos : 0 < k) (top : k ≤ slots) (f : found ≡ first (has s a) (slots - k) k)
    (e : h ≡ head_of (slot_at (k - 1) s)) where
  down : cond (has s a (k - 1)) (k - 1) found ≡ first (has s a) (slots - (k - 1)) (k - 1)
  down = find-down s a k (k - 1) found (omega arith) top f

  pub find-hit : h.wish.address ≡ a → k - 1 ≡ first (has s a) (slots - (k - 1)) (k - 1)
  unfolding address_at
  find-hit q =
      sym (ap (λ (b : Bool). cond b (k - 1) found) (eq-eqb (address_at s (k - 1)) a (sym (ap (λ (x : Head). x.wish.address) e) ∙ q))) ∙ down

  pub find-pass : (h.wish.address ≡ a → ⊥) → found ≡ first (has s a) (slots - (k - 1)) (k - 1)
  unfolding address_at
  find-pass ne =
      sym (ap (λ (b : Bool). cond b (k - 1) found) (ne_eqb (address_at s (k - 1)) a (λ q. ne (ap (λ (x : Head). x.wish.address) e ∙ q)))) ∙ down

find-end : (s : List ℕ) (a k found : ℕ) → k ≡ 0 → found ≡ first (has s a) (slots - k) k → found ≡ find s a
unfolding find
find-end s a k found e f = f ∙ ap (λ (n : ℕ). first (has s a) (slots - n) n) e

placed : (n : ℕ) → n ≤ slots → place_of (then_some (ltb n slots) n) ≡ n
placed n h = go (ltb n slots) refl
  where
    go : (b : Bool) → ltb n slots ≡ b → place_of (then_some b n) ≡ n
    go true q = refl
    go false q = omega (arith, h, ltb-false n slots q)

-- what is answered of it
pub find-place : (s : List ℕ) (a k found : ℕ) → k ≡ 0 → found ≡ first (has s a) (slots - k) k → place_of (then_some (ltb found slots) found) ≡ find s a
find-place s a k found e f =
    let here = find-end s a k found e f in
    placed found (subst (λ (n : ℕ). n ≤ slots) (sym here) (find-le s a)) ∙ here

-- ---- the rows

pub state-20 : (s : List ℕ) (rest : List Row) → (length s ≡ state_size → ⊥) → refusal (state_rows s rest) ≡ 20
state-20 s rest ne = refusal-hit (not (eqb (length s) state_size)) 20 (row (not (good s)) 34 ∷ rest) (ap not (ne_eqb (length s) state_size ne))

pub state-34 : (s : List ℕ) (rest : List Row) → length s ≡ state_size → good s ≡ false → refusal (state_rows s rest) ≡ 34
state-34 s rest l g =
    refusal-miss (not (eqb (length s) state_size)) 20 (row (not (good s)) 34 ∷ rest) (ap not (eq-eqb (length s) state_size l))
    ∙ refusal-hit (not (good s)) 34 rest (ap not g)

pub state-rest : (s : List ℕ) (rest : List Row) → length s ≡ state_size → good s ≡ true → refusal (state_rows s rest) ≡ refusal rest
state-rest s rest l g =
    refusal-miss (not (eqb (length s) state_size)) 20 (row (not (good s)) 34 ∷ rest) (ap not (eq-eqb (length s) state_size l))
    ∙ refusal-miss (not (good s)) 34 rest (ap not g)

-- a state that passed
pub record Passed (s : List ℕ) : Type 0 where
  pub size : length s ≡ state_size
  pub all-good : good s ≡ true

-- past the rows of the state
pub past-state : (s : List ℕ) (rest : List Row) → refusal (state_rows s rest) ≡ 0 → (Passed s) × (refusal rest ≡ 0)
past-state s rest e =
    let one = refusal-passed (not (eqb (length s) state_size)) 20 (row (not (good s)) 34 ∷ rest) (omega arith) e in
    let two = refusal-passed (not (good s)) 34 rest (omega arith) one.1 in
    (record { size = eqb-true (length s) state_size (not-false (eqb (length s) state_size) one.0); all-good = not-false (good s) two.0 }, two.1)

pub state-passed : (s : List ℕ) → end_answer s ≡ 0 → Passed s
unfolding end_answer
state-passed s e = (past-state s [] e).0

-- what the state is refused with is what any call is refused with
pub state-refused : (s : List ℕ) (rest : List Row) (n : ℕ) → n ≡ end_answer s → (n ≡ 0 → ⊥) → n ≡ refusal (state_rows s rest)
unfolding end_answer
state-refused s rest n e ne = go (eqb (length s) state_size) refl (good s) refl
  where
    go : (a : Bool) → eqb (length s) state_size ≡ a → (g : Bool) → good s ≡ g → n ≡ refusal (state_rows s rest)
    go false p g q =
        e ∙ refusal-hit (not (eqb (length s) state_size)) 20 (row (not (good s)) 34 ∷ []) (ap not p)
        ∙ sym (refusal-hit (not (eqb (length s) state_size)) 20 (row (not (good s)) 34 ∷ rest) (ap not p))
    go true p false q =
        e ∙ state-34 s [] (eqb-true (length s) state_size p) q ∙ sym (state-34 s rest (eqb-true (length s) state_size p) q)
    go true p true q = absurd (ne (e ∙ state-rest s [] (eqb-true (length s) state_size p) q ∙ refusal-none))

-- the same of the refusal that `?` hands on
module _ (s : List ℕ) (r : Refusal) (e : number_of r ≡ end_answer s) where
  pub follow-state : (w : Wish) → number_of r ≡ follow_answer s w
  unfolding follow_answer
  follow-state w = state-refused s _ (number_of r) e (number-not-zero r)

  pub leave-state : (a : ℕ) → number_of r ≡ leave_answer s a
  unfolding leave_answer
  leave-state a = state-refused s _ (number_of r) e (number-not-zero r)

  pub set-state : (most : ℕ) → number_of r ≡ set_answer s most
  unfolding set_answer
  set-state most = state-refused s _ (number_of r) e (number-not-zero r)

-- ---- leave and ask, row by row, in the code's tests

module _ (s : List ℕ) (a : ℕ) (ok : Passed s) where
  leave_own : leave_answer s a ≡ refusal (row (not (within 1 1022 a)) 22 ∷ row (not (ltb (find s a) slots)) 27 ∷ [])
  unfolding leave_answer
  leave_own = state-rest s _ ok.size ok.all-good

  pub leave-22 : (ltb a 1 || ltb 1022 a) ≡ true → leave_answer s a ≡ 22
  leave-22 t = leave_own ∙ refusal-hit (not (within 1 1022 a)) 22 _ (sym (outside 1 1022 a) ∙ t)

  leave-past : (ltb a 1 || ltb 1022 a) ≡ false → leave_answer s a ≡ refusal (row (not (ltb (find s a) slots)) 27 ∷ [])
  leave-past t = leave_own ∙ refusal-miss (not (within 1 1022 a)) 22 _ (sym (outside 1 1022 a) ∙ t)

  pub leave-27 : (ltb a 1 || ltb 1022 a) ≡ false → (n : ℕ) → n ≡ find s a → slots ≤ n → leave_answer s a ≡ 27
  leave-27 t n e h =
      leave-past t ∙ refusal-hit (not (ltb (find s a) slots)) 27 [] (ap not (le-ltb (find s a) slots (subst (λ (x : ℕ). slots ≤ x) e h)))

  pub leave-0 : (ltb a 1 || ltb 1022 a) ≡ false → (n : ℕ) → n ≡ find s a → n < slots → leave_answer s a ≡ 0
  leave-0 t n e h =
      leave-past t
      ∙ refusal-miss (not (ltb (find s a) slots)) 27 [] (ap not (lt-ltb (find s a) slots (subst (λ (x : ℕ). x < slots) e h)))
      ∙ refusal-none

  -- by the slot that was found, or none
  pub leave-found : (ltb a 1 || ltb 1022 a) ≡ false → (r : Option ℕ) → place_of r ≡ find s a → IfSome r (λ k. k < slots)
      → told (ok_or r NotFollowed) ≡ leave_answer s a
  leave-found t None e h = sym (leave-27 t slots e (omega arith))
  leave-found t (Some k) e h = sym (leave-0 t k e h)

-- ---- follow, row by row

module _ (s : List ℕ) (w : Wish) (ok : Passed s) where
  abbrev from26 : List Row
  from26 = row (not (ltb (find s 0) slots)) 26 ∷ []

  abbrev from25 : List Row
  from25 = row (ltb (find s w.address) slots) 25 ∷ from26

  own : follow_answer s w ≡ refusal (wish_rows w from25)
  unfolding follow_answer
  own = state-rest s _ ok.size ok.all-good

  pub follow-wish : (wish_answer w ≡ 0 → ⊥) → follow_answer s w ≡ wish_answer w
  follow-wish ne = own ∙ wish-refused w from25 ne

  pub follow-wished : (r : Refusal) → number_of r ≡ wish_answer w → number_of r ≡ follow_answer s w
  follow-wished r e = e ∙ sym (follow-wish (λ z. number-not-zero r (e ∙ z)))

  module _ (good : wish_answer w ≡ 0) (n : ℕ) (e : n ≡ find s w.address) where
    past24 : follow_answer s w ≡ refusal from25
    past24 = own ∙ wish-rest w from25 good

    pub follow-25 : n < slots → follow_answer s w ≡ 25
    follow-25 h =
        past24 ∙ refusal-hit (ltb (find s w.address) slots) 25 from26 (lt-ltb (find s w.address) slots (subst (λ (x : ℕ). x < slots) e h))

    module _ (t25 : slots ≤ n) (m : ℕ) (f : m ≡ find s 0) where
      past25 : follow_answer s w ≡ refusal from26
      past25 =
          past24
          ∙ refusal-miss (ltb (find s w.address) slots) 25 from26 (le-ltb (find s w.address) slots (subst (λ (x : ℕ). slots ≤ x) e t25))

      pub follow-26 : slots ≤ m → follow_answer s w ≡ 26
      follow-26 h =
          past25 ∙ refusal-hit (not (ltb (find s 0) slots)) 26 [] (ap not (le-ltb (find s 0) slots (subst (λ (x : ℕ). slots ≤ x) f h)))

      pub follow-0 : m < slots → follow_answer s w ≡ 0
      follow-0 h =
          past25 ∙ refusal-miss (not (ltb (find s 0) slots)) 26 [] (ap not (lt-ltb (find s 0) slots (subst (λ (x : ℕ). x < slots) f h)))
          ∙ refusal-none

  module _ (good : wish_answer w ≡ 0) (r : Option ℕ) (e : place_of r ≡ find s w.address) where
    pub follow-again : is_some r ≡ true → IfSome r (λ k. k < slots) → 25 ≡ follow_answer s w
    follow-again t h = sym (follow-25 good (place_of r) e (below r t h))
      where
        below : (r : Option ℕ) → is_some r ≡ true → IfSome r (λ k. k < slots) → place_of r < slots
        below None t h = clash (sym t)
        below (Some k) t h = h

    pub follow-found : is_some r ≡ false → (q : Option ℕ) → place_of q ≡ find s 0 → IfSome q (λ k. k < slots)
        → told (ok_or q Full) ≡ follow_answer s w
    follow-found t q f h = go q f h
      where
        absent : (r : Option ℕ) → is_some r ≡ false → slots ≤ place_of r
        absent None t = omega arith
        absent (Some k) t = clash t

        go : (q : Option ℕ) → place_of q ≡ find s 0 → IfSome q (λ k. k < slots) → told (ok_or q Full) ≡ follow_answer s w
        go None f h = sym (follow-26 good (place_of r) e (absent r t) slots f (omega arith))
        go (Some k) f h = sym (follow-0 good (place_of r) e (absent r t) k f h)

-- ---- the setting, row by row

module _ (s : List ℕ) (most : ℕ) (ok : Passed s) where
  set_own : set_answer s most ≡ refusal (row (ltb most_flips most) 48 ∷ [])
  unfolding set_answer
  set_own = state-rest s _ ok.size ok.all-good

  pub set-48 : most_flips < most → set_answer s most ≡ 48
  set-48 h = set_own ∙ refusal-hit (ltb most_flips most) 48 [] (lt-ltb most_flips most h)

  pub set-0 : most ≤ most_flips → set_answer s most ≡ 0
  set-0 h = set_own ∙ refusal-miss (ltb most_flips most) 48 [] (le-ltb most_flips most h) ∙ refusal-none

-- where it is accepted, none of its rows holds
pub set-passed : (s : List ℕ) (most : ℕ) → set_answer s most ≡ 0 → (Passed s) × (most ≤ most_flips)
unfolding set_answer
set-passed s most e =
    let rest = past-state s (row (ltb most_flips most) 48 ∷ []) e in
    (rest.0, ltb-false most_flips most (refusal-passed (ltb most_flips most) 48 [] (omega arith) rest.1).0)
