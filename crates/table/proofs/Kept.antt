-- Every call keeps the state good, whatever it answers.
--
--   follow-passed, leave-passed    what holds where a call is accepted: none of its rows
--   blank-good, started-length, slot-started, started-good     the state of 0 alone, and as start leaves it
--   start-good, follow-good, leave-good, end-good, set-good
--   age-waits       the age does not move before the first whole group
--
-- Assumes nothing.
use mathlib.Core.Path.{◌≡◌, sym, ap, ◌∙◌, subst}
use mathlib.Core.Bool.{Bool, true, cond, not, ◌&&◌}
use mathlib.Core.List.{List, []}
use Prim.Native.Nat.{ℕ, zero, suc, ◌+◌, ◌*◌, ◌≤◌, ◌<◌}
use native.Mathlib.Omega.{arith}
use borrow.Author.Tests.{not-false, ltb-true, ltb-false, eq-eqb, ne_eqb}
use lib.Dec.{T, ltb, eqb}
use mathlib.Core.Logic.{◌⊎◌, inl, inr}
use lib.ListN.{length, get_or}
use Rattle.bits.specs.Bits.{blank}
use Rattle.bare.specs.Bare.{most_flips}
use Rattle.bits.specs.Rows.{done}
use Rattle.bits.proofs.Rows.{refusal-passed, refusal-miss, refusal-none, done-either}
use Rattle.bits.proofs.Storing.{blank-length}
use Rattle.head.specs.declared.Head.{Head}
use Rattle.head.proofs.Bounds.{wish-bounds, good_new, good-aged}
use Rattle.slot.proofs.Goods.{good-load, good-store, good-free, good-cases, head-blank, blank-free}
use Rattle.slot.proofs.Heads.{store-load, with_head-length}
use Rattle.runs.proofs.Parts.{blank-at, part-blank}
use Rattle.slot.specs.Slot.{slot_size, head_of, with_head, good_slot, free}
use Rattle.head.specs.Head.{free_head, new_head, aged_head, within, good_wish, good_head}
use Rattle.head.specs.declared.Wish.{Wish}
use Rattle.head.proofs.Wishes.{wish-passed}
use Rattle.table.specs.State.{slots, tail_at, state_size, setting, with_setting, started_state, slot_at, with_slot, address_at, find, good}
use Rattle.table.specs.Calls.{start_answer, start_after, follow_answer, follow_after, leave_answer, leave_after, end_answer, ages, end_after, set_answer, set_after}
use Rattle.table.proofs.Looking.{Passed, past-state, set-passed}
use Rattle.table.proofs.States.{Good, good-each, each-good, find-has, slot-length, with-length, set-length, setting-put, slot_kept, good-set, good-followed, good_left, good-change, address_is}

pub record Followed (s : List ℕ) (w : Wish) : Type 0 where
  pub state : Passed s
  pub wish : good_wish w ≡ true
  pub absent : slots ≤ find s w.address
  pub room : find s 0 < slots

pub follow-passed : (s : List ℕ) (w : Wish) → follow_answer s w ≡ 0 → Followed s w
unfolding follow_answer
follow-passed s w e =
    let wished = wish-passed w _ (past-state s _ e).1 in
    let r25 = refusal-passed (ltb (find s w.address) slots) 25 _ (omega arith) wished.1 in
    let r26 = refusal-passed (not (ltb (find s 0) slots)) 26 [] (omega arith) r25.1 in
    record {
      state = (past-state s _ e).0;
      wish = wished.0;
      absent = ltb-false (find s w.address) slots r25.0;
      room = ltb-true (find s 0) slots (not-false (ltb (find s 0) slots) r26.0);
    }

pub leave-passed : (s : List ℕ) (a : ℕ) → leave_answer s a ≡ 0 → (Passed s) × (within 1 1022 a ≡ true) × (find s a < slots)
unfolding leave_answer
leave-passed s a e =
    let r22 = refusal-passed (not (within 1 1022 a)) 22 _ (omega arith) (past-state s _ e).1 in
    let r27 = refusal-passed (not (ltb (find s a) slots)) 27 [] (omega arith) r22.1 in
    ((past-state s _ e).0, not-false (within 1 1022 a) r22.0, ltb-true (find s a) slots (not-false (ltb (find s a) slots) r27.0))

-- ---- start

slot-blank : (k : ℕ) → k < slots → slot_at k (blank state_size) ≡ blank slot_size
unfolding slot_at
slot-blank k h = part-blank (k * slot_size) slot_size state_size (omega arith)

blank-good : Good (blank state_size)
unfolding setting
blank-good = record {
  slot = λ k h. ap good_slot (slot-blank k h) ∙ good-free slot_size;
  first = λ k h f. absurd (subst T (sym (ap free (slot-blank k h) ∙ blank-free slot_size) ∙ f) tt);
  setting = omega (arith, blank-at state_size tail_at);
}

pub started-length : length started_state ≡ state_size
started-length = set-length (blank state_size) (blank-length state_size) _

pub slot-started : (k : ℕ) → k < slots → slot_at k started_state ≡ blank slot_size
slot-started k h = slot_kept (blank state_size) (blank-length state_size) _ k h ∙ slot-blank k h

pub started-good : Good started_state
started-good = good-set (blank state_size) (blank-length state_size) blank-good _ (omega arith)

pub setting-started : setting started_state ≡ most_flips
setting-started = setting-put (blank state_size) (blank-length state_size) _

pub start-good : (s : List ℕ) → length s ≡ state_size → good (start_after s) ≡ true
unfolding start_after start_answer done
start-good s l =
    ap (λ (n : ℕ). good (done n started_state s))
    (refusal-miss (not (eqb (length s) state_size)) 20 [] (ap not (eq-eqb (length s) state_size l)) ∙ refusal-none)
    ∙ each-good started_state started-good

-- ---- follow

pub follow-good : (s : List ℕ) (w : Wish) → good s ≡ true → good (follow_after s w) ≡ true
unfolding follow_after
follow-good s w g =
    done-either (λ (x : List ℕ). good x ≡ true) (follow_answer s w)
    (with_slot (find s 0) (with_head (new_head w) (slot_at (find s 0) s)) s) s (λ e. taken (follow-passed s w e)) g
  where
    taken : Followed s w → good (with_slot (find s 0) (with_head (new_head w) (slot_at (find s 0) s)) s) ≡ true
    taken f =
        let k = find s 0 in
        let lk = slot-length s f.state.size k f.room in
        let gh = good_new w f.wish in
        let load = good-load (new_head w) gh (slot_at k s) lk in
        let address : (head_of (with_head (new_head w) (slot_at k s))).wish.address ≡ w.address = ap (λ (h : Head). h.wish.address) load in
        each-good _ (good-followed s f.state.size (good-each s g) k (with_head (new_head w) (slot_at k s)) f.room
        (with_head-length (new_head w) (slot_at k s) lk ∙ lk) (good-store (new_head w) gh (slot_at k s) lk)
        (find-has s 0 f.room)
        (subst (λ (x : ℕ). 0 < x) (sym address) (wish-bounds w f.wish).address-from)
        (subst (λ (x : ℕ). slots ≤ find s x) (sym address) f.absent))

-- ---- leave

pub leave-good : (s : List ℕ) (a : ℕ) → good s ≡ true → good (leave_after s a) ≡ true
unfolding leave_after
leave-good s a g =
    done-either (λ (x : List ℕ). good x ≡ true) (leave_answer s a) (with_slot (find s a) (blank slot_size) s) s
    (λ e. let q = leave-passed s a e in
    each-good _ (good_left s q.0.size (good-each s g) (find s a) (blank slot_size) q.2 (blank-length slot_size) (good-free slot_size) (blank-free slot_size)))
    g

-- ---- the end of a subframe

-- a slot aged is good, and keeps its address
pub aged-slot : (b : List ℕ) → length b ≡ slot_size → good_slot b ≡ true
    → (good_slot (with_head (aged_head (head_of b)) b) ≡ true) × ((head_of (with_head (aged_head (head_of b)) b)).wish.address ≡ (head_of b).wish.address)
aged-slot b l g = go (good-cases b g)
  where
    go : (b ≡ blank (length b)) ⊎ (good_head (head_of b) ≡ true)
        → (good_slot (with_head (aged_head (head_of b)) b) ≡ true) × ((head_of (with_head (aged_head (head_of b)) b)).wish.address ≡ (head_of b).wish.address)
    go (inr e) =
        let ga = good-aged (head_of b) e in
        (good-store (aged_head (head_of b)) ga b l, ap (λ (h : Head). h.wish.address) (good-load (aged_head (head_of b)) ga b l))
    go (inl e) =
        let free-head : head_of b ≡ free_head = ap head_of e ∙ head-blank (length b) in
        let same : with_head (aged_head (head_of b)) b ≡ b =
        ap (λ (h : Head). with_head h b) (ap aged_head free-head ∙ sym free-head)
        ∙ store-load b l (λ k. subst (λ (x : ℕ). x < 256) (sym (ap (λ (x : List ℕ). get_or x k 0) e ∙ blank-at (length b) k)) (omega arith)) in
        (ap good_slot same ∙ g, ap (λ (x : List ℕ). (head_of x).wish.address) same)

pub ages-good : (n k : ℕ) (s : List ℕ) → n + k ≤ slots → length s ≡ state_size → Good s → Good (ages n k s)
unfolding ages
ages-good zero k s h l g = g
ages-good (suc n) k s h l g =
    let hk : k < slots = omega arith in
    let lk = slot-length s l k hk in
    let b = with_head (aged_head (head_of (slot_at k s))) (slot_at k s) in
    let lb : length b ≡ slot_size = with_head-length (aged_head (head_of (slot_at k s))) (slot_at k s) lk ∙ lk in
    let q = aged-slot (slot_at k s) lk (g.slot k hk) in
    ages-good n (suc k) (with_slot k b s) (omega arith) (with-length s l k b hk lb)
    (good-change s l g k b hk lb q.0 (at_slot s k q.1))
  where
    at_slot : (s : List ℕ) (k : ℕ) {x : ℕ} → x ≡ (head_of (slot_at k s)).wish.address → x ≡ address_at s k
    at_slot s k e = e ∙ address_is s k

pub end-good : (s : List ℕ) → good s ≡ true → good (end_after s) ≡ true
unfolding end_after end_answer
end-good s g =
    done-either (λ (x : List ℕ). good x ≡ true) (end_answer s) (ages slots 0 s) s
    (λ e. each-good _ (ages-good slots 0 s (omega arith) (past-state s [] e).0.size (good-each s g))) g

-- ---- the setting

pub set-good : (s : List ℕ) (most : ℕ) → good s ≡ true → good (set_after s most) ≡ true
unfolding set_after
set-good s most g =
    done-either (λ (x : List ℕ). good x ≡ true) (set_answer s most) (with_setting most s) s
    (λ e. let q = set-passed s most e in each-good _ (good-set s q.0.size (good-each s g) most q.1)) g

-- "age is not moved from the follow call on, only from the first whole group"
pub age-waits : (h : Head) → h.group ≡ 0 → (aged_head h).age ≡ h.age
age-waits h e = ap (λ (b : Bool). cond (b && ltb h.age 1500) (h.age + 1) h.age) (ne_eqb h.group 1 (λ q. omega (arith, e, q)))
