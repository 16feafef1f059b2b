-- What a state shows, by the addresses of its slots: enough to know what each call answers, without computing 11,777 bytes.
--
--   Shows s f                 a good state whose slot k has address f k
--   place f a, find-place     the lowest slot of an address, which computes where f does
--   start-shows               the started state: no address
--   follow-shows, leave-shows    what it shows after an accepted call
--   end-done, end-shows       the end of a subframe is accepted, and changes no address
--   follow-head               the head of the slot that follow took
--
-- Assumes nothing.
use mathlib.Core.Path.{◌≡◌, sym, ap, ◌∙◌, subst}
use mathlib.Core.Bool.{Bool, true, cond}
use mathlib.Core.List.{List, []}
use Prim.Native.Nat.{ℕ, zero, suc, ◌+◌, ◌≤◌, ◌<◌}
use native.Mathlib.Omega.{arith}
use native.Mathlib.Decide.{ℕ_discrete}
use borrow.Author.Tests.{eq-eqb, ne_eqb}
use lib.Dec.{eqb}
use lib.ListN.{length}
use Rattle.bits.specs.Bits.{blank}
use Rattle.bits.specs.Search.{first}
use Rattle.bits.proofs.Rows.{refusal-none, done-passed}
use Rattle.bits.proofs.Search.{first-agree}
use Rattle.bits.proofs.Storing.{blank-length}
use Rattle.slot.specs.Slot.{slot_size, head_of, with_head}
use Rattle.head.specs.Head.{new_head, aged_head}
use Rattle.head.specs.declared.Wish.{Wish}
use Rattle.head.specs.declared.Head.{Head}
use Rattle.head.proofs.Bounds.{good_new}
use Rattle.slot.proofs.Goods.{good-load, head-blank}
use Rattle.slot.proofs.Heads.{with_head-length}
use Rattle.table.specs.State.{slots, started_state, slot_at, with_slot, address_at, find, good}
use Rattle.table.specs.Calls.{follow_answer, follow_after, leave_answer, leave_after, end_answer, end_after, ages}
use Rattle.table.proofs.Looking.{Passed, state-rest}
use Rattle.table.proofs.States.{has, slot-length, with-length, slot_same, address_is, address_same, address-other, good-each, each-good, good-change}
use Rattle.table.proofs.Kept.{Followed, follow-passed, leave-passed, started-length, slot-started, started-good, follow-good, leave-good, aged-slot}

pub record Shows (s : List ℕ) (f : ℕ → ℕ) : Type 0 where
  pub passed : Passed s
  pub each : (k : ℕ) → k < slots → address_at s k ≡ f k

abbrev pub place : (ℕ → ℕ) → ℕ → ℕ
place f a = first (λ (k : ℕ). eqb (f k) a) slots 0

pub find-place : (s : List ℕ) (f : ℕ → ℕ) → Shows s f → (a : ℕ) → place f a ≡ find s a
unfolding find
find-place s f v a = first-agree (λ (k : ℕ). eqb (f k) a) (has s a) slots 0 (λ k l h. ap (λ (x : ℕ). eqb x a) (sym (v.each k h)))

-- ---- start

pub start-shows : Shows started_state (λ k. 0)
start-shows = record {
  passed = record { size = started-length; all-good = each-good started_state started-good };
  each = λ k h. sym (address_is started_state k) ∙ ap (λ (x : List ℕ). (head_of x).wish.address) (slot-started k h)
      ∙ ap (λ (h : Head). h.wish.address) (head-blank slot_size);
}

-- ---- one slot changed

abbrev pub with : (ℕ → ℕ) → ℕ → ℕ → ℕ → ℕ
with f i a k = cond (eqb k i) a (f k)

module _ (s : List ℕ) (f : ℕ → ℕ) (v : Shows s f) where
  with-shows : (t : List ℕ) (i : ℕ) (b : List ℕ) (a : ℕ) → i < slots → length b ≡ slot_size → (head_of b).wish.address ≡ a → t ≡ with_slot i b s → good t ≡ true
      → Shows t (with f i a)
  with-shows t i b a h lb e q g = record {
    passed = record { size = ap length q ∙ with-length s v.passed.size i b h lb; all-good = g };
    each = λ k hk. ap (λ (x : List ℕ). address_at x k) q ∙ at k hk (ℕ_discrete k i);
  }
    where
      at : (k : ℕ) → k < slots → Dec (k ≡ i) → address_at (with_slot i b s) k ≡ with f i a k
      at k hk (yes p) =
          ap (address_at (with_slot i b s)) p ∙ address_same s v.passed.size i b h lb ∙ e
          ∙ sym (ap (λ (x : Bool). cond x a (f k)) (eq-eqb k i p))
      at k hk (no p) =
          address-other s v.passed.size i b h lb k p ∙ v.each k hk
          ∙ sym (ap (λ (x : Bool). cond x a (f k)) (ne_eqb k i p))

  -- ---- follow

  module _ (w : Wish) (e : follow_answer s w ≡ 0) where
    taken : List ℕ
    taken = with_head (new_head w) (slot_at (find s 0) s)

    ok : Followed s w
    ok = follow-passed s w e

    taken-length : length (slot_at (find s 0) s) ≡ slot_size
    taken-length = slot-length s v.passed.size (find s 0) ok.room

    taken-size : length taken ≡ slot_size
    unfolding taken
    taken-size = with_head-length (new_head w) (slot_at (find s 0) s) taken-length ∙ taken-length

    taken-head : head_of taken ≡ new_head w
    unfolding taken
    taken-head =
        good-load (new_head w) (good_new w ok.wish) (slot_at (find s 0) s) taken-length

    after : follow_after s w ≡ with_slot (find s 0) taken s
    unfolding follow_after taken
    after = done-passed (follow_answer s w) (with_slot (find s 0) (with_head (new_head w) (slot_at (find s 0) s)) s) s e

    pub follow-shows : Shows (follow_after s w) (with f (place f 0) w.address)
    follow-shows =
        subst (λ (i : ℕ). Shows (follow_after s w) (with f i w.address)) (sym (find-place s f v 0))
        (with-shows (follow_after s w) (find s 0) taken w.address ok.room taken-size (ap (λ (h : Head). h.wish.address) taken-head) after
        (follow-good s w v.passed.all-good))

    pub follow-head : head_of (slot_at (place f 0) (follow_after s w)) ≡ new_head w
    follow-head =
        ap (λ (k : ℕ). head_of (slot_at k (follow_after s w))) (find-place s f v 0)
        ∙ ap (λ (x : List ℕ). head_of (slot_at (find s 0) x)) after
        ∙ ap head_of (slot_same s v.passed.size (find s 0) taken ok.room taken-size) ∙ taken-head

  -- ---- leave

  pub leave-shows : (a : ℕ) → leave_answer s a ≡ 0 → Shows (leave_after s a) (with f (place f a) 0)
  unfolding leave_after
  leave-shows a e =
      let free-head : (head_of (blank slot_size)).wish.address ≡ 0 = ap (λ (h : Head). h.wish.address) (head-blank slot_size) in
      subst (λ (i : ℕ). Shows (leave_after s a) (with f i 0)) (sym (find-place s f v a))
      (with-shows (leave_after s a) (find s a) (blank slot_size) 0 (leave-passed s a e).2 (blank-length slot_size) free-head
      (done-passed (leave_answer s a) (with_slot (find s a) (blank slot_size) s) s e) (leave-good s a v.passed.all-good))

-- ---- the end of a subframe: every address stays

ages-shows : (n k : ℕ) (s : List ℕ) (f : ℕ → ℕ) → n + k ≤ slots → Shows s f → Shows (ages n k s) f
unfolding ages
ages-shows zero k s f h v = v
ages-shows (suc n) k s f h v =
    let hk : k < slots = omega arith in
    let l = v.passed.size in
    let g = good-each s v.passed.all-good in
    let lk = slot-length s l k hk in
    let b = with_head (aged_head (head_of (slot_at k s))) (slot_at k s) in
    let lb : length b ≡ slot_size = with_head-length (aged_head (head_of (slot_at k s))) (slot_at k s) lk ∙ lk in
    let q = aged-slot (slot_at k s) lk (g.slot k hk) in
    let same : (head_of b).wish.address ≡ address_at s k = q.1 ∙ address_is s k in
    ages-shows n (suc k) (with_slot k b s) f (omega arith)
    (record {
      passed = record { size = with-length s l k b hk lb; all-good = each-good (with_slot k b s) (good-change s l g k b hk lb q.0 same) };
      each = λ j hj. at b lb same j hj (ℕ_discrete j k);
    })
  where
    at : (b : List ℕ) → length b ≡ slot_size → (head_of b).wish.address ≡ address_at s k → (j : ℕ) → j < slots → Dec (j ≡ k)
        → address_at (with_slot k b s) j ≡ f j
    at b lb same j hj (yes p) =
        ap (address_at (with_slot k b s)) p ∙ address_same s v.passed.size k b (omega arith) lb ∙ same ∙ sym (ap (address_at s) p) ∙ v.each j hj
    at b lb same j hj (no p) = address-other s v.passed.size k b (omega arith) lb j p ∙ v.each j hj

pub end-done : (s : List ℕ) (f : ℕ → ℕ) → Shows s f → end_answer s ≡ 0
unfolding end_answer
end-done s f v = state-rest s [] v.passed.size v.passed.all-good ∙ refusal-none

pub end-shows : (s : List ℕ) (f : ℕ → ℕ) → Shows s f → Shows (end_after s) f
unfolding end_after
end-shows s f v =
    subst (λ (t : List ℕ). Shows t f) (sym (done-passed (end_answer s) (ages slots 0 s) s (end-done s f v)))
    (ages-shows slots 0 s f (omega arith) v)
