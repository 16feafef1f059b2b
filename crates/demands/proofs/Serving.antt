-- A good state in which an address is followed, and what a change of its slots makes of that address.
--
--   Serves s a       a good state that follows the address
--   view s a         the address as its slot has it
--   Kept t a f       t still follows it, and it is f there
--   here-bounds      what its slot's head keeps to; here-wish: and the wish in it
--   change-here      a change of its own slot
--   change-apart     a change of others
--   ages-at          what a subframe's end leaves of each slot; ages-long: no byte more or less
--
-- Assumes nothing.
use mathlib.Core.Path.{◌≡◌, refl, sym, ap, ◌∙◌, subst}
use mathlib.Core.Bool.{true}
use mathlib.Core.List.{List}
use mathlib.Core.Logic.{◌⊎◌, inl, inr}
use Prim.Native.Nat.{ℕ, zero, suc, ◌+◌, ◌≤◌, ◌<◌}
use native.Mathlib.Omega.{arith}
use native.Mathlib.Decide.{ℕ_discrete}
use lib.Dec.{eqb}
use lib.ListN.{length}
use Rattle.bits.specs.Bits.{blank}
use Rattle.slot.specs.Slot.{slot_size, head_of, with_head, good_slot}
use Rattle.head.specs.Head.{aged_head, good_head}
use Rattle.head.specs.declared.Head.{Head}
use Rattle.head.proofs.Bounds.{Bounds, good-bounds, WishBounds, wish-bounds}
use Rattle.slot.proofs.Goods.{good-cases, head-blank}
use Rattle.slot.proofs.Heads.{with_head-length}
use Rattle.table.specs.State.{state_size, slots, slot_at, with_slot, address_at, find}
use Rattle.table.specs.Calls.{ages}
use Rattle.table.proofs.States.{Good, slot-length, with-length, slot_same, slot-other, address_same, address-other, address_is, find-has, find-agree, good-change}
use Rattle.history.specs.Followed.{Followed}
use Rattle.demands.specs.Seen.{seen_in}

pub record Serves (s : List ℕ) (a : ℕ) : Type 0 where
  pub size : length s ≡ state_size
  pub all : Good s
  pub pos : 0 < a
  pub found : find s a < slots

unfoldable pub view : List ℕ → ℕ → Followed
view s a = seen_in (slot_at (find s a) s)

pub record Kept (t : List ℕ) (a : ℕ) (f : Followed) : Type 0 where
  pub serves : Serves t a
  pub seen : view t a ≡ f

-- a good slot with an address is within the bounds
pub used-head : (x : List ℕ) → good_slot x ≡ true → 0 < (head_of x).wish.address → good_head (head_of x) ≡ true
used-head x g h = go (good-cases x g)
  where
    go : (x ≡ blank (length x)) ⊎ (good_head (head_of x) ≡ true) → good_head (head_of x) ≡ true
    go (inr e) = e
    go (inl e) = absurd (omega (arith, ap (λ (y : List ℕ). (head_of y).wish.address) e, ap (λ (y : Head). y.wish.address) (head-blank (length x))))

module _ (s : List ℕ) (a : ℕ) (v : Serves s a) where
  pub here-size : length (slot_at (find s a) s) ≡ slot_size
  here-size = slot-length s v.size (find s a) v.found

  pub here-address : (head_of (slot_at (find s a) s)).wish.address ≡ a
  here-address = address_is s (find s a) ∙ find-has s a v.found

  pub here-good : good_head (head_of (slot_at (find s a) s)) ≡ true
  here-good =
      used-head (slot_at (find s a) s) (v.all.slot (find s a) v.found) (subst (λ (n : ℕ). 0 < n) (sym here-address) v.pos)

  pub here-bounds : Bounds (head_of (slot_at (find s a) s))
  here-bounds = good-bounds (head_of (slot_at (find s a) s)) here-good

  pub here-wish : WishBounds (head_of (slot_at (find s a) s)).wish
  here-wish = wish-bounds (head_of (slot_at (find s a) s)).wish here-bounds.wish

  -- a state in which the same slots have the address, and its own slot is b
  pub kept_by : (t b : List ℕ) → length t ≡ state_size → Good t → ((k : ℕ) → k < slots → eqb (address_at t k) a ≡ eqb (address_at s k) a)
      → slot_at (find s a) t ≡ b → Kept t a (seen_in b)
  unfolding view
  kept_by t b lt gt same here =
      let e : find t a ≡ find s a = find-agree t s a same in
      record {
        serves = record { size = lt; all = gt; pos = v.pos; found = subst (λ (k : ℕ). k < slots) (sym e) v.found };
        seen = ap (λ (k : ℕ). seen_in (slot_at k t)) e ∙ ap seen_in here;
      }

  pub change-here : (b : List ℕ) → length b ≡ slot_size → good_slot b ≡ true → (head_of b).wish.address ≡ a → Kept (with_slot (find s a) b s) a (seen_in b)
  change-here b lb gb e =
      let k = find s a in
      let at : (head_of b).wish.address ≡ address_at s k = e ∙ sym (find-has s a v.found) in
      kept_by (with_slot k b s) b (with-length s v.size k b v.found lb)
      (good-change s v.size v.all k b v.found lb gb at) (λ j hj. same j (ℕ_discrete j k) at)
      (slot_same s v.size k b v.found lb)
    where
      same : (j : ℕ) → Dec (j ≡ find s a) → (head_of b).wish.address ≡ address_at s (find s a)
          → eqb (address_at (with_slot (find s a) b s) j) a ≡ eqb (address_at s j) a
      same j (yes q) at =
          subst (λ (i : ℕ). eqb (address_at (with_slot (find s a) b s) i) a ≡ eqb (address_at s i) a) (sym q)
          (ap (λ (n : ℕ). eqb n a) (address_same s v.size (find s a) b v.found lb ∙ at))
      same j (no q) at = ap (λ (n : ℕ). eqb n a) (address-other s v.size (find s a) b v.found lb j q)

  -- another slot, which neither had the address nor has it
  pub change-apart : (k : ℕ) (b : List ℕ) → k < slots → length b ≡ slot_size → (k ≡ find s a → ⊥) → Good (with_slot k b s)
      → eqb (head_of b).wish.address a ≡ eqb (address_at s k) a → Kept (with_slot k b s) a (view s a)
  unfolding view
  change-apart k b hk lb ne gt at =
      kept_by (with_slot k b s) (slot_at (find s a) s) (with-length s v.size k b hk lb) gt (λ j hj. same j (ℕ_discrete j k))
      (slot-other s v.size k b hk lb (find s a) (λ q. ne (sym q)))
    where
      same : (j : ℕ) → Dec (j ≡ k) → eqb (address_at (with_slot k b s) j) a ≡ eqb (address_at s j) a
      same j (yes q) =
          subst (λ (i : ℕ). eqb (address_at (with_slot k b s) i) a ≡ eqb (address_at s i) a) (sym q)
          (ap (λ (n : ℕ). eqb n a) (address_same s v.size k b hk lb) ∙ at)
      same j (no q) = ap (λ (n : ℕ). eqb n a) (address-other s v.size k b hk lb j q)

  pub change-none : Kept s a (view s a)
  change-none = record { serves = v; seen = refl }

-- ---- a subframe's end

abbrev pub older : List ℕ → List ℕ
older x = with_head (aged_head (head_of x)) x

pub older-size : (s : List ℕ) (l : length s ≡ state_size) (k : ℕ) → k < slots → length (older (slot_at k s)) ≡ slot_size
older-size s l k h = with_head-length (aged_head (head_of (slot_at k s))) (slot_at k s) (slot-length s l k h) ∙ slot-length s l k h

pub ages-long : (n k : ℕ) (s : List ℕ) → n + k ≤ slots → length s ≡ state_size → length (ages n k s) ≡ state_size
unfolding ages
ages-long zero k s h l = l
ages-long (suc n) k s h l =
    let hk : k < slots = omega arith in
    ages-long n (suc k) (with_slot k (older (slot_at k s)) s) (omega arith) (with-length s l k (older (slot_at k s)) hk (older-size s l k hk))

ages_before : (n k : ℕ) (s : List ℕ) → n + k ≤ slots → length s ≡ state_size → (j : ℕ) → j < k → slot_at j (ages n k s) ≡ slot_at j s
unfolding ages
ages_before zero k s h l j q = refl
ages_before (suc n) k s h l j q =
    let hk : k < slots = omega arith in
    let lb = older-size s l k hk in
    ages_before n (suc k) (with_slot k (older (slot_at k s)) s) (omega arith) (with-length s l k (older (slot_at k s)) hk lb) j (omega arith)
    ∙ slot-other s l k (older (slot_at k s)) hk lb j (λ e. omega (arith, e))

pub ages-at : (n k : ℕ) (s : List ℕ) → n + k ≤ slots → length s ≡ state_size → (j : ℕ) → k ≤ j → j < n + k → slot_at j (ages n k s) ≡ older (slot_at j s)
unfolding ages
ages-at zero k s h l j p q = absurd (omega arith)
ages-at (suc n) k s h l j p q =
    let hk : k < slots = omega arith in
    let lb = older-size s l k hk in
    let t = with_slot k (older (slot_at k s)) s in
    let lt = with-length s l k (older (slot_at k s)) hk lb in
    go (ℕ_discrete j k)
    (λ e. ages_before n (suc k) t (omega arith) lt j (omega (arith, e)) ∙ ap (λ (i : ℕ). slot_at i t) e
    ∙ slot_same s l k (older (slot_at k s)) hk lb ∙ ap (λ (i : ℕ). older (slot_at i s)) (sym e))
    (λ e. ages-at n (suc k) t (omega arith) lt j (omega (arith, e)) (omega arith) ∙ ap older (slot-other s l k (older (slot_at k s)) hk lb j e))
  where
    go : {A : Type 0} → Dec (j ≡ k) → (j ≡ k → A) → ((j ≡ k → ⊥) → A) → A
    go (yes e) f g = f e
    go (no e) f g = g e
