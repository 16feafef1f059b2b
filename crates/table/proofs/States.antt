-- Laws of the state of 16 slots.
--
--   slot-length, slot_same, slot-other    a slot of the state, after a change of it or of another
--   setting_kept                          a slot's change keeps the setting
--   set-length, slot_kept, setting-put    the state with another setting: its length, its slots, its setting; find-kept: what is found
--   find-*                                the lowest slot of an address
--   Good, good-each, each-good            good as facts, and back
--   used-one                              no two used slots share an address
--   good-change                           a change of one slot keeps the state good if the slot stays good and keeps its
--                                         address
--   good-followed, good_left              so do follow's change and leave's
--   good-set                              and another setting, of 0 to 3
--
-- Assumes nothing.
use mathlib.Core.Path.{◌≡◌, refl, sym, ap, ap₂, ◌∙◌, subst}
use mathlib.Core.Bool.{Bool, true, false, ◌&&◌, ◌||◌}
use mathlib.Core.List.{List, [], ◌∷◌}
use Prim.Native.Nat.{ℕ, zero, suc, ◌+◌, ◌*◌, ◌≤◌, ◌<◌}
use native.Mathlib.Omega.{arith}
use native.Mathlib.Decide.{dec_lt, ℕ_discrete}
use borrow.Author.Tests.{eq-eqb, ne_eqb, eqb-true, leb-true, le-leb}
use lib.Dec.{T, eqb, eqb_refl, eqb→eq}
use lib.ListN.{length, drop, get_or, length-drop}
use lib.Seq.{length-take-le}
use Rattle.bits.specs.Search.{all}
use Rattle.bare.specs.Bare.{most_flips}
use Rattle.bits.proofs.Search.{first-le, first_holds, first-only, first-agree, first-least, all-at, all-each, and_left, and_right, or_right}
use Rattle.runs.specs.Part.{part, put}
use Rattle.slot.specs.Slot.{head_at, slot_size, head_of, free, good_slot}
use Rattle.runs.specs.Numbers.{four_at}
use Rattle.runs.proofs.Parts.{put-length, part-put, part-put-before, part-put-after, get_or-put-in, get_or-put-after}
use Rattle.head.proofs.Bounds.{wish-bounds, good-bounds}
use Rattle.table.specs.State.{slots, tail_at, tail_size, state_size, setting, with_setting, slot_at, with_slot, address_at, find, good_at, good}

-- ---- slots

module _ (s : List ℕ) (l : length s ≡ state_size) where
  pub slot-length : (k : ℕ) → k < slots → length (slot_at k s) ≡ slot_size
  unfolding slot_at part
  slot-length k h = length-take-le slot_size (drop (k * slot_size) s) (omega (arith, length-drop (k * slot_size) s))

  module _ (k : ℕ) (b : List ℕ) (h : k < slots) (lb : length b ≡ slot_size) where
    pub with-length : length (with_slot k b s) ≡ state_size
    unfolding with_slot
    with-length = put-length (k * slot_size) slot_size b s (omega arith) lb ∙ l

    pub slot_same : slot_at k (with_slot k b s) ≡ b
    unfolding slot_at with_slot
    slot_same = part-put (k * slot_size) slot_size b s (omega arith) lb

    pub slot-other : (j : ℕ) → (j ≡ k → ⊥) → slot_at j (with_slot k b s) ≡ slot_at j s
    unfolding slot_at with_slot
    slot-other j ne = go (dec_lt j k)
      where
        go : Dec (j < k) → part (j * slot_size) slot_size (put (k * slot_size) slot_size b s) ≡ part (j * slot_size) slot_size s
        go (yes q) = part-put-before (k * slot_size) slot_size b s (j * slot_size) slot_size (omega arith) (omega arith)
        go (no q) = part-put-after (k * slot_size) slot_size b s (j * slot_size) slot_size (omega arith) lb (omega arith)

    pub address_same : address_at (with_slot k b s) k ≡ (head_of b).wish.address
    unfolding address_at
    address_same = ap (λ (x : List ℕ). (head_of x).wish.address) slot_same

    pub address-other : (j : ℕ) → (j ≡ k → ⊥) → address_at (with_slot k b s) j ≡ address_at s j
    unfolding address_at
    address-other j ne = ap (λ (x : List ℕ). (head_of x).wish.address) (slot-other j ne)

    -- the setting stands behind the slots
    pub setting_kept : setting (with_slot k b s) ≡ setting s
    unfolding setting with_slot
    setting_kept = get_or-put-after (k * slot_size) slot_size b s tail_at (omega arith) lb (omega arith)

  -- ---- the state with another setting

  module _ (most : ℕ) where
    pub set-length : length (with_setting most s) ≡ state_size
    unfolding with_setting
    set-length = put-length tail_at tail_size (most ∷ []) s (omega arith) refl ∙ l

    pub setting-put : setting (with_setting most s) ≡ most
    unfolding setting with_setting
    setting-put = get_or-put-in tail_at tail_size (most ∷ []) s 0 (omega arith) refl (omega arith)

    pub slot_kept : (k : ℕ) → k < slots → slot_at k (with_setting most s) ≡ slot_at k s
    unfolding slot_at with_setting
    slot_kept k h = part-put-before tail_at tail_size (most ∷ []) s (k * slot_size) slot_size (omega arith) (omega arith)

    pub address_kept : (k : ℕ) → k < slots → address_at (with_setting most s) k ≡ address_at s k
    unfolding address_at
    address_kept k h = ap (λ (x : List ℕ). (head_of x).wish.address) (slot_kept k h)

pub address_is : (s : List ℕ) (k : ℕ) → (head_of (slot_at k s)).wish.address ≡ address_at s k
unfolding address_at
address_is s k = refl

-- ---- find

abbrev pub has : List ℕ → ℕ → ℕ → Bool
has s a k = eqb (address_at s k) a

pub find-le : (s : List ℕ) (a : ℕ) → find s a ≤ slots
unfolding find
find-le s a = first-le (has s a) slots 0

pub find-has : (s : List ℕ) (a : ℕ) → find s a < slots → address_at s (find s a) ≡ a
unfolding find
find-has s a h = eqb→eq (address_at s (find s a)) a (first_holds (has s a) slots 0 h)

pub find-only : (s : List ℕ) (a k : ℕ) → k < slots → address_at s k ≡ a → ((j : ℕ) → j < slots → address_at s j ≡ a → j ≡ k) → find s a ≡ k
unfolding find
find-only s a k h e only =
    first-only (has s a) slots 0 k (omega arith) h (subst (λ (x : ℕ). T (eqb x a)) (sym e) (eqb_refl a))
    (λ j hj t. only j hj (eqb→eq (address_at s j) a t))

-- the same slots have the address
pub find-agree : (s t : List ℕ) (a : ℕ) → ((k : ℕ) → k < slots → eqb (address_at s k) a ≡ eqb (address_at t k) a) → find s a ≡ find t a
unfolding find
find-agree s t a h = first-agree (has s a) (has t a) slots 0 (λ k l m. h k m)

-- ---- good

pub record Good (s : List ℕ) : Type 0 where
  pub slot : (k : ℕ) → k < slots → good_slot (slot_at k s) ≡ true
  pub first : (k : ℕ) → k < slots → free (slot_at k s) ≡ false → find s (address_at s k) ≡ k
  pub setting : setting s ≤ most_flips

pub good-each : (s : List ℕ) → good s ≡ true → Good s
unfolding good good_at
good-each s e =
    let each = and_left (all (good_at s) slots 0) _ e in
    record {
      slot = λ k h. and_left (good_slot (slot_at k s)) _ (all-at (good_at s) slots 0 each k (omega arith) h);
      first = λ k h f. eqb-true (find s (address_at s k)) k
          (or_right (free (slot_at k s)) _ (and_right (good_slot (slot_at k s)) _ (all-at (good_at s) slots 0 each k (omega arith) h)) f);
      setting = leb-true (setting s) most_flips (and_right (all (good_at s) slots 0) _ e);
    }

pub each-good : (s : List ℕ) → Good s → good s ≡ true
unfolding good good_at
each-good s g =
    ap₂ ◌&&◌
    (all-each (good_at s) slots 0
    (λ k l h. join (good_slot (slot_at k s)) (free (slot_at k s)) (eqb (find s (address_at s k)) k) (g.slot k h)
    (λ f. eq-eqb (find s (address_at s k)) k (g.first k h f))))
    (le-leb (setting s) most_flips g.setting)
  where
    join : (a f e : Bool) → a ≡ true → (f ≡ false → e ≡ true) → (a && (f || e)) ≡ true
    join a true e p q = ap (λ (x : Bool). x && true) p
    join a false e p q = ap₂ (λ (x y : Bool). x && y) p (q refl)

-- ---- used and free slots by their address

free-byte : (s : List ℕ) → free s ≡ true → (k : ℕ) → get_or s k 0 ≡ 0
unfolding free
free-byte [] e k = refl
free-byte (b ∷ s) e zero = eqb-true b 0 (and_left (eqb b 0) (free s) e)
free-byte (b ∷ s) e (suc k) = free-byte s (and_right (eqb b 0) (free s) e) k

pub free-address : (s : List ℕ) → free s ≡ true → (head_of s).wish.address ≡ 0
unfolding head_of four_at
free-address s e = omega (arith, free-byte s e head_at, free-byte s e (head_at + 1), free-byte s e (head_at + 2), free-byte s e (head_at + 3))

pub used-address : (s : List ℕ) → good_slot s ≡ true → free s ≡ false → 0 < (head_of s).wish.address
unfolding good_slot
used-address s g f =
    let b = good-bounds (head_of s) (or_right (free s) _ g f) in
    (wish-bounds (head_of s).wish b.wish).address-from

-- so a good slot with address 0 is free
pub zero-free : (s : List ℕ) → good_slot s ≡ true → (head_of s).wish.address ≡ 0 → free s ≡ true
zero-free s g e = go (free s) refl
  where
    go : (b : Bool) → free s ≡ b → free s ≡ true
    go true q = q
    go false q = absurd (omega (arith, used-address s g q))

-- ---- no two used slots share an address

used-slot : (s : List ℕ) (k : ℕ) → 0 < address_at s k → free (slot_at k s) ≡ false
unfolding address_at
used-slot s k h = go (free (slot_at k s)) refl
  where
    go : (x : Bool) → free (slot_at k s) ≡ x → free (slot_at k s) ≡ false
    go true q = absurd (omega (arith, free-address (slot_at k s) q))
    go false q = q

pub used_pos : (s : List ℕ) → Good s → (k : ℕ) → k < slots → free (slot_at k s) ≡ false → 0 < address_at s k
unfolding address_at
used_pos s g k h f = used-address (slot_at k s) (g.slot k h) f

pub used-one : (s : List ℕ) → Good s → (j k : ℕ) → j < slots → k < slots → address_at s j ≡ address_at s k → 0 < address_at s k → j ≡ k
used-one s g j k hj hk e pos =
    sym (g.first j hj (used-slot s j (omega (arith, e)))) ∙ ap (find s) e ∙ g.first k hk (used-slot s k pos)

pub find_none : (s : List ℕ) (a : ℕ) → slots ≤ find s a → (k : ℕ) → k < slots → address_at s k ≡ a → ⊥
unfolding find
find_none s a n k h e =
    omega (arith, first-least (has s a) slots 0 k (omega arith) h (subst (λ (x : ℕ). T (eqb x a)) (sym e) (eqb_refl a)))

-- ---- changes of one slot

module _ (s : List ℕ) (l : length s ≡ state_size) (g : Good s) (k : ℕ) (b : List ℕ) (h : k < slots) (lb : length b ≡ slot_size)
    (gb : good_slot b ≡ true) where
  -- where no other used slot is touched by the new address, and a used slot is found by it
  good-with : ((j : ℕ) → j < slots → (j ≡ k → ⊥) → free (slot_at j s) ≡ false → eqb (head_of b).wish.address (address_at s j) ≡ eqb (address_at s k) (address_at s j))
      → (free b ≡ false → find (with_slot k b s) (head_of b).wish.address ≡ k) → Good (with_slot k b s)
  good-with apart found = record {
    slot = λ j hj. slot-at j hj (ℕ_discrete j k);
    first = λ j hj f. first-at j hj f (ℕ_discrete j k);
    setting = subst (λ (x : ℕ). x ≤ most_flips) (sym (setting_kept s l k b h lb)) g.setting;
  }
    where
      slot-at : (j : ℕ) → j < slots → Dec (j ≡ k) → good_slot (slot_at j (with_slot k b s)) ≡ true
      slot-at j hj (yes e) =
          subst (λ (i : ℕ). good_slot (slot_at i (with_slot k b s)) ≡ true) (sym e) (ap good_slot (slot_same s l k b h lb) ∙ gb)
      slot-at j hj (no e) = ap good_slot (slot-other s l k b h lb j e) ∙ g.slot j hj

      other : (j : ℕ) → j < slots → (j ≡ k → ⊥) → free (slot_at j s) ≡ false → find (with_slot k b s) (address_at s j) ≡ j
      other j hj ne f = find-agree (with_slot k b s) s (address_at s j) (λ i hi. at i (ℕ_discrete i k)) ∙ g.first j hj f
        where
          at : (i : ℕ) → Dec (i ≡ k) → eqb (address_at (with_slot k b s) i) (address_at s j) ≡ eqb (address_at s i) (address_at s j)
          at i (yes e) =
              subst (λ (x : ℕ). eqb (address_at (with_slot k b s) x) (address_at s j) ≡ eqb (address_at s x) (address_at s j)) (sym e)
              (ap (λ (x : ℕ). eqb x (address_at s j)) (address_same s l k b h lb) ∙ apart j hj ne f)
          at i (no e) = ap (λ (x : ℕ). eqb x (address_at s j)) (address-other s l k b h lb i e)

      first-at : (j : ℕ) → j < slots → free (slot_at j (with_slot k b s)) ≡ false → Dec (j ≡ k)
          → find (with_slot k b s) (address_at (with_slot k b s) j) ≡ j
      first-at j hj f (yes e) =
          let fb : free b ≡ false = sym (ap free (slot_same s l k b h lb)) ∙ subst (λ (i : ℕ). free (slot_at i (with_slot k b s)) ≡ false) e f in
          ap (λ (i : ℕ). find (with_slot k b s) (address_at (with_slot k b s) i)) e
          ∙ ap (find (with_slot k b s)) (address_same s l k b h lb) ∙ found fb ∙ sym e
      first-at j hj f (no e) =
          ap (find (with_slot k b s)) (address-other s l k b h lb j e)
          ∙ other j hj e (sym (ap free (slot-other s l k b h lb j e)) ∙ f)

  -- a slot that stays good and keeps its address
  pub good-change : (head_of b).wish.address ≡ address_at s k → Good (with_slot k b s)
  good-change e = good-with (λ j hj ne f. ap (λ (x : ℕ). eqb x (address_at s j)) e) found
    where
      at : (x i : ℕ) → Dec (i ≡ k) → eqb (address_at (with_slot k b s) i) x ≡ eqb (address_at s i) x
      at x i (yes q) =
          subst (λ (n : ℕ). eqb (address_at (with_slot k b s) n) x ≡ eqb (address_at s n) x) (sym q)
          (ap (λ (n : ℕ). eqb n x) (address_same s l k b h lb ∙ e))
      at x i (no q) = ap (λ (n : ℕ). eqb n x) (address-other s l k b h lb i q)

      found : free b ≡ false → find (with_slot k b s) (head_of b).wish.address ≡ k
      found fb =
          find-agree (with_slot k b s) s (head_of b).wish.address (λ i hi. at (head_of b).wish.address i (ℕ_discrete i k))
          ∙ ap (find s) e ∙ g.first k h (used-slot s k (subst (λ (x : ℕ). 0 < x) e (used-address b gb fb)))

  -- a free slot that gets an address which no slot has
  pub good-followed : address_at s k ≡ 0 → 0 < (head_of b).wish.address → slots ≤ find s (head_of b).wish.address → Good (with_slot k b s)
  good-followed z pos none = good-with apart (λ fb. found)
    where
      apart : (j : ℕ) → j < slots → (j ≡ k → ⊥) → free (slot_at j s) ≡ false → eqb (head_of b).wish.address (address_at s j) ≡ eqb (address_at s k) (address_at s j)
      apart j hj ne f =
          ne_eqb (head_of b).wish.address (address_at s j) (λ q. find_none s (head_of b).wish.address none j hj (sym q))
          ∙ sym (ne_eqb (address_at s k) (address_at s j) (λ q. omega (arith, q, z, used_pos s g j hj f)))

      found : find (with_slot k b s) (head_of b).wish.address ≡ k
      found =
          find-only (with_slot k b s) (head_of b).wish.address k h (address_same s l k b h lb)
          (λ j hj q. only j hj q (ℕ_discrete j k))
        where
          only : (j : ℕ) → j < slots → address_at (with_slot k b s) j ≡ (head_of b).wish.address → Dec (j ≡ k) → j ≡ k
          only j hj q (yes e) = e
          only j hj q (no e) = absurd (find_none s (head_of b).wish.address none j hj (sym (address-other s l k b h lb j e) ∙ q))

  -- a slot that is freed
  pub good_left : free b ≡ true → Good (with_slot k b s)
  good_left fb = good-with apart (λ q. absurd (subst T (sym fb ∙ q) tt))
    where
      apart : (j : ℕ) → j < slots → (j ≡ k → ⊥) → free (slot_at j s) ≡ false → eqb (head_of b).wish.address (address_at s j) ≡ eqb (address_at s k) (address_at s j)
      apart j hj ne f =
          ne_eqb (head_of b).wish.address (address_at s j) (λ q. omega (arith, q, free-address b fb, used_pos s g j hj f))
          ∙ sym (ne_eqb (address_at s k) (address_at s j) (λ q. ne (used-one s g j k hj h (sym q) (omega (arith, q, used_pos s g j hj f)))))

-- ---- another setting: every slot stays, and so does what is found

pub find-kept : (s : List ℕ) → length s ≡ state_size → (most a : ℕ) → find (with_setting most s) a ≡ find s a
find-kept s l most a =
    find-agree (with_setting most s) s a (λ k h. ap (λ (x : ℕ). eqb x a) (address_kept s l most k h))

pub good-set : (s : List ℕ) → length s ≡ state_size → Good s → (most : ℕ) → most ≤ most_flips → Good (with_setting most s)
good-set s l g most h = record {
  slot = λ k hk. ap good_slot (slot_kept s l most k hk) ∙ g.slot k hk;
  first = λ k hk f. find-kept s l most _ ∙ ap (find s) (address_kept s l most k hk)
      ∙ g.first k hk (sym (ap free (slot_kept s l most k hk)) ∙ f);
  setting = subst (λ (x : ℕ). x ≤ most_flips) (sym (setting-put s l most)) h;
}
