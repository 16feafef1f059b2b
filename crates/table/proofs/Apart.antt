-- What the test of the whole state rests on: "each used slot is the first of its address" is, of all sixteen together, "no used
-- slot's address stands again behind it".
--
--   short                two bytes of a slot's address: of a good slot the address itself (small)
--   Gathered             these of the slots up to k, and 0 behind them
--   gathered_none, gathered_next    so they are before the first turn, and after one more
--   differs, alone       an address is another than that at k; it is 0, or stands at none of the sixteen places behind it
--   alone-used, alone-free    so it is tested
--   good-apart           all slots good, all addresses alone and a setting of 0 to 3: the state is good
--
-- Assumes nothing.
use mathlib.Core.Path.{◌≡◌, refl, sym, ap, ap₂, ◌∙◌}
use mathlib.Core.Bool.{Bool, true, false, cond, not, ◌&&◌, ◌||◌, and-true}
use mathlib.Core.List.{List}
use Prim.Native.Nat.{ℕ, zero, ◌+◌, ◌%◌, ◌≤◌, ◌<◌}
use native.Mathlib.Omega.{arith}
use native.Mathlib.Decide.{dec_lt, ℕ_discrete}
use borrow.Author.Tests.{lt-ltb, le-ltb, eq-eqb, ne_eqb, le-leb, leb-true}
use lib.Dec.{leb, ltb, eqb}
use lib.ListN.{length, get_or, set, replicate, get_or-replicate, get_or-eq_default, length-replicate}
use lib.Seq.{get_or-set_same, get_or-set_other}
use Rattle.bits.specs.Search.{all}
use Rattle.bits.proofs.Search.{all-at, all-each, and_left, and_right, or_right, same_truth, clash}
use Rattle.bare.specs.Bare.{most_flips}
use Rattle.slot.specs.Slot.{free, good_slot}
use Rattle.slot.proofs.Goods.{good-small}
use Rattle.table.specs.State.{slots, setting, slot_at, address_at, good}
use Rattle.table.proofs.States.{Good, good-each, each-good, find-only, used-address, used-one}

used-at : (s : List ℕ) (k : ℕ) → good_slot (slot_at k s) ≡ true → free (slot_at k s) ≡ false → 0 < address_at s k
unfolding address_at
used-at s k g f = used-address (slot_at k s) g f

-- ---- the addresses, gathered: two bytes of each, which is all that a good slot's has

abbrev pub short : List ℕ → ℕ → ℕ
short s k = address_at s k % 65536

small : (s : List ℕ) (k : ℕ) → good_slot (slot_at k s) ≡ true → short s k ≡ address_at s k
unfolding address_at
small s k g = let h = good-small (slot_at k s) g in omega arith

abbrev pub Gathered : List ℕ → ℕ → List ℕ → Type 0
Gathered s k xs = (j : ℕ) → get_or xs j 0 ≡ cond (ltb j k) (short s j) 0

module _ (s : List ℕ) where
  pub gathered_none : (n : ℕ) → Gathered s 0 (replicate n 0)
  gathered_none n j = at (dec_lt j n) ∙ sym (ap (λ (b : Bool). cond b (short s j) 0) (le-ltb j 0 (omega arith)))
    where
      at : Dec (j < n) → ◌≡◌ {A = ℕ} (get_or (replicate n 0) j 0) 0
      at (yes h) = get_or-replicate n j zero zero h
      at (no h) = get_or-eq_default (replicate n zero) zero (omega (arith, length-replicate n zero))

  module _ (xs : List ℕ) (k v : ℕ) (h : k < length xs) (e : v ≡ short s k) (g : Gathered s k xs) where
    pub gathered_next : Gathered s (k + 1) (set xs k v)
    gathered_next j = at (ℕ_discrete j k)
      where
        up-to : (b : Bool) → ltb j (k + 1) ≡ b → cond (ltb j (k + 1)) (short s j) 0 ≡ cond b (short s j) 0
        up-to b q = ap (λ (b : Bool). cond b (short s j) 0) q

        same : (j ≡ k → ⊥) → Dec (j < k) → ltb j (k + 1) ≡ ltb j k
        same ne (yes q) = lt-ltb j (k + 1) (omega arith) ∙ sym (lt-ltb j k q)
        same ne (no q) = le-ltb j (k + 1) (omega arith) ∙ sym (le-ltb j k (omega arith))

        at : Dec (j ≡ k) → get_or (set xs k v) j 0 ≡ cond (ltb j (k + 1)) (short s j) 0
        at (yes q) =
            ap (λ (n : ℕ). get_or (set xs k v) n 0) q ∙ get_or-set_same xs k v 0 h ∙ e ∙ ap (short s) (sym q)
            ∙ sym (up-to true (lt-ltb j (k + 1) (omega arith)))
        at (no q) = get_or-set_other xs k j v 0 q ∙ g j ∙ sym (up-to (ltb j k) (same q (dec_lt j k)))

-- ---- apart

abbrev pub differs : List ℕ → ℕ → ℕ → Bool
differs xs k j = not (eqb (get_or xs j 0) (get_or xs k 0))

abbrev pub alone : List ℕ → ℕ → Bool
alone xs k = eqb (get_or xs k 0) 0 || all (differs xs k) slots (k + 1)

-- as the code tests it
module _ (xs : List ℕ) (k : ℕ) (so : Bool) where
  pub alone-used : (r : Bool) → (get_or xs k 0 ≡ 0 → ⊥) → r ≡ all (differs xs k) slots (k + 1) → (so && r) ≡ (so && alone xs k)
  alone-used r ne e =
      ap (λ (b : Bool). so && b) (e ∙ sym (ap (λ (b : Bool). b || all (differs xs k) slots (k + 1)) (ne_eqb (get_or xs k 0) 0 ne)))

  pub alone-free : get_or xs k 0 ≡ 0 → so ≡ (so && alone xs k)
  alone-free z =
      sym (and-true so) ∙ sym (ap (λ (b : Bool). so && (b || all (differs xs k) slots (k + 1))) (eq-eqb (get_or xs k 0) 0 z))

abbrev pub good_slot_at : List ℕ → ℕ → Bool
good_slot_at s k = good_slot (slot_at k s)

module _ (s xs : List ℕ) (g : Gathered s slots xs) where
  is_address : (k : ℕ) → k < slots → good_slot (slot_at k s) ≡ true → get_or xs k 0 ≡ address_at s k
  is_address k h ok = g k ∙ ap (λ (b : Bool). cond b (short s k) 0) (lt-ltb k slots h) ∙ small s k ok

  is_none : (k : ℕ) → slots ≤ k → get_or xs k 0 ≡ 0
  is_none k h = g k ∙ ap (λ (b : Bool). cond b (short s k) 0) (le-ltb k slots h)

  -- a used slot's address does not stand behind it
  behind : ((k : ℕ) → k < slots → good_slot (slot_at k s) ≡ true) → all (alone xs) slots 0 ≡ true → (i j : ℕ) → i < j → j < slots → address_at s j ≡ address_at s i → address_at s i ≡ 0
  behind ok a i j l h e = go (ℕ_discrete (get_or xs i 0) 0)
    where
      go : Dec (get_or xs i 0 ≡ 0) → address_at s i ≡ 0
      go (yes z) = sym (is_address i (omega arith) (ok i (omega arith))) ∙ z
      go (no ne) =
          let rest = or_right (eqb (get_or xs i 0) 0) _ (all-at (alone xs) slots 0 a i (omega arith) (omega arith)) (ne_eqb (get_or xs i 0) 0 ne) in
          let other : not (eqb (get_or xs j 0) (get_or xs i 0)) ≡ true = all-at (differs xs i) slots (i + 1) rest j (omega arith) (omega arith) in
          let same : get_or xs j 0 ≡ get_or xs i 0 = is_address j h (ok j h) ∙ e ∙ sym (is_address i (omega arith) (ok i (omega arith))) in
          clash (sym other ∙ ap not (eq-eqb (get_or xs j 0) (get_or xs i 0) same))

  to-good : all (good_slot_at s) slots 0 ≡ true → all (alone xs) slots 0 ≡ true → setting s ≤ most_flips → Good s
  to-good gs a few = record {
    slot = slot-good;
    first = λ k h f. find-only s (address_at s k) k h refl (only k h f);
    setting = few;
  }
    where
      slot-good : (k : ℕ) → k < slots → good_slot (slot_at k s) ≡ true
      slot-good k h = all-at (good_slot_at s) slots 0 gs k (omega arith) h

      only : (k : ℕ) → k < slots → free (slot_at k s) ≡ false → (j : ℕ) → j < slots → address_at s j ≡ address_at s k → j ≡ k
      only k h f j hj e = go (dec_lt j k) (dec_lt k j)
        where
          pos : 0 < address_at s k
          pos = used-at s k (slot-good k h) f

          go : Dec (j < k) → Dec (k < j) → j ≡ k
          go (yes q) r = absurd (omega (arith, pos, e, behind slot-good a j k q h (sym e)))
          go (no q) (yes r) = absurd (omega (arith, pos, behind slot-good a k j r hj e))
          go (no q) (no r) = omega arith

  from-good : Good s → (k : ℕ) → k < slots → alone xs k ≡ true
  from-good ok k h = go (ℕ_discrete (get_or xs k 0) 0)
    where
      other : (get_or xs k 0 ≡ 0 → ⊥) → (j : ℕ) → k + 1 ≤ j → Dec (j < slots) → get_or xs j 0 ≡ get_or xs k 0 → ⊥
      other ne j l (yes q) e =
          let at-k : get_or xs k 0 ≡ address_at s k = is_address k h (ok.slot k h) in
          let same : address_at s j ≡ address_at s k = sym (is_address j q (ok.slot j q)) ∙ e ∙ at-k in
          omega (arith, used-one s ok j k q h same (omega arith))
      other ne j l (no q) e = ne (sym e ∙ is_none j (omega arith))

      go : Dec (get_or xs k 0 ≡ 0) → alone xs k ≡ true
      go (yes z) = ap (λ (b : Bool). b || all (differs xs k) slots (k + 1)) (eq-eqb (get_or xs k 0) 0 z)
      go (no ne) =
          ap₂ ◌||◌ (ne_eqb (get_or xs k 0) 0 ne)
          (all-each (differs xs k) slots (k + 1) (λ j l m. ap not (ne_eqb (get_or xs j 0) (get_or xs k 0) (other ne j l (dec_lt j slots)))))

  pub good-apart : (n : ℕ) → n ≡ setting s → ((all (good_slot_at s) slots 0 && all (alone xs) slots 0) && leb n most_flips) ≡ good s
  good-apart n q =
      let slots-so = all (good_slot_at s) slots 0 in
      let apart-so = all (alone xs) slots 0 in
      ap (λ (x : ℕ). (slots-so && apart-so) && leb x most_flips) q
      ∙ same_truth ((slots-so && apart-so) && leb (setting s) most_flips) (good s)
      (λ e. let both = and_left (slots-so && apart-so) _ e in
      each-good s (to-good (and_left slots-so _ both) (and_right slots-so _ both) (leb-true (setting s) most_flips (and_right (slots-so && apart-so) _ e))))
      (λ e. let ok = good-each s e in
      ap₂ ◌&&◌ (ap₂ ◌&&◌ (all-each (good_slot_at s) slots 0 (λ k l h. ok.slot k h)) (all-each (alone xs) slots 0 (λ k l h. from-good ok k h)))
      (le-leb (setting s) most_flips ok.setting))
