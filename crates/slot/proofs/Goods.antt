-- Free slots and good slots.
--
--   free-blank, blank-free, head-blank     free slots
--   good-free, good-slot, good-cases, good-small       good slots; good-used: one with a good head is not free
--   good-load, good-store                  a good head stored: read back as it was, and the slot is good
--
-- Assumes nothing.
use mathlib.Core.Path.{◌≡◌, refl, sym, ap, ap₂, ◌∙◌}
use mathlib.Core.Logic.{◌⊎◌, inl, inr}
use mathlib.Core.Bool.{Bool, true, false, ◌||◌, or-true}
use mathlib.Core.List.{List, [], ◌∷◌}
use Prim.Native.Nat.{ℕ, zero, suc, ◌+◌, ◌≤◌}
use native.Mathlib.Omega.{arith}
use lib.Dec.{eqb}
use lib.ListN.{length, get_or}
use borrow.Author.Tests.{eqb-true}
use Rattle.bits.specs.Bits.{blank}
use Rattle.bits.proofs.Runs.{Below}
use Rattle.bits.proofs.Search.{and_left, and_right}
use Rattle.runs.specs.Numbers.{four_at}
use Rattle.runs.proofs.Parts.{blank-at}
use Rattle.head.specs.Head.{free_head, good_wish, good_head}
use Rattle.head.specs.declared.Head.{Head}
use Rattle.head.proofs.Bounds.{wish-bounds, good-bounds}
use Rattle.slot.specs.Slot.{head_at, slot_size, head_of, with_head, free, good_slot}
use Rattle.slot.proofs.Heads.{load_store, with_head-below}

pub free-blank : (s : List ℕ) → free s ≡ true → s ≡ blank (length s)
unfolding free blank
free-blank [] e = refl
free-blank (b ∷ s) e =
    ap₂ ◌∷◌ (eqb-true b 0 (and_left (eqb b 0) (free s) e)) (free-blank s (and_right (eqb b 0) (free s) e))

pub blank-free : (n : ℕ) → free (blank n) ≡ true
unfolding free blank
blank-free zero = refl
blank-free (suc n) = blank-free n

pub head-blank : (n : ℕ) → head_of (blank n) ≡ free_head
unfolding head_of four_at
head-blank n =
    let z : (k : ℕ) → get_or (blank n) k 0 ≡ 0 = blank-at n in
    let q : (k : ℕ) → four_at k (blank n) ≡ 0 = λ k. omega (arith, z k, z (k + 1), z (k + 2), z (k + 3)) in
    λ i. record {
      wish = record { address = q head_at i; limit = q (head_at + 4) i; protection = z (head_at + 12) i };
      age = q (head_at + 8) i;
      awaited = z (head_at + 13) i;
      group = z (head_at + 14) i;
      gap = z (head_at + 15) i;
    }

pub good-free : (n : ℕ) → good_slot (blank n) ≡ true
unfolding good_slot
good-free n = ap (λ (x : Bool). x || good_head (head_of (blank n))) (blank-free n)

pub good-slot : (s : List ℕ) → good_head (head_of s) ≡ true → good_slot s ≡ true
unfolding good_slot
good-slot s e = ap (λ (x : Bool). free s || x) e ∙ or-true (free s)

pub good-cases : (s : List ℕ) → good_slot s ≡ true → (s ≡ blank (length s)) ⊎ (good_head (head_of s) ≡ true)
unfolding good_slot
good-cases s e = go (free s) refl e
  where
    go : (a : Bool) → free s ≡ a → (a || good_head (head_of s)) ≡ true → (s ≡ blank (length s)) ⊎ (good_head (head_of s) ≡ true)
    go true p e = inl (free-blank s p)
    go false p e = inr e

-- the address of a good slot, used or free
pub good-small : (s : List ℕ) → good_slot s ≡ true → (head_of s).wish.address ≤ 1022
good-small s e = go (good-cases s e)
  where
    go : (s ≡ blank (length s)) ⊎ (good_head (head_of s) ≡ true) → (head_of s).wish.address ≤ 1022
    go (inl b) = omega (arith, ap (λ (x : List ℕ). (head_of x).wish.address) b, ap (λ (h : Head). h.wish.address) (head-blank (length s)))
    go (inr g) = (wish-bounds (head_of s).wish (good-bounds (head_of s) g).wish).address-to

-- a good head is stored and read back, and makes a good slot
module _ (h : Head) (e : good_head h ≡ true) (s : List ℕ) where
  pub good-load : length s ≡ slot_size → head_of (with_head h s) ≡ h
  good-load l =
      let b = good-bounds h e in
      let w = wish-bounds h.wish b.wish in
      load_store h s l (omega arith) (omega arith) (omega arith) (omega arith)

  pub good-store : length s ≡ slot_size → good_slot (with_head h s) ≡ true
  good-store l = good-slot (with_head h s) (ap good_head (good-load l) ∙ e)

  pub good-store-below : Below 256 s → Below 256 (with_head h s)
  good-store-below k =
      let b = good-bounds h e in
      with_head-below h (omega arith) (omega arith) (omega arith) s k

-- and such a slot is not free
pub good-used : (s : List ℕ) → good_head (head_of s) ≡ true → free s ≡ false
unfolding good_head good_wish
good-used s e = go (free s) refl
  where
    go : (a : Bool) → free s ≡ a → a ≡ false
    go false p = refl
    go true p = sym e ∙ ap (λ (x : List ℕ). good_head (head_of x)) (free-blank s p) ∙ ap good_head (head-blank (length s))
