-- The head's bytes in a slot. `Below 256 s` says that each of s is a byte.
--
--   head-same, head_bytes-*     the head's bytes
--   singles                    those that are no part of a longer number
--   load_store, store-load     loading undoes storing, and storing loading
--   store-*, with_head-*        a store keeps the rooms and the length, and undoes an earlier one; it stores bytes
--
-- Assumes nothing.
use mathlib.Core.Path.{◌≡◌, refl, sym, ap, ap₂, ◌∙◌}
use mathlib.Core.List.{List, [], ◌∷◌, ◌++◌}
use Prim.Native.Nat.{ℕ, zero, suc, ◌+◌, ◌%◌, ◌^◌, ◌≤◌, ◌<◌}
use native.Mathlib.Omega.{arith}
use lib.Dec.{lit<, lit≤}
use lib.ListN.{length, get_or}
use Rattle.bits.proofs.Runs.{Below, below-cat}
use Rattle.runs.specs.Part.{part, put}
use Rattle.runs.specs.Numbers.{four, four_at}
use Rattle.runs.proofs.Parts.{part-cons, part-cat, get_d_part, put-length, part-put, part-put-before, put-put, put-part, put-below}
use Rattle.runs.proofs.Numbers.{four_below, four_at-part, four_at-four, four-four_at}
use Rattle.slot.specs.Slot.{head_at, head_size, room_size, slot_size, whole_at, head_of, head_bytes, with_head, unfinished, stored}
use Rattle.head.specs.declared.Head.{Head}

mod-small : (n : ℕ) → n < 256 → n % 256 ≡ n
mod-small n h = omega arith

-- what stands in a byte each, behind the three numbers
abbrev pub singles : Head → List ℕ
singles h = h.wish.protection % 256 ∷ h.awaited ∷ h.group ∷ h.gap ∷ []

-- the head's bytes as a head
abbrev read : List ℕ → Head
read b = record {
  wish = record { address = four_at 0 b; limit = four_at 4 b; protection = get_or b 12 0 };
  age = four_at 8 b;
  awaited = get_or b 13 0;
  group = get_or b 14 0;
  gap = get_or b 15 0;
}

head_read : (s : List ℕ) → head_of s ≡ read (part head_at head_size s)
unfolding head_of
head_read s =
    λ i. record {
      wish = record {
        address = four_at-part head_at 0 head_size s (lit≤ tt) i;
        limit = four_at-part head_at 4 head_size s (lit≤ tt) i;
        protection = sym (get_d_part head_at head_size 12 s (lit< tt)) i;
      };
      age = four_at-part head_at 8 head_size s (lit≤ tt) i;
      awaited = sym (get_d_part head_at head_size 13 s (lit< tt)) i;
      group = sym (get_d_part head_at head_size 14 s (lit< tt)) i;
      gap = sym (get_d_part head_at head_size 15 s (lit< tt)) i;
    }

-- these bytes alone say what the head is
pub head-same : (s t : List ℕ) → part head_at head_size s ≡ part head_at head_size t → head_of s ≡ head_of t
head-same s t e = head_read s ∙ ap read e ∙ sym (head_read t)

pub head_bytes-length : (h : Head) → length (head_bytes h) ≡ head_size
unfolding head_bytes four
head_bytes-length h = refl

pub load_store : (h : Head) (s : List ℕ) → length s ≡ slot_size → h.wish.address < 2 ^ 32 → h.wish.limit < 2 ^ 32
    → h.wish.protection < 256 → h.age < 2 ^ 32 → head_of (with_head h s) ≡ h
unfolding with_head head_bytes four four_at
load_store h s l ha hl hp hg =
    head_read (with_head h s) ∙ ap read (part-put head_at head_size (head_bytes h) s (omega arith) refl)
    ∙ (λ i. record {
      wish = record {
        address = four_at-four h.wish.address [] ha i;
        limit = four_at-four h.wish.limit [] hl i;
        protection = mod-small h.wish.protection hp i;
      };
      age = four_at-four h.age [] hg i;
      awaited = h.awaited;
      group = h.group;
      gap = h.gap;
    })

-- the bytes from a place on, one by one
abbrev bytes_at : ℕ → ℕ → List ℕ → List ℕ
bytes_at at zero s = []
bytes_at at (suc n) s = get_or s at 0 ∷ bytes_at (at + 1) n s

bytes-part : (at n : ℕ) (s : List ℕ) → at + n ≤ length s → bytes_at at n s ≡ part at n s
unfolding part
bytes-part at zero s h = refl
bytes-part at (suc n) s h =
    ap (λ (x : List ℕ). get_or s at 0 ∷ x) (bytes-part (at + 1) n s (omega arith)) ∙ sym (part-cons at n s (omega arith))

pub head_bytes-part : (s : List ℕ) → length s ≡ slot_size → Below 256 s → head_bytes (head_of s) ≡ part head_at head_size s
unfolding head_bytes head_of part
head_bytes-part s l h =
    let n = length (singles (head_of s)) in
    let byte : (k : ℕ) → get_or s k 0 % 256 ≡ get_or s k 0 = λ k. mod-small (get_or s k 0) (h k) in
    let small : singles (head_of s) ≡ part (head_at + 12) n s =
    (λ i. byte (head_at + 12) i ∷ get_or s (head_at + 13) 0 ∷ get_or s (head_at + 14) 0 ∷ get_or s (head_at + 15) 0 ∷ [])
    ∙ bytes-part (head_at + 12) n s (omega arith) in
    ap₂ ◌++◌ (four-four_at head_at s (omega arith) h)
    (ap₂ ◌++◌ (four-four_at (head_at + 4) s (omega arith) h)
    (ap₂ ◌++◌ (four-four_at (head_at + 8) s (omega arith) h) small ∙ sym (part-cat (head_at + 8) 4 n s))
    ∙ sym (part-cat (head_at + 4) 4 (4 + n) s))
    ∙ sym (part-cat head_at 4 (8 + n) s)

pub store-load : (s : List ℕ) → length s ≡ slot_size → Below 256 s → with_head (head_of s) s ≡ s
unfolding with_head
store-load s l h = ap (λ (x : List ℕ). put head_at head_size x s) (head_bytes-part s l h) ∙ put-part head_at head_size s

pub with_head-length : (h : Head) (s : List ℕ) → length s ≡ slot_size → length (with_head h s) ≡ length s
unfolding with_head
with_head-length h s l = put-length head_at head_size (head_bytes h) s (omega arith) (head_bytes-length h)

pub store-unfinished : (h : Head) (s : List ℕ) → length s ≡ slot_size → unfinished (with_head h s) ≡ unfinished s
unfolding with_head unfinished
store-unfinished h s l = part-put-before head_at head_size (head_bytes h) s 0 room_size (omega arith) (lit≤ tt)

pub store_stored : (h : Head) (s : List ℕ) → length s ≡ slot_size → stored (with_head h s) ≡ stored s
unfolding with_head stored
store_stored h s l = part-put-before head_at head_size (head_bytes h) s whole_at room_size (omega arith) (lit≤ tt)

-- the later of two heads stays
pub store-store : (g h : Head) (s : List ℕ) → length s ≡ slot_size → with_head h (with_head g s) ≡ with_head h s
unfolding with_head
store-store g h s l = put-put head_at head_size (head_bytes g) s (head_bytes h) (omega arith) (head_bytes-length g)

module _ (h : Head) (ha : h.awaited < 256) (hg : h.group < 256) (hm : h.gap < 256) where
  pub head_bytes-below : Below 256 (head_bytes h)
  unfolding head_bytes
  head_bytes-below =
      below-cat (four h.wish.address) _ (four_below h.wish.address)
      (below-cat (four h.wish.limit) _ (four_below h.wish.limit)
      (below-cat (four h.age) _ (four_below h.age) last))
    where
      last : Below 256 (singles h)
      last zero = omega arith
      last (suc zero) = ha
      last (suc (suc zero)) = hg
      last (suc (suc (suc zero))) = hm
      last (suc (suc (suc (suc k)))) = lit< tt

  pub with_head-below : (s : List ℕ) → Below 256 s → Below 256 (with_head h s)
  unfolding with_head
  with_head-below s b = put-below head_at head_size (head_bytes h) s head_bytes-below b
