-- Laws of the packet call's rows.
--
--   followed-both, both-followed     followed: an address above 0 that a slot has
--   Placed s image                   no row of 20, 34, 21, 49 and 27 holds
--   placed, placed-zero              exactly then nothing is refused before the slot is asked
--   size-refused, spare-refused      20 where the image is not 94 bytes, 21 where its spare bit is set
--   beyond-refused                   49 where its header has more flips than the setting
--   answered-refused, answered-passed     what a number that refuses makes of an answer, and what 0 does
--   packet-number                    the call's number is its answer's
--   packet-refused, packet-placed    the call's number with the state after it, by these rows
--
-- Assumes nothing.
use mathlib.Core.Path.{◌≡◌, refl, ap, ap₂, ◌∙◌}
use mathlib.Core.Bool.{true, false, not, ◌&&◌}
use mathlib.Core.List.{List, [], ◌∷◌}
use Prim.Native.Nat.{ℕ, zero, suc, ◌≤◌, ◌<◌}
use native.Mathlib.Omega.{arith}
use borrow.Author.Tests.{not-false, eqb-true, eq-eqb, ne_eqb, lt-ltb, le-ltb, ltb-true, ltb-false}
use lib.Dec.{ltb, eqb}
use lib.ListN.{length}
use Rattle.bits.specs.Rows.{row, refusal, given, further}
use Rattle.bits.proofs.Rows.{refusal-hit, refusal-miss, refusal-passed, refusal-none, further-refused, further-passed, done_refused, done-passed}
use Rattle.bits.proofs.Search.{and_left, and_right}
use Rattle.image.specs.Image.{spare_of}
use Rattle.table.specs.State.{slots, setting, find}
use Rattle.table.proofs.Looking.{Passed, past-state, state-rest}
use Rattle.group.specs.declared.Answer.{Answer}
use Rattle.adapter.specs.Calls.{address_of, flips_of, beyond, followed, place_rows, unplaced, slot_answer, slot_after, refused_answer, answered_by, packet_answered, packet_answer, packet_after}

pub followed-both : (s : List ℕ) (a : ℕ) → followed s a ≡ true → (0 < a) × (find s a < slots)
unfolding followed
followed-both s a e = (ltb-true 0 a (and_left (ltb 0 a) _ e), ltb-true (find s a) slots (and_right (ltb 0 a) _ e))

pub both-followed : (s : List ℕ) (a : ℕ) → 0 < a → find s a < slots → followed s a ≡ true
unfolding followed
both-followed s a h k = ap₂ ◌&&◌ (lt-ltb 0 a h) (lt-ltb (find s a) slots k)

pub record Placed (s image : List ℕ) : Type 0 where
  pub size : length image ≡ 94
  pub state : Passed s
  pub spare : eqb (spare_of image) 1 ≡ false
  pub within : flips_of image ≤ setting s
  pub place : followed s (address_of image) ≡ true

pub placed : (s image : List ℕ) → unplaced s image ≡ 0 → Placed s image
unfolding unplaced beyond
placed s image e =
    let r20 = refusal-passed (not (eqb (length image) 94)) 20 _ (omega arith) e in
    let rest = past-state s _ r20.1 in
    let r21 = refusal-passed (eqb (spare_of image) 1) 21 _ (omega arith) rest.1 in
    let r49 = refusal-passed (beyond s image) 49 _ (omega arith) r21.1 in
    let r27 = refusal-passed (not (followed s (address_of image))) 27 [] (omega arith) r49.1 in
    record {
      size = eqb-true (length image) 94 (not-false (eqb (length image) 94) r20.0);
      state = rest.0;
      spare = r21.0;
      within = ltb-false (setting s) (flips_of image) r49.0;
      place = not-false (followed s (address_of image)) r27.0;
    }

-- past the rows of lengths and of the state
past : (s image : List ℕ) → length image ≡ 94 → Passed s → unplaced s image ≡ refusal (row (eqb (spare_of image) 1) 21 ∷ place_rows s image)
unfolding unplaced
past s image l p =
    refusal-miss (not (eqb (length image) 94)) 20 _ (ap not (eq-eqb (length image) 94 l)) ∙ state-rest s _ p.size p.all-good

pub placed-zero : (s image : List ℕ) → Placed s image → unplaced s image ≡ 0
unfolding beyond
placed-zero s image p =
    past s image p.size p.state ∙ refusal-miss (eqb (spare_of image) 1) 21 _ p.spare
    ∙ refusal-miss (beyond s image) 49 _ (le-ltb (setting s) (flips_of image) p.within)
    ∙ refusal-miss (not (followed s (address_of image))) 27 [] (ap not p.place) ∙ refusal-none

pub size-refused : (s image : List ℕ) → (length image ≡ 94 → ⊥) → unplaced s image ≡ 20
unfolding unplaced
size-refused s image ne = refusal-hit (not (eqb (length image) 94)) 20 _ (ap not (ne_eqb (length image) 94 ne))

pub spare-refused : (s image : List ℕ) → length image ≡ 94 → Passed s → spare_of image ≡ 1 → unplaced s image ≡ 21
spare-refused s image l p e = past s image l p ∙ refusal-hit (eqb (spare_of image) 1) 21 _ (eq-eqb (spare_of image) 1 e)

pub beyond-refused : (s image : List ℕ) → length image ≡ 94 → Passed s → eqb (spare_of image) 1 ≡ false → setting s < flips_of image → unplaced s image ≡ 49
unfolding beyond
beyond-refused s image l p e h =
    past s image l p ∙ refusal-miss (eqb (spare_of image) 1) 21 _ e ∙ refusal-hit (beyond s image) 49 _ (lt-ltb (setting s) (flips_of image) h)

pub answered-refused : (n : ℕ) (x : Answer) → (n ≡ 0 → ⊥) → answered_by n x ≡ refused_answer n
unfolding given further
answered-refused zero x ne = absurd (ne refl)
answered-refused (suc n) x ne = refl

pub answered-passed : (n : ℕ) (x : Answer) → n ≡ 0 → answered_by n x ≡ x
unfolding given further
answered-passed n x z = ap (λ (m : ℕ). answered_by m x) z

module _ (s image : List ℕ) where
  pub packet-number : packet_answer s image ≡ (packet_answered s image).number
  unfolding packet_answer
  packet-number = refl

  pub packet-refused : (unplaced s image ≡ 0 → ⊥) → (packet_answer s image ≡ unplaced s image) × (packet_after s image ≡ s)
  unfolding packet_answer packet_after
  packet-refused ne = (further-refused (unplaced s image) _ ne, done_refused (unplaced s image) _ s ne)

  pub packet-placed : unplaced s image ≡ 0 → (packet_answer s image ≡ slot_answer s image) × (packet_after s image ≡ slot_after s image)
  unfolding packet_answer packet_after slot_answer
  packet-placed e = (further-passed (unplaced s image) _ e, done-passed (unplaced s image) _ s e)
