-- What the map is asked: the code's tests against the definitions.
--
--   structure-lent           the part that is lent of a structure is the structure
--   force-lent, coming-lent, faults-both    what is wrong with a component's two heads
--   faults-next, faults-end    a turn and the end of the loop over all components
--   count-on, count-end      a turn and the end of a loop that counts components
--   take-fit, map-size, field-size    the lengths where a field is not refused with 20
--   which-lt                 a component has two structures
--   mark-back                a mark that is 0 or 1, as a test and back
--   heard-*, then-counted, known-*    what was heard of a component, and how far it reaches; with the marks as tests
--
-- Assumes nothing.
use mathlib.Core.Path.{◌≡◌, sym, ap, ap₂, ◌∙◌}
use mathlib.Core.Bool.{Bool, true, false, cond, not, ◌&&◌, ◌||◌, and_assoc}
use mathlib.Core.List.{List, []}
use Prim.Native.Nat.{ℕ, suc, ◌+◌, ◌-◌, ◌*◌, ◌≤◌, ◌<◌}
use native.Mathlib.Omega.{arith}
use native.Mathlib.Decide.{ℕ_discrete}
use native.Mathlib.Nat.{add_assoc, add-zero}
use borrow.Author.Tests.{eq-eqb, ne_eqb, eqb-true, leb-true, not-false}
use lib.Bits.{bit_or}
use lib.Dec.{leb, ltb, eqb, lit<}
use lib.ListN.{length, take, drop}
use Rattle.bits.specs.Search.{all}
use Rattle.bits.proofs.Rows.{refusal-passed}
use Rattle.bits.proofs.Search.{neither, and_right, all-next, all_end}
use Rattle.runs.specs.Part.{part}
use Rattle.field.specs.Field.{field_size}
use Rattle.structure.specs.Structure.{structure_size, all_ones, head_of, nth, stored, said, good_head}
use Rattle.structure.proofs.Faults.{or-test}
use Rattle.frames.specs.Counts.{good_frames, changing}
use Rattle.map.specs.Map.{ids, map_size, block_size, frames_of, structure_at, in_force, announced, good_at, good, counted}
use Rattle.map.specs.Answers.{Gathered, Reach}
use Rattle.map.specs.Calls.{take_rows, take_answer, show_answer, then_which, then_head, heard_len, heard_at, in_force_then, known_at}
use Rattle.structure.specs.declared.Structure.{Structure}
use Rattle.frames.specs.declared.Frames.{Frames}

-- ---- structures

pub structure-lent : (k w : ℕ) (m : List ℕ)
    → take (k * block_size + w * structure_size + structure_size - (k * block_size + w * structure_size)) (drop (k * block_size + w * structure_size) m)
    ≡ structure_at k w m
unfolding structure_at part
structure-lent k w m =
    let n : k * block_size + w * structure_size + structure_size - (k * block_size + w * structure_size) ≡ structure_size = omega arith in
    ap (λ (x : ℕ). take x (drop (k * block_size + w * structure_size) m)) n

-- ---- good

-- a component's two heads, lent one after the other
module _ (k : ℕ) (m : List ℕ) where
  pub force-lent : take (k * block_size + structure_size - k * block_size) (drop (k * block_size) m) ≡ structure_at k 0 m
  unfolding structure_at part
  force-lent =
      let n : k * block_size + structure_size - k * block_size ≡ structure_size = omega arith in
      let a : k * block_size ≡ k * block_size + 0 * structure_size = omega arith in
      ap₂ (λ (x y : ℕ). take x (drop y m)) n a

  pub coming-lent : take (k * block_size + block_size - (k * block_size + structure_size)) (drop (k * block_size + structure_size) m) ≡ structure_at k 1 m
  unfolding structure_at part
  coming-lent =
      let n : k * block_size + block_size - (k * block_size + structure_size) ≡ structure_size = omega arith in
      let a : k * block_size + structure_size ≡ k * block_size + 1 * structure_size = omega arith in
      ap₂ (λ (x y : ℕ). take x (drop y m)) n a

  pub faults-both : (f c : ℕ) (p q : List ℕ) → eqb f 0 ≡ (good_head (head_of p) && eqb (head_of p).deleted 0) → eqb c 0 ≡ good_head (head_of q)
      → p ≡ structure_at k 0 m → q ≡ structure_at k 1 m → eqb (bit_or f c) 0 ≡ good_at m k
  unfolding good_at in_force announced
  faults-both f c p q ef ec ep eq =
      or-test f c ∙ ap₂ ◌&&◌ ef ec ∙ and_assoc (good_head (head_of p)) (eqb (head_of p).deleted 0) (good_head (head_of q))
      ∙ ap₂ (λ (x y : List ℕ). good_head (head_of x) && (eqb (head_of x).deleted 0 && good_head (head_of y))) ep eq

-- the fold over the components, of which `so` is what the frames say
module _ (m : List ℕ) (so : Bool) (n : ℕ) (k : ℕ) where
  pub faults-next : (f : ℕ) → k < ids → eqb f 0 ≡ good_at m k → ((so && eqb n 0) && all (good_at m) (ids - k) k) ≡ good m
      → ((so && eqb (bit_or n f) 0) && all (good_at m) (ids - (k + 1)) (k + 1)) ≡ good m
  faults-next f h g e =
      all-next (good_at m) (so && eqb n 0) (good m) (ids - k) k (so && eqb (bit_or n f) 0) (ids - (k + 1)) (k + 1) (omega arith) (omega arith)
      (ap (λ (b : Bool). so && b) (or-test n f ∙ ap (λ (b : Bool). eqb n 0 && b) g) ∙ sym (and_assoc so (eqb n 0) (good_at m k))) e

  pub faults-end : ids ≤ k → ((so && eqb n 0) && all (good_at m) (ids - k) k) ≡ good m → (so && eqb n 0) ≡ good m
  faults-end h e = all_end (good_at m) (so && eqb n 0) (good m) (ids - k) k (omega arith) e

-- ---- the loop that counts them

-- n counted so far, and those from k on
abbrev pub counts : (ℕ → Bool) → ℕ → ℕ → ℕ
counts p n k = n + counted p (ids - k) k

module _ (p : ℕ → Bool) (k n total : ℕ) where
  pub count-on : k < ids → counts p n k ≡ total → (b : Bool) → b ≡ p k → (next : ℕ) → next ≡ n + cond b 1 0 → counts p next (k + 1) ≡ total
  unfolding counted
  count-on h e b eb next en =
      let more : ids - k ≡ suc (ids - (k + 1)) = omega arith in
      let on : k + 1 ≡ suc k = omega arith in
      ap₂ (λ (x y : ℕ). x + counted p (ids - (k + 1)) y) (en ∙ ap (λ (x : Bool). n + cond x 1 0) eb) on
      ∙ add_assoc n (cond (p k) 1 0) (counted p (ids - (k + 1)) (suc k))
      ∙ sym (ap (λ (x : ℕ). n + counted p x k) more) ∙ e

  pub count-end : ids ≤ k → counts p n k ≡ total → n ≡ total
  unfolding counted
  count-end h e =
      let none : ids - k ≡ 0 = omega arith in
      sym (add-zero n) ∙ sym (ap (λ (x : ℕ). n + counted p x k) none) ∙ e

-- ---- a field taken in, row by row

module _ (m f : List ℕ) where
  abbrev wrong : Bool
  wrong = not (eqb (length m) map_size) || not (eqb (length f) field_size)

  pub take-fit : take_answer m f ≡ 0 → wrong ≡ false
  unfolding take_answer take_rows
  take-fit e = (refusal-passed wrong 20 _ (omega arith) e).0

  module _ (fit : wrong ≡ false) where
    pub map-size : length m ≡ map_size
    map-size = eqb-true (length m) map_size (not-false (eqb (length m) map_size) (neither (not (eqb (length m) map_size)) (not (eqb (length f) field_size)) fit).0)

    pub field-size : length f ≡ field_size
    field-size = eqb-true (length f) field_size (not-false (eqb (length f) field_size) (neither (not (eqb (length m) map_size)) (not (eqb (length f) field_size)) fit).1)

-- ---- of which structure

pub which-lt : (m : List ℕ) (id count : ℕ) → then_which m id count < 2
unfolding then_which
which-lt m id count = go (changing (frames_of m) count && said (announced id m))
  where
    go : (b : Bool) → cond b 1 0 < 2
    go true = lit< tt
    go false = lit< tt

-- ---- what was heard

module _ (h : Structure) (s : List ℕ) (x : ℕ) (ex : x ≡ nth 0 s) where
  by_ones : (b : Bool) → eqb x all_ones ≡ b → cond b 0 (8 * stored h) ≡ heard_len h s
  unfolding heard_len
  by_ones b e = ap (λ (y : Bool). cond y 0 (8 * stored h)) (sym e ∙ ap (λ (y : ℕ). eqb y all_ones) ex)

  pub heard-spoiled : x ≡ all_ones → 0 ≡ heard_len h s
  heard-spoiled e = by_ones true (eq-eqb x all_ones e)

  pub heard-fields : (x ≡ all_ones → ⊥) → (n : ℕ) → n ≡ stored h → 8 * n ≡ heard_len h s
  heard-fields ne n en = ap (λ (y : ℕ). 8 * y) en ∙ by_ones false (ne_eqb x all_ones ne)

-- a mark that is 0 or 1, as a test and back
pub mark-back : (n : ℕ) → n ≤ 1 → cond (eqb n 1) 1 0 ≡ n
mark-back n h = go (ℕ_discrete n 1)
  where
    go : Dec (n ≡ 1) → cond (eqb n 1) 1 0 ≡ n
    go (yes e) = ap (λ (b : Bool). cond b 1 0) (eq-eqb n 1 e) ∙ sym e
    go (no ne) = ap (λ (b : Bool). cond b 1 0) (ne_eqb n 1 ne) ∙ omega (arith, ne)

module _ (m : List ℕ) (id count w len : ℕ) (h : Structure) (ew : w ≡ then_which m id count) (eh : h ≡ then_head m id count)
    (el : len ≡ heard_len h (structure_at id w m)) where
  pub heard-then : (b : Bool) → eqb len 0 ≡ b → (a : ℕ) → a ≡ cond b 0 (id * block_size + w * structure_size + 7)
      → record { number = 0; at = a; len = len; whole = h.whole } ≡ heard_at m id count
  unfolding heard_at
  heard-then b eb a ea =
      (λ i. record {
        number = 0;
        at = (ea ∙ ap (λ (x : Bool). cond x 0 (id * block_size + w * structure_size + 7)) (sym eb)) i;
        len = len;
        whole = h.whole;
      })
      ∙ (λ i. record { number = 0; at = cond (eqb (el i) 0) 0 (id * block_size + w * structure_size + 7); len = el i; whole = h.whole })
      ∙ (λ i. record {
        number = 0;
        at = cond (eqb (heard_len (eh i) (structure_at id (ew i) m)) 0) 0 (id * block_size + ew i * structure_size + 7);
        len = heard_len (eh i) (structure_at id (ew i) m);
        whole = (eh i).whole;
      })

-- a map that is not refused is good
pub shown-good : (m : List ℕ) → show_answer m ≡ 0 → good m ≡ true
unfolding show_answer
shown-good m e =
    let size = refusal-passed (not (eqb (length m) map_size)) 20 _ (omega arith) e in
    not-false (good m) (refusal-passed (not (good m)) 34 [] (omega arith) size.1).0

-- its mark as a test, where it is 0 or 1
pub heard-tested : (x g : Gathered) → x ≡ g → g.number ≡ 0 → g.whole ≤ 1
    → record { number = 0; at = x.at; len = x.len; whole = cond (eqb x.whole 1) 1 0 } ≡ g
heard-tested x g e z small =
    let bit : cond (eqb x.whole 1) 1 0 ≡ g.whole = mark-back x.whole (omega (arith, ap (λ (y : Gathered). y.whole) e)) ∙ ap (λ (y : Gathered). y.whole) e in
    λ i. record { number = sym z i; at = (e i).at; len = (e i).len; whole = bit i }

-- ---- how far it reaches

pub then-counted : (m : List ℕ) (count k : ℕ) (h : Structure) → h ≡ then_head m k count → ltb 0 h.fields ≡ in_force_then m count k
unfolding in_force_then
then-counted m count k h e = ap (λ (x : Structure). ltb 0 x.fields) e

pub known-then : (m : List ℕ) (count n : ℕ) (f : Frames) → f ≡ frames_of m → n ≡ counted (in_force_then m count) ids 0
    → record { number = 0; row = f.row; unbroken = f.unbroken; components = n } ≡ known_at m count
unfolding known_at
known-then m count n f ef en = λ i. record { number = 0; row = (ef i).row; unbroken = (ef i).unbroken; components = en i }

pub known-tested : (m : List ℕ) (count : ℕ) (x : Reach) → x ≡ known_at m count → good_frames (frames_of m) ≡ true
    → record { number = 0; row = x.row; unbroken = cond (eqb x.unbroken 1) 1 0; components = x.components } ≡ known_at m count
unfolding known_at good_frames
known-tested m count x e g =
    let h = frames_of m in
    let small : h.unbroken ≤ 1 = leb-true h.unbroken 1 (and_right (leb h.heard 1) (leb h.unbroken 1) g) in
    let same : x.unbroken ≡ h.unbroken = ap (λ (y : Reach). y.unbroken) e in
    let bit : cond (eqb x.unbroken 1) 1 0 ≡ h.unbroken = mark-back x.unbroken (omega (arith, same)) ∙ same in
    λ i. record { number = 0; row = (e i).row; unbroken = bit i; components = (e i).components }
