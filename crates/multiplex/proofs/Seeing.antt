-- What is shown of a component, by the structures that the map has of it.
--
--   Force s xs              a structure's bytes hold what is in force: nothing, or a whole structure
--   Seen m id count xs      asked for a count, the map shows a component's fields, with number 0
--   seen-force              by the structure in force
--   seen-coming, seen-deleted    by the announced one
--
-- Assumes nothing.
use mathlib.Core.Path.{◌≡◌, refl, sym, ap, ap₂, ◌∙◌}
use mathlib.Core.Bool.{Bool, true, false, cond, not, ◌&&◌}
use mathlib.Core.List.{List, [], ◌∷◌}
use mathlib.Core.Logic.{◌⊎◌, inl, inr}
use Prim.Native.Nat.{ℕ, suc, ◌+◌, ◌*◌, ◌/◌, ◌≤◌, ◌<◌}
use native.Mathlib.Omega.{arith}
use borrow.Author.Tests.{eq-eqb, lt-ltb, le-leb, le-ltb}
use lib.Dec.{ltb, leb, eqb}
use lib.ListN.{length, get_or}
use Rattle.bits.proofs.Rows.{refusal-miss, refusal-none}
use Rattle.runs.specs.Part.{part}
use Rattle.runs.proofs.Parts.{part-part}
use Rattle.runs.specs.Numbers.{eight_at}
use Rattle.runs.proofs.Numbers.{eight_at-part}
use Rattle.structure.specs.Structure.{most, structure_size, head_of, nth, said, complete, settled_head}
use Rattle.structure.specs.declared.Structure.{Structure}
use Rattle.structure.proofs.Gathering.{Holds, Empty}
use Rattle.frames.specs.Counts.{changing, all_heard}
use Rattle.map.specs.Map.{map_size, block_size, structure_at, frames_of, good, in_force, announced}
use Rattle.map.specs.Calls.{then_which, then_head, then_number, found_of, shown_at, show_answer, shown_by, shown}
use Rattle.map.specs.Answers.{Shown}
use Rattle.multiplex.specs.Heard.{fields_from, shown_fields}

-- ---- what is shown

-- the fields of a list, where they stand in the map
listed : (xs m : List ℕ) (at : ℕ) → ((i : ℕ) → i < length xs → eight_at (at + 8 * i) m ≡ get_or xs i 0) → fields_from (length xs) at m ≡ xs
unfolding fields_from
listed [] m at h = refl
listed (x ∷ xs) m at h =
    ap₂ (λ (y : ℕ) (ys : List ℕ). y ∷ ys) (ap (λ (k : ℕ). eight_at k m) zero-place ∙ h 0 (omega arith))
    (listed xs m (at + 8) (λ i hi. ap (λ (k : ℕ). eight_at k m) (next_place i) ∙ h (suc i) (omega arith)))
  where
    zero-place : at ≡ at + 8 * 0
    zero-place = omega arith

    next_place : (i : ℕ) → at + 8 + 8 * i ≡ at + 8 * suc i
    next_place i = omega arith

-- a field of a structure stands in the map
nth-place : (m : List ℕ) (k v i : ℕ) → i < 8 → nth i (structure_at k v m) ≡ eight_at (k * block_size + v * structure_size + 7 + 8 * i) m
unfolding structure_at nth
nth-place m k v i hi =
    let at : ℕ = k * block_size + v * structure_size in
    let place : at + (7 + 8 * i) ≡ at + 7 + 8 * i = omega arith in
    eight_at-part (7 + 8 * i) (part at structure_size m)
    ∙ ap (eight_at 0) (part-part (7 + 8 * i) 8 at structure_size m (omega arith) ∙ ap (λ (x : ℕ). part x 8 m) place)
    ∙ sym (eight_at-part (at + 7 + 8 * i) m)

-- what is in force: nothing, or a whole structure
pub data Force (s xs : List ℕ) : Type 0 where
  absent : xs ≡ [] → Empty s → Force s xs
  present : (l : ℕ) → l ≤ 1 → 0 < length xs → Holds s (length xs) xs 1 l → Force s xs

pub record Seen (m : List ℕ) (id count : ℕ) (xs : List ℕ) : Type 0 where
  pub number : (shown m id count).number ≡ 0
  pub fields : shown_fields m id count ≡ xs

module _ (m : List ℕ) (id count : ℕ) (lm : length m ≡ map_size) (gm : good m ≡ true) where
  answered : show_answer m ≡ 0
  unfolding show_answer
  answered = refusal-miss _ 20 _ (ap not (eq-eqb (length m) map_size lm)) ∙ refusal-miss _ 34 _ (ap not gm) ∙ refusal-none

  pub shown-is : shown m id count ≡ shown_at m id count
  unfolding shown shown_by
  shown-is = ap (λ (n : ℕ). shown_by n (shown_at m id count)) answered

  -- there is no such component
  module _ (h : Structure) (is : then_head m id count ≡ h) (f : h.fields ≡ 0) (o : h.whole ≡ 0) where
    empty-number : (shown m id count).number ≡ 0
    unfolding shown_at found_of then_number
    empty-number =
        ap (λ (x : Shown). x.number) shown-is ∙ ap then_number is ∙ (λ i. cond (ltb 0 (f i) && eqb (o i) 0) 46 0)

    empty-fields : shown_fields m id count ≡ []
    unfolding shown_fields fields_from shown_at found_of
    empty-fields =
        ap (λ (x : Shown). fields_from (x.len / 8) x.at m) shown-is
        ∙ ap (λ (x : ℕ). fields_from (x / 8) (shown_at m id count).at m)
        (ap (λ (x : Structure). cond (eqb x.whole 1) (8 * x.fields) 0) is ∙ (λ i. cond (eqb (o i) 1) (8 * h.fields) 0))

  -- a whole structure
  module _ (h : Structure) (v : ℕ) (xs : List ℕ) (is : then_head m id count ≡ h) (which : then_which m id count ≡ v)
      (o : h.whole ≡ 1) (f : h.fields ≡ length xs) (few : length xs ≤ most)
      (each : (i : ℕ) → i < length xs → nth i (structure_at id v m) ≡ get_or xs i 0) where
    whole-number : (shown m id count).number ≡ 0
    unfolding shown_at found_of then_number
    whole-number =
        ap (λ (x : Shown). x.number) shown-is ∙ ap then_number is ∙ number-none (ltb 0 h.fields) (ap (λ (x : ℕ). eqb x 0) o)
      where
        number-none : {y : Bool} (x : Bool) → y ≡ false → ◌≡◌ {A = ℕ} (cond (x && y) 46 0) 0
        number-none true e = ap (λ (u : Bool). cond {A = ℕ} u 46 0) e
        number-none false e = refl

    whole_fields : shown_fields m id count ≡ xs
    unfolding shown_fields shown_at found_of
    whole_fields =
        let len : (shown_at m id count).len ≡ 8 * length xs =
        ap (λ (x : Structure). cond (eqb x.whole 1) (8 * x.fields) 0) is ∙ (λ i. cond (eqb (o i) 1) (8 * f i) 0) in
        let at : (shown_at m id count).at ≡ id * block_size + v * structure_size + 7 =
        ap₂ (λ (x : Structure) (y : ℕ). cond (eqb x.whole 1) (id * block_size + y * structure_size + 7) 0) is which
        ∙ (λ i. cond (eqb (o i) 1) (id * block_size + v * structure_size + 7) 0) in
        let eighth : 8 * length xs / 8 ≡ length xs = omega arith in
        ap (λ (x : Shown). fields_from (x.len / 8) x.at m) shown-is
        ∙ ap₂ (λ (x y : ℕ). fields_from (x / 8) y m) len at
        ∙ ap (λ (x : ℕ). fields_from x (id * block_size + v * structure_size + 7) m) eighth
        ∙ listed xs m (id * block_size + v * structure_size + 7)
        (λ i hi. sym (nth-place m id v i (omega arith)) ∙ each i hi)

  -- ---- which structure is shown

  -- no change falls before the frame that is asked for, or none is announced
  module _ (q : (changing (frames_of m) count && said (announced id m)) ≡ false) where
    pub which-force : then_which m id count ≡ 0
    unfolding then_which
    which-force = ap (λ (x : Bool). cond x 1 0) q

    pub head-force : then_head m id count ≡ head_of (structure_at id 0 m)
    unfolding then_head in_force
    head-force =
        ap (λ (x : ℕ). cond (eqb x 1) (settled_head (all_heard (frames_of m)) (announced id m)) (head_of (structure_at id 0 m))) which-force

    pub seen-force : (xs : List ℕ) → length xs ≤ most → Force (structure_at id 0 m) xs → Seen m id count xs
    seen-force xs few (absent z e) = record {
      number = empty-number (head_of (structure_at id 0 m)) head-force e.fields e.whole;
      fields = empty-fields (head_of (structure_at id 0 m)) head-force e.fields e.whole ∙ sym z;
    }
    seen-force xs few (present l hl pos h) = record {
      number = whole-number (head_of (structure_at id 0 m)) 0 xs head-force which-force h.whole h.fields few h.each;
      fields = whole_fields (head_of (structure_at id 0 m)) 0 xs head-force which-force h.whole h.fields few h.each;
    }

  -- the announced one
  module _ (q : (changing (frames_of m) count && said (announced id m)) ≡ true) (su : Bool) (all : all_heard (frames_of m) ≡ su) where
    pub which-coming : then_which m id count ≡ 1
    unfolding then_which
    which-coming = ap (λ (x : Bool). cond x 1 0) q

    pub head-coming : then_head m id count ≡ settled_head su (head_of (structure_at id 1 m))
    unfolding then_head announced
    head-coming =
        (λ i. cond (eqb (which-coming i) 1) (settled_head (all i) (head_of (structure_at id 1 m))) (in_force id m))

    -- nothing of it is missing, or it was known to be whole
    pub seen-coming : (xs : List ℕ) (w l : ℕ) → (su ≡ true × (head_of (structure_at id 1 m)).late ≡ 0) ⊎ (w ≡ 1) → 0 < length xs → length xs ≤ most
        → Holds (structure_at id 1 m) (length xs) xs w l → Seen m id count xs
    unfolding settled_head complete
    seen-coming xs w l known pos few h = record {
      number = whole-number g 1 xs head-coming which-coming (marked known) h.fields few h.each;
      fields = whole_fields g 1 xs head-coming which-coming (marked known) h.fields few h.each;
    }
      where
        a : Structure
        a = head_of (structure_at id 1 m)

        g : Structure
        g = settled_head su a

        fits : (ltb 0 a.fields && leb a.fields most) ≡ true
        fits = λ i. lt-ltb 0 a.fields (omega (arith, h.fields)) i && le-leb a.fields most (omega (arith, h.fields)) i

        either : (b : Bool) → a.whole ≡ 1 → cond b 1 a.whole ≡ 1
        either true e = refl
        either false e = e

        marked : (su ≡ true × a.late ≡ 0) ⊎ (w ≡ 1) → cond (su && (eqb a.late 0 && (ltb 0 a.fields && leb a.fields most))) 1 a.whole ≡ 1
        marked (inl q) = λ i. cond (q.0 i && (eqb (q.1 i) 0 && fits i)) 1 a.whole
        marked (inr e) = either (su && (eqb a.late 0 && (ltb 0 a.fields && leb a.fields most))) (h.whole ∙ e)

    pub seen-deleted : (head_of (structure_at id 1 m)).fields ≡ 0 → (head_of (structure_at id 1 m)).whole ≡ 0 → Seen m id count []
    unfolding settled_head complete
    seen-deleted f w = record {
      number = empty-number (settled_head su (head_of (structure_at id 1 m))) head-coming f (unmarked su (eqb (head_of (structure_at id 1 m)).late 0));
      fields = empty-fields (settled_head su (head_of (structure_at id 1 m))) head-coming f (unmarked su (eqb (head_of (structure_at id 1 m)).late 0));
    }
      where
        h : Structure
        h = head_of (structure_at id 1 m)

        never : (x y : Bool) → cond (x && (y && (false && leb h.fields most))) 1 h.whole ≡ h.whole
        never true true = refl
        never true false = refl
        never false y = refl

        unmarked : (x y : Bool) → cond (x && (y && (ltb 0 h.fields && leb h.fields most))) 1 h.whole ≡ 0
        unmarked x y =
            ap (λ (b : Bool). cond (x && (y && (b && leb h.fields most))) 1 h.whole) (le-ltb 0 h.fields (omega (arith, f))) ∙ never x y ∙ w
