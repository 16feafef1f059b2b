-- The first field of a structure that is being gathered: where it is not the first of a list, that list is not found before its first field came.
--
--   Firsts s t x        s took in the field t and is x by then: its first field stays, or it is t and nothing is whole
--   gathered-first      whatever comes
--   Open xs s           it is not whole, and does not begin with the first field of xs
--   open_none           it has no field
--   open-spoiled        a frame was missed
--   open-unwhole        a field of xs does not make it whole
--   open-goes           nor begin with the first field, where it is another one
--
-- Assumes nothing.
use mathlib.Core.Path.{◌≡◌, refl, sym, ap, ◌∙◌, subst}
use mathlib.Core.Bool.{Bool, true, false, true≢false, cond, ◌&&◌}
use mathlib.Core.List.{List}
use Prim.Native.Nat.{ℕ, ◌+◌, ◌-◌, ◌%◌, ◌^◌, ◌<◌}
use native.Mathlib.Omega.{arith}
use native.Mathlib.Decide.{dec_lt}
use borrow.Author.Tests.{ltb-true}
use lib.Dec.{leb, ltb, eqb}
use lib.ListN.{length, get_or}
use Rattle.bits.proofs.Search.{and_left}
use Rattle.field.specs.Field.{deletes}
use Rattle.structure.specs.Structure.{most, structure_size, all_ones, head_of, with_head, nth, is_next, goes_on, turn_of, gathering_head, completed_head, late_of, turned, gathered, spoiled}
use Rattle.structure.specs.declared.Structure.{Structure}
use Rattle.structure.specs.declared.Turn.{Turn}
use Rattle.structure.specs.declared.Turn.TheVariants.{Begins, Joins, Overflows, Completes, Known}
use Rattle.structure.proofs.Gathering.{Holds, nth-head, nth-other, with-head-length, beginning-head, beginning-first}
use Rattle.structure.proofs.Kept.{spoiled-none}
use Rattle.structure.proofs.Runs.{Fields, apart, spoils}

-- ---- one more field

pub data Firsts (s : List ℕ) (t : ℕ) (x : List ℕ) : Type 0 where
  stays : 0 < (head_of s).fields → nth 0 x ≡ nth 0 s → Firsts s t x
  begins : (head_of x).whole ≡ 0 → nth 0 x ≡ t → Firsts s t x

-- what a field goes on with has fields
goes_some : (s : List ℕ) (t l : ℕ) → goes_on s t l ≡ true → 0 < (head_of s).fields
unfolding goes_on
goes_some s t l e = ltb-true 0 (head_of s).fields (and_left (ltb 0 (head_of s).fields) _ e)

pub gathered-first : (s : List ℕ) (t l : ℕ) → length s ≡ structure_size → (head_of s).whole ≡ 0 → t < 2 ^ 64 → Firsts s t (gathered s t l)
unfolding gathered turned turn_of gathering_head completed_head
gathered-first s t l ls w small =
    subst (λ (u : Turn). Firsts s t (turned u s t l))
    (sym (λ i. cond (eqb (w i) 1) (cond (is_next s t) Known Begins) (cond (goes_on s t l) (cond (ltb n most) Joins Overflows)
    (cond (ltb 0 n && (leb n most && eqb (nth 0 s) t)) Completes Begins))))
    (go (goes_on s t l) (ltb n most) (ltb 0 n && (leb n most && eqb (nth 0 s) t)) refl refl refl)
  where
    n : ℕ
    n = (head_of s).fields

    go : (g r f : Bool) → goes_on s t l ≡ g → ltb n most ≡ r → (ltb 0 n && (leb n most && eqb (nth 0 s) t)) ≡ f
        → Firsts s t (turned (cond g (cond r Joins Overflows) (cond f Completes Begins)) s t l)
    go true true f eg er ef =
        let k : Structure = gathering_head (n + 1) l (head_of s) in
        let pos : 0 < n = goes_some s t l eg in
        stays pos (nth-other (with_head k s) (with-head-length s ls k) n t (ltb-true n most er) 0 (λ z. omega (arith, z, pos)) ∙ nth-head s ls k 0)
    go true false f eg er ef = stays (goes_some s t l eg) (nth-head s ls (gathering_head (most + 1) l (head_of s)) 0)
    go false r true eg er ef = stays (ltb-true 0 n (and_left (ltb 0 n) _ ef)) (nth-head s ls (completed_head l (head_of s)) 0)
    go false r false eg er ef =
        begins (ap (λ (x : Structure). x.whole) (beginning-head (late_of (head_of s)) 1 t l)) (beginning-first (late_of (head_of s)) 1 t l small)

-- ---- a list that is not begun

pub record Open (xs s : List ℕ) : Type 0 where
  pub whole : (head_of s).whole ≡ 0
  pub other : 0 < length xs → 0 < (head_of s).fields → nth 0 s ≡ get_or xs 0 0 → ⊥

pub open_none : (xs s : List ℕ) → (head_of s).fields ≡ 0 → (head_of s).whole ≡ 0 → Open xs s
open_none xs s f w = record { whole = w; other = λ p q e. absurd (omega (arith, f, q)) }

module _ (xs : List ℕ) (f : Fields xs) where
  -- all ones are no field
  not-ones : 0 < length xs → all_ones ≡ get_or xs 0 0 → ⊥
  unfolding deletes
  not-ones p e = true≢false (ap (λ (x : ℕ). eqb (x % 2 ^ 40) (2 ^ 40 - 1)) e ∙ f.stays 0 p)

  pub open-spoiled : (s : List ℕ) → length s ≡ structure_size → (head_of s).whole ≡ 0 → Open xs (spoiled s)
  open-spoiled s ls w = go (dec_lt 0 (head_of s).fields)
    where
      go : Dec (0 < (head_of s).fields) → Open xs (spoiled s)
      go (yes p) = let k = spoils s ls w p in record { whole = k.whole; other = λ q r e. not-ones q (sym k.first ∙ e) }
      go (no p) =
          let z : (head_of s).fields ≡ 0 = omega (arith, p) in
          let k = spoiled-none s ls (λ i. eqb (w i) 0 && ltb 0 (z i)) in
          open_none xs (spoiled s) (k.fields ∙ z) (k.whole ∙ w)

  module _ (i : ℕ) (hi : i < length xs) (l : ℕ) (s : List ℕ) (ls : length s ≡ structure_size) (o : Open xs s) where
    abbrev x : List ℕ
    x = gathered s (get_or xs i 0) l

    firsts : Firsts s (get_or xs i 0) x
    firsts = gathered-first s (get_or xs i 0) l ls o.whole (omega (arith, f.wide i hi))

    pub open-unwhole : (m : ℕ) → Holds x (length xs) xs 1 m → ⊥
    open-unwhole m h = go firsts
      where
        go : Firsts s (get_or xs i 0) x → ⊥
        go (stays p e) = o.other (omega (arith, hi)) p (sym e ∙ h.each 0 (omega (arith, hi)))
        go (begins w e) = omega (arith, w, h.whole)

    pub open-goes : (head_of x).whole ≡ 0 → (i ≡ 0 → ⊥) → Open xs x
    open-goes w ne = record { whole = w; other = λ p q e. go e firsts }
      where
        go : nth 0 x ≡ get_or xs 0 0 → Firsts s (get_or xs i 0) x → ⊥
        go e (stays p z) = o.other (omega (arith, hi)) p (sym z ∙ e)
        go e (begins v z) = apart xs f 0 i (omega (arith, ne)) hi (sym e ∙ z)
