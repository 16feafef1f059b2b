-- What the functions on one structure rest on.
--
--   stored-from, stored-to    how many fields have room
--   next-to                   the place of the field that comes next
--   place_none, place-hit, place-pass, place_end    the search from the last field to the first; place-to: the place is in range
--   joins-room                a field that joins has room
--
-- Assumes nothing.
use mathlib.Core.Path.{◌≡◌, refl, sym, ap, ap₂, ◌∙◌, subst}
use mathlib.Core.Bool.{Bool, true, false, cond, ◌&&◌}
use mathlib.Core.List.{List}
use Prim.Native.Nat.{ℕ, suc, ◌-◌, ◌≤◌, ◌<◌}
use native.Mathlib.Omega.{arith}
use native.Mathlib.Decide.{dec_lt}
use borrow.Author.Tests.{eq-eqb, ne_eqb, lt-ltb, le-ltb, ltb-true}
use lib.Dec.{leb, ltb, eqb, lit<, lit≤}
use Rattle.bits.specs.Search.{first}
use Rattle.bits.proofs.Search.{first-le}
use Rattle.structure.specs.Structure.{most, head_of, nth, stored, place_of, next_place, is_next, goes_on, turn_of}
use Rattle.structure.specs.declared.Structure.{Structure}
use Rattle.structure.specs.declared.Turn.{Turn}
use Rattle.structure.specs.declared.Turn.TheVariants.{Begins, Joins, Overflows, Completes, Known}

-- ---- the head

module _ (h : Structure) where
  pub stored-from : (h.fields ≡ 0 → ⊥) → 1 ≤ stored h
  unfolding stored
  stored-from ne = go (ltb most h.fields)
    where
      go : (b : Bool) → 1 ≤ cond b most h.fields
      go true = lit≤ tt
      go false = omega (arith, ne)

  pub stored-to : stored h ≤ most
  unfolding stored
  stored-to = go (dec_lt most h.fields)
    where
      go : Dec (most < h.fields) → cond (ltb most h.fields) most h.fields ≤ most
      go (yes q) = subst (λ (b : Bool). cond b most h.fields ≤ most) (sym (lt-ltb most h.fields q)) (lit≤ tt)
      go (no q) = subst (λ (b : Bool). cond b most h.fields ≤ most) (sym (le-ltb most h.fields (omega arith))) (omega arith)

pub next-to : (h : Structure) → next_place h < most
unfolding next_place
next-to h = go (dec_lt h.last (stored h))
  where
    go : Dec (h.last < stored h) → cond (ltb h.last (stored h)) h.last 0 < most
    go (yes q) = subst (λ (b : Bool). cond b h.last 0 < most) (sym (lt-ltb h.last (stored h) q)) (omega (arith, stored-to h))
    go (no q) = subst (λ (b : Bool). cond b h.last 0 < most) (sym (le-ltb h.last (stored h) (omega arith))) (lit< tt)

-- ---- the search: the first of the fields from k on that is the one

module _ (s : List ℕ) (t : ℕ) where
  abbrev pub field_is : ℕ → Bool
  field_is k = eqb (nth k s) t

  abbrev pub first_from : ℕ → ℕ
  first_from k = first field_is (stored (head_of s) - k) k

  pub place_none : (k : ℕ) → k ≡ stored (head_of s) → k ≡ first_from k
  unfolding first
  place_none k e =
      let z : stored (head_of s) - k ≡ 0 = omega arith in
      sym (ap (λ (n : ℕ). first field_is n k) z)

  module _ (k : ℕ) (pos : 0 < k) (to : k ≤ stored (head_of s)) (x : ℕ) (ex : x ≡ nth (k - 1) s) where
    down : (b : Bool) → field_is (k - 1) ≡ b → first_from (k - 1) ≡ cond b (k - 1) (first_from k)
    unfolding first
    down b q =
        let more : stored (head_of s) - (k - 1) ≡ suc (stored (head_of s) - k) = omega arith in
        let next : suc (k - 1) ≡ k = omega arith in
        ap (λ (n : ℕ). first field_is n (k - 1)) more
        ∙ ap₂ (λ (c : Bool) (n : ℕ). cond c (k - 1) (first field_is (stored (head_of s) - k) n)) q next

    pub place-hit : x ≡ t → k - 1 ≡ first_from (k - 1)
    place-hit q = sym (down true (eq-eqb (nth (k - 1) s) t (sym ex ∙ q)))

    pub place-pass : (x ≡ t → ⊥) → (place : ℕ) → place ≡ first_from k → place ≡ first_from (k - 1)
    place-pass ne place q = q ∙ sym (down false (ne_eqb (nth (k - 1) s) t (λ z. ne (ex ∙ z))))

  pub place_end : (k : ℕ) → k ≤ 0 → (place : ℕ) → place ≡ first_from k → place ≡ place_of s t
  unfolding place_of
  place_end k h place q =
      let z : k ≡ 0 = omega arith in
      let n : stored (head_of s) - k ≡ stored (head_of s) = omega arith in
      q ∙ ap₂ (λ (a b : ℕ). first field_is a b) n z

  pub place-to : place_of s t ≤ most
  unfolding place_of
  place-to = omega (arith, first-le field_is (stored (head_of s)) 0, stored-to (head_of s))

-- ---- a field that joins

joins : Turn → Bool
joins Begins = false
joins Joins = true
joins Overflows = false
joins Completes = false
joins Known = false

only-room : (r w m g f : Bool) → joins (cond w (cond m Known Begins) (cond g (cond r Joins Overflows) (cond f Completes Begins))) ≡ true → r ≡ true
unfolding joins
only-room true w m g f e = refl
only-room false true true g f e = e
only-room false true false g f e = e
only-room false false m true f e = e
only-room false false m false true e = e
only-room false false m false false e = e

module _ (s : List ℕ) (t l : ℕ) where
  pub joins-room : turn_of s t l ≡ Joins → (head_of s).fields < most
  unfolding turn_of joins
  joins-room e =
      ltb-true (head_of s).fields most
      (only-room (ltb (head_of s).fields most) (eqb (head_of s).whole 1) (is_next s t) (goes_on s t l)
      (ltb 0 (head_of s).fields && (leb (head_of s).fields most && eqb (nth 0 s) t)) (ap joins e))
