-- The transcript that a slot's marks stand for says of them what they are.
--
--   aged n           what is told of a group that is n subframes old
--   tells-marks      of any head within the bounds
--
-- Assumes nothing.
use mathlib.Core.Path.{◌≡◌, refl, sym, ap, ◌∙◌}
use mathlib.Core.Bool.{Bool, true, false, cond, ◌||◌}
use mathlib.Core.List.{List, [], ◌∷◌, ◌++◌}
use mathlib.Core.Logic.{inl}
use Prim.Native.Nat.{ℕ, zero, suc, ◌≤◌}
use native.Mathlib.Omega.{arith}
use borrow.Author.Tests.{eqb-true, eqb-false}
use lib.Dec.{ltb, eqb}
use lib.ListN.{replicate}
use Rattle.bits.proofs.Search.{clash}
use Rattle.head.specs.declared.Head.{Head}
use Rattle.head.proofs.Bounds.{Bounds}
use Rattle.faults.specs.Faults.{number_drops}
use Rattle.history.specs.Transcript.{Entry, answered, subframe, is_whole, any_whole, since_whole, ends, before, marks, marked}
use Rattle.history.proofs.Freshness.{Tells}
use Rattle.demands.specs.Seen.{marks_by, marks_of}

abbrev since : ℕ → List Entry
since n = replicate n subframe

abbrev aged : ℕ → List Entry
aged n = since n ++ (answered 3 ∷ [])

aged-whole : (n : ℕ) → any_whole (aged n) ≡ true
unfolding any_whole is_whole
aged-whole zero = refl
aged-whole (suc n) = aged-whole n

aged-since : (n : ℕ) → since_whole (aged n) ≡ since n
unfolding since_whole is_whole
aged-since zero = refl
aged-since (suc n) = ap (λ (t : List Entry). subframe ∷ t) (aged-since n)

since-ends : (n : ℕ) → ends (since n) ≡ n
unfolding ends
since-ends zero = refl
since-ends (suc n) = ap suc (since-ends n)

since-before : (n : ℕ) → before (since n) ≡ 0
unfolding before
since-before zero = refl
since-before (suc n) = since-before n

since-marked : (n : ℕ) → marked (since n) ≡ false
unfolding marked marks
since-marked zero = refl
since-marked (suc n) = since-marked n

-- what is told of a mark, over what is told of the group: whole or not, and since then nothing but subframe ends
record Plain (t : List Entry) (n : ℕ) (z : Bool) : Type 0 where
  whole : any_whole t ≡ cond z false true
  none : marked (since_whole t) ≡ false
  first : before (since_whole t) ≡ 0
  age : any_whole t ≡ true → n ≡ ends (since_whole t)

plain : (z : Bool) (n : ℕ) → Plain (cond z [] (aged n)) n z
unfolding any_whole since_whole marked before
plain true n = record { whole = refl; none = refl; first = refl; age = λ e. clash (sym e) }
plain false n = record {
  whole = aged-whole n;
  none = ap marked (aged-since n) ∙ since-marked n;
  first = ap before (aged-since n) ∙ since-before n;
  age = λ e. sym (ap ends (aged-since n) ∙ since-ends n);
}

record Marked (w g z : Bool) (n : ℕ) : Type 0 where
  whole : any_whole (marks_by w g z n) ≡ cond z false true
  gap : marked (since_whole (marks_by w g z n)) ≡ g
  awaits : (eqb (before (since_whole (marks_by w g z n))) 1 || eqb (before (since_whole (marks_by w g z n))) 2) ≡ w
  age : any_whole (marks_by w g z n) ≡ true → n ≡ ends (since_whole (marks_by w g z n))

marked-as : (w g z : Bool) (n : ℕ) → Marked w g z n
unfolding marks_by any_whole is_whole since_whole marked marks number_drops before ends
marked-as w g z n = go w g (plain z n)
  where
    go : (w g : Bool) → Plain (cond z [] (aged n)) n z → Marked w g z n
    go false false p = record {
      whole = p.whole;
      gap = p.none;
      awaits = ap (λ (m : ℕ). eqb m 1 || eqb m 2) p.first;
      age = p.age;
    }
    go false true p = record { whole = p.whole; gap = refl; awaits = refl; age = p.age }
    go true false p = record {
      whole = p.whole;
      gap = ap (λ (m : ℕ). (eqb m 1 || eqb m 2) || marked (since_whole (cond z [] (aged n)))) p.first ∙ p.none;
      awaits = refl;
      age = p.age;
    }
    go true true p = record { whole = p.whole; gap = refl; awaits = refl; age = p.age }

-- a mark that is 0 or 1, by a test
mark-is : (m : ℕ) → m ≤ 1 → m ≡ cond (eqb m 1) 1 0
mark-is m h = go (eqb m 1) refl
  where
    go : (b : Bool) → eqb m 1 ≡ b → m ≡ cond b 1 0
    go true e = eqb-true m 1 e
    go false e = let ne = eqb-false m 1 e in omega arith

mark-not : (m : ℕ) → m ≤ 1 → m ≡ cond (cond (eqb m 0) false true) 1 0
mark-not m h = go (eqb m 0) refl
  where
    go : (b : Bool) → eqb m 0 ≡ b → m ≡ cond (cond b false true) 1 0
    go true e = eqb-true m 0 e
    go false e = let ne = eqb-false m 0 e in omega arith

pub tells-marks : (h : Head) → Bounds h → Tells h.wish.limit h (marks_of h)
unfolding marks_of
tells-marks h b =
    let m = marked-as (ltb 0 h.awaited) (eqb h.gap 1) (eqb h.group 0) h.age in
    record {
      limited = refl;
      grouped = mark-not h.group b.group-to ∙ ap (λ (x : Bool). cond x 1 0) (sym m.whole);
      gapped = mark-is h.gap b.gap-to ∙ ap (λ (x : Bool). cond x 1 0) (sym m.gap);
      awaits = sym m.awaits;
      age = λ e. inl (m.age e);
    }
