-- "Never sure without reason" is false of a machine that goes on showing a structure that was denied: by a present field that it does not list, or by all
-- ones. Nothing of the change was heard, since it was announced before frame 0.
--
--   unsaid           a change of which nothing is said
--   unannounced      a broadcast in which a component has one field, and another one from the first change on: every frame carries its present field
--   removed          the same where there is no such component from the first change on: every frame says so from then on
--   stubborn-not     in frame 2 it shows the first field still, and that frame carried the other
--   removed-not      or all ones
--
-- Assumes nothing.
use mathlib.Core.Path.{◌≡◌, refl, sym, ap, ap₂, ◌∙◌, subst}
use mathlib.Core.Bool.{Bool, true, false, cond, ◌||◌}
use mathlib.Core.List.{List, [], ◌∷◌}
use Prim.Native.Nat.{ℕ, zero, suc, ◌+◌, ◌<◌}
use native.Mathlib.Omega.{arith}
use borrow.Author.Tests.{ne_eqb}
use lib.Dec.{T, eqb, lit<}
use lib.ListN.{length, get_or}
use Rattle.bits.specs.Bits.{bits_of, number, sent, numbers_in}
use Rattle.field.specs.Field.{tdms_of, fln1, lln1, fln2, lln2, fcp, lcp, bad_pair, bad_tdms, deletes, key, panning, bits_at, field_of, field_bits, field_bytes}
use Rattle.frames.specs.Counts.{ahead, since, changes}
use Rattle.multiplex.specs.Broadcast.{count_at, change, epoch, begun, Linked}
use Rattle.multiplex.specs.Example.{one, none}
use Rattle.multiplex.specs.Empty.{seven, together, held, surely, stubborn}
use Rattle.multiplex.specs.Air.{Carries, old, gone, Air, timed, in_force, coming, carried_as, field_on, new_in, old_in, gone_in, turn, later, same, last_old, new_before, new_to, gone_before, gone_to, InTurn, Said, nothing, Orderly}
use Rattle.multiplex.specs.Sound.{kept, lists, denies, Undenied, Whole, NeverWrong}
use Rattle.multiplex.proofs.Distances.{epoch-mono}
use Rattle.multiplex.proofs.Keeping.{none-linked, one-linked, fitting, few-seven}
use Rattle.multiplex.proofs.Unsure.{every, takes, place, moving, place-linked, none-there, later-on, rises}

-- ---- changes of which nothing is said

-- where no configuration begins with frame 0, one that began in frame 0 or later is not the first
pub not_first : (a : Air) → change (timed a) 0 ≡ false → (t : ℕ) → begun (timed a) t ≡ true → 0 < epoch (timed a) t
unfolding begun epoch
not_first a c zero b = absurd (subst T (sym b ∙ c) tt)
not_first a c (suc t) b = go (change (timed a) (suc t)) b (not_first a c t)
  where
    go : (x : Bool) → (x || begun (timed a) t) ≡ true → (begun (timed a) t ≡ true → 0 < epoch (timed a) t)
        → 0 < cond x (suc (epoch (timed a) t)) (epoch (timed a) t)
    go true z r = omega arith
    go false z r = r z

module _ (a : Air) (id : ℕ) (silent : (t : ℕ) → (new_in id (a.carries t) ≡ 0) × (gone_in id (a.carries t) ≡ false)) where
  none-new : (t : ℕ) → new_before a id t ≡ 0
  unfolding new_before
  none-new zero = refl
  none-new (suc t) = go (change (timed a) (suc t)) (none-new t)
    where
      go : (b : Bool) → new_before a id t ≡ 0 → cond b 0 (new_to a id t) ≡ 0
      go true e = refl
      go false e = ap₂ (λ (x y : ℕ). x + cond (eqb y 0) 0 1) e (silent t).0

  none-gone : (t : ℕ) → gone_before a id t ≡ false
  unfolding gone_before
  none-gone zero = refl
  none-gone (suc t) = go (change (timed a) (suc t)) (none-gone t)
    where
      go : (b : Bool) → gone_before a id t ≡ false → cond b false (gone_to a id t) ≡ false
      go true e = refl
      go false e = ap₂ (λ (x y : Bool). x || y) e (silent t).1

  pub unsaid : (t : ℕ) → coming a t id ≡ in_force a t id → Said a t id
  unsaid t e = nothing (ap₂ (λ (x y : ℕ). x + cond (eqb y 0) 0 1) (none-new t) (silent t).0) (ap₂ (λ (x y : Bool). x || y) (none-gone t) (silent t).1) e

takes_all : (m f : List ℕ) → stubborn.answer m f ≡ 0
unfolding stubborn
takes_all m f = refl

-- what it shows of component 7 once it is sure
module _ (a : Air) (sure-of : kept stubborn a every 3 ≡ 1 ∷ one ∷ []) where
  shown : stubborn.number (kept stubborn a every 3) 7 (count_at (timed a) 2) ≡ 0
  unfolding stubborn
  shown = ap (λ (m : List ℕ). cond (surely m 7) 0 46) sure-of

  first-shown : stubborn.fields (kept stubborn a every 3) 7 (count_at (timed a) 2) ≡ one ∷ []
  unfolding stubborn
  first-shown = ap (λ (m : List ℕ). cond (surely m 7) (get_or m 1 0 ∷ []) []) sure-of

  -- so it must be right of it
  claimed : Orderly a → NeverWrong stubborn → Whole stubborn a every 2 2 7
  unfolding every
  claimed w n =
      n.sound a w every (takes stubborn a takes_all) 2 2 7 refl (omega arith) (omega arith) (lit< tt) shown
      (λ e. omega (arith, ap length (sym first-shown ∙ e)))

-- ---- a field that is not listed

unfoldable pub unannounced : Air
unannounced = record { origin = 0; config = moving.config; carries = λ t. old 7 0 0 }

-- its one field was carried last, or none
last_one : (t k : ℕ) → last_old unannounced 7 t ≡ suc k → k ≡ 0
unfolding last_old unannounced old_in later
last_one zero k e = absurd (omega (arith, e))
last_one (suc t) k e = go (same (moving.config (epoch (timed unannounced) t) 7) (moving.config (epoch (timed unannounced) (suc t)) 7)) e
  where
    go : (b : Bool) → cond b 1 0 ≡ suc k → k ≡ 0
    go true z = omega (arith, z)
    go false z = absurd (omega (arith, z))

-- it stays as it is from the second configuration on
stays : (j id : ℕ) → 0 < j → moving.config (suc j) id ≡ moving.config j id
unfolding moving place
stays zero id h = absurd (omega arith)
stays (suc j) id h = refl

pub unannounced-orderly : Orderly unannounced
unfolding unannounced moving InTurn turn new_in gone_in change count_at
unannounced-orderly = record {
  linked = λ j id hid. place-linked j id;
  few = λ j. few-seven (moving.config j) (λ id e. none-there id e j);
  vectors = λ j. refl;
  turns = λ t. (lit< tt, (lit< tt, (lit< tt, λ k e. (sym (ap (λ (n : ℕ). cond (eqb (suc n) 1) 0 (suc n)) (last_one t k e)), λ z. absurd (omega (arith, z))))));
  said = λ t id hid c b. unsaid unannounced id (λ v. (refl, refl)) t (stays (epoch (timed unannounced) t) id (not_first unannounced refl t b));
}

-- sure of the first field, behind frame 2 too
sure-of : kept stubborn unannounced every 3 ≡ 1 ∷ one ∷ []
unfolding kept every stubborn held seven together unannounced moving place field_on carried_as count_at epoch change tdms_of deletes since ahead changes field_of bits_at field_bytes field_bits bits_of number sent numbers_in
sure-of = refl

-- frame 2, of the second configuration, carries the other
other-heard : (epoch (timed unannounced) 2 ≡ 1) × (denies unannounced 2 7 (one ∷ []) (unannounced.carries 2) ≡ true)
unfolding denies lists unannounced moving place epoch change count_at tdms_of
other-heard = (refl, refl)

pub stubborn-not : NeverWrong stubborn → ⊥
unfolding every unannounced
stubborn-not n =
    let w = claimed unannounced sure-of unannounced-orderly n in
    go w.from (sym (first-shown unannounced sure-of) ∙ w.fields) w.undenied
  where
    go : (j : ℕ) → one ∷ [] ≡ moving.config j 7 → Undenied unannounced every 2 j 7 (moving.config j 7) → ⊥
    go zero e q =
        subst T (sym other-heard.1 ∙ ap (λ (xs : List ℕ). denies unannounced 2 7 xs (unannounced.carries 2)) e
        ∙ q 2 (omega arith) refl (omega (arith, other-heard.0))) tt
    go (suc j) e q = omega (arith, rises, ap (λ (xs : List ℕ). key (get_or xs 0 0)) (e ∙ later-on j))

-- ---- all ones

unfoldable pub once : ℕ → ℕ → List ℕ
once zero id = cond (eqb id 7) (one ∷ []) []
once (suc j) id = []

unfoldable pub ending : ℕ → Carries
ending zero = old 7 0 0
ending (suc zero) = old 7 0 0
ending (suc (suc t)) = gone 0 7 none 0

unfoldable pub removed : Air
removed = record { origin = 0; config = once; carries = ending }

once-linked : (j id : ℕ) → Linked (once j id)
unfolding once tdms_of bad_tdms bad_pair fln1 lln1 fln2 lln2 fcp lcp deletes
once-linked zero id = go (eqb id 7)
  where
    go : (b : Bool) → Linked (cond b (one ∷ []) [])
    go true = one-linked one (fitting one tt refl refl)
    go false = none-linked
once-linked (suc j) id = none-linked

none-else : (j id : ℕ) → (id ≡ 7 → ⊥) → once j id ≡ []
unfolding once
none-else zero id e = ap (λ (b : Bool). cond b (one ∷ []) []) (ne_eqb id 7 e)
none-else (suc j) id e = refl

none_left : (j id : ℕ) → 0 < j → once j id ≡ []
unfolding once
none_left zero id h = absurd (omega arith)
none_left (suc j) id h = refl

-- the second configuration begins with frame 2
second-on : (t : ℕ) → 0 < epoch (timed removed) (suc (suc t))
unfolding epoch change count_at removed
second-on t = omega (arith, in-2, epoch-mono (timed removed) 2 (suc (suc t)) (omega arith))
  where
    in-2 : epoch (timed removed) 2 ≡ 1
    in-2 = refl

ending-turns : (t : ℕ) → InTurn removed t (ending t)
unfolding removed once ending InTurn turn last_old old_in later same epoch change count_at tdms_of bad_tdms bad_pair fln1 lln1 fln2 lln2 fcp lcp deletes
ending-turns zero = (lit< tt, (lit< tt, (lit< tt, λ k e. absurd (omega (arith, e)))))
ending-turns (suc zero) = (lit< tt, (lit< tt, (lit< tt, λ k e. (first k (omega (arith, e)), λ z. absurd (omega (arith, z))))))
  where
    first : (k : ℕ) → k ≡ 0 → 0 ≡ cond (eqb (suc k) 1) 0 (suc k)
    first k e = sym (ap (λ (n : ℕ). cond (eqb (suc n) 1) 0 (suc n)) e)
ending-turns (suc (suc t)) =
    (lit< tt, (λ e. omega (arith, e), ((λ z. none_left _ 7 (second-on t)), ((λ z. absurd (omega (arith, z))), (refl, (refl, record { flags = lit< tt; width = lit< tt; links = lit< tt }))))))

silent : (id t : ℕ) → (new_in id (removed.carries t) ≡ 0) × (gone_in id (removed.carries t) ≡ false)
unfolding removed ending new_in gone_in
silent id zero = (refl, refl)
silent id (suc zero) = (refl, refl)
silent id (suc (suc t)) = (refl, refl)

pub removed-orderly : Orderly removed
unfolding removed once change count_at
removed-orderly = record {
  linked = λ j id hid. once-linked j id;
  few = λ j. few-seven (once j) (none-else j);
  vectors = none-vectors;
  turns = ending-turns;
  said = λ t id hid c b. unsaid removed id (silent id) t (sym (none_left (epoch (timed removed) t) id (not_first removed refl t b)));
}
  where
    none-vectors : (j : ℕ) → once j panning ≡ []
    none-vectors zero = refl
    none-vectors (suc j) = refl

still-sure : kept stubborn removed every 3 ≡ 1 ∷ one ∷ []
unfolding kept every stubborn held seven together removed once ending field_on carried_as count_at epoch change tdms_of deletes since ahead changes field_of bits_at field_bytes field_bits bits_of number sent numbers_in
still-sure = refl

ones-heard : (xs : List ℕ) → (epoch (timed removed) 2 ≡ 1) × (denies removed 2 7 xs (removed.carries 2) ≡ true)
unfolding denies removed ending epoch change count_at
ones-heard xs = (refl, refl)

pub removed-not : NeverWrong stubborn → ⊥
unfolding every removed
removed-not n =
    let w = claimed removed still-sure removed-orderly n in
    go w.from (sym (first-shown removed still-sure) ∙ w.fields) w.undenied
  where
    go : (j : ℕ) → one ∷ [] ≡ once j 7 → Undenied removed every 2 j 7 (once j 7) → ⊥
    go zero e q = subst T (sym (ones-heard (once 0 7)).1 ∙ q 2 (omega arith) refl (omega (arith, (ones-heard []).0))) tt
    go (suc j) e q = omega (arith, ap length (e ∙ none_left (suc j) 7 (omega arith)))
