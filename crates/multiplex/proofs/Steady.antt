-- What the soundness theorem supposes of a broadcast can be met: a multiplex that has a component from long before the first frame on, in two linked
-- fields that come round in every frame.
--
--   steady, steady-orderly
--
-- Assumes nothing.
use mathlib.Core.Path.{◌≡◌, refl, sym, ap, ◌∙◌}
use mathlib.Core.Bool.{Bool, true, false, cond, ◌||◌}
use mathlib.Core.List.{List, [], ◌∷◌}
use Prim.Native.Nat.{ℕ, zero, suc, ◌+◌, ◌/◌, ◌%◌}
use native.Mathlib.Omega.{arith}
use native.Mathlib.Decide.{ℕ_discrete}
use borrow.Author.Tests.{ne_eqb}
use lib.Dec.{eqb, lit<}
use Rattle.field.specs.Field.{tdms_of, fln1, lln1, fln2, lln2, fcp, lcp, bad_pair, bad_tdms, deletes, key}
use Rattle.multiplex.specs.Broadcast.{change, Linked}
use Rattle.multiplex.specs.Example.{one, two}
use Rattle.multiplex.specs.Air.{old, Air, timed, new_in, old_in, gone_in, turn, later, last_old, new_before, gone_before, link_of, links_old, InTurn, nothing, Orderly}
use Rattle.multiplex.proofs.Keeping.{none-linked, two_linked, fitting, few-seven}
use Rattle.multiplex.proofs.Rounding.{same-all}

unfoldable pub lists : ℕ → List ℕ
lists id = cond (eqb id 7) (one ∷ two ∷ []) []

unfoldable pub steady : Air
steady = record { origin = 0; config = λ j id. lists id; carries = λ t. old 7 (t % 2) (t / 2 % 2) }

lists-linked : (id : ℕ) → Linked (lists id)
unfolding lists tdms_of key bad_tdms bad_pair fln1 lln1 fln2 lln2 fcp lcp deletes
lists-linked id = go (eqb id 7)
  where
    go : (b : Bool) → Linked (cond b (one ∷ two ∷ []) [])
    go true = two_linked one two (fitting one tt refl refl) (fitting two tt refl refl) (lit< tt)
    go false = none-linked

last-is : (t : ℕ) → last_old steady 7 (suc t) ≡ suc (t % 2)
unfolding last_old steady old_in later
last-is t = ap (λ (b : Bool). cond b (suc (t % 2)) 0) (same-all (lists 7))

in-turn : (t k : ℕ) → last_old steady 7 t ≡ suc k → t % 2 ≡ turn 2 k
unfolding last_old turn
in-turn zero k e = absurd (omega (arith, e))
in-turn (suc t) k e = go (ℕ_discrete (t % 2) 1) (sym (last-is t) ∙ e)
  where
    go : Dec (t % 2 ≡ 1) → suc (t % 2) ≡ suc k → suc t % 2 ≡ cond (eqb (suc k) 2) 0 (suc k)
    go (yes q) z =
        let one-k : suc k ≡ 2 = omega (arith, q, z) in
        let here : suc t % 2 ≡ 0 = omega (arith, q) in
        here ∙ sym (ap (λ (n : ℕ). cond (eqb n 2) 0 n) one-k)
    go (no q) z =
        let none-k : suc k ≡ 1 = omega (arith, q, z) in
        let here : suc t % 2 ≡ 1 = omega (arith, q) in
        here ∙ sym (ap (λ (n : ℕ). cond (eqb n 2) 0 n) none-k)

-- the second field has the first one's LINKS
links-stay : (t k : ℕ) → last_old steady 7 t ≡ suc k → t % 2 ≡ suc k → t / 2 % 2 ≡ links_old steady 7 t
unfolding last_old links_old steady old_in link_of
links-stay zero k e z = absurd (omega (arith, e))
links-stay (suc t) k e z =
    let odd : t % 2 ≡ 0 = omega (arith, z) in
    let half : suc t / 2 ≡ t / 2 = omega (arith, odd) in
    ap (λ (n : ℕ). n % 2) half
    ∙ sym (ap (λ (b : Bool). cond b (links_old steady 7 t) (t / 2 % 2)) (ne_eqb (suc (t % 2)) 0 (λ q. absurd (omega (arith, q)))))

none-new : (id t : ℕ) → new_before steady id t ≡ 0
unfolding new_before steady new_in
none-new id zero = refl
none-new id (suc t) = go (change (timed steady) (suc t)) (none-new id t)
  where
    go : (b : Bool) → new_before steady id t ≡ 0 → cond b 0 (new_before steady id t + 0) ≡ 0
    go true e = refl
    go false e = omega (arith, e)

none-gone : (id t : ℕ) → gone_before steady id t ≡ false
unfolding gone_before steady gone_in
none-gone id zero = refl
none-gone id (suc t) = go (change (timed steady) (suc t)) (none-gone id t)
  where
    go : (b : Bool) → gone_before steady id t ≡ false → cond b false (gone_before steady id t || false) ≡ false
    go true e = refl
    go false e = ap (λ (x : Bool). x || false) e

pub steady-orderly : Orderly steady
unfolding steady lists InTurn new_in gone_in
steady-orderly = record {
  linked = λ j id hid. lists-linked id;
  few = λ j. few-seven lists (λ id e. ap (λ (b : Bool). cond b (one ∷ two ∷ []) []) (ne_eqb id 7 e));
  vectors = λ j. refl;
  turns = λ t. (lit< tt, (omega arith, (omega arith, λ k e. (in-turn t k e, links-stay t k e))));
  said = λ t id hid c b. nothing (ap (λ (n : ℕ). n + 0) (none-new id t)) (ap (λ (x : Bool). x || false) (none-gone id t)) refl;
}
