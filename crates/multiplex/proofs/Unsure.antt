-- "Never sure without reason" is false of machines that are.
--
--   moving               a broadcast in which a component has one field, and another one behind every change
--   deaf-blank-not       it shows nothing of a component that is heard in every frame
--   hasty-not            it shows the first of two fields as the whole structure
--   clinging-not         what it shows is right until the first change, and that change was announced in frame 0
--
-- Assumes nothing.
use mathlib.Core.Path.{◌≡◌, refl, sym, ap, ap₂, ◌∙◌, subst}
use mathlib.Core.Bool.{Bool, true, false, cond, ◌||◌}
use mathlib.Core.List.{List, [], ◌∷◌}
use Prim.Native.Nat.{ℕ, zero, suc, ◌+◌, ◌≤◌, ◌<◌}
use native.Mathlib.Omega.{arith}
use native.Mathlib.Decide.{ℕ_discrete}
use borrow.Author.Tests.{ne_eqb}
use lib.Dec.{T, eqb, lit<, lit≤}
use lib.ListN.{length, get_or}
use Rattle.field.specs.Field.{tdms_of, fln1, lln1, fln2, lln2, fcp, lcp, bad_pair, bad_tdms, deletes, key}
use Rattle.multiplex.specs.Broadcast.{count_at, change, epoch, Linked}
use Rattle.multiplex.specs.Example.{one, two}
use Rattle.multiplex.specs.Empty.{deaf, hasty, clinging}
use Rattle.multiplex.specs.Heard.{Machine}
use Rattle.multiplex.specs.Air.{new, Air, timed, new_in, gone_in, turn, later, last_new, new_before, new_to, gone_before, gone_to, InTurn, Said, nothing, described, Orderly}
use Rattle.multiplex.specs.Sound.{kept, missed_before, announces, Quiet, Listener, there, over, present_in, coming_in, coming_before, present_before, word_for, NeverWrong}
use Rattle.multiplex.proofs.Keeping.{none-linked, one-linked, fitting, few-seven}
use Rattle.multiplex.proofs.Steady.{lists, steady, steady-orderly}

-- every frame is heard
unfoldable pub every : ℕ → Bool
every t = true

none-missed : (t : ℕ) → missed_before every t ≤ 127
unfolding missed_before every
none-missed zero = lit≤ tt
none-missed (suc t) = lit≤ tt

-- a machine that takes every field
pub takes : (M : Machine) (a : Air) → ((m f : List ℕ) → M.answer m f ≡ 0) → Listener M a every
takes M a any = record { taken = λ t h. any (kept M a every t) _; near = λ t h b. none-missed t }

field-last : word_for steady every 7 0 0 ≡ there
unfolding word_for present_before coming_before over present_in coming_in steady epoch every
field-last = refl

pub deaf-blank-not : NeverWrong deaf → ⊥
unfolding deaf every
deaf-blank-not n =
    n.blank steady steady-orderly every (takes deaf steady (λ m f. refl)) 0 0 7 refl (omega arith) (omega arith) (lit< tt) refl refl field-last

two-listed : (j : ℕ) → length (steady.config j 7) ≡ 2
unfolding steady lists
two-listed j = refl

pub hasty-not : NeverWrong hasty → ⊥
unfolding hasty every
hasty-not n =
    let w = n.sound steady steady-orderly every (takes hasty steady (λ m f. refl)) 0 0 7 refl (omega arith) (omega arith) (lit< tt) refl
    (λ e. omega (arith, ap length e)) in
    omega (arith, ap length w.fields, two-listed w.from)

-- ---- a component that moves

unfoldable pub place : ℕ → ℕ
place zero = one
place (suc j) = two

unfoldable pub moving : Air
moving = record { origin = 0; config = λ j id. cond (eqb id 7) (place j ∷ []) []; carries = λ t. new 7 0 0 }

pub place-linked : (j id : ℕ) → Linked (moving.config j id)
unfolding moving place tdms_of key bad_tdms bad_pair fln1 lln1 fln2 lln2 fcp lcp deletes
place-linked j id = go (eqb id 7) j
  where
    go : (b : Bool) (j : ℕ) → Linked (cond b (place j ∷ []) [])
    go true zero = one-linked one (fitting one tt refl refl)
    go true (suc j) = one-linked two (fitting two tt refl refl)
    go false j = none-linked

one-there : (j : ℕ) → 0 < length (moving.config j 7)
unfolding moving
one-there j = lit< tt

pub later-on : (j : ℕ) → moving.config (suc j) 7 ≡ two ∷ []
unfolding moving place
later-on j = refl

one-said : (t : ℕ) → length (moving.config (suc (epoch (timed moving) t)) 7) ≤ new_to moving 7 t
unfolding moving new_in
one-said t = omega arith

-- its one field was carried last, or none
last_one : (t k : ℕ) → last_new moving 7 t ≡ suc k → k ≡ 0
unfolding last_new moving new_in later
last_one zero k e = absurd (omega (arith, e))
last_one (suc t) k e = go (change (timed moving) (suc t)) e
  where
    go : (b : Bool) → cond b 0 1 ≡ suc k → k ≡ 0
    go true z = absurd (omega (arith, z))
    go false z = omega (arith, z)

module _ (id : ℕ) (other : id ≡ 7 → ⊥) where
  away : eqb 7 id ≡ false
  away = ne_eqb 7 id (λ e. other (sym e))

  unsaid : (t : ℕ) → new_in id (moving.carries t) ≡ 0
  unfolding moving new_in
  unsaid t = ap (λ (b : Bool). cond b 1 0) away

  none-new : (t : ℕ) → new_before moving id t ≡ 0
  unfolding new_before
  none-new zero = refl
  none-new (suc t) = go (change (timed moving) (suc t)) (none-new t)
    where
      go : (b : Bool) → new_before moving id t ≡ 0 → cond b 0 (new_to moving id t) ≡ 0
      go true e = refl
      go false e = ap₂ (λ (x y : ℕ). x + cond (eqb y 0) 0 1) e (unsaid t)

  pub none-there : (j : ℕ) → moving.config j id ≡ []
  unfolding moving
  none-there j = ap (λ (b : Bool). cond b (place j ∷ []) []) (ne_eqb id 7 other)

none-gone : (id t : ℕ) → gone_before moving id t ≡ false
unfolding gone_before moving gone_in
none-gone id zero = refl
none-gone id (suc t) = go (change (timed moving) (suc t)) (none-gone id t)
  where
    go : (b : Bool) → gone_before moving id t ≡ false → cond b false (gone_before moving id t || false) ≡ false
    go true e = refl
    go false e = ap (λ (x : Bool). x || false) e

none_said : (id t : ℕ) → gone_to moving id t ≡ false
unfolding moving gone_in
none_said id t = ap (λ (x : Bool). x || false) (none-gone id t)

told-all : (t id : ℕ) → Said moving t id
told-all t id = go (ℕ_discrete id 7)
  where
    go : Dec (id ≡ 7) → Said moving t id
    go (yes e) = subst (Said moving t) (sym e) (mine t)
      where
        mine : (t : ℕ) → Said moving t 7
        mine t = described (one-there (suc (epoch (timed moving) t))) (one-said t)
    go (no e) =
        nothing (ap₂ (λ (x y : ℕ). x + cond (eqb y 0) 0 1) (none-new id e t) (unsaid id e t)) (none_said id t)
        (none-there id e (suc (epoch (timed moving) t)) ∙ sym (none-there id e (epoch (timed moving) t)))

pub moving-orderly : Orderly moving
unfolding moving InTurn turn
moving-orderly = record {
  linked = λ j id hid. place-linked j id;
  few = λ j. few-seven (moving.config j) (λ id e. none-there id e j);
  vectors = λ j. refl;
  turns = λ t. (lit< tt, (lit< tt, (lit< tt, ((λ k e. (sym (ap (λ (n : ℕ). cond (eqb (suc n) 1) 0 (suc n)) (last_one t k e)), λ z. absurd (omega (arith, z)))), (λ e b. refl)))));
  said = λ t id hid c b. told-all t id;
}

pub rises : key one < key two
unfolding tdms_of key bad_tdms bad_pair fln1 lln1 fln2 lln2 fcp lcp deletes
rises = lit< tt

in-0 : epoch (timed moving) 0 ≡ 0
unfolding epoch
in-0 = refl

in-2 : epoch (timed moving) 2 ≡ 1
unfolding epoch change count_at moving
in-2 = refl

tells : announces 7 (moving.carries 0) ≡ true
unfolding announces moving new_in gone_in
tells = refl

pub clinging-not : NeverWrong clinging → ⊥
unfolding clinging every
clinging-not n =
    let w = n.sound moving moving-orderly every (takes clinging moving (λ m f. refl)) 2 2 7 refl (omega arith) (omega arith) (lit< tt) refl
    (λ e. omega (arith, ap length e)) in
    go w.from w.fields w.quiet
  where
    go : (j : ℕ) → one ∷ [] ≡ moving.config j 7 → Quiet moving every 2 j (epoch (timed moving) 2) 7 → ⊥
    go zero e q = subst T (sym tells ∙ q 0 (omega arith) refl (omega arith) (omega (arith, in-0, in-2))) tt
    go (suc j) e q = omega (arith, rises, ap (λ (xs : List ℕ). key (get_or xs 0 0)) (e ∙ later-on j))
