-- The example broadcast meets every hypothesis of the request's own case, and what any machine that shows what is in force shows of it.
--
--   near-every           who hears every frame misses none
--   in_place             one field behind another, where it is known which
--   example-turns        every frame carries what is in turn
--   example-followed
--   changes-at, created, moved, removed       what is shown at the three changes
--
-- Assumes nothing.
use mathlib.Core.Path.{◌≡◌, refl, sym, ap, ap₂, ◌∙◌, subst}
use mathlib.Core.Bool.{Bool, true, false, cond, ◌||◌}
use mathlib.Core.List.{List, [], ◌∷◌}
use Prim.Native.Nat.{ℕ, zero, suc, ◌+◌, ◌%◌, ◌≤◌, ◌<◌}
use native.Mathlib.Omega.{arith}
use native.Mathlib.Decide.{ℕ_discrete, dec_lt}
use borrow.Author.Tests.{ne_eqb, eqb-true, lt-ltb, le-ltb}
use lib.Dec.{T, eqb, lit<, lit≤}
use lib.ListN.{length}
use Rattle.field.specs.Field.{tdms_of, fln1, lln1, fln2, lln2, fcp, lcp, bad_pair, bad_tdms, deletes, key}
use Rattle.multiplex.specs.Broadcast.{count_at, change, epoch, begun, Linked}
use Rattle.multiplex.specs.Example.{one, two, other, none as ones, structures, pick, script, told, example}
use Rattle.multiplex.specs.Heard.{Machine}
use Rattle.multiplex.specs.Air.{Carries, gone, vectors, timed, in_force, new_in, old_in, gone_in, turn, later, same, last_old, last_new, link_of, links_old, links_new, new_before, new_to, gone_before, InTurn, Said, described, deleted, Orderly}
use Rattle.multiplex.specs.Sound.{kept, Word, unheard, there, coming_in, coming_before, coming_to, over as later-word, missed_before}
use Rattle.multiplex.specs.Finding.{first, rounds_of, over_change, every, Followed, ShowsInForce, Near}
use Rattle.multiplex.proofs.Keeping.{none-linked, two_linked, fitting, few-seven}
use Rattle.multiplex.proofs.Denied.{unsaid}

-- none is missed
pub near-every : Near every
unfolding missed_before
near-every zero h b = lit≤ tt
near-every (suc t) h b = lit≤ tt

-- ---- structures

structures-linked : (j : ℕ) → Linked (structures j)
unfolding structures tdms_of key bad_tdms bad_pair fln1 lln1 fln2 lln2 fcp lcp deletes
structures-linked zero = none-linked
structures-linked (suc zero) = two_linked one two (fitting one tt refl refl) (fitting two tt refl refl) (lit< tt)
structures-linked (suc (suc zero)) = two_linked one other (fitting one tt refl refl) (fitting other tt refl refl) (lit< tt)
structures-linked (suc (suc (suc j))) = none-linked

example-linked : (j id : ℕ) → Linked (example.config j id)
unfolding example
example-linked j id = go (eqb id 7)
  where
    go : (b : Bool) → Linked (cond b (structures j) [])
    go true = structures-linked j
    go false = none-linked

none-else : (j id : ℕ) → (id ≡ 7 → ⊥) → example.config j id ≡ []
unfolding example
none-else j id e = ap (λ (b : Bool). cond b (structures j) []) (ne_eqb id 7 e)

-- ---- frames

pub in_place : (p n i l m : ℕ) → i ≡ turn n p → (i ≡ suc p → l ≡ m) → (k : ℕ) → suc p ≡ suc k → (i ≡ turn n k) × (i ≡ suc k → l ≡ m)
in_place p n i l m x y k e =
    let at : p ≡ k = omega (arith, e) in
    subst (λ (q : ℕ). (i ≡ turn n q) × (i ≡ suc q → l ≡ m)) at (x, y)

-- behind the script, up to the second change
past : (cs : List Carries) (t : ℕ) → length cs ≤ t → pick cs t ≡ vectors 0 0 0
unfolding pick
past [] t h = refl
past (c ∷ cs) zero h = absurd (omega arith)
past (c ∷ cs) (suc t) h = past cs t (omega arith)

told-before : (t : ℕ) → 10 ≤ t → t < 133 → told t ≡ vectors 0 0 0
unfolding told
told-before t l h = ap (λ (b : Bool). cond b (pick script t) (gone 1 7 ones 0)) (lt-ltb t 133 h) ∙ past script t l

told-on : (t : ℕ) → 133 ≤ t → told t ≡ gone 1 7 ones 0
unfolding told
told-on t h = ap (λ (b : Bool). cond b (pick script t) (gone 1 7 ones 0)) (le-ltb t 133 h)

-- from a frame on
from_on : (s : ℕ) (P : ℕ → Type 0) → P s → ((t : ℕ) → s ≤ t → P t → P (suc t)) → (t : ℕ) → s ≤ t → P t
from_on s P z more zero h = subst P (omega arith) z
from_on s P z more (suc t) h = go (ℕ_discrete (suc t) s) (from_on s P z more t)
  where
    go : Dec (suc t ≡ s) → (s ≤ t → P t) → P (suc t)
    go (yes e) r = subst P (sym e) z
    go (no n) r = more t (omega (arith, h, n)) (r (omega (arith, h, n)))

none-new : (t : ℕ) → 133 ≤ t → new_before example 7 t ≡ 0
unfolding new_before change count_at example new_in
none-new = from_on 133 (λ t. new_before example 7 t ≡ 0) refl next
  where
    next : (t : ℕ) → 133 ≤ t → new_before example 7 t ≡ 0 → new_before example 7 (suc t) ≡ 0
    next t h e = go (change (timed example) (suc t))
      where
        go : (b : Bool) → cond b 0 (new_to example 7 t) ≡ 0
        go true = refl
        go false = ap₂ (λ (x : ℕ) (c : Carries). x + cond (eqb (new_in 7 c) 0) 0 1) e (told-on t h)

-- ---- every frame carries what is in turn

script-turns : (t : ℕ) → t < 10 → InTurn example t (told t)
unfolding example structures told pick InTurn turn last_old last_new links_old links_new old_in new_in link_of later same epoch change count_at tdms_of
script-turns zero h = (lit< tt, (lit< tt, (lit< tt, ((λ k e. absurd (omega (arith, e))), λ e b. refl))))
script-turns (suc zero) h = (lit< tt, (lit< tt, (lit< tt, (in_place 0 2 1 0 0 refl (λ e. refl), λ e b. absurd (omega (arith, e))))))
script-turns (suc (suc zero)) h =
    (lit< tt, (lit< tt, (lit< tt, (in_place 1 2 0 1 0 refl (λ e. absurd (omega (arith, e))), λ e b. absurd (omega (arith, e))))))
script-turns (suc (suc (suc zero))) h = (lit< tt, (lit< tt, (lit< tt, (in_place 0 2 1 1 1 refl (λ e. refl), λ e b. absurd (omega (arith, e))))))
script-turns (suc (suc (suc (suc zero)))) h = record { flags = lit< tt; width = lit< tt; links = lit< tt }
script-turns (suc (suc (suc (suc (suc zero))))) h = (lit< tt, (lit< tt, (lit< tt, λ k e. absurd (omega (arith, e)))))
script-turns (suc (suc (suc (suc (suc (suc zero)))))) h = (lit< tt, (lit< tt, (lit< tt, ((λ k e. absurd (omega (arith, e))), λ e b. refl))))
script-turns (suc (suc (suc (suc (suc (suc (suc zero))))))) h = (lit< tt, (lit< tt, (lit< tt, in_place 0 2 1 0 0 refl (λ e. refl))))
script-turns (suc (suc (suc (suc (suc (suc (suc (suc zero)))))))) h =
    (lit< tt, (lit< tt, (lit< tt, (in_place 0 2 1 0 0 refl (λ e. refl), λ e b. absurd (omega (arith, e))))))
script-turns (suc (suc (suc (suc (suc (suc (suc (suc (suc zero))))))))) h =
    (lit< tt, (lit< tt, (lit< tt, in_place 1 2 0 1 0 refl (λ e. absurd (omega (arith, e))))))
script-turns (suc (suc (suc (suc (suc (suc (suc (suc (suc (suc t)))))))))) h = absurd (omega arith)

vectors-turn : (t : ℕ) → InTurn example t (vectors 0 0 0)
unfolding InTurn
vectors-turn t = record { flags = lit< tt; width = lit< tt; links = lit< tt }

gone-turn : (t : ℕ) → 133 ≤ t → InTurn example t (gone 1 7 ones 0)
unfolding InTurn tdms_of bad_tdms bad_pair fln1 lln1 fln2 lln2 fcp lcp deletes
gone-turn t h =
    (lit< tt, (λ e. omega (arith, e), ((λ z. absurd (omega (arith, z))), ((λ z. none-new t h), (refl, (refl, record { flags = lit< tt; width = lit< tt; links = lit< tt }))))))

example-turns : (t : ℕ) → InTurn example t (told t)
example-turns t = go (dec_lt t 10) (dec_lt t 133)
  where
    go : Dec (t < 10) → Dec (t < 133) → InTurn example t (told t)
    go (yes a) b = script-turns t a
    go (no a) (yes b) = subst (InTurn example t) (sym (told-before t (omega (arith, a)) b)) (vectors-turn t)
    go (no a) (no b) = subst (InTurn example t) (sym (told-on t (omega (arith, b)))) (gone-turn t (omega (arith, b)))

-- ---- every change

late-epoch : (t : ℕ) → 133 ≤ t → 2 ≤ epoch (timed example) t
unfolding epoch change count_at example
late-epoch = from_on 133 (λ t. 2 ≤ epoch (timed example) t) (lit≤ tt) next
  where
    more : {n : ℕ} (x : Bool) → 2 ≤ n → 2 ≤ cond x (suc n) n
    more true h = omega arith
    more false h = h

    next : (t : ℕ) → 133 ≤ t → 2 ≤ epoch (timed example) t → 2 ≤ epoch (timed example) (suc t)
    next t h e = more (change (timed example) (suc t)) e

none_last : (j id : ℕ) → 2 ≤ j → example.config (suc j) id ≡ []
unfolding example structures
none_last zero id h = absurd (omega arith)
none_last (suc zero) id h = absurd (omega arith)
none_last (suc (suc j)) id h = go (eqb id 7)
  where
    go : (b : Bool) → ◌≡◌ {A = List ℕ} (cond b [] []) []
    go true = refl
    go false = refl

said-second : Said example 132 7
unfolding example structures told pick epoch change count_at new_before new_in
said-second = described (lit< tt) (lit≤ tt)

said-late : (t : ℕ) → 133 ≤ t → Said example t 7
unfolding example gone_in
said-late t h = deleted (none_last (epoch (timed example) t) 7 (late-epoch t h)) (go (gone_before example 7 t) (ap (gone_in 7) (told-on t h)))
  where
    go : (b : Bool) → gone_in 7 (told t) ≡ true → (b || gone_in 7 (told t)) ≡ true
    go true e = refl
    go false e = e

-- a component that no frame names
module _ (id : ℕ) (e : id ≡ 7 → ⊥) where
  away : eqb 7 id ≡ false
  away = ne_eqb 7 id (λ z. e (sym z))

  script-silent : (t : ℕ) → t < 10 → (new_in id (told t) ≡ 0) × (gone_in id (told t) ≡ false)
  unfolding told pick new_in gone_in tdms_of
  script-silent zero h = (ap (λ (b : Bool). cond b 1 0) away, refl)
  script-silent (suc zero) h = (ap (λ (b : Bool). cond b 2 0) away, refl)
  script-silent (suc (suc zero)) h = (ap (λ (b : Bool). cond b 1 0) away, refl)
  script-silent (suc (suc (suc zero))) h = (ap (λ (b : Bool). cond b 2 0) away, refl)
  script-silent (suc (suc (suc (suc zero)))) h = (refl, refl)
  script-silent (suc (suc (suc (suc (suc zero))))) h = (refl, refl)
  script-silent (suc (suc (suc (suc (suc (suc zero)))))) h = (ap (λ (b : Bool). cond b 1 0) away, refl)
  script-silent (suc (suc (suc (suc (suc (suc (suc zero))))))) h = (refl, refl)
  script-silent (suc (suc (suc (suc (suc (suc (suc (suc zero)))))))) h = (ap (λ (b : Bool). cond b 2 0) away, refl)
  script-silent (suc (suc (suc (suc (suc (suc (suc (suc (suc zero))))))))) h = (refl, refl)
  script-silent (suc (suc (suc (suc (suc (suc (suc (suc (suc (suc t)))))))))) h = absurd (omega arith)

  silent : (t : ℕ) → (new_in id (told t) ≡ 0) × (gone_in id (told t) ≡ false)
  unfolding new_in gone_in
  silent t = go (dec_lt t 10) (dec_lt t 133)
    where
      go : Dec (t < 10) → Dec (t < 133) → (new_in id (told t) ≡ 0) × (gone_in id (told t) ≡ false)
      go (yes a) b = script-silent t a
      go (no a) (yes b) =
          let is = told-before t (omega (arith, a)) b in
          (ap (new_in id) is, ap (gone_in id) is)
      go (no a) (no b) =
          let is = told-on t (omega (arith, b)) in
          (ap (new_in id) is, ap (gone_in id) is ∙ away)

  said-else : (t : ℕ) → Said example t id
  unfolding example
  said-else t = unsaid example id silent t (none-else (suc (epoch (timed example) t)) id e ∙ sym (none-else (epoch (timed example) t) id e))

  abbrev word : Bool → Word
  word b = cond b there unheard

  none-coming : coming_to example every id 4 ≡ unheard
  unfolding example told pick coming_before coming_in later-word change count_at
  none-coming = ap (λ (b : Bool). later-word (word b) (later-word (word b) (later-word (word b) (later-word (word b) unheard)))) away

  round-else : over_change (coming_to example every id 4) true example every id 4 ≡ true
  unfolding over_change same
  round-else =
      ap (λ (w : Word). over_change w true example every id 4) none-coming
      ∙ ap₂ (λ (xs ys : List ℕ). same xs ys) (none-else (epoch (timed example) 4) id e) (none-else (suc (epoch (timed example) 4)) id e)

two-left : (t : ℕ) → change (timed example) (suc t) ≡ true → (125 + suc t) % 256 % 128 ≡ 2
unfolding change count_at example
two-left t e = eqb-true ((125 + suc t) % 256 % 128) 2 e

not_yet : begun (timed example) 4 ≡ true → ⊥
unfolding begun change count_at example
not_yet e = subst T (sym e) tt

example-said : (t id : ℕ) → change (timed example) (suc t) ≡ true → begun (timed example) t ≡ true → Said example t id
example-said t id c b = go (ℕ_discrete id 7)
  where
    mine : Dec (t ≡ 4) → Dec (t ≡ 132) → Dec (t < 133) → Said example t 7
    mine (yes x) y z = absurd (not_yet (subst (λ (u : ℕ). begun (timed example) u ≡ true) x b))
    mine (no x) (yes y) z = subst (λ (u : ℕ). Said example u 7) (sym y) said-second
    mine (no x) (no y) (yes z) = absurd (omega (arith, two-left t c, x, y, z))
    mine (no x) (no y) (no z) = said-late t (omega (arith, z))

    go : Dec (id ≡ 7) → Said example t id
    go (yes e) = subst (Said example t) (sym e) (mine (ℕ_discrete t 4) (ℕ_discrete t 132) (dec_lt t 133))
    go (no e) = said-else id e t

pub example-orderly : Orderly example
unfolding example
example-orderly = record {
  linked = λ j id hid. example-linked j id;
  few = λ j. few-seven (example.config j) (none-else j);
  vectors = λ j. refl;
  turns = example-turns;
  said = λ t id hid c b. example-said t id c b;
}

-- ---- the request's own case

begun-on : (t : ℕ) → 5 ≤ t → begun (timed example) t ≡ true
unfolding begun change count_at example
begun-on = from_on 5 (λ t. begun (timed example) t ≡ true) refl next
  where
    next : (t : ℕ) → 5 ≤ t → begun (timed example) t ≡ true → begun (timed example) (suc t) ≡ true
    next t h e = go (change (timed example) (suc t))
      where
        go : (b : Bool) → (b || begun (timed example) t) ≡ true
        go true = refl
        go false = e

example-round : (t id : ℕ) → change (timed example) (suc t) ≡ true → begun (timed example) t ≡ false
    → over_change (coming_to example every id t) true example every id t ≡ true
unfolding example structures told pick over_change coming_before coming_in later-word rounds_of new_in first change count_at
example-round t id c b = go (ℕ_discrete id 7) (dec_lt t 5)
  where
    at-4 : t < 5 → t ≡ 4
    at-4 h = omega (arith, two-left t c, h)

    seven : over_change (coming_to example every 7 4) true example every 7 4 ≡ true
    seven = refl

    go : Dec (id ≡ 7) → Dec (t < 5) → over_change (coming_to example every id t) true example every id t ≡ true
    go i (no h) = absurd (subst T (sym (begun-on t (omega (arith, h))) ∙ b) tt)
    go (yes i) (yes h) = subst (λ (x : ℕ). over_change (coming_to example every x t) true example every x t ≡ true) (sym i)
        (subst (λ (u : ℕ). over_change (coming_to example every 7 u) true example every 7 u ≡ true) (sym (at-4 h)) seven)
    go (no i) (yes h) = subst (λ (u : ℕ). over_change (coming_to example every id u) true example every id u ≡ true) (sym (at-4 h)) (round-else id i)

pub example-followed : Followed example
unfolding example structures
example-followed = record { orderly = example-orderly; empty = none; round = λ t id hid c b. example-round t id c b }
  where
    none : (id : ℕ) → example.config 0 id ≡ []
    none id = go (eqb id 7)
      where
        go : (b : Bool) → ◌≡◌ {A = List ℕ} (cond b [] []) []
        go true = refl
        go false = refl

-- ---- what a machine shows of it, where it shows what is in force

-- frames 5, 133 and 261 begin a configuration
pub changes-at : (epoch (timed example) 4 ≡ 0) × ((epoch (timed example) 5 ≡ 1) × ((epoch (timed example) 132 ≡ 1) × ((epoch (timed example) 133 ≡ 2)
    × ((epoch (timed example) 260 ≡ 2) × (epoch (timed example) 261 ≡ 3)))))
unfolding epoch change count_at example
changes-at = (refl, (refl, (refl, (refl, (refl, refl)))))

module _ (M : Machine) (s : ShowsInForce M) where
  -- the fields that it shows of component 7, behind frame t, asked for the count of frame u
  abbrev pub asked : ℕ → ℕ → List ℕ
  asked t u = M.fields (kept M example every (suc t)) 7 (count_at (timed example) u)

  ended_is : (t : ℕ) → asked t t ≡ in_force example t 7
  ended_is t = (s.ended example example-followed t 7 (lit< tt)).fields

  runs-is : (t : ℕ) → asked t (suc t) ≡ in_force example (suc t) 7
  runs-is t = (s.runs example example-followed t 7 (lit< tt)).fields

  -- it is created
  pub created : (asked 4 4 ≡ []) × (asked 4 5 ≡ one ∷ two ∷ [])
  unfolding epoch change count_at example structures
  created = (ended_is 4, runs-is 4)

  -- it is moved
  pub moved : (asked 132 132 ≡ one ∷ two ∷ []) × (asked 132 133 ≡ one ∷ other ∷ [])
  unfolding epoch change count_at example structures
  moved = (ended_is 132, runs-is 132)

  -- it is deleted
  pub removed : (asked 260 260 ≡ one ∷ other ∷ []) × (asked 260 261 ≡ [])
  unfolding epoch change count_at example structures
  removed = (ended_is 260, runs-is 260)
