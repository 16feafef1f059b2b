-- From one frame that is heard to the next, up to 128 frames later.
--
--   near_same, near-change     the next frame is heard, in the same configuration or as the first of the next one
--   far-change                 frames are missed before a change
--   first-before               nothing was heard before
--
-- Assumes nothing.
use mathlib.Core.Path.{◌≡◌, refl, sym, ap, ap₂, ◌∙◌, subst}
use mathlib.Core.Bool.{Bool, true, false, cond, not, ◌&&◌, ◌||◌, or-false, or-true}
use mathlib.Core.List.{List}
use Prim.Native.Nat.{ℕ, zero, suc, ◌+◌, ◌-◌, ◌*◌, ◌<◌}
use native.Mathlib.Omega.{arith}
use borrow.Author.Tests.{eqb-true}
use lib.ListN.{length, get_or}
use Rattle.bits.proofs.Search.{and_left, and_right}
use lib.Dec.{T, eqb, lit<, lit≤}
use Rattle.bits.specs.Bits.{blank}
use Rattle.bits.proofs.Storing.{blank-length}
use Rattle.runs.proofs.Parts.{blank-at, part-blank}
use Rattle.structure.specs.Structure.{structure_size, head_of, certainly, spoiled}
use Rattle.structure.specs.declared.Structure.{Structure}
use Rattle.structure.proofs.Gathering.{Empty}
use Rattle.structure.proofs.Runs.{empty, spoiled-empty}
use Rattle.structure.proofs.Firsts.{open_none}
use Rattle.map.specs.Map.{ids, map_size, block_size, structure_at, each_from, changed_from, spoiled_both}
use Rattle.map.proofs.Places.{structure-length}
use Rattle.map.proofs.Changing.{blank-empty, gap_length, gap-structure, from-length}
use Rattle.multiplex.specs.Broadcast.{change, epoch, begun, Linked}
use Rattle.multiplex.specs.Broadcast as broadcast
use Rattle.multiplex.specs.Air.{Air, timed, new_in, old_in, later, same, last_old, last_new, link_of, links_old, links_new, new_before, new_to, gone_before, gone_to, in_force, coming, Said, nothing, described, deleted, Orderly}
use Rattle.multiplex.specs.Finding.{alone_before, rounds_of, rounds_before, rounds_to, new_rounds_before, new_rounds_to, wholly_before, news, over_change, ready_before, ready_to}
use Rattle.multiplex.specs.Doubting.{came_before, came_to}
use Rattle.multiplex.specs.Admitting.{is_absent, absent_before, absent_to}
use Rattle.multiplex.specs.Sound.{any_before, Word, unheard, absent, there, over, present_in, coming_in, coming_before, coming_to, present_before, present_to}
use Rattle.multiplex.proofs.Distances.{epoch-step, epoch-mono}
use Rattle.multiplex.proofs.Knowing.{Front, some, Next, none, Past, Settled, stays-so, told, ends, front-gap, front-unsure, front-sure}
use Rattle.multiplex.proofs.Words.{Words, Sure, sure-as, sure-gap, sure-change, words-as, words-gap, words-change, unheard-there, absent-unheard, Goes, goes_to}
use Rattle.multiplex.proofs.Rounded.{rounded}
use Rattle.multiplex.proofs.Rounding.{Right, Turns, Sought, came-by, none_is, right-sure, right_kept, right-gone, right-round, same-all}
use Rattle.multiplex.proofs.Rounding as rounding
use Rattle.multiplex.proofs.Listening.{Known, Before, front-as, next-as}
use Rattle.multiplex.proofs.Missing.{Gap, front-later, silent-new, none-sought, round-over, Lost, off-cond, heard_ready, ready-kept, lost-at, starts, none_yet}

pub same-eq : (xs ys : List ℕ) → xs ≡ ys → same xs ys ≡ true
same-eq xs ys e = ap (same xs) (sym e) ∙ same-all xs

-- ---- from when on it is right

turns_as : {r r' o o' : Bool} {b b' : ℕ} {xs xs' : List ℕ} {due due' l l' : ℕ} {F : List ℕ} → r ≡ r' → o ≡ o' → b ≡ b' → xs ≡ xs' → due ≡ due' → l ≡ l' → Turns r o b xs due l F → Turns r' o' b' xs' due' l' F
turns_as {r} {r'} {o} {o'} {b} {b'} {xs} {xs'} {due} {due'} {l} {l'} {F} er eo eb ex ed el w =
    subst (λ (x : Bool). Turns x o' b' xs' due' l' F) er
    (subst (λ (x : Bool). Turns r x b' xs' due' l' F) eo
    (subst (λ (x : ℕ). Turns r o x xs' due' l' F) eb
    (subst (λ (x : List ℕ). Turns r o b x due' l' F) ex (subst (λ (x : ℕ). Turns r o b xs x l' F) ed (subst (λ (x : ℕ). Turns r o b xs due x F) el w)))))

sought-as : {c c' : ℕ} {g g' : Bool} {zs zs' : List ℕ} {due due' l l' : ℕ} {A : List ℕ} → c ≡ c' → g ≡ g' → zs ≡ zs' → due ≡ due' → l ≡ l' → Sought c g zs due l A → Sought c' g' zs' due' l' A
sought-as {c} {c'} {g} {g'} {zs} {zs'} {due} {due'} {l} {l'} {A} ec eg ez ed el w =
    subst (λ (x : ℕ). Sought x g' zs' due' l' A) ec
    (subst (λ (x : Bool). Sought c x zs' due' l' A) eg
    (subst (λ (x : List ℕ). Sought c g x due' l' A) ez (subst (λ (x : ℕ). Sought c g zs x l' A) ed (subst (λ (x : ℕ). Sought c g zs due x A) el w))))

-- nothing is certain behind a change that is not sure
unsure-any : {g : Bool} {xs zs F A : List ℕ} → Sure false xs zs F A → Sure g xs zs F A
unsure-any w = record { front = w.front; next = w.next; gone = λ z c. absurd (subst T (sym (w.gone z c)) tt) }

module _ (a : Air) (w : Orderly a) (hears : ℕ → Bool) (t : ℕ) (m : List ℕ) (u : Bool) (k : Known a hears t m u) where
  abbrev e : ℕ
  e = epoch (timed a) t

  past : Past a (suc t) e
  past v hv = epoch-mono (timed a) v t (omega (arith, hv))

  -- what was heard last, behind frames that were missed or none
  goes : (n : ℕ) → t < n → Gap hears t n → (id : ℕ) → Goes a hears id t n
  goes n h gap id = goes_to a hears id t n (n - suc t) (omega arith) gap

  -- ---- the next frame

  wholly-next : (b : Bool) → change (timed a) (suc t) ≡ b → wholly_before a hears (suc t) ≡ (b || wholly_before a hears t)
  unfolding wholly_before
  wholly-next b c = λ i. c i || (k.heard i && wholly_before a hears t)

  -- over a change
  crossed : ℕ → Bool
  crossed id = cond (wholly_before a hears t) (ready_to a hears id t || news a id t) (over_change (coming_to a hears id t) (ready_to a hears id t) a hears id t)

  ready-next : (id : ℕ) → ready_before a hears id (suc t) ≡ cond (change (timed a) (suc t)) (crossed id) (ready_to a hears id t)
  unfolding ready_before crossed
  ready-next id =
      ap (λ (x : Bool). cond x (cond (change (timed a) (suc t)) (crossed id) (ready_to a hears id t))
      (cond (any_before hears t) (not (change (timed a) (suc t)) && ready_before a hears id t) (not (broadcast.some (in_force a (suc t) id))))) k.heard

  alone-next : (b : Bool) → change (timed a) (suc t) ≡ b → alone_before a hears (suc t) ≡ (not b && alone_before a hears t)
  unfolding alone_before
  alone-next b c =
      ap (λ (x : Bool). cond x (not (change (timed a) (suc t)) && alone_before a hears t) (not (any_before hears t))) k.heard
      ∙ ap (λ (x : Bool). not x && alone_before a hears t) c

  absent-next : (id : ℕ) (b : Bool) → change (timed a) (suc t) ≡ b
      → absent_before a hears id (suc t) ≡ cond b (wholly_before a hears t && is_absent (coming_to a hears id t)) (absent_to a hears id t)
  unfolding absent_before
  absent-next id b c =
      ap (λ (x : Bool). cond x (hears t && (wholly_before a hears t && is_absent (coming_to a hears id t))) (absent_to a hears id t)) c
      ∙ ap (λ (x : Bool). cond b (x && (wholly_before a hears t && is_absent (coming_to a hears id t))) (absent_to a hears id t)) k.heard

  rounds-next : (id : ℕ) → rounds_before a hears id (suc t) ≡ cond (change (timed a) (suc t)) 0 (rounds_to a hears id t)
  unfolding rounds_of
  rounds-next id = ap (λ (x : Bool). cond x (cond (change (timed a) (suc t)) 0 (rounds_to a hears id t)) 0) k.heard

  new-next : (id : ℕ) → new_rounds_before a hears id (suc t) ≡ cond (change (timed a) (suc t)) 0 (new_rounds_to a hears id t)
  unfolding rounds_of
  new-next id = ap (λ (x : Bool). cond x (cond (change (timed a) (suc t)) 0 (new_rounds_to a hears id t)) 0) k.heard

  came-next : (id : ℕ) (b : Bool) → change (timed a) (suc t) ≡ b → came_before a hears id (suc t) ≡ cond b false (came_to a hears id t)
  unfolding came_before
  came-next id b c =
      ap (λ (n : ℕ). cond (change (timed a) (suc t)) false (rounded (came_before a hears id t) n)) (new-next id)
      ∙ ap (λ (x : Bool). cond x false (rounded (came_before a hears id t) (cond x 0 (new_rounds_to a hears id t)))) c ∙ go b
    where
      go : (b : Bool) → cond b false (rounded (came_before a hears id t) (cond b 0 (new_rounds_to a hears id t))) ≡ cond b false (came_to a hears id t)
      go true = refl
      go false = refl

  pub near_same : change (timed a) (suc t) ≡ false → Before a hears (suc t) m u
  unfolding last_old last_new links_old links_new new_before gone_before begun
  near_same c =
      let on : epoch (timed a) (suc t) ≡ e = epoch-step (timed a) t false c in
      record {
        size = k.size;
        begun = λ q. ap (λ (b : Bool). change (timed a) (suc t) || b) (k.begun q) ∙ or-true (change (timed a) (suc t));
        front = λ id hid. front-as a hears (suc t) e id _ _ (epoch (timed a) (suc t)) (last_old a id (suc t)) (sym on)
            (sym (ap (λ (b : Bool). cond b (later (old_in id (a.carries t)) (last_old a id t)) 0) (same-eq _ _ (ap (λ (x : ℕ). a.config x id) (sym on)))))
            (k.front id hid);
        next = λ id hid. next-as a hears (suc t) e id _ _ _ _ u _ (epoch (timed a) (suc t)) (last_new a id (suc t)) (new_before a id (suc t))
            (links_new a id (suc t)) (gone_before a id (suc t)) (sym on)
            (sym (ap (λ (b : Bool). cond b 0 (later (new_in id (a.carries t)) (last_new a id t))) c))
            (sym (ap (λ (b : Bool). cond b 0 (new_to a id t)) c)) refl (sym (ap (λ (b : Bool). cond b false (gone_to a id t)) c)) (k.next id hid);
        words = λ id hid.
            let g = (goes (suc t) (omega arith) (λ v hv hh. hv) id).before on in
            words-as (k.words id hid) (sym g.1) (sym g.0) refl refl;
        sure = λ id hid. subst (λ (x : ℕ). Sure (absent_before a hears id (suc t)) (a.config x id) (a.config (suc x) id) (structure_at id 0 m) (structure_at id 1 m)) (sym on)
            (subst (λ (g : Bool). Sure g (in_force a t id) (coming a t id) (structure_at id 0 m) (structure_at id 1 m)) (sym (absent-next id false c)) (k.sure id hid));
        wholly = k.wholly ∙ sym (wholly-next false c);
        turns = λ id hid. turns_as (sym (ready-next id ∙ ap (λ (b : Bool). cond b (crossed id) (ready_to a hears id t)) c)) (sym (alone-next false c)) (sym (rounds-next id ∙ ap (λ (b : Bool). cond b 0 (rounds_to a hears id t)) c))
            (ap (λ (x : ℕ). a.config x id) (sym on))
            (sym (ap (λ (b : Bool). cond b (later (old_in id (a.carries t)) (last_old a id t)) 0) (same-eq _ _ (ap (λ (x : ℕ). a.config x id) (sym on))))) refl (k.turns id hid);
        sought = λ id hid. sought-as (sym (new-next id ∙ ap (λ (b : Bool). cond b 0 (new_rounds_to a hears id t)) c)) (sym (came-next id false c)) (ap (λ (x : ℕ). a.config (suc x) id) (sym on))
            (sym (ap (λ (b : Bool). cond b 0 (later (new_in id (a.carries t)) (last_new a id t))) c)) refl (k.sought id hid);
      }

  -- nothing is announced in the first frame of a configuration
  fresh : (n : ℕ) → Gap hears t n → epoch (timed a) n ≡ suc e → (v : Bool)
      → ((id : ℕ) → v ≡ true → (new_before a id n ≡ 0) × ((gone_before a id n ≡ false) × (last_new a id n ≡ 0)))
      → (id : ℕ) (s : List ℕ) → Empty s
      → Next a hears n (epoch (timed a) n) id (last_new a id n) (new_before a id n) (links_new a id n) (gone_before a id n) v s
  fresh n gap on v zeros id s em = none em (zeros id) (silent-new a hears t n gap (epoch (timed a) n) id (omega (arith, on)))

  settled-by : (id : ℕ) → Said a t id → Settled (in_force a t id) (coming a t id) (new_to a id t) (gone_to a id t)
  settled-by id (nothing z g s) = stays-so z g s
  settled-by id (described p q) = told p q
  settled-by id (deleted z g) = ends z g

  abbrev Then : Bool → ℕ → Type 0
  Then v id =
      Front a hears (suc t) (suc e) id (last_old a id (suc t)) (structure_at id 0 (changed_from ids 0 v m)) × Empty (structure_at id 1 (changed_from ids 0 v m))

  change-both : change (timed a) (suc t) ≡ true → epoch (timed a) (suc t) ≡ suc e → (id : ℕ) → id < ids → (v : Bool) → u ≡ v → Then u id
  unfolding last_old
  change-both c on id hid true q =
      subst (λ (x : Bool). Then x id) (sym q)
      (front-sure a hears (suc t) e id past hid m k.size (w.linked (suc e) id hid) (later (old_in id (a.carries t)) (last_old a id t)) (last_old a id (suc t))
      (later (new_in id (a.carries t)) (last_new a id t)) (new_to a id t) (cond (eqb (new_in id (a.carries t)) 0) (links_new a id t) (link_of (a.carries t))) (gone_to a id t)
      (λ z. ap (λ (b : Bool). cond b (later (old_in id (a.carries t)) (last_old a id t)) 0) (same-eq _ _ (sym z ∙ ap (λ (x : ℕ). a.config x id) (sym on))))
      (settled-by id (w.said t id hid c (k.begun q))) (k.front id hid)
      (subst (λ (x : Bool). Next a hears (suc t) e id (later (new_in id (a.carries t)) (last_new a id t)) (new_to a id t)
      (cond (eqb (new_in id (a.carries t)) 0) (links_new a id t) (link_of (a.carries t))) (gone_to a id t) x (structure_at id 1 m)) q (k.next id hid)))
  change-both c on id hid false q =
      subst (λ (x : Bool). Then x id) (sym q)
      (front-unsure a hears (suc t) e id past hid m k.size (w.linked (suc e) id hid) _ (last_old a id (suc t)) _ _ _ _ u (k.front id hid) (k.next id hid))

  -- right behind the change
  right-change : change (timed a) (suc t) ≡ true → (id : ℕ) → id < ids → (v : Bool) → u ≡ v → crossed id ≡ true
      → Right (coming a t id) (last_old a id (suc t)) (structure_at id 0 (changed_from ids 0 u m))
  unfolding crossed news over_change
  right-change c id hid true q e =
      subst (λ (x : Bool). Right (coming a t id) (last_old a id (suc t)) (structure_at id 0 (changed_from ids 0 x m))) (sym q)
      (right-sure a hears (suc t) (epoch (timed a) t) id hid m k.size (w.linked (suc (epoch (timed a) t)) id hid) (last_old a id (suc t))
      (later (old_in id (a.carries t)) (last_old a id t)) _ _ _ _ (ready_to a hears id t) (settled-by id (w.said t id hid c (k.begun q)))
      (subst (λ (x : Bool). Next a hears (suc t) (epoch (timed a) t) id (later (new_in id (a.carries t)) (last_new a id t)) (new_to a id t)
      (cond (eqb (new_in id (a.carries t)) 0) (links_new a id t) (link_of (a.carries t))) (gone_to a id t) x (structure_at id 1 m)) q (k.next id hid))
      (k.turns id hid).rightly
      (sym (ap (λ (b : Bool). cond b (ready_to a hears id t || news a id t) (over_change (coming_to a hears id t) (ready_to a hears id t) a hears id t)) (sym k.wholly ∙ q)) ∙ e))
  right-change c id hid false q e =
      by (coming_to a hears id t) refl
      (sym (ap (λ (b : Bool). cond b (ready_to a hears id t || news a id t) (over_change (coming_to a hears id t) (ready_to a hears id t) a hears id t)) (sym k.wholly ∙ q)) ∙ e)
    where
      next : ℕ
      next = last_old a id (suc t)

      now : ℕ
      now = epoch (timed a) t

      lk : Linked (a.config (suc now) id)
      lk = w.linked (suc now) id hid

      by : (x : Word) → coming_to a hears id t ≡ x → over_change (coming_to a hears id t) (ready_to a hears id t) a hears id t ≡ true
          → Right (coming a t id) (last_old a id (suc t)) (structure_at id 0 (changed_from ids 0 u m))
      by unheard z ok =
          let y : (ready_to a hears id t && same (in_force a t id) (coming a t id)) ≡ true = sym (ap (λ (v : Word). over_change v (ready_to a hears id t) a hears id t) z) ∙ ok in
          let n = (k.words id hid).nothing z in
          right_kept a hears (suc t) now id hid m k.size lk next (later (old_in id (a.carries t)) (last_old a id t)) u n.0 n.1
          (and_right (ready_to a hears id t) _ y) ((k.turns id hid).rightly (and_left (ready_to a hears id t) _ y))
      by absent z ok =
          let n = (k.words id hid).ended z in
          right-gone a hears (suc t) now id hid m k.size lk next u _ _ _ _ u (k.next id hid) n.0 n.1
          (sym (ap (λ (v : Word). over_change v (ready_to a hears id t) a hears id t) z) ∙ ok)
      by there z ok =
          right-round a hears (suc t) now id hid m k.size lk next u (new_rounds_to a hears id t) (later (new_in id (a.carries t)) (last_new a id t))
          (cond (eqb (new_in id (a.carries t)) 0) (links_new a id t) (link_of (a.carries t))) (came-by (k.sought id hid))
          (sym (ap (λ (v : Word). over_change v (ready_to a hears id t) a hears id t) z) ∙ ok)

  pub near-change : change (timed a) (suc t) ≡ true → Before a hears (suc t) (changed_from ids 0 u m) true
  unfolding last_old last_new new_before gone_before begun
  near-change c =
      let on : epoch (timed a) (suc t) ≡ suc e = epoch-step (timed a) t true c in
      record {
        size = from-length u ids 0 m (lit≤ tt) k.size;
        begun = λ q. ap (λ (b : Bool). b || begun (timed a) t) c;
        front = λ id hid. subst (λ (x : ℕ). Front a hears (suc t) x id (last_old a id (suc t)) (structure_at id 0 (changed_from ids 0 u m))) (sym on) (change-both c on id hid u refl).0;
        next = λ id hid. fresh (suc t) (λ v hv hh. hv) on true
            (λ j z. (ap (λ (b : Bool). cond b 0 (new_to a j t)) c, (ap (λ (b : Bool). cond b false (gone_to a j t)) c, ap (λ (b : Bool). cond b 0 (later (new_in j (a.carries t)) (last_new a j t))) c)))
            id _ (change-both c on id hid u refl).1;
        words = λ id hid.
            let g = (goes (suc t) (omega arith) (λ v hv hh. hv) id).behind on in
            words-as (words-change u m k.size id hid _ _ (k.words id hid)) (sym g.1) (sym g.0) refl refl;
        sure = λ id hid.
            subst (λ (x : ℕ). Sure (absent_before a hears id (suc t)) (a.config x id) (a.config (suc x) id) (structure_at id 0 (changed_from ids 0 u m)) (structure_at id 1 (changed_from ids 0 u m)))
            (sym on)
            (subst (λ (g : Bool). Sure g (coming a t id) (a.config (suc (suc e)) id) (structure_at id 0 (changed_from ids 0 u m)) (structure_at id 1 (changed_from ids 0 u m)))
            (sym (absent-next id true c ∙ ap (λ (b : Bool). b && is_absent (coming_to a hears id t)) (sym k.wholly)))
            (sure-change u m k.size id hid _ _ (k.words id hid) (absent_to a hears id t) _ _ _ (k.sure id hid)));
        wholly = sym (wholly-next true c);
        turns = λ id hid. record {
          rightly = λ e. subst (λ (x : ℕ). Right (a.config x id) (last_old a id (suc t)) (structure_at id 0 (changed_from ids 0 u m))) (sym on)
              (right-change c id hid u refl (sym (ready-next id ∙ ap (λ (b : Bool). cond b (crossed id) (ready_to a hears id t)) c) ∙ e));
          round = rounding.unbegun (rounds-next id ∙ ap (λ (b : Bool). cond b 0 (rounds_to a hears id t)) c);
          only = λ z. absurd (subst T (sym z ∙ alone-next true c) tt);
        };
        sought = λ id hid. none-sought (new-next id ∙ ap (λ (b : Bool). cond b 0 (new_rounds_to a hears id t)) c) (came-next id true c) (change-both c on id hid u refl).1;
      }

  -- ---- a change of which the last frame before was missed

  module _ (n : ℕ) (missed : suc t < n) (gap : Gap hears t n) (on : epoch (timed a) n ≡ suc e) (late : change (timed a) (suc t) ≡ false) where
    abbrev behind : List ℕ
    behind = changed_from ids 0 false m

    abbrev gaps : List ℕ
    gaps = each_from ids 0 spoiled_both behind

    lb : length behind ≡ map_size
    lb = from-length false ids 0 m (lit≤ tt) k.size

    at : (id v : ℕ) → id < ids → v < 2 → structure_at id v gaps ≡ spoiled (structure_at id v behind)
    at id v hid hv = gap-structure behind lb id v hid hv

    lost : Lost a hears n
    lost = lost-at a hears t n missed gap k.heard

    far-both : (id : ℕ) → id < ids → Front a hears (suc t) (suc e) id 0 (structure_at id 0 behind) × Empty (structure_at id 1 behind)
    far-both id hid = front-unsure a hears (suc t) e id past hid m k.size (w.linked (suc e) id hid) _ 0 _ _ _ _ u (k.front id hid) (k.next id hid)

    far-front : (id : ℕ) → id < ids → Front a hears n (suc e) id (last_old a id n) (structure_at id 0 gaps)
    far-front id hid =
        subst (Front a hears n (suc e) id (last_old a id n)) (sym (at id 0 hid (lit< tt)))
        (front-later a hears t n gap (suc e) id _ _ (front-gap a hears (suc t) (suc e) id 0 (last_old a id n) _ (far-both id hid).0))

    far-words : (id : ℕ) → id < ids → Words (present_before a hears id n) (coming_before a hears id n) (structure_at id 0 gaps) (structure_at id 1 gaps)
    far-words id hid =
        let g = (goes n (omega (arith, missed)) gap id).behind on in
        words-as (words-gap _ _ _ _ (structure-length behind lb id 0 hid (lit< tt)) (structure-length behind lb id 1 hid (lit< tt))
        (words-change false m k.size id hid _ _ (k.words id hid))) (sym g.1) (sym g.0) (sym (at id 0 hid (lit< tt))) (sym (at id 1 hid (lit< tt)))

    far-sure : (id : ℕ) → id < ids → Sure (absent_before a hears id n) (coming a t id) (a.config (suc (suc e)) id) (structure_at id 0 gaps) (structure_at id 1 gaps)
    far-sure id hid =
        unsure-any (sure-as (sym (at id 0 hid (lit< tt))) (sym (at id 1 hid (lit< tt)))
        (sure-gap false _ _ _ _ (structure-length behind lb id 0 hid (lit< tt)) (structure-length behind lb id 1 hid (lit< tt))
        (sure-change false m k.size id hid _ _ (k.words id hid) (absent_to a hears id t) _ _ _ (k.sure id hid))))

    not_round : (id : ℕ) → came_before a hears id n ≡ false
    not_round id = round-over a hears id t n (omega (arith, missed)) gap (omega (arith, on, epoch-step (timed a) t false late))

    pub far-change : Before a hears n gaps (change (timed a) n)
    far-change = record {
      size = gap_length behind lb;
      begun = starts a n;
      front = λ id hid. subst (λ (x : ℕ). Front a hears n x id (last_old a id n) (structure_at id 0 gaps)) (sym on) (far-front id hid);
      next = λ id hid. fresh n gap on (change (timed a) n) (λ j z. none_yet a n j z) id _
          (subst Empty (sym (at id 1 hid (lit< tt))) (spoiled-empty _ (far-both id hid).1));
      words = far-words;
      sure = λ id hid.
          subst (λ (x : ℕ). Sure (absent_before a hears id n) (a.config x id) (a.config (suc x) id) (structure_at id 0 gaps) (structure_at id 1 gaps)) (sym on) (far-sure id hid);
      wholly = sym lost.wholly;
      turns = λ id hid. record {
        rightly = λ z. absurd (omega (arith, on, (ready-kept a hears id t n (omega (arith, missed)) gap k.heard z).0, epoch-step (timed a) t false late));
        round = rounding.unbegun (lost.rounds id);
        only = λ z. absurd (subst T (sym (sym lost.alone ∙ z)) tt);
      };
      sought = λ id hid. none-sought (lost.announced id) (not_round id) (subst Empty (sym (at id 1 hid (lit< tt))) (spoiled-empty _ (far-both id hid).1));
    }

-- ---- nothing was heard before

pub blank-structure : (id v : ℕ) → id < ids → v < 2 → Empty (structure_at id v (blank map_size))
unfolding structure_at
blank-structure id v hid hv = blank-empty _ (part-blank (id * block_size + v * structure_size) structure_size map_size (omega arith))

pub blank-certain : (id : ℕ) → id < ids → (head_of (structure_at id 0 (blank map_size))).certain ≡ 0
unfolding structure_at head_of
blank-certain id hid =
    ap (λ (s : List ℕ). get_or s 6 0) (part-blank (id * block_size + 0 * structure_size) structure_size map_size (omega arith)) ∙ blank-at structure_size 6

certainly-mark : (h : Structure) → certainly h ≡ true → eqb h.certain 1 ≡ true
unfolding certainly
certainly-mark h c = and_left (eqb h.certain 1) _ c

-- nothing was heard of any
unspoken : (a : Air) (hears : ℕ → Bool) (id t : ℕ) → ((v : ℕ) → v < t → hears v ≡ true → ⊥) → (present_before a hears id t ≡ unheard) × (coming_before a hears id t ≡ unheard)
unfolding present_before coming_before over
unspoken a hears id zero quiet = (refl, refl)
unspoken a hears id (suc t) quiet = go (hears t) refl (unspoken a hears id t (λ v hv hh. quiet v (omega (arith, hv)) hh))
  where
    go : (b : Bool) → hears t ≡ b → (present_before a hears id t ≡ unheard) × (coming_before a hears id t ≡ unheard)
        → (present_before a hears id (suc t) ≡ unheard) × (coming_before a hears id (suc t) ≡ unheard)
    go true e r = absurd (quiet t (omega arith) e)
    go false e r = both (change (timed a) (suc t)) refl
      where
        p : present_to a hears id t ≡ unheard
        p = ap (λ (b : Bool). over (cond b (present_in id (a.carries t)) unheard) (present_before a hears id t)) e ∙ r.0

        c : coming_to a hears id t ≡ unheard
        c = ap (λ (b : Bool). over (cond b (coming_in id (a.carries t)) unheard) (coming_before a hears id t)) e ∙ r.1

        both : (b : Bool) → change (timed a) (suc t) ≡ b → (present_before a hears id (suc t) ≡ unheard) × (coming_before a hears id (suc t) ≡ unheard)
        both true q = (
          ap (λ (b : Bool). cond b (over (coming_to a hears id t) (present_to a hears id t)) (present_to a hears id t)) q ∙ ap₂ over c p,
          ap (λ (b : Bool). cond b unheard (coming_to a hears id t)) q,
        )
        both false q = (
          ap (λ (b : Bool). cond b (over (coming_to a hears id t) (present_to a hears id t)) (present_to a hears id t)) q ∙ p,
          ap (λ (b : Bool). cond b unheard (coming_to a hears id t)) q ∙ c,
        )

-- before the first frame that is heard
record First (a : Air) (hears : ℕ → Bool) (n : ℕ) : Type 0 where
  wholly : wholly_before a hears n ≡ change (timed a) n
  ready : (id : ℕ) → ready_before a hears id n ≡ not (broadcast.some (in_force a n id))
  rounds : (id : ℕ) → rounds_before a hears id n ≡ 0
  announced : (id : ℕ) → new_rounds_before a hears id n ≡ 0
  round : (id : ℕ) → came_before a hears id n ≡ false

none-heard : (hears : ℕ → Bool) (n : ℕ) → ((v : ℕ) → v < n → hears v ≡ true → ⊥) → any_before hears n ≡ false
unfolding any_before
none-heard hears zero q = refl
none-heard hears (suc n) q =
    ap₂ (λ (x y : Bool). x || y) (off (hears n) refl) (none-heard hears n (λ v hv. q v (omega (arith, hv))))
  where
    off : (b : Bool) → hears n ≡ b → hears n ≡ false
    off true e = absurd (q n (omega arith) e)
    off false e = e

first-at : (a : Air) (hears : ℕ → Bool) (n : ℕ) → ((v : ℕ) → v < n → hears v ≡ true → ⊥) → First a hears n
unfolding wholly_before ready_before rounds_of came_before
first-at a hears zero q = record { wholly = refl; ready = λ id. refl; rounds = λ id. refl; announced = λ id. refl; round = λ id. refl }
first-at a hears (suc n) q =
    let off : hears n ≡ false = off_at (hears n) refl in
    let any : any_before hears n ≡ false = none-heard hears n (λ v hv. q v (omega (arith, hv))) in
    let before = first-at a hears n (λ v hv. q v (omega (arith, hv))) in
    record {
      wholly = ap (λ (b : Bool). change (timed a) (suc n) || (b && wholly_before a hears n)) off ∙ or-false (change (timed a) (suc n));
      ready = λ id. off-cond (heard_ready a hears id n) (cond (any_before hears n) (not (change (timed a) (suc n)) && ready_before a hears id n) (not (broadcast.some (in_force a (suc n) id)))) (hears n) off
          ∙ ap (λ (b : Bool). cond b (not (change (timed a) (suc n)) && ready_before a hears id n) (not (broadcast.some (in_force a (suc n) id)))) any;
      rounds = λ id. off-cond (cond (change (timed a) (suc n)) 0 (rounds_to a hears id n)) 0 (hears n) off;
      announced = λ id. off-cond (cond (change (timed a) (suc n)) 0 (new_rounds_to a hears id n)) 0 (hears n) off;
      round = λ id.
          ap₂ (λ (x : Bool) (y : ℕ). cond (change (timed a) (suc n)) false (rounded x y)) (before.round id)
          (off-cond (cond (change (timed a) (suc n)) 0 (new_rounds_to a hears id n)) 0 (hears n) off)
          ∙ neither (change (timed a) (suc n));
    }
  where
    neither : (b : Bool) → cond b false false ≡ false
    neither true = refl
    neither false = refl

    off_at : (b : Bool) → hears n ≡ b → hears n ≡ false
    off_at true e = absurd (q n (omega arith) e)
    off_at false e = e

pub first-before : (a : Air) (hears : ℕ → Bool) (t : ℕ) → ((v : ℕ) → v < t → hears v ≡ true → ⊥) → Before a hears t (blank map_size) (change (timed a) t)
first-before a hears t quiet = record {
  size = blank-length map_size;
  begun = starts a t;
  front = λ id hid. some (empty (blank-structure id 0 hid (lit< tt)));
  next = λ id hid. none (blank-structure id 1 hid (lit< tt)) (none_yet a t id) (λ v hv hh z. absurd (quiet v hv hh));
  words = λ id hid.
      let r = unspoken a hears id t quiet in
      let em = blank-structure id 1 hid (lit< tt) in
      record {
        present = λ q. unheard-there (sym r.0 ∙ q);
        coming = λ q. unheard-there (sym r.1 ∙ q);
        nothing = λ q. (em.fields, em.deleted);
        gone = λ z c. absurd (c (blank-certain id hid));
        ends = λ z c. absurd (omega (arith, c, em.deleted));
        ended = λ q. absent-unheard (sym q ∙ r.1);
        heard = λ h. absurd (omega (arith, h, (blank-structure id 0 hid (lit< tt)).fields));
        told = λ h. absurd (omega (arith, h, em.fields));
      };
  sure = λ id hid. record {
    front = λ c. absurd (omega (arith, eqb-true (head_of (structure_at id 0 (blank map_size))).certain 1 (certainly-mark _ c), blank-certain id hid));
    next = λ h. absurd (omega (arith, h, (blank-structure id 1 hid (lit< tt)).fields));
    gone = λ z c. absurd (c (blank-certain id hid));
  };
  wholly = sym (first-at a hears t quiet).wholly;
  turns = λ id hid. record {
    rightly = λ z. rounding.absent (none_is (in_force a t id) (sym ((first-at a hears t quiet).ready id) ∙ z)) (blank-structure id 0 hid (lit< tt));
    round = rounding.unbegun ((first-at a hears t quiet).rounds id);
    only = λ z.
        let em = blank-structure id 0 hid (lit< tt) in
        rounding.open-yet ((first-at a hears t quiet).rounds id) (open_none (in_force a t id) (structure_at id 0 (blank map_size)) em.fields em.whole);
  };
  sought = λ id hid. none-sought ((first-at a hears t quiet).announced id) ((first-at a hears t quiet).round id) (blank-structure id 1 hid (lit< tt));
}
