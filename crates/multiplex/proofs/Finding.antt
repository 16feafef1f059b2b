-- From when on a map is right: the theorems, of our machine.
--
--   ended, runs       where it must be right, it shows what is in force in the frame that has ended, and in the one that runs
--   finds             a lawful broadcast is never refused, and is shown rightly from then on
--   shows-in-force    the request's own case
--
-- Assumes nothing.
use mathlib.Core.Path.{◌≡◌, refl, sym, ap, ap₂, ◌∙◌, subst}
use mathlib.Core.Bool.{Bool, true, false, cond, not, ◌&&◌, ◌||◌, and-true, or-true}
use mathlib.Core.List.{List, []}
use mathlib.Core.Logic.{◌⊎◌, inl, inr}
use Prim.Native.Nat.{ℕ, zero, suc, ◌≤◌, ◌<◌}
use native.Mathlib.Omega.{arith}
use borrow.Author.Tests.{le-ltb, lt-ltb}
use lib.Dec.{ltb, eqb}
use lib.ListN.{length}
use Rattle.bits.proofs.Search.{and_left, and_right, clash}
use Rattle.structure.specs.Structure.{most, head_of, said}
use Rattle.structure.proofs.Gathering.{Holds}
use Rattle.frames.specs.Counts.{changing, all_heard}
use Rattle.map.specs.Map.{ids, structure_at, frames_of, announced}
use Rattle.multiplex.specs.Broadcast.{count_at, change, epoch, begun}
use Rattle.multiplex.specs.Broadcast as broadcast
use Rattle.multiplex.specs.Heard.{ours}
use Rattle.multiplex.specs.Air.{Air, timed, new_in, old_in, later, last_old, last_new, link_of, links_new, new_to, gone_to, in_force, coming, Said, nothing, described, deleted, Orderly}
use Rattle.multiplex.specs.Sound.{kept, missed_before, any_before, Word, unheard, absent, there, coming_to}
use Rattle.multiplex.specs.Finding.{Near, alone_before, found, rounds_to, new_rounds_to, wholly_before, news, over_change, ready_before, ready_to, Rightly, Finds, every, Followed, ShowsInForce}
use Rattle.multiplex.proofs.Counting.{heard_all}
use Rattle.multiplex.proofs.Distances.{epoch-step}
use Rattle.multiplex.proofs.Knowing.{Deleting, Next, none, delete, piece, sure, Settled, stays-so, told, ends}
use Rattle.multiplex.proofs.Knowing as knowing
use Rattle.multiplex.proofs.Rounding.{Right, came-full, came-by, same-is, none_is}
use Rattle.multiplex.proofs.Rounding as rounding
use Rattle.multiplex.proofs.Listening.{Known}
use Rattle.multiplex.proofs.Seeing.{Force, Seen, seen-force, seen-coming, seen-deleted}
use Rattle.multiplex.proofs.Seeing as seeing
use Rattle.multiplex.proofs.Asked.{changing-now}
use Rattle.multiplex.proofs.Accepting.{taken}
use Rattle.multiplex.proofs.Telling.{Kept, kept_at}

force-of : (xs : List ℕ) (due : ℕ) (F : List ℕ) → Right xs due F → Force F xs
force-of xs due F (rounding.absent z e) = seeing.absent z e
force-of xs due F (rounding.present m hm pos la h) = seeing.present m hm pos h

module _ (a : Air) (w : Orderly a) (hears : ℕ → Bool) (t : ℕ) (m : List ℕ) (k : Kept a hears t m) (id : ℕ) (hid : id < ids) where
  h : Known a hears t m k.unbroken
  h = k.holds

  abbrev e : ℕ
  e = epoch (timed a) t

  abbrev zs : List ℕ
  zs = coming a t id

  abbrev A : List ℕ
  A = structure_at id 1 m

  few : (j : ℕ) → length (a.config j id) ≤ most
  few j = (w.linked j id hid).few

  -- what is in force, for a frame before the next change
  force-seen : (count : ℕ) → (changing (frames_of m) count && said (announced id m)) ≡ false → (xs : List ℕ) → length xs ≤ most → (due : ℕ) → Right xs due (structure_at id 0 m)
      → Seen m id count xs
  force-seen count q xs fx due r = seen-force m id count h.size k.all-good q xs fx (force-of xs due (structure_at id 0 m) r)

  pub ended : ready_to a hears id t ≡ true → Seen m id (count_at (timed a) t) (in_force a t id)
  ended ok =
      force-seen (count_at (timed a) t)
      (ap (λ (b : Bool). b && said (announced id m))
      (changing-now a hears t m k.unbroken h t (omega arith) (omega arith) ∙ le-ltb e e (omega arith)))
      (in_force a t id) (few e) _ ((h.turns id hid).rightly ok)

  -- ---- the frame that runs

  abbrev c : ℕ
  c = count_at (timed a) (suc t)

  changing-is : changing (frames_of m) c ≡ ltb e (epoch (timed a) (suc t))
  changing-is = changing-now a hears t m k.unbroken h (suc t) (omega arith) (omega arith)

  still : change (timed a) (suc t) ≡ false → ready_to a hears id t ≡ true → Seen m id c (in_force a (suc t) id)
  still q ok =
      let on : epoch (timed a) (suc t) ≡ e = epoch-step (timed a) t false q in
      subst (λ (n : ℕ). Seen m id c (a.config n id)) (sym on)
      (force-seen c (ap (λ (b : Bool). b && said (announced id m)) (changing-is ∙ le-ltb e (epoch (timed a) (suc t)) (omega (arith, on)))) (a.config e id) (few e) _ ((h.turns id hid).rightly ok))

  module _ (q : change (timed a) (suc t) ≡ true) where
    on : epoch (timed a) (suc t) ≡ suc e
    on = epoch-step (timed a) t true q

    now : changing (frames_of m) c ≡ true
    now = changing-is ∙ lt-ltb e (epoch (timed a) (suc t)) (omega (arith, on))

    all-heard : all_heard (frames_of m) ≡ k.unbroken
    all-heard =
        ap all_heard h.frames ∙ heard_all (timed a) t k.unbroken _ ∙ ap (λ (b : Bool). k.unbroken && b) q ∙ and-true k.unbroken

    -- nothing is announced
    unsaid-seen : (head_of A).fields ≡ 0 → (head_of A).deleted ≡ 0 → (due : ℕ) → zs ≡ a.config e id → Right (a.config e id) due (structure_at id 0 m) → Seen m id c zs
    unfolding said announced
    unsaid-seen f d due z r =
        subst (Seen m id c) (sym z)
        (force-seen c (ap₂ (λ (x y : Bool). x && y) now (ap₂ (λ (x y : ℕ). ltb 0 x || eqb y 1) f d)) (a.config e id) (few e) due r)

    listed-seen : (v l : ℕ) → 0 < length zs → Holds A (length zs) zs v l → (k.unbroken ≡ true × (head_of A).late ≡ 0) ⊎ (v ≡ 1) → Seen m id c zs
    unfolding said announced
    listed-seen v l pos x why =
        seen-coming m id c h.size k.all-good
        (ap₂ (λ (b d : Bool). b && (d || eqb (head_of A).deleted 1)) now (lt-ltb 0 (head_of A).fields (omega (arith, x.fields, pos))))
        k.unbroken all-heard zs v l why pos (few (suc e)) x

    deleted-seen : Deleting A → zs ≡ [] → Seen m id c zs
    unfolding said announced
    deleted-seen d z =
        subst (Seen m id c) (sym z)
        (seen-deleted m id c h.size k.all-good
        (ap₂ (λ (b : Bool) (n : ℕ). b && (ltb 0 (head_of A).fields || eqb n 1)) now d.deleted ∙ or-true (ltb 0 (head_of A).fields))
        k.unbroken all-heard d.fields d.whole)

    settled-by : Said a t id → Settled (in_force a t id) zs (new_to a id t) (gone_to a id t)
    settled-by (nothing z g s) = stays-so z g s
    settled-by (described p s) = told p s
    settled-by (deleted z g) = ends z g

    -- the configuration was wholly heard
    run-sure : k.unbroken ≡ true → (due dn count links : ℕ) (gone ready : Bool) → Settled (a.config e id) zs count gone
        → Next a hears (suc t) e id dn count links gone true A → (ready ≡ true → Right (a.config e id) due (structure_at id 0 m))
        → (ready || (ltb 0 count || gone)) ≡ true → Seen m id c zs
    run-sure u due dn count links gone ready (stays-so c0 g0 z) (none em x y) r ok =
        unsaid-seen em.fields em.deleted due z (r (was ready (ap₂ (λ (p : ℕ) (o : Bool). ltb 0 p || o) c0 g0) ok))
      where
        was : {y : Bool} (x : Bool) → y ≡ false → (x || y) ≡ true → x ≡ true
        was true f e = refl
        was false f e = sym f ∙ e
    run-sure u due dn count links gone ready (told p le) (none em x y) r ok = absurd (omega (arith, p, le, (x refl).0))
    run-sure u due dn count links gone ready (ends z g1) (none em x y) r ok = clash (sym g1 ∙ (x refl).1.0)
    run-sure u due dn count links gone ready (stays-so c0 g0 z) (delete d x) r ok = clash (sym (x refl).1.0 ∙ g0)
    run-sure u due dn count links gone ready (told p le) (delete d x) r ok = absurd (omega (arith, p, le, (x refl).0))
    run-sure u due dn count links gone ready (ends z g1) (delete d x) r ok = deleted-seen d z
    run-sure u due dn count links gone ready st (piece x y z) r ok = clash x
    run-sure u due dn count links gone ready (stays-so c0 g0 z) (sure i pos le x d hl la y) r ok = absurd (omega (arith, pos, x, c0))
    run-sure u due dn count links gone ready (told p le2) (sure i pos le x d hl la y) r ok =
        let z : i ≡ length zs = omega (arith, le, le2, x) in
        listed-seen 0 links p (subst (λ (n : ℕ). Holds A n zs 0 links) z y) (inl (u, la))
    run-sure u due dn count links gone ready (ends z g1) (sure i pos le x d hl la y) r ok = absurd (omega (arith, pos, le, ap length z))
    run-sure u due dn count links gone ready st (knowing.full l hl pos la y) r ok = listed-seen 1 l pos y (inr refl)

    -- frames of it were missed
    run-over : (x : Word) → coming_to a hears id t ≡ x → over_change x (ready_to a hears id t) a hears id t ≡ true → Seen m id c zs
    unfolding over_change
    run-over unheard z ok =
        let n = (h.words id hid).nothing z in
        unsaid-seen n.0 n.1 _ (sym (same-is (in_force a t id) zs (and_right (ready_to a hears id t) _ ok))) ((h.turns id hid).rightly (and_left (ready_to a hears id t) _ ok))
    run-over absent z ok = by (h.next id hid) ((h.words id hid).ended z)
      where
        by : {dn count links : ℕ} {gone u : Bool} → Next a hears (suc t) e id dn count links gone u A → ((head_of A).fields ≡ 0) × ((head_of A).deleted ≡ 1) → Seen m id c zs
        by (none em x y) n = absurd (omega (arith, n.1, em.deleted))
        by (delete d x) n = deleted-seen d (none_is zs ok)
        by (piece x y p) n = absurd (omega (arith, y, n.0))
        by (sure i pos le x d hl la y) n = absurd (omega (arith, pos, n.0, y.fields))
        by (knowing.full l hl pos la y) n = absurd (omega (arith, pos, n.0, y.fields))
    run-over there z ok =
        let y = came-full (new_rounds_to a hears id t) zs _ _ A (came-by (h.sought id hid)) ok in
        listed-seen 1 y.1.0 y.0 y.1.1.1 (inr refl)

    run-change : cond (wholly_before a hears t) (ready_to a hears id t || news a id t) (over_change (coming_to a hears id t) (ready_to a hears id t) a hears id t) ≡ true
        → Seen m id c zs
    unfolding news
    run-change ok = go k.unbroken refl
      where
        dn : ℕ
        dn = later (new_in id (a.carries t)) (last_new a id t)

        ln : ℕ
        ln = cond (eqb (new_in id (a.carries t)) 0) (links_new a id t) (link_of (a.carries t))

        go : (b : Bool) → k.unbroken ≡ b → Seen m id c zs
        go true u =
            run-sure u (later (old_in id (a.carries t)) (last_old a id t)) dn (new_to a id t) ln (gone_to a id t) (ready_to a hears id t) (settled-by (w.said t id hid q (h.begun u)))
            (subst (λ (x : Bool). Next a hears (suc t) e id dn (new_to a id t) ln (gone_to a id t) x A) u (h.next id hid)) (h.turns id hid).rightly
            (sym (ap (λ (b : Bool). cond b (ready_to a hears id t || news a id t) (over_change (coming_to a hears id t) (ready_to a hears id t) a hears id t)) (sym h.wholly ∙ u)) ∙ ok)
        go false u =
            run-over (coming_to a hears id t) refl
            (sym (ap (λ (b : Bool). cond b (ready_to a hears id t || news a id t) (over_change (coming_to a hears id t) (ready_to a hears id t) a hears id t)) (sym h.wholly ∙ u)) ∙ ok)

  pub runs : ready_before a hears id (suc t) ≡ true → Seen m id c (in_force a (suc t) id)
  unfolding ready_before
  runs ok = go (change (timed a) (suc t)) refl
    where
      crossed : Bool
      crossed = cond (wholly_before a hears t) (ready_to a hears id t || news a id t) (over_change (coming_to a hears id t) (ready_to a hears id t) a hears id t)

      is : cond (change (timed a) (suc t)) crossed (ready_to a hears id t) ≡ true
      is =
          sym (ap (λ (b : Bool). cond b (cond (change (timed a) (suc t)) crossed (ready_to a hears id t))
          (cond (any_before hears t) (not (change (timed a) (suc t)) && ready_before a hears id t) (not (broadcast.some (in_force a (suc t) id))))) h.heard) ∙ ok

      go : (b : Bool) → change (timed a) (suc t) ≡ b → Seen m id c (in_force a (suc t) id)
      go true q =
          subst (λ (n : ℕ). Seen m id c (a.config n id)) (sym (on q))
          (run-change q (sym (ap (λ (b : Bool). cond b crossed (ready_to a hears id t)) q) ∙ is))
      go false q = still q (sym (ap (λ (b : Bool). cond b crossed (ready_to a hears id t)) q) ∙ is)

-- ---- the theorem

rightly : (a : Air) (hears : ℕ → Bool) (t u id : ℕ) → Seen (kept ours a hears (suc t)) id (count_at (timed a) u) (in_force a u id) → Rightly ours a hears t u id
unfolding ours
rightly a hears t u id s = record { number = s.number; fields = s.fields }

pub finds : Finds ours
unfolding ours
finds = record {
  taken = λ a w hears near_by t ht. taken a w hears near_by t ht;
  ended = λ a w hears near_by t id ht hid ok. rightly a hears t t id (ended a w hears t _ (kept_at a w hears near_by t ht) id hid ok);
  runs = λ a w hears near_by t id ht hid ok. rightly a hears t (suc t) id (runs a w hears t _ (kept_at a w hears near_by t ht) id hid ok);
}

-- ---- the request's own case

module _ (a : Air) (f : Followed a) where
  never-missed : (t : ℕ) → missed_before every t ≤ 127
  unfolding missed_before
  never-missed zero = omega arith
  never-missed (suc t) = omega arith

  near_by : Near every
  near_by t ht any = never-missed t

  -- a configuration that began in frame 0 or later was wholly heard
  wholly-begun : (t : ℕ) → wholly_before a every t ≡ begun (timed a) t
  unfolding wholly_before begun
  wholly-begun zero = refl
  wholly-begun (suc t) = ap (λ (b : Bool). change (timed a) (suc t) || b) (wholly-begun t)

  always : (id : ℕ) → id < ids → (t : ℕ) → ready_before a every id t ≡ true
  unfolding ready_before broadcast.some epoch
  always id hid zero = ap (λ (xs : List ℕ). not (broadcast.some xs)) (f.empty id)
  always id hid (suc t) = go (always id hid t)
    where
      crossed : Bool → Bool → Bool
      crossed ready whole = cond whole (ready || news a id t) (over_change (coming_to a every id t) ready a every id t)

      go : ready_before a every id t ≡ true
          → cond (change (timed a) (suc t)) (crossed (ready_to a every id t) (wholly_before a every t)) (ready_to a every id t) ≡ true
      go r =
          let ready : ready_to a every id t ≡ true = ap (λ (b : Bool). b || found (alone_before a every t) (rounds_to a every id t)) r in
          (λ i. cond (change (timed a) (suc t)) (crossed (ready i) (wholly-begun t i)) (ready i)) ∙ by (change (timed a) (suc t)) (begun (timed a) t) refl refl
        where
          by : (x b : Bool) → change (timed a) (suc t) ≡ x → begun (timed a) t ≡ b → cond x (crossed true b) true ≡ true
          by false b c e = refl
          by true true c e = refl
          by true false c e = f.round t id hid c e

  ready-always : (id : ℕ) → id < ids → (t : ℕ) → ready_to a every id t ≡ true
  ready-always id hid t = ap (λ (b : Bool). b || found (alone_before a every t) (rounds_to a every id t)) (always id hid t)

pub shows-in-force : ShowsInForce ours
shows-in-force = record {
  taken = λ a f t. finds.taken a f.orderly every (near_by a f) t refl;
  ended = λ a f t id hid. finds.ended a f.orderly every (near_by a f) t id refl hid (ready-always a f id hid t);
  runs = λ a f t id hid. finds.runs a f.orderly every (near_by a f) t id refl hid (always a f id hid (suc t));
}
