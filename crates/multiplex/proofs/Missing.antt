-- Frames that are missed behind one that is heard.
--
--   Gap hears t n     none was heard between frame t and frame n
--   front-later, next-later, silent-new     what is held of a component, by the frames before n instead of those before t + 1
--   Lost, lost-at     what is counted behind missed frames
--   ready-kept, absent-kept, round-kept    it stays right, stays heard to be absent, and what came round stays so, up to the next change
--   round-over        behind it nothing came round
--   starts, none_yet  the first frame of a configuration
--   gap-before        no change falls among them
--
-- Assumes nothing.
use mathlib.Core.Path.{◌≡◌, refl, sym, ap, ap₂, ◌∙◌, subst}
use mathlib.Core.Bool.{Bool, true, false, cond, not, ◌&&◌, ◌||◌, or-false, or-true}
use mathlib.Core.List.{List}
use Prim.Native.Nat.{ℕ, zero, suc, ◌+◌, ◌-◌, ◌<◌}
use native.Mathlib.Omega.{arith}
use lib.ListN.{length}
use native.Mathlib.Decide.{ℕ_discrete}
use lib.Dec.{T, lit<}
use Rattle.bits.proofs.Search.{clash}
use Rattle.structure.specs.Structure.{structure_size, spoiled}
use Rattle.structure.proofs.Gathering.{Empty}
use Rattle.structure.proofs.Firsts.{open_none}
use Rattle.map.specs.Map.{ids, structure_at, each_from, spoiled_both}
use Rattle.map.proofs.Places.{structure-length}
use Rattle.map.proofs.Changing.{gap_length, gap-structure}
use Rattle.multiplex.specs.Broadcast.{change, epoch, begun}
use Rattle.multiplex.specs.Broadcast as broadcast
use Rattle.multiplex.specs.Air.{Air, timed, new_in, later, last_old, last_new, links_new, new_before, new_to, gone_before, gone_to, in_force, coming, Orderly}
use Rattle.multiplex.specs.Finding.{alone_before, rounds_of, rounds_before, rounds_to, new_rounds_before, new_rounds_to, wholly_before, news, over_change, ready_before, ready_to}
use Rattle.multiplex.specs.Doubting.{came_before}
use Rattle.multiplex.specs.Admitting.{is_absent, absent_by, absent_before, absent_to}
use Rattle.multiplex.specs.Sound.{any_before, unheard, present_in, coming_before, coming_to, present_before}
use Rattle.multiplex.proofs.Distances.{epoch-step, epoch-mono}
use Rattle.multiplex.proofs.Knowing.{Front, some, all, Next, none, delete, piece, sure, full, Silent, front-gap, next-gap}
use Rattle.multiplex.proofs.Words.{Sure, sure-as, sure-gap, words-as, words-gap, Goes, goes_to}
use Rattle.multiplex.proofs.Rounded.{rounded}
use Rattle.multiplex.proofs.Rounding.{Right, Sought, sought-gap, right-gap}
use Rattle.multiplex.proofs.Rounding as rounding
use Rattle.multiplex.proofs.Listening.{Before}

-- none was heard between frame t and frame n
abbrev pub Gap : (ℕ → Bool) → ℕ → ℕ → Type 0
Gap hears t n = (v : ℕ) → v < n → hears v ≡ true → v < suc t

module _ (a : Air) (hears : ℕ → Bool) (t n : ℕ) (gap : Gap hears t n) where
  pub front-later : (e id due : ℕ) (s : List ℕ) → Front a hears (suc t) e id due s → Front a hears n e id due s
  front-later e id due s (some p) = some p
  front-later e id due s (all j l hl hj pos h q) = all j l hl hj pos h (record {
    quiet = λ v hv hh lo hi. q.quiet v (gap v hv hh) hh lo hi;
    undenied = λ v hv hh lo. q.undenied v (gap v hv hh) hh lo;
  })

  next-later : (e id due count links : ℕ) (g u : Bool) (s : List ℕ) → Next a hears (suc t) e id due count links g u s → Next a hears n e id due count links g u s
  next-later e id due count links g u s (none em c q) = none em c (λ v hv hh z. q v (gap v hv hh) hh z)
  next-later e id due count links g u s (delete d c) = delete d c
  next-later e id due count links g u s (piece w h p) = piece w h p
  next-later e id due count links g u s (sure k pos le c d hl la h) = sure k pos le c d hl la h
  next-later e id due count links g u s (full l hl pos la h) = full l hl pos la h

  -- in the next configuration nothing was said before its first frame
  pub silent-new : (e id : ℕ) → epoch (timed a) t < e → Silent a hears n e id
  silent-new e id h v hv hh z = absurd (omega (arith, h, z, epoch-mono (timed a) v t (omega (arith, gap v hv hh))))

-- ---- what is counted

pub none-sought : {c : ℕ} {g : Bool} {zs : List ℕ} {due l : ℕ} {A : List ℕ} → c ≡ 0 → g ≡ false → Empty A → Sought c g zs due l A
none-sought {c} {g} {zs} {due} {l} {A} z e em = rounding.unbegun z e (open_none zs A em.fields em.whole)

-- behind frames that were missed nothing is counted
pub record Lost (a : Air) (hears : ℕ → Bool) (n : ℕ) : Type 0 where
  pub wholly : wholly_before a hears n ≡ change (timed a) n
  pub rounds : (id : ℕ) → rounds_before a hears id n ≡ 0
  pub announced : (id : ℕ) → new_rounds_before a hears id n ≡ 0
  pub alone : alone_before a hears n ≡ false

pub off-cond : {A : Type 0} (x y : A) (b : Bool) → b ≡ false → cond b x y ≡ y
off-cond x y true e = absurd (subst T e tt)
off-cond x y false e = refl

-- what is asked of it where the frame before was heard
abbrev pub heard_ready : Air → (ℕ → Bool) → ℕ → ℕ → Bool
heard_ready a hears id n =
    cond (change (timed a) (suc n))
    (cond (wholly_before a hears n) (ready_to a hears id n || news a id n) (over_change (coming_to a hears id n) (ready_to a hears id n) a hears id n)) (ready_to a hears id n)

-- a frame that was missed
unheard-at : (hears : ℕ → Bool) (t n v : ℕ) → Gap hears t n → t < v → v < n → hears v ≡ false
unheard-at hears t n v gap lo hi = go (hears v) refl
  where
    go : (b : Bool) → hears v ≡ b → hears v ≡ false
    go true e = absurd (omega (arith, lo, gap v hi e))
    go false e = e

-- what holds behind frame t, and stays over a frame that was missed, holds behind all of them
missed-ind : (P : ℕ → Type 0) (hears : ℕ → Bool) (t n : ℕ) → t < n → Gap hears t n → P (suc t) → ((v : ℕ) → t < v → v < n → hears v ≡ false → P v → P (suc v)) → P n
missed-ind P hears t zero l gap base step = absurd (omega arith)
missed-ind P hears t (suc n) l gap base step = go (ℕ_discrete t n) (missed-ind P hears t n)
  where
    go : Dec (t ≡ n) → (t < n → Gap hears t n → P (suc t) → ((v : ℕ) → t < v → v < n → hears v ≡ false → P v → P (suc v)) → P n) → P (suc n)
    go (yes e) r = subst (λ (x : ℕ). P (suc x)) e base
    go (no e) r =
        step n (omega (arith, l, e)) (omega arith) (unheard-at hears t (suc n) n gap (omega (arith, l, e)) (omega arith))
        (r (omega (arith, l, e)) (λ v hv hh. gap v (omega (arith, hv)) hh) base (λ v lo hi h p. step v lo (omega (arith, hi)) h p))

-- that it is not there stays heard, over frames that were missed within a configuration
absent-kept : (a : Air) (hears : ℕ → Bool) (id t n : ℕ) → t < n → Gap hears t n → epoch (timed a) n ≡ epoch (timed a) (suc t)
    → absent_before a hears id n ≡ absent_before a hears id (suc t)
unfolding absent_before absent_by
absent-kept a hears id t n l gap =
    missed-ind (λ (n : ℕ). epoch (timed a) n ≡ epoch (timed a) (suc t) → absent_before a hears id n ≡ absent_before a hears id (suc t)) hears t n l gap (λ on. refl)
    (λ v lo hi off r on. go v lo off r on (change (timed a) (suc v)) refl)
  where
    go : (v : ℕ) → t < v → hears v ≡ false → (epoch (timed a) v ≡ epoch (timed a) (suc t) → absent_before a hears id v ≡ absent_before a hears id (suc t))
        → epoch (timed a) (suc v) ≡ epoch (timed a) (suc t) → (b : Bool) → change (timed a) (suc v) ≡ b
        → cond (change (timed a) (suc v)) (hears v && (wholly_before a hears v && is_absent (coming_to a hears id v))) (absent_to a hears id v) ≡ absent_before a hears id (suc t)
    go v lo off r on true c = absurd (omega (arith, on, epoch-step (timed a) v true c, epoch-mono (timed a) (suc t) v (omega (arith, lo))))
    go v lo off r on false c =
        ap (λ (b : Bool). cond b (hears v && (wholly_before a hears v && is_absent (coming_to a hears id v))) (absent_to a hears id v)) c
        ∙ ap (λ (b : Bool). absent_by (cond b (present_in id (a.carries v)) unheard) (absent_before a hears id v)) off
        ∙ r (sym (epoch-step (timed a) v false c) ∙ on)

-- what came round stays so, over frames that were missed within a configuration
round-kept : (a : Air) (hears : ℕ → Bool) (id t n : ℕ) → t < n → Gap hears t n → epoch (timed a) n ≡ epoch (timed a) (suc t)
    → came_before a hears id n ≡ came_before a hears id (suc t)
unfolding came_before rounds_of
round-kept a hears id t n l gap =
    missed-ind (λ (n : ℕ). epoch (timed a) n ≡ epoch (timed a) (suc t) → came_before a hears id n ≡ came_before a hears id (suc t)) hears t n l gap (λ on. refl)
    (λ v lo hi off r on. go v lo off r on (change (timed a) (suc v)) refl)
  where
    go : (v : ℕ) → t < v → hears v ≡ false → (epoch (timed a) v ≡ epoch (timed a) (suc t) → came_before a hears id v ≡ came_before a hears id (suc t))
        → epoch (timed a) (suc v) ≡ epoch (timed a) (suc t) → (b : Bool) → change (timed a) (suc v) ≡ b
        → cond (change (timed a) (suc v)) false (rounded (came_before a hears id v) (new_rounds_before a hears id (suc v))) ≡ came_before a hears id (suc t)
    go v lo off r on true c = absurd (omega (arith, on, epoch-step (timed a) v true c, epoch-mono (timed a) (suc t) v (omega (arith, lo))))
    go v lo off r on false c =
        ap (λ (b : Bool). cond b false (rounded (came_before a hears id v) (new_rounds_before a hears id (suc v)))) c
        ∙ ap (rounded (came_before a hears id v)) (off-cond (cond (change (timed a) (suc v)) 0 (new_rounds_to a hears id v)) 0 (hears v) off)
        ∙ or-false (came_before a hears id v) ∙ r (sym (epoch-step (timed a) v false c) ∙ on)

-- and nothing did behind a change among them
pub round-over : (a : Air) (hears : ℕ → Bool) (id t n : ℕ) → t < n → Gap hears t n → epoch (timed a) (suc t) < epoch (timed a) n → came_before a hears id n ≡ false
unfolding came_before rounds_of
round-over a hears id t n l gap =
    missed-ind (λ (n : ℕ). epoch (timed a) (suc t) < epoch (timed a) n → came_before a hears id n ≡ false) hears t n l gap (λ h. absurd (omega (arith, h)))
    (λ v lo hi off r h. go v off r h (change (timed a) (suc v)) refl)
  where
    go : (v : ℕ) → hears v ≡ false → (epoch (timed a) (suc t) < epoch (timed a) v → came_before a hears id v ≡ false) → epoch (timed a) (suc t) < epoch (timed a) (suc v)
        → (b : Bool) → change (timed a) (suc v) ≡ b → cond (change (timed a) (suc v)) false (rounded (came_before a hears id v) (new_rounds_before a hears id (suc v))) ≡ false
    go v off r h true c = ap (λ (b : Bool). cond b false (rounded (came_before a hears id v) (new_rounds_before a hears id (suc v)))) c
    go v off r h false c =
        ap (λ (b : Bool). cond b false (rounded (came_before a hears id v) (new_rounds_before a hears id (suc v)))) c
        ∙ ap₂ rounded (r (omega (arith, h, epoch-step (timed a) v false c)))
        (off-cond (cond (change (timed a) (suc v)) 0 (new_rounds_to a hears id v)) 0 (hears v) off)

any-heard : (hears : ℕ → Bool) (t v : ℕ) → t < v → hears t ≡ true → any_before hears v ≡ true
unfolding any_before
any-heard hears t zero l h = absurd (omega arith)
any-heard hears t (suc v) l h = go (ℕ_discrete t v) (any-heard hears t v)
  where
    go : Dec (t ≡ v) → (t < v → hears t ≡ true → any_before hears v ≡ true) → (hears v || any_before hears v) ≡ true
    go (yes e) r = ap (λ (b : Bool). b || any_before hears v) (ap hears (sym e) ∙ h)
    go (no e) r = ap (λ (b : Bool). hears v || b) (r (omega (arith, l, e)) h) ∙ or-true (hears v)

ready-missed : (a : Air) (hears : ℕ → Bool) (id v : ℕ) → hears v ≡ false → any_before hears v ≡ true
    → ready_before a hears id (suc v) ≡ (not (change (timed a) (suc v)) && ready_before a hears id v)
unfolding ready_before
ready-missed a hears id v off any =
    off-cond (heard_ready a hears id v) (cond (any_before hears v) (not (change (timed a) (suc v)) && ready_before a hears id v) (not (broadcast.some (in_force a (suc v) id)))) (hears v) off
    ∙ ap (λ (b : Bool). cond b (not (change (timed a) (suc v)) && ready_before a hears id v) (not (broadcast.some (in_force a (suc v) id)))) any

-- it stays right over frames that were missed, up to the next change
pub ready-kept : (a : Air) (hears : ℕ → Bool) (id t n : ℕ) → t < n → Gap hears t n → hears t ≡ true → ready_before a hears id n ≡ true
    → (epoch (timed a) n ≡ epoch (timed a) (suc t)) × (ready_before a hears id (suc t) ≡ true)
ready-kept a hears id t n l gap h =
    missed-ind (λ (n : ℕ). ready_before a hears id n ≡ true → (epoch (timed a) n ≡ epoch (timed a) (suc t)) × (ready_before a hears id (suc t) ≡ true))
    hears t n l gap (λ ok. (refl, ok)) (λ v lo hi off r ok. go v r (change (timed a) (suc v)) refl (sym (ready-missed a hears id v off (any-heard hears t v lo h)) ∙ ok))
  where
    go : (v : ℕ) → (ready_before a hears id v ≡ true → (epoch (timed a) v ≡ epoch (timed a) (suc t)) × (ready_before a hears id (suc t) ≡ true))
        → (b : Bool) → change (timed a) (suc v) ≡ b → (not (change (timed a) (suc v)) && ready_before a hears id v) ≡ true
        → (epoch (timed a) (suc v) ≡ epoch (timed a) (suc t)) × (ready_before a hears id (suc t) ≡ true)
    go v r true c ok = absurd (subst T (sym (sym (ap (λ (b : Bool). not b && ready_before a hears id v) c) ∙ ok)) tt)
    go v r false c ok =
        let y = r (sym (ap (λ (b : Bool). not b && ready_before a hears id v) c) ∙ ok) in
        (epoch-step (timed a) v false c ∙ y.0, y.1)

pub lost-at : (a : Air) (hears : ℕ → Bool) (t n : ℕ) → suc t < n → Gap hears t n → hears t ≡ true → Lost a hears n
unfolding wholly_before alone_before rounds_of
lost-at a hears t zero l gap h = absurd (omega arith)
lost-at a hears t (suc n) l gap h =
    let off : hears n ≡ false = unheard-at hears t (suc n) n gap (omega (arith, l)) (omega arith) in
    let any : any_before hears n ≡ true = any-heard hears t n (omega (arith, l)) h in
    record {
      wholly = ap (λ (b : Bool). change (timed a) (suc n) || (b && wholly_before a hears n)) off ∙ or-false (change (timed a) (suc n));
      rounds = λ id. off-cond (cond (change (timed a) (suc n)) 0 (rounds_to a hears id n)) 0 (hears n) off;
      announced = λ id. off-cond (cond (change (timed a) (suc n)) 0 (new_rounds_to a hears id n)) 0 (hears n) off;
      alone = λ i. cond (off i) (not (change (timed a) (suc n)) && alone_before a hears n) (not (any i));
    }

pub starts : (a : Air) (n : ℕ) → change (timed a) n ≡ true → begun (timed a) n ≡ true
unfolding begun
starts a zero c = c
starts a (suc n) c = ap (λ (b : Bool). b || begun (timed a) n) c

pub none_yet : (a : Air) (n id : ℕ) → change (timed a) n ≡ true → (new_before a id n ≡ 0) × ((gone_before a id n ≡ false) × (last_new a id n ≡ 0))
unfolding new_before gone_before last_new
none_yet a zero id c = (refl, (refl, refl))
none_yet a (suc n) id c = (
  ap (λ (b : Bool). cond b 0 (new_to a id n)) c,
  (ap (λ (b : Bool). cond b false (gone_to a id n)) c, ap (λ (b : Bool). cond b 0 (later (new_in id (a.carries n)) (last_new a id n))) c),
)

-- ---- frames are missed within a configuration

module _ (a : Air) (w : Orderly a) (hears : ℕ → Bool) (t n : ℕ) (missed : suc t < n) (gap : Gap hears t n) (heard : hears t ≡ true) (on : epoch (timed a) n ≡ epoch (timed a) (suc t))
    (m : List ℕ) (u : Bool) (k : Before a hears (suc t) m u) where
  abbrev spoilt : List ℕ
  spoilt = each_from ids 0 spoiled_both m

  abbrev then : ℕ
  then = epoch (timed a) (suc t)

  held : (id v : ℕ) → id < ids → v < 2 → structure_at id v spoilt ≡ spoiled (structure_at id v m)
  held id v hid hv = gap-structure m k.size id v hid hv

  long : (id v : ℕ) → id < ids → v < 2 → length (structure_at id v m) ≡ structure_size
  long id v hid hv = structure-length m k.size id v hid hv

  nothing-counted : Lost a hears n
  nothing-counted = lost-at a hears t n missed gap heard

  no_change : change (timed a) n ≡ false
  no_change = go n missed on
    where
      go : (n : ℕ) → suc t < n → epoch (timed a) n ≡ then → change (timed a) n ≡ false
      go zero l z = absurd (omega arith)
      go (suc v) l z = by (change (timed a) (suc v)) refl
        where
          by : (b : Bool) → change (timed a) (suc v) ≡ b → change (timed a) (suc v) ≡ false
          by true c = absurd (omega (arith, z, epoch-step (timed a) v true c, epoch-mono (timed a) (suc t) v (omega (arith, l))))
          by false c = c

  -- what was heard last is what it was
  same-words : (id : ℕ) → (coming_before a hears id (suc t) ≡ coming_before a hears id n) × (present_before a hears id (suc t) ≡ present_before a hears id n)
  same-words id = go (change (timed a) (suc t)) refl
    where
      near : Goes a hears id t (suc t)
      near = goes_to a hears id t (suc t) 0 (ap suc (plain t)) (λ v hv hh. hv)
        where
          plain : (x : ℕ) → x ≡ 0 + x
          plain x = omega arith

      far : Goes a hears id t n
      far = goes_to a hears id t n (n - suc t) (omega (arith, missed)) gap

      go : (b : Bool) → change (timed a) (suc t) ≡ b → (coming_before a hears id (suc t) ≡ coming_before a hears id n) × (present_before a hears id (suc t) ≡ present_before a hears id n)
      go true c =
          let z = epoch-step (timed a) t true c in
          ((near.behind z).0 ∙ sym (far.behind (on ∙ z)).0, (near.behind z).1 ∙ sym (far.behind (on ∙ z)).1)
      go false c =
          let z = epoch-step (timed a) t false c in
          ((near.before z).0 ∙ sym (far.before (on ∙ z)).0, (near.before z).1 ∙ sym (far.before (on ∙ z)).1)

  gap-right : (id : ℕ) → id < ids → ready_before a hears id n ≡ true → Right (in_force a n id) (last_old a id n) (structure_at id 0 spoilt)
  gap-right id hid z =
      subst (λ (x : ℕ). Right (a.config x id) (last_old a id n) (structure_at id 0 spoilt)) (sym on)
      (subst (Right (a.config then id) (last_old a id n)) (sym (held id 0 hid (lit< tt)))
      (right-gap _ (last_old a id (suc t)) _ _ ((k.turns id hid).rightly (ready-kept a hears id t n (omega (arith, missed)) gap heard z).1)))

  gap-sought : (id : ℕ) → id < ids → Sought (new_rounds_before a hears id n) (came_before a hears id n) (coming a n id) (last_new a id n) (links_new a id n) (structure_at id 1 spoilt)
  gap-sought id hid =
      subst (λ (x : ℕ). Sought (new_rounds_before a hears id n) (came_before a hears id n) (a.config (suc x) id) (last_new a id n) (links_new a id n) (structure_at id 1 spoilt)) (sym on)
      (subst (λ (g : Bool). Sought (new_rounds_before a hears id n) g (a.config (suc then) id) (last_new a id n) (links_new a id n) (structure_at id 1 spoilt))
      (sym (round-kept a hears id t n (omega (arith, missed)) gap on))
      (subst (Sought (new_rounds_before a hears id n) (came_before a hears id (suc t)) (a.config (suc then) id) (last_new a id n) (links_new a id n)) (sym (held id 1 hid (lit< tt)))
      (sought-gap (new_rounds_before a hears id (suc t)) (new_rounds_before a hears id n) (came_before a hears id (suc t)) (a.config (suc then) id) _ _ (last_new a id n) (links_new a id n)
      (structure_at id 1 m) (w.linked (suc then) id hid) (long id 1 hid (lit< tt)) (nothing-counted.announced id) (k.sought id hid))))

  pub gap-before : Before a hears n spoilt (change (timed a) n)
  gap-before = record {
    size = gap_length m k.size;
    begun = starts a n;
    front = λ id hid. subst (λ (x : ℕ). Front a hears n x id (last_old a id n) (structure_at id 0 spoilt)) (sym on)
        (front-later a hears t n gap then id _ _
        (subst (Front a hears (suc t) then id (last_old a id n)) (sym (held id 0 hid (lit< tt))) (front-gap a hears (suc t) then id _ (last_old a id n) _ (k.front id hid))));
    next = λ id hid. subst (λ (x : ℕ). Next a hears n x id (last_new a id n) (new_before a id n) (links_new a id n) (gone_before a id n) (change (timed a) n) (structure_at id 1 spoilt)) (sym on)
        (next-later a hears t n gap then id _ _ _ _ (change (timed a) n) _
        (subst (Next a hears (suc t) then id (last_new a id n) (new_before a id n) (links_new a id n) (gone_before a id n) (change (timed a) n)) (sym (held id 1 hid (lit< tt)))
        (subst (λ (b : Bool). Next a hears (suc t) then id (last_new a id n) (new_before a id n) (links_new a id n) (gone_before a id n) b (spoiled (structure_at id 1 m))) (sym no_change)
        (next-gap a hears (suc t) then id _ _ _ _ u _ (k.next id hid) (last_new a id n) (new_before a id n) (links_new a id n) (gone_before a id n)))));
    words = λ id hid.
        words-as (words-gap _ _ _ _ (long id 0 hid (lit< tt)) (long id 1 hid (lit< tt)) (k.words id hid)) (same-words id).1 (same-words id).0
        (sym (held id 0 hid (lit< tt))) (sym (held id 1 hid (lit< tt)));
    sure = λ id hid. subst (λ (x : ℕ). Sure (absent_before a hears id n) (a.config x id) (a.config (suc x) id) (structure_at id 0 spoilt) (structure_at id 1 spoilt)) (sym on)
        (subst (λ (g : Bool). Sure g (a.config then id) (a.config (suc then) id) (structure_at id 0 spoilt) (structure_at id 1 spoilt))
        (sym (absent-kept a hears id t n (omega (arith, missed)) gap on))
        (sure-as (sym (held id 0 hid (lit< tt))) (sym (held id 1 hid (lit< tt)))
        (sure-gap (absent_before a hears id (suc t)) _ _ _ _ (long id 0 hid (lit< tt)) (long id 1 hid (lit< tt)) (k.sure id hid))));
    wholly = sym nothing-counted.wholly;
    turns = λ id hid. record {
      rightly = gap-right id hid;
      round = rounding.unbegun (nothing-counted.rounds id);
      only = λ z. clash (sym z ∙ nothing-counted.alone);
    };
    sought = gap-sought;
  }
