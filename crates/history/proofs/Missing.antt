-- Fresh means that nothing was missed: what ask shows is told by what was sent and what came. Of groups of more than one packet, all
-- of which are needed. Where a group is one packet, a lost packet leaves no mark; where spare packets follow a whole group, they leave
-- one.
--
--   Stands per i l h          the head h tells what came since group i: there is a group, its age, and a gap exactly if a packet is
--                             missing
--   last-stands               so it is of the last group that was handed out
--   limit-run                 the limit stays as it is
--   nothing-shown ..          what ask shows, case by case; nothing-missed: in one, from any slot that has no group and holds nothing
--   nothing-missed-four       so from follow on, in groups of four
--   Ended per h, ended_is     no group is readable, or one is the last that was handed out
--   judged-same               what ask is to say is one answer
--
-- Assumes nothing.
use mathlib.Core.Path.{◌≡◌, refl, sym, ap, ◌∙◌, subst}
use mathlib.Core.Bool.{cond}
use mathlib.Core.List.{List, [], ◌∷◌, ◌++◌}
use mathlib.Core.Logic.{◌⊎◌, inl, inr}
use Prim.Native.Nat.{ℕ, suc, ◌+◌, ◌-◌, ◌*◌, ◌%◌, ◌≤◌, ◌<◌}
use native.Mathlib.Nat.{mul-suc, mul-le-mul_left}
use native.Mathlib.Omega.{arith}
use native.Mathlib.Decide.{dec_le}
use lib.Dec.{leb, eqb, lit<}
use borrow.Author.Tests.{le-leb, lt-leb}
use Rattle.head.specs.Head.{wish_of, new_head, ask_number}
use Rattle.head.specs.Move.{Move, whole, per_of, needs_of, move_of, moved_head}
use Rattle.head.specs.declared.Head.{Head}
use Rattle.head.proofs.Moves.{move-whole, moved-wish}
use Rattle.head.specs.declared.Wish.{Wish}
use Rattle.history.specs.Followed.{Followed, Event, packet, refused, ended, joined, moved, dropped, aged, after, followed, run}
use Rattle.history.specs.Sent.{Sent, Arrival, came, event, events, InOrder, CameIn, Readable, In, Rising}
use Rattle.history.specs.Missing.{Missed, endings, Last, Judged}
use Rattle.history.proofs.Laws.{group-le, group-lt, run-app, run-sizes, refused-either}
use Rattle.history.proofs.Full.{readable-later}
use Rattle.history.proofs.Exactness.{exactly}
use Rattle.history.proofs.Freshness.{Aged, aged-limit}
use Rattle.history.proofs.Since.{Lost, Gapped, gapped-same, none-handed, kept_run, gapped-run}
use Rattle.history.proofs.Coming.{came-right, From, awaits-last}

-- ---- since that packet

pub record Stands (per i : ℕ) (l : List Arrival) (h : Head) : Type 0 where
  pub group : h.group ≡ 1
  pub age : Aged h.age (endings l)
  pub gap : Gapped (Missed per i l) h.gap

-- what is sent after group i is what is sent from the first packet of the next on
lost-missed : (per i : ℕ) (l : List Arrival) → 0 < per → Lost per (suc (per * i + (per - 1))) l → Missed per i l
lost-missed per i l k x = record {
  group = x.group;
  index = x.index;
  below = x.below;
  after = group-le per (suc i) x.group x.index x.below (omega (arith, mul-suc per i, x.from));
  reached = x.reached;
  absent = x.absent;
}

missed-lost : (per i : ℕ) (l : List Arrival) → 0 < per → Missed per i l → Lost per (suc (per * i + (per - 1))) l
missed-lost per i l k x = record {
  group = x.group;
  index = x.index;
  below = x.below;
  from = omega (arith, mul-suc per i, mul-le-mul_left {m = suc i} {n = x.group} per x.after);
  reached = x.reached;
  absent = x.absent;
}

whole-stands : (sent : Sent) (i : ℕ) (l : List Arrival) (f : Followed) → f.needs ≡ f.per → 1 < f.per → f.head.awaited ≡ f.per - 1
    → InOrder f.per (f.per - 1) (suc (f.per * i + (f.per - 1))) l → ((j : ℕ) → Readable f.per l j → ⊥)
    → Stands f.per i l (run (events sent (came i (f.per - 1) ∷ l)) f).head
unfolding run events event after moved moved_head joined
whole-stands sent i l f all wide w o none =
    let per = f.per in
    let last = per - 1 in
    let n = suc (per * i + last) in
    let g = moved whole (last % per) (sent i last) f in
    let q = none-handed sent l n g (omega arith) (omega arith) o refl refl (rw all none) in
    let k = kept_run sent l g 0 (endings l) (omega arith) q in
    subst (λ (mv : Move). Stands per i l (run (events sent l) (moved mv (last % per) (sent i last) f)).head)
    (sym (move-whole per f.needs f.head.awaited last (omega arith) (inr (sym w)) (omega arith)))
    (record {
      group = k.group;
      age = k.age refl (inl refl);
      gap = gapped-same (Lost per n l) (Missed per i l) (run (events sent l) g).head.gap (lost-missed per i l (omega arith))
          (missed-lost per i l (omega arith)) (gapped-run sent (suc i) l n g all wide o q refl (omega arith) (omega (arith, mul-suc per i)));
    })

whole-as : (sent : Sent) (i : ℕ) (l : List Arrival) (f : Followed) (per : ℕ) → f.per ≡ per → f.needs ≡ per → 1 < per
    → f.head.awaited ≡ per - 1 → InOrder per (per - 1) (suc (per * i + (per - 1))) l → ((j : ℕ) → Readable per l j → ⊥)
    → Stands per i l (run (events sent (came i (per - 1) ∷ l)) f).head
whole-as sent i l f per p all wide w o none =
    rw (← p) (whole-stands sent i l f (all ∙ sym p) (omega arith) (rw (← p) at w) (rw (← p) at o) (rw (← p) at none))

events-app : (sent : Sent) (b h : List Arrival) → events sent (b ++ h) ≡ events sent b ++ events sent h
unfolding events
events-app sent [] h = refl
events-app sent (a ∷ b) h = ap (λ (es : List Event). event sent a ∷ es) (events-app sent b h)

split-stands : (sent : Sent) (i : ℕ) (b l : List Arrival) (n : ℕ) (f : Followed) → f.needs ≡ f.per → 1 < f.per
    → InOrder f.per (f.per - 1) n (b ++ (came i (f.per - 1) ∷ l)) → Readable f.per (b ++ (came i (f.per - 1) ∷ l)) i
    → ((j : ℕ) → i < j → Readable f.per (b ++ (came i (f.per - 1) ∷ l)) j → ⊥)
    → Stands f.per i l (run (events sent (b ++ (came i (f.per - 1) ∷ l))) f).head
unfolding Readable From CameIn
split-stands sent i b l n f all wide o w none =
    let per = f.per in
    let last = per - 1 in
    let (e, os) = awaits-last sent i b l n 0 f all wide
    (record { order = o; most = omega arith; awaits = λ k. absurd (omega arith); from = λ d m k. w d k }) in
    let g = run (events sent b) f in
    let (p, m) = run-sizes (events sent b) f in
    rw (events-app, run-app) (whole-as sent i l g per p (m ∙ all) wide e os
    (λ j r. none j (group-lt per i j last (readable-later per last (suc (per * i + last)) l os per j (omega arith) r))
    (λ c k. came-right j c b (came i last ∷ l) (inr (r c k)))))

pub last-stands : (sent : Sent) (n : ℕ) (h : List Arrival) (f : Followed) → f.needs ≡ f.per → 1 < f.per → InOrder f.per (f.per - 1) n h
    → (i : ℕ) (l : List Arrival) → Last f.per h i l → Stands f.per i l (run (events sent h) f).head
last-stands sent n h f all wide o i l x =
    let e = x.split in
    let none : (j : ℕ) → i < j → Readable f.per h j → ⊥ = λ j k. x.none j (omega arith) in
    rw e (split-stands sent i x.before l n f all wide (rw e at o) (rw e at x).whole (rw e at none))

-- ---- what ask shows

limit-run : (es : List Event) (f : Followed) → (run es f).head.wish.limit ≡ f.head.wish.limit
unfolding run after moved dropped aged
limit-run [] f = refl
limit-run (packet c bytes ∷ es) f =
    let mv = move_of f.per f.needs f.head.awaited c in
    limit-run es (moved mv (c % f.per) bytes f) ∙ ap (λ (w : Wish). w.limit) (moved-wish mv f.head)
limit-run (refused r ∷ es) f =
    refused-either (λ (g : Followed). (run es g).head.wish.limit ≡ f.head.wish.limit) r f (limit-run es (dropped f)) (limit-run es f)
limit-run (ended ∷ es) f = limit-run es (aged f)

stands-shown : (per limit i : ℕ) (l : List Arrival) (h : Head) → limit ≤ 1500 → h.wish.limit ≡ limit → Stands per i l h
    → ask_number h ≡ cond (leb limit (endings l)) 7 (cond (eqb h.gap 1) 6 5)
unfolding ask_number
stands-shown per limit i l h k e s = rw (s.group, e, aged-limit limit h.age (endings l) k s.age)

module _ (f : Followed) (all : f.needs ≡ f.per) (wide : 1 < f.per) (most : f.head.wish.limit ≤ 1500) (sent : Sent) (n : ℕ)
    (h : List Arrival) (o : InOrder f.per (f.per - 1) n h) where
  final : Head
  final = (run (events sent h) f).head

  nothing-shown : f.head.awaited ≡ 0 → f.unfinished ≡ [] → f.head.group ≡ 0 → ((i : ℕ) → Readable f.per h i → ⊥)
      → ask_number final ≡ 4
  unfolding final ask_number
  nothing-shown w u g none =
      let k = kept_run sent h f 0 (endings h) (omega arith) (none-handed sent h n f (omega arith) (omega arith) o w u (rw all none)) in
      rw (k.group, g)

  module _ (i : ℕ) (l : List Arrival) (x : Last f.per h i l) where
    stands : Stands f.per i l final
    unfolding final
    stands = last-stands sent n h f all wide o i l x

    last-shown : ask_number final ≡ cond (leb f.head.wish.limit (endings l)) 7 (cond (eqb final.gap 1) 6 5)
    unfolding final
    last-shown = stands-shown f.per f.head.wish.limit i l final most (limit-run (events sent h) f) stands

    stale-shown : f.head.wish.limit ≤ endings l → ask_number final ≡ 7
    stale-shown e = last-shown ∙ rw (le-leb f.head.wish.limit (endings l) e)

    doubtful-shown : endings l < f.head.wish.limit → Missed f.per i l → ask_number final ≡ 6
    doubtful-shown e m = last-shown ∙ rw (lt-leb f.head.wish.limit (endings l) e) (go stands.gap)
      where
        go : Gapped (Missed f.per i l) final.gap → cond {A = ℕ} (eqb final.gap 1) 6 5 ≡ 6
        go (inl (g, y)) = rw g
        go (inr (g, y)) = absurd (y m)

    fresh-shown : endings l < f.head.wish.limit → (Missed f.per i l → ⊥) → ask_number final ≡ 5
    fresh-shown e m = last-shown ∙ rw (lt-leb f.head.wish.limit (endings l) e) (go stands.gap)
      where
        go : Gapped (Missed f.per i l) final.gap → cond {A = ℕ} (eqb final.gap 1) 6 5 ≡ 5
        go (inl (g, y)) = absurd (m y)
        go (inr (g, y)) = rw g

pub nothing-missed : (f : Followed) → f.needs ≡ f.per → 1 < f.per → f.head.wish.limit ≤ 1500
    → f.head.awaited ≡ 0 → f.unfinished ≡ [] → f.head.group ≡ 0 → (sent : Sent) (n : ℕ) (h : List Arrival)
    → InOrder f.per (f.per - 1) n h → Judged f.per f.head.wish.limit h (ask_number (run (events sent h) f).head)
unfolding final
nothing-missed f all wide most w u g sent n h o = record {
  nothing = nothing-shown f all wide most sent n h o w u g;
  stale = λ i l x k. stale-shown f all wide most sent n h o i l x (omega arith);
  doubtful = λ i l x k m. doubtful-shown f all wide most sent n h o i l x (omega arith) m;
  fresh = λ i l x k m. fresh-shown f all wide most sent n h o i l x (omega arith) m;
}

pub nothing-missed-four : (w : Wish) → 1 ≤ w.limit → w.limit ≤ 1500 → (sent : Sent) (n : ℕ) (h : List Arrival) → InOrder 4 3 n h
    → Judged 4 w.limit h (ask_number (run (events sent h) (followed w)).head)
unfolding followed per_of needs_of
nothing-missed-four w least most sent n h o =
    nothing-missed (followed w) refl (lit< tt) most refl refl refl sent n h o

-- ---- it is one answer

record Split (i c : ℕ) (h : List Arrival) : Type 0 where
  before : List Arrival
  behind : List Arrival
  same : h ≡ before ++ (came i c ∷ behind)

came-split : (i c : ℕ) (h : List Arrival) → CameIn i c h → Split i c h
unfolding CameIn
came-split i c [] x = absurd x
came-split i c (a ∷ h) (inl e) = record { before = []; behind = h; same = ap (λ (x : Arrival). x ∷ h) e }
came-split i c (a ∷ h) (inr x) =
    let s = came-split i c h x in
    record { before = a ∷ s.before; behind = s.behind; same = ap (λ (l : List Arrival). a ∷ l) s.same }

record Top (which : List ℕ) : Type 0 where
  top : ℕ
  one : In top which
  all : (j : ℕ) → In j which → j ≤ top

rising-top : (i : ℕ) (which : List ℕ) → Rising (suc i) which → Top (i ∷ which)
unfolding Rising In
rising-top i [] r = record { top = i; one = inl refl; all = all }
  where
    all : (j : ℕ) → (j ≡ i) ⊎ ⊥ → j ≤ i
    all j (inl e) = omega arith
    all j (inr x) = absurd x
rising-top i (k ∷ which) (l, r) =
    let t = rising-top k which r in
    record { top = t.top; one = inr t.one; all = λ j. all t j }
  where
    all : (t : Top (k ∷ which)) (j : ℕ) → (j ≡ i) ⊎ In j (k ∷ which) → j ≤ t.top
    all t j (inl e) = omega (arith, t.all k (inl refl))
    all t j (inr x) = t.all j x

-- a slot that holds nothing
unfoldable holding : ℕ → Followed
holding per = record { per = per; needs = per; head = new_head (wish_of 0 0 0); unfinished = []; last = [] }

abbrev Ended : ℕ → List Arrival → Type 0
Ended per h = ((i : ℕ) → Readable per h i → ⊥) ⊎ ((i : ℕ) × (l : List Arrival) × Last per h i l)

module _ (per n : ℕ) (h : List Arrival) (wide : 1 < per) (o : InOrder per (per - 1) n h) where
  ended_is : Ended per h
  unfolding Rising In Readable holding
  ended_is =
      let x = exactly (holding per) (omega arith) (omega arith) refl refl (λ i c. []) n h o in
      go x.which x.rising x.those x.others
    where
      go : (which : List ℕ) → Rising 0 which → ((i : ℕ) → Readable per h i → In i which) → ((i : ℕ) → In i which → Readable per h i)
          → Ended per h
      go [] r those others = inl those
      go (k ∷ which) (z, r) those others =
          let t = rising-top k which r in
          let w = others t.top t.one in
          let s = came-split t.top (per - 1) h (w (per - 1) (omega arith)) in
          inr (
            t.top,
            s.behind,
            record {
              before = s.before;
              split = s.same;
              whole = w;
              none = λ j l y. (let m = t.all j (those j y) in omega arith);
            },
          )

  pub judged-same : (limit x y : ℕ) → Judged per limit h x → Judged per limit h y → x ≡ y
  unfolding holding
  judged-same limit x y p q = go ended_is
    where
      go : Ended per h → x ≡ y
      go (inl none) = p.nothing none ∙ sym (q.nothing none)
      go (inr (i, l, last)) =
          by (dec_le limit (endings l)) (last-stands (λ j c. []) n h (holding per) refl wide o i l last).gap
        where
          gap : ℕ
          gap = (run (events (λ j c. []) h) (holding per)).head.gap

          by : Dec (limit ≤ endings l) → Gapped (Missed per i l) gap → x ≡ y
          by (yes k) g = p.stale i l last (omega arith) ∙ sym (q.stale i l last (omega arith))
          by (no k) (inl (g, m)) = p.doubtful i l last (omega arith) m ∙ sym (q.doubtful i l last (omega arith) m)
          by (no k) (inr (g, m)) = p.fresh i l last (omega arith) m ∙ sym (q.fresh i l last (omega arith) m)
