-- What came since a group was handed out, where no other is: what the slot's marks then say of the packets that were sent.
--
--   Kept h k n m        from the head h to the head k no group was handed out: the group mark is kept, a marked gap stays marked, and
--                       an age of n subframes has become one of m
--   kept-*              so it is of each arrival that hands out nothing, and of a list of them (`kept_run`)
--   none-handed         where no group is readable, none is handed out
--   The rest is of groups of more than one packet, all of which are needed.
--   Lost per n h        some packet from packet n on, up to the last one that arrived, was lost or unreadable
--   lost-*              how an arrival changes that
--   Gapped lost gap     the gap is marked exactly if one is lost
--   gapped-*            so it is, by each row of the table, where packet n is awaited and no gap was marked before; is-next
--                       is where the bound is used: the index that is awaited comes, so it is packet n
--   gapped-run          and so of a list of arrivals
--
-- Assumes nothing.
use mathlib.Core.Path.{◌≡◌, refl, sym, ap, ◌∙◌, subst}
use mathlib.Core.Bool.{Bool, true, false, cond}
use mathlib.Core.List.{List, [], ◌∷◌}
use mathlib.Core.Logic.{◌⊎◌, inl, inr}
use Prim.Native.Nat.{ℕ, suc, ◌+◌, ◌-◌, ◌*◌, ◌%◌, ◌≤◌, ◌<◌}
use native.Mathlib.Omega.{arith}
use native.Mathlib.Decide.{ℕ_discrete}
use lib.Dec.{ltb, eqb}
use borrow.Author.Tests.{ltb-true, ltb-false}
use Rattle.head.specs.Head.{dropped_head, aged_head}
use Rattle.head.specs.Move.{Move, started, held, whole, out_of_step, move_of, move_number, moved_head}
use Rattle.head.specs.declared.Head.{Head}
use Rattle.head.proofs.Moves.{Row, move_row}
use Rattle.faults.proofs.Laws.{no_whole}
use Rattle.faults.specs.Faults.{Fault}
use Rattle.history.specs.Followed.{Followed, moved, dropped, aged, after, answer, run, handed_out}
use Rattle.history.specs.Sent.{Sent, Arrival, came, damaged, control, subframe_end, event, events, Next, InOrder, groups, CameIn, Readable, In}
use Rattle.history.specs.Missing.{Reached, endings}
use Rattle.history.proofs.Laws.{group-le, number_same, after-refused, refused-either}
use Rattle.history.proofs.Full.{damaged-other, control-other, end-other, came-later}
use Rattle.history.proofs.Exactness.{exactly}
use Rattle.history.proofs.Freshness.{Aged, aged-next}

-- ---- what is kept while nothing is handed out

pub record Kept (h k : Head) (n m : ℕ) : Type 0 where
  pub group : k.group ≡ h.group
  pub gap : h.gap ≡ 1 → k.gap ≡ 1
  pub age : h.group ≡ 1 → Aged h.age n → Aged k.age m

kept_then : (h k j : Head) (n m p : ℕ) → Kept h k n m → Kept k j m p → Kept h j n p
kept_then h k j n m p x y = record {
  group = y.group ∙ x.group;
  gap = λ e. y.gap (x.gap e);
  age = λ e a. y.age (x.group ∙ e) (x.age e a);
}

kept-dropped : (h : Head) (n : ℕ) → Kept h (dropped_head h) n n
kept-dropped h n = record { group = refl; gap = λ e. refl; age = λ e a. a }

kept-aged : (h : Head) (n : ℕ) → Kept h (aged_head h) n (suc n)
kept-aged h n = record { group = refl; gap = λ e. e; age = λ e a. aged-next h.group h.age n e a }

kept-moved : (mv : Move) (h : Head) (n : ℕ) → eqb (move_number mv) 3 ≡ false → Kept h (moved_head mv h) n n
unfolding move_number moved_head
kept-moved started h n e = record { group = refl; gap = λ g. gap (ltb 0 h.awaited) g; age = λ g a. a }
  where
    gap : (b : Bool) → h.gap ≡ 1 → cond b 1 h.gap ≡ 1
    gap true g = refl
    gap false g = g
kept-moved held h n e = record { group = refl; gap = λ g. g; age = λ g a. a }
kept-moved whole h n e =
    let z : ◌≡◌ {A = ℕ} 0 1 = cc in
    absurd (omega arith)
kept-moved out_of_step h n e = kept-dropped h n

-- an event that hands out nothing, and nothing after it
quiet : (b : Bool) (x : List ℕ) (out : List (List ℕ)) → cond b (x ∷ out) out ≡ [] → (b ≡ false) × (out ≡ [])
quiet true x out e =
    let z : ◌≡◌ {A = ℕ} 0 1 = cc in
    absurd (omega arith)
quiet false x out e = (refl, e)

pub kept_run : (sent : Sent) (l : List Arrival) (f : Followed) (n m : ℕ) → n + endings l ≡ m → handed_out (events sent l) f ≡ []
    → Kept f.head (run (events sent l) f).head n m
unfolding run handed_out events event endings after answer moved dropped aged
kept_run sent [] f n m e q =
    let p : n ≡ m = omega arith in
    record { group = refl; gap = λ g. g; age = λ g a. subst (Aged f.head.age) p a }
kept_run sent (came j d ∷ l) f n m e q =
    let mv = move_of f.per f.needs f.head.awaited d in
    let g = moved mv (d % f.per) (sent j d) f in
    let (s, t) = quiet (eqb (move_number mv) 3) g.last (handed_out (events sent l) g) q in
    kept_then f.head g.head (run (events sent l) g).head n n m (kept-moved mv f.head n s) (kept_run sent l g n m e t)
kept_run sent (damaged j d r ∷ l) f n m e q =
    let g = dropped f in
    refused-either (λ (x : Followed). handed_out (events sent l) x ≡ [] → Kept f.head (run (events sent l) x).head n m) r f
    (λ t. kept_then f.head g.head (run (events sent l) g).head n n m (kept-dropped f.head n) (kept_run sent l g n m e t))
    (kept_run sent l f n m e) (rw (no_whole r) at q)
kept_run sent (control ∷ l) f n m e q = kept_run sent l f n m e q
kept_run sent (subframe_end ∷ l) f n m e q =
    let g = aged f in
    kept_then f.head g.head (run (events sent l) g).head n (suc n) m (kept-aged f.head n)
    (kept_run sent l g (suc n) m (omega arith) q)

pub none-handed : (sent : Sent) (h : List Arrival) (n : ℕ) (f : Followed) → 1 ≤ f.needs → f.needs ≤ f.per
    → InOrder f.per (f.per - 1) n h → f.head.awaited ≡ 0 → f.unfinished ≡ []
    → ((i : ℕ) → Readable f.needs h i → ⊥) → handed_out (events sent h) f ≡ []
unfolding groups In
none-handed sent h n f least fits o w u none =
    let x = exactly f least fits w u sent n h o in
    go x.which x.bytes x.others
  where
    go : (which : List ℕ) → handed_out (events sent h) f ≡ groups f.needs sent which
        → ((i : ℕ) → In i which → Readable f.needs h i) → handed_out (events sent h) f ≡ []
    go [] e all = e
    go (i ∷ which) e all = absurd (none i (all i (inl refl)))

-- ---- the packets that are missing

pub record Lost (per n : ℕ) (h : List Arrival) : Type 0 where
  pub group : ℕ
  pub index : ℕ
  pub below : index < per
  pub from : n ≤ per * group + index
  pub reached : Reached per (per * group + index) h
  pub absent : CameIn group index h → ⊥

module _ (per most : ℕ) where
  -- packet n is not this one, and would have to come behind it
  lost-before : (n q a j d : ℕ) (h : List Arrival) → a < per → n ≡ per * q + a → n < per * j + d → InOrder per most (suc (per * j + d)) h
      → Lost per n (came j d ∷ h)
  unfolding Reached CameIn
  lost-before n q a j d h l e k o =
      record { group = q; index = a; below = l; from = omega arith; reached = inl (omega arith); absent = absent }
    where
      absent : (came j d ≡ came q a) ⊎ CameIn q a h → ⊥
      absent (inl x) =
          let p : j ≡ q = cc in
          let r : d ≡ a = cc in
          omega (arith, ap (λ (x : ℕ). per * x) p)
      absent (inr x) = omega (arith, came-later per most (suc (per * j + d)) h o q a x)

  lost-damaged : (n j d : ℕ) (r : Fault) (h : List Arrival) → Next per most n j d → InOrder per most (suc (per * j + d)) h → Lost per n (damaged j d r ∷ h)
  unfolding Reached CameIn
  lost-damaged n j d r h o os =
      record { group = j; index = d; below = o.index; from = o.once; reached = inl (omega arith); absent = absent }
    where
      absent : (damaged j d r ≡ came j d) ⊎ CameIn j d h → ⊥
      absent (inl x) = damaged-other j d r j d x
      absent (inr x) = omega (arith, came-later per most (suc (per * j + d)) h os j d x)

  -- a packet that came next is not missing, and the others are those behind it
  lost-later : (n j d : ℕ) (h : List Arrival) → n ≡ per * j + d → Lost per (suc (per * j + d)) h → Lost per n (came j d ∷ h)
  unfolding Reached CameIn
  lost-later n j d h e x = record {
    group = x.group;
    index = x.index;
    below = x.below;
    from = omega (arith, x.from);
    reached = inr x.reached;
    absent = absent;
  }
    where
      absent : (came j d ≡ came x.group x.index) ⊎ CameIn x.group x.index h → ⊥
      absent (inl y) =
          let p : j ≡ x.group = cc in
          let r : d ≡ x.index = cc in
          omega (arith, x.from, ap (λ (x : ℕ). per * x) p)
      absent (inr y) = x.absent y

  lost-past : (n j d : ℕ) (h : List Arrival) → d < per → n ≡ per * j + d → Lost per n (came j d ∷ h) → Lost per (suc (per * j + d)) h
  unfolding Reached CameIn
  lost-past n j d h l e x = record {
    group = x.group;
    index = x.index;
    below = x.below;
    from = from (ℕ_discrete (per * x.group + x.index) n);
    reached = reached x.reached;
    absent = λ y. x.absent (inr y);
  }
    where
      from : Dec (per * x.group + x.index ≡ n) → suc (per * j + d) ≤ per * x.group + x.index
      from (yes p) =
          let (same, index) = number_same per j x.group d x.index l x.below (omega arith) in
          let this : came j d ≡ came x.group x.index = cc in
          absurd (x.absent (inl this))
      from (no p) = omega (arith, x.from)

      reached : (per * x.group + x.index ≤ per * j + d) ⊎ Reached per (per * x.group + x.index) h → Reached per (per * x.group + x.index) h
      reached (inl y) = absurd (omega (arith, from (ℕ_discrete (per * x.group + x.index) n)))
      reached (inr y) = y

  -- an arrival that is no packet of a group
  module _ (a : Arrival) (n : ℕ) (h : List Arrival) where
    lost-with : ((j d : ℕ) → a ≡ came j d → ⊥) → ((k : ℕ) → Reached per k h → Reached per k (a ∷ h)) → Lost per n h → Lost per n (a ∷ h)
    unfolding CameIn
    lost-with other to x = record {
      group = x.group;
      index = x.index;
      below = x.below;
      from = x.from;
      reached = to (per * x.group + x.index) x.reached;
      absent = absent;
    }
      where
        absent : (a ≡ came x.group x.index) ⊎ CameIn x.group x.index h → ⊥
        absent (inl y) = other x.group x.index y
        absent (inr y) = x.absent y

    lost-without : ((k : ℕ) → Reached per k (a ∷ h) → Reached per k h) → Lost per n (a ∷ h) → Lost per n h
    unfolding CameIn
    lost-without from x = record {
      group = x.group;
      index = x.index;
      below = x.below;
      from = x.from;
      reached = from (per * x.group + x.index) x.reached;
      absent = λ y. x.absent (inr y);
    }

-- ---- the gap

abbrev pub Gapped : Type 0 → ℕ → Type 0
Gapped lost gap = ((gap ≡ 1) × lost) ⊎ ((gap ≡ 0) × (lost → ⊥))

pub gapped-same : (A B : Type 0) (gap : ℕ) → (A → B) → (B → A) → Gapped A gap → Gapped B gap
gapped-same A B gap to from (inl (e, x)) = inl (e, to x)
gapped-same A B gap to from (inr (e, x)) = inr (e, λ y. x (from y))

module _ (sent : Sent) (q : ℕ) (l : List Arrival)
    (rest : (n : ℕ) (g : Followed) → g.needs ≡ g.per → 1 < g.per → InOrder g.per (g.per - 1) n l → handed_out (events sent l) g ≡ []
    → g.head.gap ≡ 0 → g.head.awaited < g.per → n ≡ g.per * q + g.head.awaited
    → Gapped (Lost g.per n l) (run (events sent l) g).head.gap)
    (n : ℕ) (f : Followed) (all : f.needs ≡ f.per) (wide : 1 < f.per) (j d : ℕ) (o : Next f.per (f.per - 1) n j d)
    (os : InOrder f.per (f.per - 1) (suc (f.per * j + d)) l) (clear : f.head.gap ≡ 0)
    (most : f.head.awaited < f.per) (next : n ≡ f.per * q + f.head.awaited) where
  after-move : Move → Followed
  after-move mv = moved mv (d % f.per) (sent j d) f

  -- packets of one index are a group apart, so with fewer lost this is packet n
  is-next : f.head.awaited ≡ d → n ≡ f.per * j + d
  is-next e =
      let below = group-le f.per j q (f.per - 1) (omega arith) (omega (arith, o.lost wide)) in
      let above = group-le f.per q j 0 (omega arith) (omega (arith, o.once)) in
      let same : j ≡ q = omega arith in
      omega (arith, ap (λ (x : ℕ). f.per * x) same)

  is-past : (f.head.awaited ≡ d → ⊥) → n < f.per * j + d
  is-past other = go (ℕ_discrete n (f.per * j + d))
    where
      go : Dec (n ≡ f.per * j + d) → n < f.per * j + d
      go (yes e) = absurd (other (number_same f.per q j f.head.awaited d most o.index (sym next ∙ e)).1)
      go (no e) = omega (arith, o.once)

  -- the packet that was next came
  gapped-next : (mv : Move) → handed_out (events sent l) (after-move mv) ≡ [] → n ≡ f.per * j + d → (moved_head mv f.head).gap ≡ 0
      → (moved_head mv f.head).awaited < f.per → suc (f.per * j + d) ≡ f.per * q + (moved_head mv f.head).awaited
      → Gapped (Lost f.per n (came j d ∷ l)) (run (events sent l) (after-move mv)).head.gap
  unfolding after-move moved
  gapped-next mv t e c m p =
      let per = f.per in
      let g = after-move mv in
      gapped-same (Lost per (suc (per * j + d)) l) (Lost per n (came j d ∷ l)) (run (events sent l) g).head.gap
      (lost-later per (per - 1) n j d l e) (lost-past per (per - 1) n j d l o.index e) (rest (suc (per * j + d)) g all wide os t c m p)

  -- another did, and the gap is marked at once
  gapped-before : (mv : Move) → handed_out (events sent l) (after-move mv) ≡ [] → n < f.per * j + d → (moved_head mv f.head).gap ≡ 1
      → Gapped (Lost f.per n (came j d ∷ l)) (run (events sent l) (after-move mv)).head.gap
  unfolding after-move moved
  gapped-before mv t k c = inl (
    (kept_run sent l (after-move mv) 0 (endings l) (omega arith) t).gap c,
    lost-before f.per (f.per - 1) n q f.head.awaited j d l most next k os,
  )

  gapped-moved : (mv : Move) → Row f.needs f.head.awaited d mv → eqb (move_number mv) 3 ≡ false
      → handed_out (events sent l) (after-move mv) ≡ []
      → Gapped (Lost f.per n (came j d ∷ l)) (run (events sent l) (after-move mv)).head.gap
  unfolding move_number moved_head
  gapped-moved started (z, r) s t = go (ltb 0 f.head.awaited) refl
    where
      go : (b : Bool) → ltb 0 f.head.awaited ≡ b
          → Gapped (Lost f.per n (came j d ∷ l)) (run (events sent l) (after-move started)).head.gap
      go true e =
          let k = ltb-true 0 f.head.awaited e in
          gapped-before started t (is-past (λ p. omega arith)) (rw e)
      go false e =
          let k = ltb-false 0 f.head.awaited e in
          let p = is-next (omega arith) in
          gapped-next started t p (rw e clear) (omega arith) (omega arith)
  gapped-moved held (e, k, m) s t =
      let p = is-next (sym e) in
      gapped-next held t p clear (omega arith) (omega arith)
  gapped-moved whole r s t =
      let z : ◌≡◌ {A = ℕ} 0 1 = cc in
      absurd (omega arith)
  gapped-moved out_of_step (k, e) s t = gapped-before out_of_step t (is-past (λ p. e (sym p))) refl

pub gapped-run : (sent : Sent) (q : ℕ) (l : List Arrival) (n : ℕ) (f : Followed) → f.needs ≡ f.per → 1 < f.per
    → InOrder f.per (f.per - 1) n l → handed_out (events sent l) f ≡ [] → f.head.gap ≡ 0 → f.head.awaited < f.per
    → n ≡ f.per * q + f.head.awaited → Gapped (Lost f.per n l) (run (events sent l) f).head.gap
unfolding run handed_out events event after answer dropped aged InOrder Reached moved after-move
gapped-run sent q [] n f all wide o t c m e = inr (c, λ x. x.reached)
gapped-run sent q (came j d ∷ l) n f all wide (o, os) t c m e =
    let mv = move_of f.per f.needs f.head.awaited d in
    let g = moved mv (d % f.per) (sent j d) f in
    let (s, u) = quiet (eqb (move_number mv) 3) g.last (handed_out (events sent l) g) t in
    gapped-moved sent q l (λ n f. gapped-run sent q l n f) n f all wide j d o os c m e mv
    (move_row f.per f.needs f.head.awaited d o.index) s u
gapped-run sent q (damaged j d r ∷ l) n f all wide (o, k, os) t c m e = inl (
  subst (λ (x : Followed). (run (events sent l) x).head.gap ≡ 1) (after-refused r f k)
      ((kept_run sent l (dropped f) 0 (endings l) (omega arith) (rw (no_whole r, k) at t)).gap refl),
  lost-damaged f.per (f.per - 1) n j d r l o os,
)
gapped-run sent q (control ∷ l) n f all wide o t c m e =
    let per = f.per in
    gapped-same (Lost per n l) (Lost per n (control ∷ l)) (run (events sent l) f).head.gap
    (lost-with per (per - 1) control n l control-other (λ k x. x)) (lost-without per (per - 1) control n l (λ k x. x))
    (gapped-run sent q l n f all wide o t c m e)
gapped-run sent q (subframe_end ∷ l) n f all wide o t c m e =
    let per = f.per in
    gapped-same (Lost per n l) (Lost per n (subframe_end ∷ l)) (run (events sent l) (aged f)).head.gap
    (lost-with per (per - 1) subframe_end n l end-other (λ k x. x)) (lost-without per (per - 1) subframe_end n l (λ k x. x))
    (gapped-run sent q l n (aged f) all wide o t c m e)
