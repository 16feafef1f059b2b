-- Demand 3, exactly those groups. Where fewer packets in a row are lost than a group has, the groups handed out are those whose
-- packets all arrived readable, up to the last that is needed, each once and in order. Where a group is one packet, no bound is
-- needed.
--
--   Holds sent n q f            the slot holds the first packets of group q, as many as the index it awaits; where these are any,
--                               the awaited one is packet n, the next
--   exactly-same, exactly-more  no group handed out, one group handed out
--   same-group                  where the bound is used: the index that is awaited comes, so it is of the group that is held
--   join, part, begun-is        a packet with place 0, or the one that is awaited: which groups are full, and the bytes held
--   exactly-*                   exactly those, by each row of the table, a refused packet, an arrival that is no packet of a group, the end;
--                               exactly-from: any slot and history
--   exactly                     and so from any slot that holds nothing
--   exactly-four, exactly-one   groups of four, as follow leaves the slot; groups of one, however many are lost
--   one-handed                  and there each readable packet is handed out, in whatever order they come
--
-- Assumes nothing.
use mathlib.Core.Path.{◌≡◌, refl, sym, ap, ap₂, ◌∙◌, subst}
use mathlib.Core.Bool.{cond}
use mathlib.Core.List.{List, [], ◌∷◌, ◌++◌}
use mathlib.Core.Logic.{◌⊎◌, inl, inr}
use Prim.Native.Nat.{ℕ, zero, suc, ◌+◌, ◌-◌, ◌*◌, ◌%◌, ◌≤◌, ◌<◌}
use native.Mathlib.Nat.{mod-eq_of_lt, mod-one}
use native.Mathlib.Omega.{arith}
use native.Mathlib.Numerals.{add-one}
use lib.Dec.{eqb, lit≤}
use Rattle.head.specs.Move.{Move, started, held, whole, out_of_step, per_of, needs_of, move_of, move_number, moved_head}
use Rattle.head.proofs.Moves.{Row, move_row, one-whole}
use Rattle.head.specs.declared.Wish.{Wish}
use Rattle.faults.proofs.Laws.{no_whole}
use Rattle.history.specs.Followed.{Followed, begun, joined, last_of, moved, dropped, aged, after, answer, followed, handed_out}
use Rattle.history.specs.Sent.{Sent, Arrival, came, damaged, control, subframe_end, event, events, Next, InOrder, group, groups, CameIn, Readable, In, Rising, Exactly}
use Rattle.history.proofs.Laws.{group-le, group-lt, refused-either}
use Rattle.history.proofs.Full.{damaged-other, control-other, end-other, came-later, readable-later, behind, Full, full-join, full-part, full-lost, full-readable, full-past, full-later, full-done, full-end, full-held, full-none}

-- ---- the slot

pub record Holds (sent : Sent) (n q : ℕ) (f : Followed) : Type 0 where
  fits : f.needs ≤ f.per
  most : f.head.awaited < f.needs
  next : 0 < f.head.awaited → n ≡ f.per * q + f.head.awaited
  bytes : f.unfinished ≡ group f.head.awaited sent q

pub holds-none : (sent : Sent) (n q : ℕ) (f : Followed) → 1 ≤ f.needs → f.needs ≤ f.per → f.head.awaited ≡ 0 → f.unfinished ≡ []
    → Holds sent n q f
unfolding group
holds-none sent n q f least fits w u =
    record { fits = fits; most = omega arith; next = λ l. absurd (omega arith); bytes = rw w u }

-- ---- what was handed out

module _ (needs : ℕ) (sent : Sent) (R S : ℕ → Type 0) (out : List (List ℕ)) where
  exactly-same : ((i : ℕ) → R i → S i) → ((i : ℕ) → S i → R i) → Exactly needs sent S out → Exactly needs sent R out
  exactly-same to from x = record {
    which = x.which;
    bytes = x.bytes;
    rising = x.rising;
    those = λ i r. x.those i (to i r);
    others = λ i y. from i (x.others i y);
  }

  -- the group handed out is before all that follow
  exactly-more : (i : ℕ) (bytes : List ℕ) → bytes ≡ group needs sent i → R i → ((j : ℕ) → R j → (j ≡ i) ⊎ S j) → ((j : ℕ) → S j → R j)
      → ((j : ℕ) → S j → i < j) → Exactly needs sent S out → Exactly needs sent R (bytes ∷ out)
  unfolding groups Rising In
  exactly-more i bytes e r to from above x = record {
    which = i ∷ x.which;
    bytes = ap₂ ◌∷◌ e x.bytes;
    rising = (omega arith, rising x.which x.rising (λ j y. above j (x.others j y)));
    those = λ j s. those j (to j s);
    others = λ j y. others j y;
  }
    where
      rising : (which : List ℕ) → Rising 0 which → ((j : ℕ) → In j which → i < j) → Rising (suc i) which
      rising [] s l = s
      rising (k ∷ which) (z, s) l = (l k (inl refl), s)

      those : (j : ℕ) → (j ≡ i) ⊎ S j → (j ≡ i) ⊎ In j x.which
      those j (inl p) = inl p
      those j (inr s) = inr (x.those j s)

      others : (j : ℕ) → (j ≡ i) ⊎ In j x.which → R j
      others j (inl p) = subst R (sym p) r
      others j (inr y) = from j (x.others j y)

-- ---- an arrival

begun-held : (sent : Sent) (u : List ℕ) (i c : ℕ) → (0 < c → u ≡ group c sent i) → begun c u ≡ group c sent i
unfolding begun group
begun-held sent u i zero e = refl
begun-held sent u i (suc c) e = e (omega arith)

module _ (sent : Sent) (h : List Arrival)
    (rest : (n q : ℕ) (g : Followed) → InOrder g.per (g.per - 1) n h → Holds sent n q g
    → Exactly g.needs sent (Full g.needs g.head.awaited q h) (handed_out (events sent h) g))
    (n q i c : ℕ) (f : Followed) (o : Next f.per (f.per - 1) n i c) (os : InOrder f.per (f.per - 1) (suc (f.per * i + c)) h)
    (s : Holds sent n q f) where
  -- the next packet of the unfinished group is not this one, and would have to come behind it
  missed : (x : Arrival) → (0 < f.head.awaited → x ≡ came q f.head.awaited → ⊥)
      → 0 < f.head.awaited → CameIn q f.head.awaited (x ∷ h) → ⊥
  unfolding CameIn
  missed x other l (inl e) = other l e
  missed x other l (inr y) =
      omega (arith, o.once, s.next l, came-later f.per (f.per - 1) (suc (f.per * i + c)) h os q f.head.awaited y)

  -- the unfinished group is cleared, and no packet is held
  exactly-dropped : (x : Arrival) → (0 < f.head.awaited → x ≡ came q f.head.awaited → ⊥)
      → ((j d : ℕ) → Readable f.needs (x ∷ h) j → x ≡ came j d → ⊥)
      → (out : List (List ℕ)) → Exactly f.needs sent (Full f.needs 0 q h) out
      → Exactly f.needs sent (Full f.needs f.head.awaited q (x ∷ h)) out
  exactly-dropped x other past out =
      let m = f.needs in
      let a = f.head.awaited in
      exactly-same m sent (Full m a q (x ∷ h)) (Full m 0 q h) out
      (λ j y.
      let r = full-lost m a q (x ∷ h) j s.most (missed x other) y in
      full-past m 0 q h j x (λ d. past j d r) (full-readable m 0 q (x ∷ h) j r))
      (λ j y. full-later m a q h j 0 x (omega arith) y)

  -- packets of one index are a group apart, so with fewer lost this is the one that is awaited
  same-group : 0 < f.head.awaited → c ≡ f.head.awaited → i ≡ q
  same-group l e =
      let wide : 1 < f.per = omega (arith, s.most, s.fits) in
      let below = group-le f.per i q (f.per - 1) (omega arith) (omega (arith, o.lost wide, s.next l)) in
      let above = group-le f.per q i 0 (omega arith) (omega (arith, o.once, s.next l)) in
      omega arith

  -- place 0, or the one that is awaited
  At : Type 0
  At = (c ≡ 0) ⊎ (c ≡ f.head.awaited)

  start-other : c ≡ 0 → 0 < f.head.awaited → came i c ≡ came q f.head.awaited → ⊥
  start-other z l e =
      let p : c ≡ f.head.awaited = cc in
      omega arith

  join : At → (b : ℕ) → b ≡ c + 1 → (j : ℕ) → Full f.needs f.head.awaited q (came i c ∷ h) j → Full f.needs b i h j
  unfolding At
  join (inl z) b e j y =
      let m = f.needs in
      full-join m 0 i h j b i c e z (λ l. refl)
      (full-readable m 0 i (came i c ∷ h) j
      (full-lost m f.head.awaited q (came i c ∷ h) j s.most (missed (came i c) (start-other z)) y))
  join (inr p) b e j y = full-join f.needs f.head.awaited q h j b i c e p (λ l. same-group l p) y

  part : At → (b : ℕ) → b ≡ c + 1 → (j : ℕ) → Full f.needs b i h j → Full f.needs f.head.awaited q (came i c ∷ h) j
  unfolding At
  part (inl z) b e j y =
      let m = f.needs in
      full-readable m f.head.awaited q (came i c ∷ h) j
      (full-none m i (came i c ∷ h) j (full-part m 0 i h j b i c e z (λ l. refl) y))
  part (inr p) b e j y = full-part f.needs f.head.awaited q h j b i c e p (λ l. same-group l p) y

  begun-is : At → begun c f.unfinished ≡ group c sent i
  unfolding At begun group
  begun-is (inl z) = rw z
  begun-is (inr p) =
      begun-held sent f.unfinished i c (λ l. s.bytes ∙ ap₂ (λ (x y : ℕ). group x sent y) (sym p) (sym (same-group (omega arith) p)))

  bytes-are : At → (d b : ℕ) → d ≡ c → b ≡ c + 1 → begun d f.unfinished ++ sent i c ≡ group b sent i
  unfolding group
  bytes-are x d b e k = rw (e, k, add-one, begun-is x)

  enough : At → f.needs ≤ c + 1 → f.needs ≡ c + 1
  unfolding At
  enough (inl z) l = omega (arith, s.most)
  enough (inr p) l = omega (arith, s.most)

  exactly-packet : (mv : Move) (d : ℕ) → d ≡ c → Row f.needs f.head.awaited c mv
      → Exactly f.needs sent (Full f.needs f.head.awaited q (came i c ∷ h))
      (cond (eqb (move_number mv) 3) ((moved mv d (sent i c) f).last ∷ handed_out (events sent h) (moved mv d (sent i c) f))
      (handed_out (events sent h) (moved mv d (sent i c) f)))
  unfolding move_number moved moved_head joined last_of At
  exactly-packet started d e (z, l) =
      let m = f.needs in
      let g = moved started d (sent i c) f in
      let one : 1 ≡ c + 1 = omega arith in
      exactly-same m sent (Full m f.head.awaited q (came i c ∷ h)) (Full m 1 i h) (handed_out (events sent h) g) (join (inl z) 1 one)
      (part (inl z) 1 one)
      (rest (suc (f.per * i + c)) i g os
      (record { fits = s.fits; most = omega arith; next = λ k. omega arith; bytes = bytes-are (inl z) d 1 e one }))
  exactly-packet held d e (p, l, k) =
      let m = f.needs in
      let a = f.head.awaited in
      let g = moved held d (sent i c) f in
      let b : a + 1 ≡ c + 1 = omega arith in
      exactly-same m sent (Full m a q (came i c ∷ h)) (Full m (a + 1) i h) (handed_out (events sent h) g) (join (inr p) (a + 1) b)
      (part (inr p) (a + 1) b)
      (rest (suc (f.per * i + c)) i g os
      (record { fits = s.fits; most = omega arith; next = λ l'. omega arith; bytes = bytes-are (inr p) d (a + 1) e b }))
  exactly-packet whole d e (at, l) =
      let m = f.needs in
      let a = f.head.awaited in
      let g = moved whole d (sent i c) f in
      let b = enough at l in
      let least : 1 ≤ m = omega (arith, s.most) in
      exactly-more m sent (Full m a q (came i c ∷ h)) (Full m 0 q h) (handed_out (events sent h) g) i
      (begun d f.unfinished ++ sent i c) (bytes-are at d m e b)
      (part at m b i (full-held m i h))
      (λ j y. full-done m m i h j q (join at m b j y))
      (λ j y. full-later m a q h j 0 (came i c) (omega arith) y)
      (λ j y. group-lt f.per i j c
      (readable-later f.per (f.per - 1) (suc (f.per * i + c)) h os m j (omega arith) (full-none m q h j y)))
      (rest (suc (f.per * i + c)) q g os (holds-none sent (suc (f.per * i + c)) q g least s.fits refl refl))
  exactly-packet out_of_step d e (l, k) =
      let g = moved out_of_step d (sent i c) f in
      let least : 1 ≤ f.needs = omega (arith, s.most) in
      exactly-dropped (came i c) (λ y p. k cc) (λ j p y. behind f.per (f.per - 1) i c h f.needs j (omega arith) l os y p)
      (handed_out (events sent h) g)
      (rest (suc (f.per * i + c)) q g os (holds-none sent (suc (f.per * i + c)) q g least s.fits refl refl))

exactly-end : (needs : ℕ) (sent : Sent) (a q : ℕ) → a < needs → Exactly needs sent (Full needs a q []) []
unfolding groups Rising In
exactly-end needs sent a q m = record {
  which = [];
  bytes = refl;
  rising = tt;
  those = λ i w. full-end needs a q [] i m w;
  others = λ i y. absurd y;
}

-- an arrival that is no packet of a group
exactly-past : (needs : ℕ) (sent : Sent) (a q : ℕ) (h : List Arrival) (x : Arrival) (out : List (List ℕ)) → ((j d : ℕ) → x ≡ came j d → ⊥)
    → Exactly needs sent (Full needs a q h) out → Exactly needs sent (Full needs a q (x ∷ h)) out
exactly-past needs sent a q h x out other =
    exactly-same needs sent (Full needs a q (x ∷ h)) (Full needs a q h) out (λ j y. full-past needs a q h j x (other j) y)
    (λ j y. full-later needs a q h j a x (omega arith) y)

pub exactly-from : (sent : Sent) (h : List Arrival) (n q : ℕ) (f : Followed) → InOrder f.per (f.per - 1) n h → Holds sent n q f
    → Exactly f.needs sent (Full f.needs f.head.awaited q h) (handed_out (events sent h) f)
unfolding InOrder handed_out events event after answer dropped aged
exactly-from sent [] n q f o s = exactly-end f.needs sent f.head.awaited q s.most
exactly-from sent (came i c ∷ h) n q f (o, os) s =
    let mv = move_of f.per f.needs f.head.awaited c in
    exactly-packet sent h (λ n q f. exactly-from sent h n q f) n q i c f o os s mv (c % f.per) (mod-eq_of_lt o.index)
    (move_row f.per f.needs f.head.awaited c o.index)
exactly-from sent (damaged i c r ∷ h) n q f (o, t, os) s =
    let m = suc (f.per * i + c) in
    let least : 1 ≤ f.needs = omega (arith, s.most) in
    rw (no_whole r, t)
    (exactly-dropped sent h (λ n q f. exactly-from sent h n q f) n q i c f o os s (damaged i c r)
    (λ l e. damaged-other i c r q f.head.awaited e) (λ j d y e. damaged-other i c r j d e) (handed_out (events sent h) (dropped f))
    (exactly-from sent h m q (dropped f) os (holds-none sent m q (dropped f) least s.fits refl refl)))
exactly-from sent (control ∷ h) n q f o s =
    exactly-past f.needs sent f.head.awaited q h control (handed_out (events sent h) f) control-other (exactly-from sent h n q f o s)
exactly-from sent (subframe_end ∷ h) n q f o s =
    exactly-past f.needs sent f.head.awaited q h subframe_end (handed_out (events sent h) (aged f)) end-other
    (exactly-from sent h n q (aged f) o (record { fits = s.fits; most = s.most; next = s.next; bytes = s.bytes }))

-- ---- from a slot that holds nothing

pub exactly : (f : Followed) → 1 ≤ f.needs → f.needs ≤ f.per → f.head.awaited ≡ 0 → f.unfinished ≡ []
    → (sent : Sent) (n : ℕ) (h : List Arrival) → InOrder f.per (f.per - 1) n h
    → Exactly f.needs sent (Readable f.needs h) (handed_out (events sent h) f)
exactly f least fits w u sent n h o =
    let m = f.needs in
    let a = f.head.awaited in
    exactly-same m sent (Readable m h) (Full m a 0 h) (handed_out (events sent h) f) (full-readable m a 0 h)
    (λ j y. full-lost m a 0 h j (omega arith) (λ l x. omega arith) y)
    (exactly-from sent h n 0 f o (holds-none sent n 0 f least fits w u))

pub exactly-four : (w : Wish) (sent : Sent) (n : ℕ) (h : List Arrival) → InOrder 4 3 n h
    → Exactly 4 sent (Readable 4 h) (handed_out (events sent h) (followed w))
unfolding followed per_of needs_of
exactly-four w sent n h o = exactly (followed w) (lit≤ tt) (lit≤ tt) refl refl sent n h o

-- ---- groups of one

-- there no bound is asked for
any-lost : (most least n : ℕ) (h : List Arrival) → InOrder 1 most n h → InOrder 1 least n h
unfolding InOrder
any-lost most least n [] o = tt
any-lost most least n (came i c ∷ h) (o, os) = (
  record { index = o.index; once = o.once; lost = λ l. absurd (omega arith) },
  any-lost most least (suc (1 * i + c)) h os,
)
any-lost most least n (damaged i c r ∷ h) (o, t, os) = (
  record { index = o.index; once = o.once; lost = λ l. absurd (omega arith) },
  t,
  any-lost most least (suc (1 * i + c)) h os,
)
any-lost most least n (control ∷ h) o = any-lost most least n h o
any-lost most least n (subframe_end ∷ h) o = any-lost most least n h o

pub exactly-one : (f : Followed) → f.per ≡ 1 → f.needs ≡ 1 → f.head.awaited ≡ 0 → f.unfinished ≡ []
    → (sent : Sent) (most n : ℕ) (h : List Arrival) → InOrder 1 most n h
    → Exactly 1 sent (Readable 1 h) (handed_out (events sent h) f)
exactly-one f p m w u sent most n h o =
    subst (λ (x : ℕ). Exactly x sent (Readable x h) (handed_out (events sent h) f)) m
    (exactly f (omega arith) (omega arith) w u sent n h (subst (λ (x : ℕ). InOrder x (x - 1) n h) (sym p) (any-lost most 0 n h o)))

-- the bytes of the readable packets
unfoldable pub arrived : Sent → List Arrival → List (List ℕ)
arrived sent [] = []
arrived sent (came i c ∷ h) = sent i c ∷ arrived sent h
arrived sent (damaged i c r ∷ h) = arrived sent h
arrived sent (control ∷ h) = arrived sent h
arrived sent (subframe_end ∷ h) = arrived sent h

one-packet : (sent : Sent) (h : List Arrival) → ((g : Followed) → g.per ≡ 1 → g.needs ≡ 1 → handed_out (events sent h) g ≡ arrived sent h)
    → (f : Followed) → f.per ≡ 1 → f.needs ≡ 1 → (mv : Move) (d : ℕ) (b : List ℕ) → mv ≡ whole → d ≡ 0
    → cond (eqb (move_number mv) 3) ((moved mv d b f).last ∷ handed_out (events sent h) (moved mv d b f))
    (handed_out (events sent h) (moved mv d b f)) ≡ b ∷ arrived sent h
unfolding move_number moved last_of begun
one-packet sent h rest f p m mv d b e z = rw (e, z) (ap (λ (out : List (List ℕ)). b ∷ out) (rest (moved whole 0 b f) p m))

pub one-handed : (sent : Sent) (h : List Arrival) (f : Followed) → f.per ≡ 1 → f.needs ≡ 1
    → handed_out (events sent h) f ≡ arrived sent h
unfolding arrived handed_out events event after answer dropped aged
one-handed sent [] f p m = refl
one-handed sent (came i c ∷ h) f p m =
    one-packet sent h (λ g. one-handed sent h g) f p m (move_of f.per f.needs f.head.awaited c) (c % f.per) (sent i c)
    (rw (p, m) (one-whole f.head.awaited c)) (rw p (mod-one c))
one-handed sent (damaged i c r ∷ h) f p m =
    rw (no_whole r) (refused-either (λ (g : Followed). handed_out (events sent h) g ≡ arrived sent h) r f (one-handed sent h (dropped f) p m)
    (one-handed sent h f p m))
one-handed sent (control ∷ h) f p m = one-handed sent h f p m
one-handed sent (subframe_end ∷ h) f p m = one-handed sent h (aged f) p m
