-- What was heard of a component last, and whether the map has fields of it.
--
--   Words k p F A      where a field was heard last the structure has fields; where nothing was heard of what comes, nothing is announced; and what
--                      is held to be absent was so said last
--   Sure xs zs F A     what is certain is there; sure-gap, sure-change
--   words-gap, words-change, words-same     frames are missed, a change, neither
--   words-on           from one frame that is heard to the next
--   some-old, some-new      a field that is taken in leaves some
--
-- Assumes nothing.
use mathlib.Core.Path.{◌≡◌, refl, sym, ap, ap₂, ◌∙◌, subst}
use mathlib.Core.Bool.{Bool, true, false, cond, ◌&&◌, ◌||◌, and-false}
use mathlib.Core.List.{List}
use Prim.Native.Nat.{ℕ, zero, suc, ◌+◌, ◌^◌, ◌≤◌, ◌<◌}
use native.Mathlib.Omega.{arith}
use native.Mathlib.Decide.{ℕ_discrete}
use borrow.Author.Tests.{lt-ltb, ltb-true, eqb-true}
use lib.Dec.{ltb, eqb, lit<}
use lib.ListN.{length}
use Rattle.bits.proofs.Search.{and_left, and_right}
use Rattle.structure.specs.Structure.{structure_size, head_of, gathered, spoiled, said, certainly}
use Rattle.structure.proofs.Kept.{spoiled-none, spoiled-some, spoiled-certain}
use Rattle.structure.proofs.Runs.{gathered-some, gathered-whole}
use Rattle.map.specs.Map.{ids, map_size, structure_at, stayed, settled, forced, changed_from}
use Rattle.map.proofs.Places.{structure-length}
use Rattle.map.proofs.Changing.{stayed-some, stayed-certain, settled-some, settled-certain, stays, comes-in, goes-out, force-behind, emptied}
use Rattle.multiplex.specs.Broadcast.{change, epoch}
use Rattle.multiplex.specs.Air.{Air, timed}
use Rattle.multiplex.specs.Sound.{Word, unheard, absent, there, over, present_in, coming_in, coming_before, coming_to, present_before, present_to}
use Rattle.multiplex.specs.Admitting.{is_absent}
use Rattle.multiplex.proofs.Distances.{epoch-step, epoch-mono}
use Rattle.multiplex.proofs.Knowing.{Front, some, all, Next, none, delete, piece, sure, full, part-head}

pub record Words (k p : Word) (F A : List ℕ) : Type 0 where
  pub present : k ≡ there → 0 < (head_of F).fields
  pub coming : p ≡ there → 0 < (head_of A).fields
  pub nothing : p ≡ unheard → ((head_of A).fields ≡ 0) × ((head_of A).deleted ≡ 0)
  -- what is held to be absent, or to be deleted, was so said last
  pub gone : (head_of F).fields ≡ 0 → ((head_of F).certain ≡ 0 → ⊥) → k ≡ absent
  pub ends : (head_of A).fields ≡ 0 → (head_of A).deleted ≡ 1 → p ≡ absent
  pub ended : p ≡ absent → ((head_of A).fields ≡ 0) × ((head_of A).deleted ≡ 1)
  -- and what has fields was heard
  pub heard : 0 < (head_of F).fields → k ≡ there
  pub told : 0 < (head_of A).fields → p ≡ there

-- what is certain is there: xs is the structure in force, zs the coming one
pub record Sure (g : Bool) (xs zs F A : List ℕ) : Type 0 where
  pub front : certainly (head_of F) ≡ true → 0 < length xs
  pub next : 0 < (head_of A).fields → 0 < length zs
  -- that it is not there was heard for certain
  pub gone : (head_of F).fields ≡ 0 → ((head_of F).certain ≡ 0 → ⊥) → g ≡ true

pub sure-as : {g : Bool} {xs zs F A F' A' : List ℕ} → F ≡ F' → A ≡ A' → Sure g xs zs F A → Sure g xs zs F' A'
sure-as {g} {xs} {zs} {F} {A} {F'} {A'} ef ea w = subst (λ (x : List ℕ). Sure g xs zs x A') ef (subst (Sure g xs zs F) ea w)

-- which word it is
pub rank : Word → ℕ
rank unheard = 0
rank absent = 1
rank there = 2

pub differ : {A : Type 0} (x y : Word) → x ≡ y → (rank x ≡ rank y → ⊥) → A
differ x y e n = absurd (n (ap rank e))

pub absent-there : {A : Type 0} → absent ≡ there → A
unfolding rank
absent-there e = differ absent there e (λ q. omega arith)

pub unheard-there : {A : Type 0} → unheard ≡ there → A
unfolding rank
unheard-there e = differ unheard there e (λ q. omega arith)

pub absent-unheard : {A : Type 0} → absent ≡ unheard → A
unfolding rank
absent-unheard e = differ absent unheard e (λ q. omega arith)

pub there-unheard : {A : Type 0} → there ≡ unheard → A
unfolding rank
there-unheard e = differ there unheard e (λ q. omega arith)

-- ---- by a field, or all ones

pub words-as : {k p k' p' : Word} {F A F' A' : List ℕ} → Words k p F A → k ≡ k' → p ≡ p' → F ≡ F' → A ≡ A' → Words k' p' F' A'
words-as {k} {p} {k'} {p'} {F} {A} {F'} {A'} w ek ep ef ea =
    subst (λ (x : Word). Words x p' F' A') ek
    (subst (λ (x : Word). Words k x F' A') ep (subst (λ (x : List ℕ). Words k p x A') ef (subst (Words k p F) ea w)))

pub words-force : (k p : Word) (F A s : List ℕ) → Words k p F A → 0 < (head_of s).fields → Words there p s A
words-force k p F A s w h = record { present = λ q. h; coming = w.coming; nothing = w.nothing; gone = λ z c. absurd (omega (arith, h, z)); ends = w.ends; ended = w.ended; heard = λ _. refl; told = w.told }

pub words-dropped : (k p : Word) (F A s : List ℕ) → Words k p F A → (head_of s).fields ≡ 0 → Words absent p s A
words-dropped k p F A s w f = record {
  present = λ q. absent-there q;
  coming = w.coming;
  nothing = w.nothing;
  gone = λ z c. refl;
  ends = w.ends;
  ended = w.ended;
  heard = λ h. absurd (omega (arith, h, f));
  told = w.told;
}

pub words-told : (k p : Word) (F A s : List ℕ) → Words k p F A → 0 < (head_of s).fields → Words k there F s
words-told k p F A s w h = record { present = w.present; coming = λ q. h; nothing = λ q. there-unheard q; gone = w.gone; ends = λ z c. absurd (omega (arith, h, z)); ended = λ q. absent-there (sym q); heard = w.heard; told = λ _. refl }

pub words-ends : (k p : Word) (F A s : List ℕ) → Words k p F A → (head_of s).fields ≡ 0 → (head_of s).deleted ≡ 1 → Words k absent F s
words-ends k p F A s w f d = record { present = w.present; coming = λ q. absent-there q; nothing = λ q. absent-unheard q; gone = w.gone; ends = λ z c. refl; ended = λ q. (f, d); heard = w.heard; told = λ h. absurd (omega (arith, h, f)) }

-- ---- frames are missed

spoiled-fields : (s : List ℕ) → length s ≡ structure_size → 0 < (head_of s).fields → 0 < (head_of (spoiled s)).fields
spoiled-fields s l h = ltb-true 0 (head_of (spoiled s)).fields (spoiled-some s l ∙ lt-ltb 0 (head_of s).fields h)

unfinished-none : (s : List ℕ) → (head_of s).fields ≡ 0 → (eqb (head_of s).whole 0 && ltb 0 (head_of s).fields) ≡ false
unfinished-none s z = ap (λ (n : ℕ). eqb (head_of s).whole 0 && ltb 0 n) z ∙ and-false (eqb (head_of s).whole 0)

-- it has no field where it had none
spoiled-back : (s : List ℕ) → length s ≡ structure_size → (head_of (spoiled s)).fields ≡ 0 → (head_of s).fields ≡ 0
spoiled-back s l z = go (ℕ_discrete (head_of s).fields 0)
  where
    go : Dec ((head_of s).fields ≡ 0) → (head_of s).fields ≡ 0
    go (yes q) = q
    go (no q) = absurd (omega (arith, z, spoiled-fields s l (omega (arith, q))))

pub words-gap : (k p : Word) (F A : List ℕ) → length F ≡ structure_size → length A ≡ structure_size → Words k p F A → Words k p (spoiled F) (spoiled A)
words-gap k p F A lf la w = record {
  present = λ e. spoiled-fields F lf (w.present e);
  coming = λ e. spoiled-fields A la (w.coming e);
  nothing = λ e.
      let z = spoiled-none A la (unfinished-none A (w.nothing e).0) in
      (z.fields ∙ (w.nothing e).0, z.deleted ∙ (w.nothing e).1);
  gone = λ z c. w.gone (spoiled-back F lf z) (λ q. c (spoiled-certain F lf ∙ q));
  ends = λ z c. w.ends (spoiled-back A la z) (sym (spoiled-none A la (unfinished-none A (spoiled-back A la z))).deleted ∙ c);
  ended = λ e.
      let z = spoiled-none A la (unfinished-none A (w.ended e).0) in
      (z.fields ∙ (w.ended e).0, z.deleted ∙ (w.ended e).1);
  heard = λ h. w.heard (ltb-true 0 _ (sym (spoiled-some F lf) ∙ lt-ltb 0 _ h));
  told = λ h. w.told (ltb-true 0 _ (sym (spoiled-some A la) ∙ lt-ltb 0 _ h));
}

-- ---- a change

module _ (sure? : Bool) (m : List ℕ) (lm : length m ≡ map_size) (id : ℕ) (hid : id < ids) where
  lf : length (structure_at id 0 m) ≡ structure_size
  lf = structure-length m lm id 0 hid (lit< tt)

  la : length (structure_at id 1 m) ≡ structure_size
  la = structure-length m lm id 1 hid (lit< tt)

  abbrev then : ℕ → List ℕ
  then v = structure_at id v (changed_from ids 0 sure? m)

  none_then : {A : Type 0} → 0 < (head_of (then 1)).fields → A
  none_then h = absurd (omega (arith, h, (emptied sure? m lm id hid).fields))

  pub words-change : (k p : Word) → Words k p (structure_at id 0 m) (structure_at id 1 m) → Words (over p k) unheard (then 0) (then 1)
  unfolding over
  words-change k unheard w =
      let f = w.nothing refl in
      let is = stays sure? m lm id hid f.0 f.1 in
      let em = emptied sure? m lm id hid in
      record {
        present = λ q. subst (λ (s : List ℕ). 0 < (head_of s).fields) (sym is)
            (ltb-true 0 _ (stayed-some (structure_at id 0 m) lf sure? ∙ lt-ltb 0 _ (w.present q)));
        coming = λ q. unheard-there q;
        nothing = λ q. (em.fields, em.deleted);
        gone = λ z c. absurd (c (ap (λ (s : List ℕ). (head_of s).certain) is ∙ stayed-certain (structure_at id 0 m) lf sure?));
        ends = λ z c. absurd (omega (arith, c, em.deleted));
        ended = λ q. absent-unheard (sym q);
        heard = λ h. w.heard (ltb-true 0 _ (sym (stayed-some (structure_at id 0 m) lf sure?) ∙ lt-ltb 0 _ (subst (λ (s : List ℕ). 0 < (head_of s).fields) is h)));
        told = none_then;
      }
  words-change k absent w =
      let em = emptied sure? m lm id hid in
      record {
        present = λ q. absent-there q;
        coming = λ q. unheard-there q;
        nothing = λ q. (em.fields, em.deleted);
        gone = λ z c. refl;
        ends = λ z c. absurd (omega (arith, c, em.deleted));
        ended = λ q. absent-unheard (sym q);
        heard = λ h.
            let z = w.ended refl in
            absurd (omega (
              arith,
              z.0,
              ltb-true 0 (head_of (structure_at id 1 m)).fields (sym (settled-some sure? (structure_at id 1 m) la)
                  ∙ lt-ltb 0 (head_of (settled sure? (structure_at id 1 m))).fields (subst (λ (s : List ℕ). 0 < (head_of s).fields) (goes-out sure? m lm id hid z.1) h)),
            ));
        told = none_then;
      }
  words-change k there w =
      let f = w.coming refl in
      let em = emptied sure? m lm id hid in
      let some-there = subst (λ (s : List ℕ). 0 < (head_of s).fields) (sym (comes-in sure? m lm id hid f))
      (ltb-true 0 _ (settled-some sure? (structure_at id 1 m) la ∙ lt-ltb 0 _ f)) in
      record {
        present = λ q. some-there;
        coming = λ q. unheard-there q;
        nothing = λ q. (em.fields, em.deleted);
        gone = λ z c. absurd (omega (arith, z, some-there));
        ends = λ z c. absurd (omega (arith, c, em.deleted));
        ended = λ q. absent-unheard (sym q);
        heard = λ h. refl;
        told = none_then;
      }

  -- what is certain behind a change a sure one has put there
  pub sure-change : (k p : Word) → Words k p (structure_at id 0 m) (structure_at id 1 m) → (g : Bool) (xs zs ws : List ℕ)
      → Sure g xs zs (structure_at id 0 m) (structure_at id 1 m) → Sure (sure? && is_absent p) zs ws (then 0) (then 1)
  unfolding forced certainly said is_absent
  sure-change k p v g xs zs ws w = record {
    front = λ c. go (said (head_of (structure_at id 1 m))) refl c;
    next = none_then;
    gone = λ z c. ends_so (said (head_of (structure_at id 1 m))) refl z c;
  }
    where
      is : (b : Bool) → said (head_of (structure_at id 1 m)) ≡ b → then 0 ≡ cond b (settled sure? (structure_at id 1 m)) (stayed sure? (structure_at id 0 m))
      is b e = force-behind sure? m lm id hid ∙ ap (λ (x : Bool). cond x (settled sure? (structure_at id 1 m)) (stayed sure? (structure_at id 0 m))) e

      go : (b : Bool) → said (head_of (structure_at id 1 m)) ≡ b → (eqb (head_of (then 0)).certain 1 && ltb 0 (head_of (then 0)).fields) ≡ true → 0 < length zs
      go true e c =
          w.next (ltb-true 0 _ (sym (settled-some sure? (structure_at id 1 m) la) ∙ ap (λ (s : List ℕ). ltb 0 (head_of s).fields) (sym (is true e))
          ∙ and_right (eqb (head_of (then 0)).certain 1) _ c))
      go false e c =
          absurd (omega (
            arith,
            eqb-true (head_of (then 0)).certain 1 (and_left (eqb (head_of (then 0)).certain 1) _ c),
            ap (λ (s : List ℕ). (head_of s).certain) (is false e) ∙ stayed-certain (structure_at id 0 m) lf sure?,
          ))

      -- an announced structure that leaves no field was to be deleted
      deleted-so : (b : Bool) → sure? ≡ b → said (head_of (structure_at id 1 m)) ≡ true → (head_of (then 0)).fields ≡ 0 → ((head_of (then 0)).certain ≡ 0 → ⊥) → (b && is_absent p) ≡ true
      deleted-so false q e z c =
          absurd (c (ap (λ (s : List ℕ). (head_of s).certain) (is true e) ∙ settled-certain sure? (structure_at id 1 m) la ∙ ap (λ (b : Bool). cond b (head_of (structure_at id 1 m)).certain 0) q))
      deleted-so true q e z c =
          let f : (head_of (structure_at id 1 m)).fields ≡ 0 = none_of (ℕ_discrete (head_of (structure_at id 1 m)).fields 0) in
          ap is_absent (v.ends f (eqb-true (head_of (structure_at id 1 m)).deleted 1 (sym (ap (λ (n : ℕ). ltb 0 n || eqb (head_of (structure_at id 1 m)).deleted 1) f) ∙ e)))
        where
          none_of : Dec ((head_of (structure_at id 1 m)).fields ≡ 0) → (head_of (structure_at id 1 m)).fields ≡ 0
          none_of (yes y) = y
          none_of (no y) =
              absurd (omega (
                arith,
                z,
                ltb-true 0 (head_of (then 0)).fields
                    (ap (λ (s : List ℕ). ltb 0 (head_of s).fields) (is true e) ∙ settled-some sure? (structure_at id 1 m) la ∙ lt-ltb 0 (head_of (structure_at id 1 m)).fields (omega (arith, y))),
              ))

      ends_so : (b : Bool) → said (head_of (structure_at id 1 m)) ≡ b → (head_of (then 0)).fields ≡ 0 → ((head_of (then 0)).certain ≡ 0 → ⊥) → (sure? && is_absent p) ≡ true
      ends_so true e z c = deleted-so sure? refl e z c
      ends_so false e z c = absurd (c (ap (λ (s : List ℕ). (head_of s).certain) (is false e) ∙ stayed-certain (structure_at id 0 m) lf sure?))

pub sure-gap : (g : Bool) (xs zs F A : List ℕ) → length F ≡ structure_size → length A ≡ structure_size → Sure g xs zs F A → Sure g xs zs (spoiled F) (spoiled A)
unfolding certainly
sure-gap g xs zs F A lf la w = record {
  front = λ c. w.front (sym (λ i. eqb (spoiled-certain F lf i) 1 && spoiled-some F lf i) ∙ c);
  next = λ h. w.next (ltb-true 0 _ (sym (spoiled-some A la) ∙ lt-ltb 0 _ h));
  gone = λ z c. w.gone (spoiled-back F lf z) (λ q. c (spoiled-certain F lf ∙ q));
}

-- ---- between two frames that are heard

over-unheard : (w : Word) → over unheard w ≡ w
unfolding over
over-unheard w = refl

module _ (a : Air) (hears : ℕ → Bool) (id t : ℕ) where
  -- a frame that is not heard
  silent-coming : (n : ℕ) → hears n ≡ false → coming_to a hears id n ≡ coming_before a hears id n
  unfolding over
  silent-coming n e = ap (λ (b : Bool). over (cond b (coming_in id (a.carries n)) unheard) (coming_before a hears id n)) e

  silent-present : (n : ℕ) → hears n ≡ false → present_to a hears id n ≡ present_before a hears id n
  unfolding over
  silent-present n e = ap (λ (b : Bool). over (cond b (present_in id (a.carries n)) unheard) (present_before a hears id n)) e

  -- up to a change, and behind it
  pub record Goes (n : ℕ) : Type 0 where
    pub before : epoch (timed a) n ≡ epoch (timed a) t
        → (coming_before a hears id n ≡ coming_to a hears id t) × (present_before a hears id n ≡ present_to a hears id t)
    pub behind : epoch (timed a) n ≡ suc (epoch (timed a) t)
        → (coming_before a hears id n ≡ unheard) × (present_before a hears id n ≡ over (coming_to a hears id t) (present_to a hears id t))

  goes_first : Goes (suc t)
  unfolding coming_before present_before
  goes_first = go (change (timed a) (suc t)) refl
    where
      go : (b : Bool) → change (timed a) (suc t) ≡ b → Goes (suc t)
      go true c = record {
        before = λ z. absurd (omega (arith, z, epoch-step (timed a) t true c));
        behind = λ z. (
          ap (λ (b : Bool). cond b unheard (coming_to a hears id t)) c,
          ap (λ (b : Bool). cond b (over (coming_to a hears id t) (present_to a hears id t)) (present_to a hears id t)) c,
        );
      }
      go false c = record {
        before = λ z. (
          ap (λ (b : Bool). cond b unheard (coming_to a hears id t)) c,
          ap (λ (b : Bool). cond b (over (coming_to a hears id t) (present_to a hears id t)) (present_to a hears id t)) c,
        );
        behind = λ z. absurd (omega (arith, z, epoch-step (timed a) t false c));
      }

  goes-next : (n : ℕ) → t < n → hears n ≡ false → Goes n → Goes (suc n)
  unfolding coming_before present_before
  goes-next n h e g = go (change (timed a) (suc n)) refl
    where
      low : epoch (timed a) t ≤ epoch (timed a) n
      low = epoch-mono (timed a) t n (omega arith)

      go : (b : Bool) → change (timed a) (suc n) ≡ b → Goes (suc n)
      go true c =
          let up = epoch-step (timed a) n true c in
          record {
            before = λ z. absurd (omega (arith, z, up, low));
            behind = λ z.
                let x = g.before (omega (arith, z, up)) in (
                  ap (λ (b : Bool). cond b unheard (coming_to a hears id n)) c,
                  ap (λ (b : Bool). cond b (over (coming_to a hears id n) (present_to a hears id n)) (present_to a hears id n)) c
                      ∙ ap₂ over (silent-coming n e ∙ x.0) (silent-present n e ∙ x.1),
                );
          }
      go false c =
          let up = epoch-step (timed a) n false c in
          record {
            before = λ z.
                let x = g.before (omega (arith, z, up)) in (
                  ap (λ (b : Bool). cond b unheard (coming_to a hears id n)) c ∙ silent-coming n e ∙ x.0,
                  ap (λ (b : Bool). cond b (over (coming_to a hears id n) (present_to a hears id n)) (present_to a hears id n)) c ∙ silent-present n e ∙ x.1,
                );
            behind = λ z.
                let x = g.behind (omega (arith, z, up)) in (
                  ap (λ (b : Bool). cond b unheard (coming_to a hears id n)) c ∙ silent-coming n e ∙ x.0,
                  ap (λ (b : Bool). cond b (over (coming_to a hears id n) (present_to a hears id n)) (present_to a hears id n)) c ∙ silent-present n e ∙ x.1,
                );
          }

  pub goes_to : (n g : ℕ) → n ≡ suc (g + t) → ((v : ℕ) → v < n → hears v ≡ true → v < suc t) → Goes n
  goes_to n zero e gap = subst Goes (sym (e ∙ ap suc (plain t))) goes_first
    where
      plain : (x : ℕ) → 0 + x ≡ x
      plain x = omega arith
  goes_to n (suc g) e gap =
      let m = suc (g + t) in
      let at : suc m ≡ n = omega (arith, e) in
      subst Goes at (goes-next m (omega arith) (unheard-frame m (λ q. omega (arith, gap m (omega (arith, at)) q)))
      (goes_to m g refl (λ v hv hh. gap v (omega (arith, hv, at)) hh)))
    where
      unheard-frame : (m : ℕ) → (hears m ≡ true → ⊥) → hears m ≡ false
      unheard-frame m f = go (hears m) refl
        where
          go : (b : Bool) → hears m ≡ b → hears m ≡ false
          go true q = absurd (f q)
          go false q = q

-- ---- a field

pub some-old : (a : Air) (hears : ℕ → Bool) (n e id due : ℕ) (s : List ℕ) (t l : ℕ) → Front a hears n e id due s → t < 2 ^ 64 → 0 < (head_of (gathered s t l)).fields
some-old a hears n e id due s t l (some p) small = let h = part-head s _ due p in gathered-some s t l h.1.1 h.0 small
some-old a hears n e id due s t l (all j k hl hj pos h q) small = gathered-whole s t l h.size h.whole (omega (arith, h.fields, pos)) small

pub some-new : (a : Air) (hears : ℕ → Bool) (n e id due count links : ℕ) (g u : Bool) (s : List ℕ) (t l : ℕ) → Next a hears n e id due count links g u s
    → 0 < length (a.config (suc e) id) → t < 2 ^ 64 → 0 < (head_of (gathered s t l)).fields
some-new a hears n e id due count links g u s t l (none em c q) pos small = gathered-some s t l em.size em.whole small
some-new a hears n e id due count links g u s t l (delete d c) pos small = gathered-some s t l d.size d.whole small
some-new a hears n e id due count links g u s t l (piece w p q) pos small = let h = part-head s _ due q in gathered-some s t l h.1.1 h.0 small
some-new a hears n e id due count links g u s t l (sure k p le c d hl la h) pos small = gathered-some s t l h.size h.whole small
some-new a hears n e id due count links g u s t l (full k hl p la h) pos small = gathered-whole s t l h.size h.whole (omega (arith, h.fields, p)) small
