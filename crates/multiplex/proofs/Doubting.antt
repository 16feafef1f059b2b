-- When a map says 46, exactly.
--
--   number-either      it is 0 or 46
--   came-number        behind the next change, of an announced structure
--   start-number       before it, in the configuration of the start
--   doubts             the theorem, of our machine
--
-- Assumes nothing.
use mathlib.Core.Path.{◌≡◌, refl, sym, ap, ap₂, ◌∙◌, subst}
use mathlib.Core.Bool.{Bool, true, false, cond, ◌&&◌, ◌||◌}
use mathlib.Core.List.{List}
use mathlib.Core.Logic.{◌⊎◌, inl, inr}
use Prim.Native.Nat.{ℕ, suc, ◌+◌, ◌≤◌, ◌<◌}
use native.Mathlib.Omega.{arith}
use borrow.Author.Tests.{eq-eqb, lt-ltb, le-ltb}
use lib.Dec.{leb, ltb, eqb}
use lib.ListN.{length}
use Rattle.bits.proofs.Search.{and_left, and_right, clash}
use Rattle.structure.specs.Structure.{head_of, said, settled_head}
use Rattle.structure.specs.declared.Structure.{Structure}
use Rattle.structure.proofs.Gathering.{Holds}
use Rattle.frames.specs.Counts.{changing, all_heard}
use Rattle.map.specs.Map.{ids, structure_at, frames_of, announced}
use Rattle.map.specs.Calls.{then_head, then_number, found_of, shown_at, shown}
use Rattle.map.specs.Answers.{Shown}
use Rattle.multiplex.specs.Broadcast.{count_at, change, epoch}
use Rattle.multiplex.specs.Heard.{ours}
use Rattle.multiplex.specs.Air.{Air, timed, new_in, later, last_new, link_of, links_new, new_to, gone_to, in_force, coming, Said, nothing, described, deleted, Orderly}
use Rattle.multiplex.specs.Sound.{there, coming_to, present_to}
use Rattle.multiplex.specs.Finding.{rounds_to, new_rounds_to, wholly_before, alone_before}
use Rattle.multiplex.specs.Doubting.{came_to, Doubts}
use Rattle.multiplex.proofs.Counting.{heard_all}
use Rattle.multiplex.proofs.Knowing.{Next, none, delete, piece, sure, full, Settled, stays-so, told, ends}
use Rattle.multiplex.proofs.Rounding.{Right, second-right, second-open, sought-full, sought-open}
use Rattle.multiplex.proofs.Rounding as rounding
use Rattle.multiplex.proofs.Listening.{Known}
use Rattle.multiplex.proofs.Seeing.{present, shown-is, head-force, seen-force, head-coming, seen-coming}
use Rattle.multiplex.proofs.Asked.{changing-now}
use Rattle.multiplex.proofs.Telling.{Kept, kept_at}

-- ---- the number of a structure

either_number : (h : Structure) → (then_number h ≡ 0) ⊎ (then_number h ≡ 46)
unfolding then_number
either_number h = go (ltb 0 h.fields && eqb h.whole 0)
  where
    go : (b : Bool) → (◌≡◌ {A = ℕ} (cond b 46 0) 0) ⊎ (◌≡◌ {A = ℕ} (cond b 46 0) 46)
    go true = inr refl
    go false = inl refl

unfinished : (h : Structure) → 0 < h.fields → h.whole ≡ 0 → then_number h ≡ 46
unfolding then_number
unfinished h p w = λ i. cond (lt-ltb 0 h.fields p i && eq-eqb h.whole 0 w i) 46 0

-- a change that is not sure makes nothing whole
unfinished-then : (h : Structure) → 0 < h.fields → h.whole ≡ 0 → then_number (settled_head false h) ≡ 46
unfolding settled_head
unfinished-then h p w = unfinished (settled_head false h) p w

-- ---- what is shown

module _ (a : Air) (w : Orderly a) (hears : ℕ → Bool) (t : ℕ) (m : List ℕ) (k : Kept a hears t m) (v id : ℕ) (hid : id < ids) (lo : t ≤ v) (hi : v ≤ t + 128) where
  h : Known a hears t m k.unbroken
  h = k.holds

  abbrev c : ℕ
  c = count_at (timed a) v

  abbrev e : ℕ
  e = epoch (timed a) t

  abbrev F : List ℕ
  F = structure_at id 0 m

  abbrev A : List ℕ
  A = structure_at id 1 m

  abbrev zs : List ℕ
  zs = coming a t id

  number_is : (shown m id c).number ≡ then_number (then_head m id c)
  unfolding shown_at found_of
  number_is = ap (λ (x : Shown). x.number) (shown-is m id c h.size k.all-good)

  pub number-either : ((shown m id c).number ≡ 0) ⊎ ((shown m id c).number ≡ 46)
  number-either = subst (λ (n : ℕ). (n ≡ 0) ⊎ (n ≡ 46)) (sym number_is) (either_number (then_head m id c))

  changing-is : changing (frames_of m) c ≡ ltb e (epoch (timed a) v)
  changing-is = changing-now a hears t m k.unbroken h v lo hi

  -- ---- the announced structure

  abbrev last : Bool
  last = wholly_before a hears t && change (timed a) (suc t)

  -- the last frame of a configuration of which every frame was heard
  last-is : all_heard (frames_of m) ≡ last
  last-is =
      ap all_heard h.frames ∙ heard_all (timed a) t k.unbroken _ ∙ ap (λ (b : Bool). b && change (timed a) (suc t)) h.wholly

  module _ (behind : epoch (timed a) t < epoch (timed a) v) (heard : coming_to a hears id t ≡ there) where
    some-coming : 0 < (head_of A).fields
    some-coming = (h.words id hid).coming heard

    shows-coming : (changing (frames_of m) c && said (announced id m)) ≡ true
    unfolding said announced
    shows-coming =
        ap₂ (λ (x y : Bool). x && (y || eqb (head_of A).deleted 1)) (changing-is ∙ lt-ltb e (epoch (timed a) v) behind) (lt-ltb 0 (head_of A).fields some-coming)

    all_shown : (x l : ℕ) → 0 < length zs → Holds A (length zs) zs x l → (last ≡ true × (head_of A).late ≡ 0) ⊎ (x ≡ 1) → (shown m id c).number ≡ 0
    all_shown x l pos y why =
        (seen-coming m id c h.size k.all-good shows-coming last last-is zs x l why pos (w.linked (suc e) id hid).few y).number

    -- it is all there by then
    sure-shown : last ≡ true → (dn count links : ℕ) (gone : Bool) → Settled (in_force a t id) zs count gone → Next a hears (suc t) e id dn count links gone true A
        → (shown m id c).number ≡ 0
    sure-shown q dn count links gone st (none em x y) = absurd (omega (arith, some-coming, em.fields))
    sure-shown q dn count links gone st (delete d x) = absurd (omega (arith, some-coming, d.fields))
    sure-shown q dn count links gone st (piece x y z) = clash x
    sure-shown q dn count links gone (stays-so c0 g0 z) (sure i pos le x d hl la y) = absurd (omega (arith, pos, x, c0))
    sure-shown q dn count links gone (told p le2) (sure i pos le x d hl la y) =
        let z : i ≡ length zs = omega (arith, le, le2, x) in
        all_shown 0 links p (subst (λ (n : ℕ). Holds A n zs 0 links) z y) (inl (q, la))
    sure-shown q dn count links gone (ends z g1) (sure i pos le x d hl la y) = absurd (omega (arith, pos, le, ap length z))
    sure-shown q dn count links gone st (full l hl pos la y) = all_shown 1 l pos y (inr refl)

    settled-by : Said a t id → Settled (in_force a t id) zs (new_to a id t) (gone_to a id t)
    settled-by (nothing z g s) = stays-so z g s
    settled-by (described p s) = told p s
    settled-by (deleted z g) = ends z g

    last-shown : last ≡ true → (shown m id c).number ≡ 0
    last-shown q =
        let u : k.unbroken ≡ true = h.wholly ∙ and_left (wholly_before a hears t) _ q in
        sure-shown q dn (new_to a id t) links (gone_to a id t) (settled-by (w.said t id hid (and_right (wholly_before a hears t) _ q) (h.begun u)))
        (subst (λ (x : Bool). Next a hears (suc t) e id dn (new_to a id t) links (gone_to a id t) x A) u (h.next id hid))
      where
        dn : ℕ
        dn = later (new_in id (a.carries t)) (last_new a id t)

        links : ℕ
        links = cond (eqb (new_in id (a.carries t)) 0) (links_new a id t) (link_of (a.carries t))

    pub came-number : (shown m id c).number ≡ cond (came_to a hears id t || last) 0 46
    came-number = go (came_to a hears id t) last refl refl
      where
        go : (x y : Bool) → came_to a hears id t ≡ x → last ≡ y → (shown m id c).number ≡ cond (came_to a hears id t || last) 0 46
        go true y ex ey =
            let f = sought-full (new_rounds_to a hears id t) (came_to a hears id t) zs _ _ A (h.sought id hid) ex in
            all_shown 1 f.1.0 f.0 f.1.1.1 (inr refl) ∙ sym (ap (λ (b : Bool). cond (b || last) 0 46) ex)
        go false true ex ey = last-shown ey ∙ sym (ap₂ (λ (b d : Bool). cond (b || d) 0 46) ex ey)
        go false false ex ey =
            number_is ∙ ap then_number (head-coming m id c h.size k.all-good shows-coming false (last-is ∙ ey))
            ∙ unfinished-then (head_of A) some-coming (sought-open (new_rounds_to a hears id t) (came_to a hears id t) zs _ _ A (h.sought id hid) ex)
            ∙ sym (ap₂ (λ (b d : Bool). cond (b || d) 0 46) ex ey)

  -- ---- the structure in force

  module _ (now : epoch (timed a) v ≡ epoch (timed a) t) (alone : alone_before a hears t ≡ true) (heard : present_to a hears id t ≡ there) where
    some-force : 0 < (head_of F).fields
    some-force = (h.words id hid).present heard

    shows-force : (changing (frames_of m) c && said (announced id m)) ≡ false
    shows-force = ap (λ (b : Bool). b && said (announced id m)) (changing-is ∙ le-ltb e (epoch (timed a) v) (omega (arith, now)))

    right-shown : (due : ℕ) → Right (in_force a t id) due F → (shown m id c).number ≡ 0
    right-shown due (rounding.absent z em) = absurd (omega (arith, some-force, em.fields))
    right-shown due (rounding.present l hl pos la y) =
        (seen-force m id c h.size k.all-good shows-force (in_force a t id) (w.linked e id hid).few (present l hl pos y)).number

    pub start-number : (shown m id c).number ≡ cond (leb 2 (rounds_to a hears id t)) 0 46
    start-number = go (leb 2 (rounds_to a hears id t)) refl
      where
        go : (x : Bool) → leb 2 (rounds_to a hears id t) ≡ x → (shown m id c).number ≡ cond (leb 2 (rounds_to a hears id t)) 0 46
        go true ex =
            right-shown _ (second-right (rounds_to a hears id t) (in_force a t id) _ _ F ((h.turns id hid).only alone) ex)
            ∙ sym (ap (λ (b : Bool). cond b 0 46) ex)
        go false ex =
            number_is ∙ ap then_number (head-force m id c h.size k.all-good shows-force)
            ∙ unfinished (head_of F) some-force (second-open (rounds_to a hears id t) (in_force a t id) _ _ F ((h.turns id hid).only alone) ex)
            ∙ sym (ap (λ (b : Bool). cond b 0 46) ex)

-- ---- the theorem

pub doubts : Doubts ours
unfolding ours
doubts = record {
  either = λ a w hears Near-by t v id ht lo hi hid. number-either a w hears t _ (kept_at a w hears Near-by t ht) v id hid lo hi;
  coming = λ a w hears Near-by t v id ht lo hi hid behind heard. came-number a w hears t _ (kept_at a w hears Near-by t ht) v id hid lo hi behind heard;
  begins = λ a w hears Near-by t v id ht lo hi hid now alone heard. start-number a w hears t _ (kept_at a w hears Near-by t ht) v id hid lo hi now alone heard;
}
