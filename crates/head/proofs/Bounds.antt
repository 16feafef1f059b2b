-- Good heads: their bounds as plain facts, and that the changes keep them.
--
--   WishBounds, wish-bounds      a good wish's bounds
--   Bounds, good-bounds, bounds-good    a good head's
--   good_new, good-started .. good-aged the changes keep a head good; *-wish: and what was wished
--   aged-counts, aged-stays      the age, by the test that counts it
--
-- Assumes nothing.
use mathlib.Core.Path.{◌≡◌, refl, sym, ap, ap₂}
use mathlib.Core.Bool.{Bool, true, false, cond, ◌&&◌}
use Prim.Native.Nat.{ℕ, ◌+◌, ◌≤◌, ◌<◌}
use native.Mathlib.Omega.{arith}
use lib.Dec.{leb, ltb, eqb, lit≤}
use borrow.Author.Tests.{leb-true, ltb-true, le-leb}
use Rattle.bits.proofs.Search.{and_left, and_right}
use Rattle.head.specs.Head.{good_wish, new_head, started_head, held_head, whole_head, dropped_head, aged_head, good_head}
use Rattle.head.specs.declared.Head.{Head}
use Rattle.head.specs.declared.Wish.{Wish}

-- ---- what is wished

pub record WishBounds (w : Wish) : Type 0 where
  pub address-from : 1 ≤ w.address
  pub address-to : w.address ≤ 1022
  pub protection-to : w.protection ≤ 1
  pub limit-from : 1 ≤ w.limit
  pub limit-to : w.limit ≤ 1500

pub wish-bounds : (w : Wish) → good_wish w ≡ true → WishBounds w
unfolding good_wish
wish-bounds w e =
    let a = leb 1 w.address && leb w.address 1022 in
    let l = leb 1 w.limit && leb w.limit 1500 in
    let first = and_left a (leb w.protection 1 && l) e in
    let rest = and_right a (leb w.protection 1 && l) e in
    let last = and_right (leb w.protection 1) l rest in
    record {
      address-from = leb-true 1 w.address (and_left (leb 1 w.address) (leb w.address 1022) first);
      address-to = leb-true w.address 1022 (and_right (leb 1 w.address) (leb w.address 1022) first);
      protection-to = leb-true w.protection 1 (and_left (leb w.protection 1) l rest);
      limit-from = leb-true 1 w.limit (and_left (leb 1 w.limit) (leb w.limit 1500) last);
      limit-to = leb-true w.limit 1500 (and_right (leb 1 w.limit) (leb w.limit 1500) last);
    }

-- ---- heads

pub record Bounds (h : Head) : Type 0 where
  pub wish : good_wish h.wish ≡ true
  pub awaited-to : h.awaited ≤ 3
  pub group-to : h.group ≤ 1
  pub gap-to : h.gap ≤ 1
  pub age-to : h.age ≤ 1500

pub good-bounds : (h : Head) → good_head h ≡ true → Bounds h
unfolding good_head
good-bounds h e =
    let w = leb h.awaited 3 in
    let g = leb h.group 1 in
    let m = leb h.gap 1 in
    let k = leb h.age 1500 in
    let e1 = and_right (good_wish h.wish) (w && (g && (m && k))) e in
    let e2 = and_right w (g && (m && k)) e1 in
    let e3 = and_right g (m && k) e2 in
    record {
      wish = and_left (good_wish h.wish) (w && (g && (m && k))) e;
      awaited-to = leb-true h.awaited 3 (and_left w (g && (m && k)) e1);
      group-to = leb-true h.group 1 (and_left g (m && k) e2);
      gap-to = leb-true h.gap 1 (and_left m k e3);
      age-to = leb-true h.age 1500 (and_right m k e3);
    }

pub bounds-good : (h : Head) → Bounds h → good_head h ≡ true
unfolding good_head
bounds-good h b =
    ap₂ ◌&&◌ b.wish
    (ap₂ ◌&&◌ (le-leb h.awaited 3 b.awaited-to)
    (ap₂ ◌&&◌ (le-leb h.group 1 b.group-to)
    (ap₂ ◌&&◌ (le-leb h.gap 1 b.gap-to) (le-leb h.age 1500 b.age-to))))

pub good_new : (w : Wish) → good_wish w ≡ true → good_head (new_head w) ≡ true
unfolding good_head
good_new w e = ap (λ (b : Bool). b && true) e

-- each change leaves what was wished
abbrev changed : Head → ℕ → ℕ → ℕ → ℕ → Head
changed h k w g m = record { wish = h.wish; age = k; awaited = w; group = g; gap = m }

good-changed : (h : Head) (k w g m : ℕ) → good_head h ≡ true → k ≤ 1500 → w ≤ 3 → g ≤ 1 → m ≤ 1
    → good_head (changed h k w g m) ≡ true
good-changed h k w g m e hk hw hg hm =
    bounds-good (changed h k w g m)
    (record { wish = (good-bounds h e).wish; awaited-to = hw; group-to = hg; gap-to = hm; age-to = hk })

cond-le : (t : Bool) (a b m : ℕ) → a ≤ m → b ≤ m → cond t a b ≤ m
cond-le true a b m ha hb = ha
cond-le false a b m ha hb = hb

capped : (t u : Bool) (n : ℕ) → ltb n 1500 ≡ u → n ≤ 1500 → cond (t && u) (n + 1) n ≤ 1500
capped true true n e h = omega (arith, ltb-true n 1500 e)
capped true false n e h = h
capped false u n e h = h

module _ (h : Head) where
  pub started-wish : (started_head h).wish ≡ h.wish
  started-wish = refl

  pub held-wish : (held_head h).wish ≡ h.wish
  held-wish = refl

  pub whole-wish : (whole_head h).wish ≡ h.wish
  whole-wish = refl

  pub dropped-wish : (dropped_head h).wish ≡ h.wish
  dropped-wish = refl

  pub aged-wish : (aged_head h).wish ≡ h.wish
  aged-wish = refl

module _ (h : Head) (e : good_head h ≡ true) where
  pub good-started : good_head (started_head h) ≡ true
  good-started =
      let b = good-bounds h e in
      good-changed h h.age 1 h.group (cond (ltb 0 h.awaited) 1 h.gap) e b.age-to (lit≤ tt) b.group-to
      (cond-le (ltb 0 h.awaited) 1 h.gap 1 (lit≤ tt) b.gap-to)

  pub good-held : h.awaited < 3 → good_head (held_head h) ≡ true
  good-held l =
      let b = good-bounds h e in
      good-changed h h.age (h.awaited + 1) h.group h.gap e b.age-to (omega arith) b.group-to b.gap-to

  pub good-whole : good_head (whole_head h) ≡ true
  good-whole = good-changed h 0 0 1 0 e (lit≤ tt) (lit≤ tt) (lit≤ tt) (lit≤ tt)

  pub good-dropped : good_head (dropped_head h) ≡ true
  good-dropped =
      let b = good-bounds h e in
      good-changed h h.age 0 h.group 1 e b.age-to (lit≤ tt) b.group-to (lit≤ tt)

  pub good-aged : good_head (aged_head h) ≡ true
  good-aged =
      let b = good-bounds h e in
      good-changed h (cond (eqb h.group 1 && ltb h.age 1500) (h.age + 1) h.age) h.awaited h.group h.gap e
      (capped (eqb h.group 1) (ltb h.age 1500) h.age refl b.age-to) b.awaited-to b.group-to b.gap-to

-- ---- the age, by the test that counts it

-- a head with another age
abbrev with_age : Head → ℕ → Head
with_age h n = changed h n h.awaited h.group h.gap

module _ (h : Head) where
  pub aged-counts : (eqb h.group 1 && ltb h.age 1500) ≡ true → with_age h (h.age + 1) ≡ aged_head h
  aged-counts e = sym (ap (λ (b : Bool). with_age h (cond b (h.age + 1) h.age)) e)

  pub aged-stays : (eqb h.group 1 && ltb h.age 1500) ≡ false → with_age h h.age ≡ aged_head h
  aged-stays e = sym (ap (λ (b : Bool). with_age h (cond b (h.age + 1) h.age)) e)
