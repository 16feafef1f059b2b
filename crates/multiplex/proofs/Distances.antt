-- Distances of up to 128 frames, as their counts tell them.
--
--   since-is        how many frames lie between two frames; since-same: none from a frame to itself
--   epoch-is        at most one change falls between them, and exactly where the counts say so
--   changes-is
--
-- Assumes nothing.
use mathlib.Core.Path.{◌≡◌, refl, sym, ap, ◌∙◌, subst}
use mathlib.Core.Bool.{Bool, true, false, cond}
use mathlib.Core.Logic.{◌⊎◌, inl, inr}
use Prim.Native.Nat.{ℕ, zero, suc, ◌+◌, ◌-◌, ◌%◌, ◌≤◌, ◌<◌}
use native.Mathlib.Omega.{arith}
use native.Mathlib.Decide.{ℕ_discrete, dec_lt}
use borrow.Author.Tests.{eq-eqb, ne_eqb, le-ltb, lt-ltb}
use lib.Dec.{ltb, eqb}
use Rattle.frames.specs.Counts.{ahead, since, changes}
use Rattle.multiplex.specs.Broadcast.{Broadcast, count_at, change, epoch}

-- ---- counts

-- x + g modulo 256, from x: the distance modulo 128
ahead-by : (x y g : ℕ) → x < 256 → y ≡ (x + g) % 256 → g ≤ 128 → ahead x y ≡ g % 128
unfolding ahead
ahead-by x y g hx e hg = go (ltb (x + g) 256) refl
  where
    go : (b : Bool) → ltb (x + g) 256 ≡ b → (y + 256 - x) % 128 ≡ g % 128
    go true q = omega (arith, e)
    go false q = omega (arith, e)

pub since-same : (x : ℕ) → since x x ≡ 0
unfolding since
since-same x = ap (λ (b : Bool). cond b 0 (cond (eqb (ahead x x) 0) 128 (ahead x x))) (eq-eqb x x refl)

since-by : (x y g : ℕ) → x < 256 → y ≡ (x + g) % 256 → 0 < g → g ≤ 128 → since x y ≡ g
unfolding since
since-by x y g hx e pos hg =
    let other : x ≡ y → ⊥ = λ q. omega (arith, e, q) in
    ap (λ (b : Bool). cond b 0 (cond (eqb (ahead x y) 0) 128 (ahead x y))) (ne_eqb x y other)
    ∙ ap (λ (n : ℕ). cond (eqb n 0) 128 n) (ahead-by x y g hx e hg) ∙ go (ℕ_discrete g 128)
  where
    go : Dec (g ≡ 128) → cond (eqb (g % 128) 0) 128 (g % 128) ≡ g
    go (yes q) = ap (λ (n : ℕ). cond (eqb (n % 128) 0) 128 (n % 128)) q ∙ sym q
    go (no q) =
        let z : g % 128 ≡ g = omega (arith, q) in
        ap (λ (n : ℕ). cond (eqb n 0) 128 n) z ∙ ap (λ (b : Bool). cond b 128 g) (ne_eqb g 0 (λ p. omega (arith, p)))

module _ (b : Broadcast) where
  pub count-lt : (t : ℕ) → count_at b t < 256
  unfolding count_at
  count-lt t = omega arith

  count-on : (t g : ℕ) → count_at b (t + g) ≡ (count_at b t + g) % 256
  unfolding count_at
  count-on t g = omega arith

  pub since-is : (t g : ℕ) → 0 < g → g ≤ 128 → since (count_at b t) (count_at b (t + g)) ≡ g
  since-is t g pos hg = since-by (count_at b t) (count_at b (t + g)) g (count-lt t) (count-on t g) pos hg

  pub count-apart : (t g : ℕ) → 0 < g → g ≤ 128 → count_at b t ≡ count_at b (t + g) → ⊥
  count-apart t g pos hg e = omega (arith, count-lt t, count-on t g, e)

  -- ---- changes

  -- how long ago the last change was, by the count
  abbrev ago : ℕ → ℕ
  ago t = ahead 2 (count_at b t)

  ago-change : (t : ℕ) → change b t ≡ eqb (ago t) 0
  unfolding change ahead
  ago-change t = go (ℕ_discrete (count_at b t % 128) 2)
    where
      go : Dec (count_at b t % 128 ≡ 2) → eqb (count_at b t % 128) 2 ≡ eqb ((count_at b t + 256 - 2) % 128) 0
      go (yes q) = eq-eqb _ 2 q ∙ sym (eq-eqb ((count_at b t + 256 - 2) % 128) 0 (omega (arith, q)))
      go (no q) = ne_eqb _ 2 q ∙ sym (ne_eqb ((count_at b t + 256 - 2) % 128) 0 (λ z. omega (arith, z, q)))

  ago-next : (t : ℕ) → ago (suc t) ≡ (ago t + 1) % 128
  unfolding ahead count_at
  ago-next t = omega arith

  ago-lt : (t : ℕ) → ago t < 128
  unfolding ahead
  ago-lt t = omega arith

  epoch-next : (t : ℕ) (x : Bool) → change b (suc t) ≡ x → epoch b (suc t) ≡ cond x (suc (epoch b t)) (epoch b t)
  unfolding epoch
  epoch-next t x e = ap (λ (y : Bool). cond y (suc (epoch b t)) (epoch b t)) e

  pub epoch-is : (t g : ℕ) → g ≤ 128 → epoch b (t + g) ≡ cond (ltb (ago (t + g)) g) (suc (epoch b t)) (epoch b t)
  epoch-is t zero h =
      ap (epoch b) (plus t) ∙ sym (ap (λ (x : Bool). cond x (suc (epoch b t)) (epoch b t)) (le-ltb (ago (t + 0)) 0 (omega arith)))
    where
      plus : (n : ℕ) → n + 0 ≡ n
      plus n = omega arith
  epoch-is t (suc g) h = go (ℕ_discrete (ago (t + g)) 127) (epoch-is t g (omega arith))
    where
      at : suc (t + g) ≡ t + suc g
      at = omega arith

      go : Dec (ago (t + g) ≡ 127) → epoch b (t + g) ≡ cond (ltb (ago (t + g)) g) (suc (epoch b t)) (epoch b t)
          → epoch b (t + suc g) ≡ cond (ltb (ago (t + suc g)) (suc g)) (suc (epoch b t)) (epoch b t)
      go (yes q) ih =
          let zero-now : ago (suc (t + g)) ≡ 0 = ago-next (t + g) ∙ ap (λ (n : ℕ). (n + 1) % 128) q in
          let same : epoch b (t + g) ≡ epoch b t = ih ∙ ap (λ (x : Bool). cond x (suc (epoch b t)) (epoch b t)) (le-ltb (ago (t + g)) g (omega (arith, q, h))) in
          ap (epoch b) (sym at) ∙ epoch-next (t + g) true (ago-change (suc (t + g)) ∙ eq-eqb _ 0 zero-now) ∙ ap suc same
          ∙ sym (ap (λ (n : ℕ). cond (ltb (ago n) (suc g)) (suc (epoch b t)) (epoch b t)) (sym at)
          ∙ ap (λ (n : ℕ). cond (ltb n (suc g)) (suc (epoch b t)) (epoch b t)) zero-now ∙ ap (λ (x : Bool). cond x (suc (epoch b t)) (epoch b t)) (lt-ltb 0 (suc g) (omega arith)))
      go (no q) ih =
          let on : ago (suc (t + g)) ≡ suc (ago (t + g)) = ago-next (t + g) ∙ small (ago (t + g)) (ago-lt (t + g)) q in
          ap (epoch b) (sym at) ∙ epoch-next (t + g) false (ago-change (suc (t + g)) ∙ ne_eqb (ago (suc (t + g))) 0 (λ z. omega (arith, on, z))) ∙ ih
          ∙ ap (λ (x : Bool). cond x (suc (epoch b t)) (epoch b t)) (shift (ago (t + g)) g)
          ∙ sym (ap (λ (n : ℕ). cond (ltb (ago n) (suc g)) (suc (epoch b t)) (epoch b t)) (sym at) ∙ ap (λ (n : ℕ). cond (ltb n (suc g)) (suc (epoch b t)) (epoch b t)) on)
        where
          small : (n : ℕ) → n < 128 → (n ≡ 127 → ⊥) → (n + 1) % 128 ≡ suc n
          small n l ne = omega (arith, ne)

          shift : (m n : ℕ) → ltb m n ≡ ltb (suc m) (suc n)
          shift m n = go-lt (dec_lt m n)
            where
              go-lt : Dec (m < n) → ltb m n ≡ ltb (suc m) (suc n)
              go-lt (yes l) = lt-ltb m n l ∙ sym (lt-ltb (suc m) (suc n) (omega arith))
              go-lt (no l) = le-ltb m n (omega arith) ∙ sym (le-ltb (suc m) (suc n) (omega arith))

  pub changes-is : (t g : ℕ) → 0 < g → g ≤ 128 → changes (count_at b t) (count_at b (t + g)) ≡ ltb (ago (t + g)) g
  unfolding changes
  changes-is t g pos hg = ap (ltb (ago (t + g))) (since-is t g pos hg)

  -- a change falls between them exactly where another configuration runs then, which is the next
  pub changes-epoch : (t g : ℕ) → 0 < g → g ≤ 128 → changes (count_at b t) (count_at b (t + g)) ≡ ltb (epoch b t) (epoch b (t + g))
  changes-epoch t g pos hg =
      changes-is t g pos hg ∙ go (ltb (ago (t + g)) g) refl ∙ sym (ap (ltb (epoch b t)) (epoch-is t g hg))
    where
      go : (x : Bool) → ltb (ago (t + g)) g ≡ x
          → ltb (ago (t + g)) g ≡ ltb (epoch b t) (cond (ltb (ago (t + g)) g) (suc (epoch b t)) (epoch b t))
      go true e = e ∙ sym (ap (λ (x : Bool). ltb (epoch b t) (cond x (suc (epoch b t)) (epoch b t))) e ∙ lt-ltb (epoch b t) (suc (epoch b t)) (omega arith))
      go false e = e ∙ sym (ap (λ (x : Bool). ltb (epoch b t) (cond x (suc (epoch b t)) (epoch b t))) e ∙ le-ltb (epoch b t) (epoch b t) (omega arith))

  pub epoch-either : (t g : ℕ) → g ≤ 128 → (epoch b (t + g) ≡ epoch b t) ⊎ (epoch b (t + g) ≡ suc (epoch b t))
  epoch-either t g hg = go (ltb (ago (t + g)) g) (epoch-is t g hg)
    where
      go : (x : Bool) → epoch b (t + g) ≡ cond x (suc (epoch b t)) (epoch b t) → (epoch b (t + g) ≡ epoch b t) ⊎ (epoch b (t + g) ≡ suc (epoch b t))
      go true e = inr e
      go false e = inl e

  pub epoch-step : (t : ℕ) (x : Bool) → change b (suc t) ≡ x → epoch b (suc t) ≡ cond x (suc (epoch b t)) (epoch b t)
  epoch-step = epoch-next

  epoch-le : (t : ℕ) → epoch b t ≤ epoch b (suc t)
  epoch-le t = go (change b (suc t)) refl
    where
      go : (x : Bool) → change b (suc t) ≡ x → epoch b t ≤ epoch b (suc t)
      go true e = omega (arith, epoch-next t true e)
      go false e = omega (arith, epoch-next t false e)

  pub epoch-rises : (t g : ℕ) → epoch b t ≤ epoch b (t + g)
  epoch-rises t zero = subst (λ (n : ℕ). epoch b t ≤ epoch b n) (plus t) (omega arith)
    where
      plus : (n : ℕ) → n ≡ n + 0
      plus n = omega arith
  epoch-rises t (suc g) =
      let e : suc (t + g) ≡ t + suc g = omega arith in
      omega (arith, epoch-rises t g, subst (λ (n : ℕ). epoch b (t + g) ≤ epoch b n) e (epoch-le (t + g)))

  pub epoch-mono : (t n : ℕ) → t ≤ n → epoch b t ≤ epoch b n
  epoch-mono t n h =
      let e : t + (n - t) ≡ n = omega arith in
      subst (λ (x : ℕ). epoch b t ≤ epoch b x) e (epoch-rises t (n - t))
