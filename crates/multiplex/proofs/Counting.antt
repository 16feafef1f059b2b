-- Frame counts, and counts of components.
--
--   begins-*        the frame that a configuration begins with
--   heard_all       every frame up to a change was heard, exactly where the change is the next frame and no frame was missed
--   counted-less    a set within another that has one more
--
-- Assumes nothing.
use mathlib.Core.Path.{◌≡◌, refl, sym, ap, ap₂, ◌∙◌, subst}
use mathlib.Core.Bool.{Bool, true, false, cond, ◌&&◌}
use Prim.Native.Nat.{ℕ, zero, suc, ◌+◌, ◌-◌, ◌%◌, ◌≤◌, ◌<◌}
use native.Mathlib.Omega.{arith}
use native.Mathlib.Decide.{ℕ_discrete}
use borrow.Author.Tests.{eq-eqb, ne_eqb}
use lib.Dec.{T, eqb}
use Rattle.frames.specs.Counts.{ahead, until, begins, all_heard}
use Rattle.map.specs.Map.{counted}
use Rattle.multiplex.specs.Broadcast.{Broadcast, count_at, change}

-- ---- the frame that a configuration begins with

-- "the second frame following the frame in which FCNT code 0 (modulo 128) is sent"
begins-two : (n : ℕ) → begins n ≡ eqb (n % 128) 2
unfolding begins ahead
begins-two n = go (ℕ_discrete (n % 128) 2)
  where
    go : Dec (n % 128 ≡ 2) → eqb ((n + 256 - 2) % 128) 0 ≡ eqb (n % 128) 2
    go (yes q) =
        let z : (n + 256 - 2) % 128 ≡ 0 = omega arith in
        eq-eqb ((n + 256 - 2) % 128) 0 z ∙ sym (eq-eqb (n % 128) 2 q)
    go (no q) = ne_eqb ((n + 256 - 2) % 128) 0 (λ z. omega (arith, z)) ∙ sym (ne_eqb (n % 128) 2 q)

-- ---- the counts of a broadcast

module _ (b : Broadcast) (t : ℕ) where
  pub count-lt : count_at b t < 256
  unfolding count_at
  count-lt = omega arith

  pub begins-change : begins (count_at b t) ≡ change b t
  unfolding change
  begins-change = begins-two (count_at b t)

  -- behind count 1 the change is the next frame
  until-next : eqb (until (count_at b t)) 1 ≡ change b (suc t)
  unfolding until ahead change count_at
  until-next = go (ℕ_discrete (count_at b (suc t) % 128) 2)
    where
      go : Dec (count_at b (suc t) % 128 ≡ 2) → eqb (until (count_at b t)) 1 ≡ eqb (count_at b (suc t) % 128) 2
      go (yes q) = eq-eqb (until (count_at b t)) 1 (omega (arith, q)) ∙ sym (eq-eqb (count_at b (suc t) % 128) 2 q)
      go (no q) = ne_eqb (until (count_at b t)) 1 (λ z. omega (arith, z, q)) ∙ sym (ne_eqb (count_at b (suc t) % 128) 2 q)

  pub heard_all : (u : Bool) (r : ℕ) → all_heard (record { last = count_at b t; heard = 1; unbroken = cond u 1 0; row = r }) ≡ (u && change b (suc t))
  unfolding all_heard
  heard_all u r = ap₂ (λ (x y : Bool). x && y) (mark u) until-next
    where
      mark : (x : Bool) → eqb (cond x 1 0) 1 ≡ x
      mark true = refl
      mark false = refl

-- ---- counts of components

counted-most : (p q : ℕ → Bool) (n k : ℕ) → ((j : ℕ) → k ≤ j → j < k + n → p j ≡ true → q j ≡ true) → counted p n k ≤ counted q n k
unfolding counted
counted-most p q zero k h = omega arith
counted-most p q (suc n) k h =
    let rest = counted-most p q n (suc k) (λ j lo hi. h j (omega arith) (omega arith)) in
    go (p k) (q k) (h k (omega arith) (omega arith)) rest
  where
    go : (x y : Bool) → (x ≡ true → y ≡ true) → counted p n (suc k) ≤ counted q n (suc k) → cond x 1 0 + counted p n (suc k) ≤ cond y 1 0 + counted q n (suc k)
    go true true e r = omega arith
    go true false e r = absurd (subst T (sym (e refl)) tt)
    go false true e r = omega arith
    go false false e r = omega arith

-- one that only the greater set has
pub counted-less : (p q : ℕ → Bool) (n k : ℕ) → ((j : ℕ) → k ≤ j → j < k + n → p j ≡ true → q j ≡ true)
    → (i : ℕ) → k ≤ i → i < k + n → p i ≡ false → q i ≡ true → counted p n k < counted q n k
unfolding counted
counted-less p q zero k h i lo hi e f = absurd (omega arith)
counted-less p q (suc n) k h i lo hi e f =
    go (ℕ_discrete i k) (p k) (q k) refl refl
    (λ l. counted-less p q n (suc k) (λ j a c. h j (omega arith) (omega arith)) i l (omega arith) e f)
  where
    go : Dec (i ≡ k) → (x y : Bool) → p k ≡ x → q k ≡ y → (suc k ≤ i → counted p n (suc k) < counted q n (suc k))
        → cond x 1 0 + counted p n (suc k) < cond y 1 0 + counted q n (suc k)
    go (yes z) true y a c r = absurd (subst T (sym a ∙ ap p (sym z) ∙ e) tt)
    go (yes z) false true a c r = omega (arith, counted-most p q n (suc k) (λ j u v. h j (omega arith) (omega arith)))
    go (yes z) false false a c r = absurd (subst T (sym f ∙ ap q z ∙ c) tt)
    go (no z) true true a c r = omega (arith, r (omega arith))
    go (no z) true false a c r = absurd (subst T (sym (h k (omega arith) (omega arith) a) ∙ c) tt)
    go (no z) false true a c r = omega (arith, r (omega arith))
    go (no z) false false a c r = omega (arith, r (omega arith))
