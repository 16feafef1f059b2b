-- The groups that can be full: what is held and what is still to come.
--
--   came-later, readable-later  what comes is not before packet n; behind: and nothing is behind its group's packet 0
--   Full needs a q h i          each of the first `needs` packets of group i is one of the a first of group q, or comes in h
--   full-*                      how an arrival changes which groups are full
--   damaged-other, control-other, end-other    arrivals that are no readable packet
--
-- Assumes nothing.
use mathlib.Core.Path.{◌≡◌, refl, sym, ap, ◌∙◌, subst}
use mathlib.Core.List.{List, [], ◌∷◌}
use mathlib.Core.Logic.{◌⊎◌, inl, inr}
use Prim.Native.Nat.{ℕ, suc, ◌+◌, ◌*◌, ◌≤◌, ◌<◌}
use native.Mathlib.Omega.{arith}
use native.Mathlib.Decide.{ℕ_discrete}
use Rattle.faults.specs.Faults.{Fault}
use Rattle.history.specs.Sent.{Arrival, came, damaged, control, subframe_end, InOrder, CameIn, Readable}

-- ---- what is to come

pub damaged-other : (i c : ℕ) (r : Fault) (j d : ℕ) → damaged i c r ≡ came j d → ⊥
damaged-other i c r j d e =
    let z : ◌≡◌ {A = ℕ} 0 1 = cc in
    omega arith

pub control-other : (j d : ℕ) → control ≡ came j d → ⊥
control-other j d e =
    let z : ◌≡◌ {A = ℕ} 0 1 = cc in
    omega arith

pub end-other : (j d : ℕ) → subframe_end ≡ came j d → ⊥
end-other j d e =
    let z : ◌≡◌ {A = ℕ} 0 1 = cc in
    omega arith

module _ (per most : ℕ) where
  pub came-later : (n : ℕ) (h : List Arrival) → InOrder per most n h → (i c : ℕ) → CameIn i c h → n ≤ per * i + c
  unfolding InOrder CameIn
  came-later n [] o i c x = absurd x
  came-later n (came j d ∷ h) (o, os) i c (inl e) =
      let p : i ≡ j = cc in
      let r : c ≡ d = cc in
      omega (arith, o.once, ap (λ (x : ℕ). per * x) p)
  came-later n (came j d ∷ h) (o, os) i c (inr x) = omega (arith, o.once, came-later (suc (per * j + d)) h os i c x)
  came-later n (damaged j d r ∷ h) (o, t, os) i c (inl e) = absurd (damaged-other j d r i c e)
  came-later n (damaged j d r ∷ h) (o, t, os) i c (inr x) = omega (arith, o.once, came-later (suc (per * j + d)) h os i c x)
  came-later n (control ∷ h) o i c (inl e) = absurd (control-other i c e)
  came-later n (control ∷ h) o i c (inr x) = came-later n h o i c x
  came-later n (subframe_end ∷ h) o i c (inl e) = absurd (end-other i c e)
  came-later n (subframe_end ∷ h) o i c (inr x) = came-later n h o i c x

  pub readable-later : (n : ℕ) (h : List Arrival) → InOrder per most n h → (needs i : ℕ) → 0 < needs → Readable needs h i → n ≤ per * i
  unfolding Readable
  readable-later n h o needs i l w = omega (arith, came-later n h o i 0 (w 0 l))

  -- where packet 0 of a group is still to come, a packet that has another index is not of that group
  pub behind : (i c : ℕ) (h : List Arrival) (needs j : ℕ) → 0 < needs → 0 < c → InOrder per most (suc (per * i + c)) h
      → Readable needs (came i c ∷ h) j → (d : ℕ) → came i c ≡ came j d → ⊥
  unfolding Readable CameIn
  behind i c h needs j k l o w d e = go (w 0 k)
    where
      go : (came i c ≡ came j 0) ⊎ CameIn j 0 h → ⊥
      go (inl z) =
          let r : c ≡ 0 = cc in
          omega arith
      go (inr x) =
          let r : i ≡ j = cc in
          omega (arith, ap (λ (x : ℕ). per * x) r, came-later (suc (per * i + c)) h o j 0 x)

-- ---- full groups

pub Full : ℕ → ℕ → ℕ → List Arrival → ℕ → Type 0
Full needs a q h i = (c : ℕ) → c < needs → ((i ≡ q) × (c < a)) ⊎ CameIn i c h

module _ (needs a q : ℕ) (h : List Arrival) (j : ℕ) where
  -- the packet that is awaited is held now, and no longer to come
  pub full-join : (b i c : ℕ) → b ≡ c + 1 → c ≡ a → (0 < a → i ≡ q) → Full needs a q (came i c ∷ h) j → Full needs b i h j
  unfolding Full CameIn
  full-join b i c eb ec same w d l = go (w d l)
    where
      go : ((j ≡ q) × (d < a)) ⊎ ((came i c ≡ came j d) ⊎ CameIn j d h) → ((j ≡ i) × (d < b)) ⊎ CameIn j d h
      go (inl (e, k)) = inl (e ∙ sym (same (omega arith)), omega arith)
      go (inr (inl e)) =
          let p : j ≡ i = cc in
          let r : d ≡ c = cc in
          inl (p, omega arith)
      go (inr (inr x)) = inr x

  pub full-part : (b i c : ℕ) → b ≡ c + 1 → c ≡ a → (0 < a → i ≡ q) → Full needs b i h j → Full needs a q (came i c ∷ h) j
  unfolding Full CameIn
  full-part b i c eb ec same w d l = go (w d l) (ℕ_discrete d c)
    where
      go : ((j ≡ i) × (d < b)) ⊎ CameIn j d h → Dec (d ≡ c) → ((j ≡ q) × (d < a)) ⊎ ((came i c ≡ came j d) ⊎ CameIn j d h)
      go (inl (e, k)) (yes r) = inr (inl cc)
      go (inl (e, k)) (no r) = inl (e ∙ same (omega arith), omega arith)
      go (inr x) r = inr (inr x)

  -- where the next packet of the unfinished group does not come, that group will not be full
  pub full-lost : a < needs → (0 < a → CameIn q a h → ⊥) → Full needs a q h j → Readable needs h j
  unfolding Full Readable
  full-lost m none w c l = go (w c l)
    where
      go : ((j ≡ q) × (c < a)) ⊎ CameIn j c h → CameIn j c h
      go (inl (e, k)) = never (w a m)
        where
          never : ((j ≡ q) × (a < a)) ⊎ CameIn j a h → CameIn j c h
          never (inl (e', k')) = absurd (omega arith)
          never (inr x) = absurd (none (omega arith) (subst (λ (i : ℕ). CameIn i a h) e x))
      go (inr x) = x

  pub full-readable : Readable needs h j → Full needs a q h j
  unfolding Full Readable
  full-readable w c l = inr (w c l)

  -- an arrival that is no readable packet of the group does not count
  pub full-past : (x : Arrival) → ((c : ℕ) → x ≡ came j c → ⊥) → Full needs a q (x ∷ h) j → Full needs a q h j
  unfolding Full CameIn
  full-past x none w c l = go (w c l)
    where
      go : ((j ≡ q) × (c < a)) ⊎ ((x ≡ came j c) ⊎ CameIn j c h) → ((j ≡ q) × (c < a)) ⊎ CameIn j c h
      go (inl y) = inl y
      go (inr (inl e)) = absurd (none c e)
      go (inr (inr y)) = inr y

  -- what is full without an arrival is full with it
  pub full-later : (b : ℕ) (x : Arrival) → b ≤ a → Full needs b q h j → Full needs a q (x ∷ h) j
  unfolding Full CameIn
  full-later b x m w c l = go (w c l)
    where
      go : ((j ≡ q) × (c < b)) ⊎ CameIn j c h → ((j ≡ q) × (c < a)) ⊎ ((x ≡ came j c) ⊎ CameIn j c h)
      go (inl (e, k)) = inl (e, omega arith)
      go (inr y) = inr (inr y)

  -- a group is full if it is the one held, or full without what is held
  pub full-done : (p : ℕ) → Full needs a q h j → (j ≡ q) ⊎ Full needs 0 p h j
  unfolding Full
  full-done p w = go (ℕ_discrete j q)
    where
      go : Dec (j ≡ q) → (j ≡ q) ⊎ ((c : ℕ) → c < needs → ((j ≡ p) × (c < 0)) ⊎ CameIn j c h)
      go (yes e) = inl e
      go (no e) = inr (λ c l. other c (w c l))
        where
          other : (c : ℕ) → ((j ≡ q) × (c < a)) ⊎ CameIn j c h → ((j ≡ p) × (c < 0)) ⊎ CameIn j c h
          other c (inl (k, l)) = absurd (e k)
          other c (inr x) = inr x

  -- where nothing is to come, the group that is held is not full
  pub full-end : a < needs → Full needs a q [] j → ⊥
  unfolding Full CameIn
  full-end m w = none (w a m)
    where
      none : ((j ≡ q) × (a < a)) ⊎ ⊥ → ⊥
      none (inl (e, l)) = omega arith
      none (inr x) = x

pub full-held : (needs q : ℕ) (h : List Arrival) → Full needs needs q h q
unfolding Full
full-held needs q h c l = inl (refl, l)

-- where none is held, all are still to come
pub full-none : (needs q : ℕ) (h : List Arrival) (j : ℕ) → Full needs 0 q h j → Readable needs h j
unfolding Readable
full-none needs q h j w c l = full-lost needs 0 q h j (omega arith) (λ k y. omega arith) w c l
