-- Reading by the nearest word, for any code whose words lie at least seven bits apart: what both readers share.
--
--   nearest-is       a word within three flips is the nearest
--   nearest-near     the nearest lies within three flips, where there is one
--   nearest-none     there is none if no word lies within three flips
--   nearest-one      no number lies within three flips of two words
--   nearest-read     a word with at most three flips is read as that word
--   nearest-far      a word with four is read as none, where words lie eight apart
--
-- Assumes nothing.
use mathlib.Core.Path.{◌≡◌, sym, ap, subst}
use mathlib.Core.Bool.{Bool}
use Prim.Native.Nat.{ℕ, ◌≤◌, ◌<◌}
use native.Mathlib.Omega.{arith}
use native.Mathlib.Decide.{ℕ_discrete, dec_le, dec_lt}
use mathlib.Core.Logic.{◌⊎◌, inl, inr}
use lib.Bits.{bit_xor}
use lib.Count.{ones}
use lib.Dec.{leb, leb→le, le→leb}
use Rattle.bits.specs.Bits.{flips}
use Rattle.bits.proofs.Flips.{flips-comm, flips-triangle, flips-of}
use Rattle.bits.proofs.Search.{first-le, first_holds, first-only}
use Rattle.golay.specs.Code.{nearest}

-- ---- the nearest word

-- what is within three flips of n
abbrev near : (ℕ → ℕ) → ℕ → ℕ → Bool
near word n i = leb (flips (word i) n) 3

module _ (word : ℕ → ℕ) where
  pub nearest-le : (n : ℕ) → nearest word n ≤ 4096
  unfolding nearest
  nearest-le n = first-le (near word n) 4096 0

  pub nearest-near : (n : ℕ) → nearest word n < 4096 → flips (word (nearest word n)) n ≤ 3
  unfolding nearest
  nearest-near n h = leb→le (flips (word (nearest word n)) n) 3 (first_holds (near word n) 4096 0 h)

  pub nearest-none : (n : ℕ) → ((i : ℕ) → i < 4096 → flips (word i) n ≤ 3 → ⊥) → nearest word n ≡ 4096
  nearest-none n never = go (dec_lt (nearest word n) 4096)
    where
      go : Dec (nearest word n < 4096) → nearest word n ≡ 4096
      go (yes h) = absurd (never (nearest word n) h (nearest-near n h))
      go (no h) = omega (arith, nearest-le n)

  module _ (apart : (i j : ℕ) → i < 4096 → j < 4096 → (i ≡ j → ⊥) → 7 ≤ flips (word i) (word j)) where
    -- no number lies within three flips of two words
    pub nearest-one : (n i j : ℕ) → i < 4096 → j < 4096 → flips (word i) n ≤ 3 → flips (word j) n ≤ 3 → i ≡ j
    nearest-one n i j hi hj fi fj = go (ℕ_discrete i j)
      where
        go : Dec (i ≡ j) → i ≡ j
        go (yes e) = e
        go (no e) = absurd (omega (arith, apart i j hi hj e, flips-triangle (word i) n (word j), flips-comm (word j) n))

    pub nearest-is : (n i : ℕ) → i < 4096 → flips (word i) n ≤ 3 → nearest word n ≡ i
    unfolding nearest
    nearest-is n i h f =
        first-only (near word n) 4096 0 i (omega arith) h (le→leb (flips (word i) n) 3 f)
        (λ m hm t. nearest-one n m i hm h (leb→le (flips (word m) n) 3 t) f)

    -- a word with at most three flips is read as that word
    pub nearest-read : (i e : ℕ) → i < 4096 → ones e ≤ 3 → nearest word (bit_xor (word i) e) ≡ i
    nearest-read i e h few = nearest-is (bit_xor (word i) e) i h (subst (λ (x : ℕ). x ≤ 3) (sym (flips-of (word i) e)) few)

    -- and as no other with at most three, so with a fourth it can only be refused where words lie eight apart
    pub nearest-far : ((i j : ℕ) → i < 4096 → j < 4096 → (i ≡ j → ⊥) → 8 ≤ flips (word i) (word j))
        → (n i : ℕ) → i < 4096 → flips (word i) n ≡ 4 → nearest word n ≡ 4096
    nearest-far eight n i h f = nearest-none n (λ j hj fj. go j hj fj (ℕ_discrete i j))
      where
        go : (j : ℕ) → j < 4096 → flips (word j) n ≤ 3 → Dec (i ≡ j) → ⊥
        go j hj fj (yes e) = omega (arith, ap (λ (k : ℕ). flips (word k) n) e)
        go j hj fj (no e) = omega (arith, eight i j h hj e, flips-triangle (word i) n (word j), flips-comm (word j) n)

    -- damage of at most four bits is read as what was sent, or not at all
    pub nearest-within-four : ((i j : ℕ) → i < 4096 → j < 4096 → (i ≡ j → ⊥) → 8 ≤ flips (word i) (word j))
        → (n i : ℕ) → i < 4096 → flips (word i) n ≤ 4 → (nearest word n ≡ i) ⊎ (nearest word n ≡ 4096)
    nearest-within-four eight n i h f = go (dec_le (flips (word i) n) 3)
      where
        go : Dec (flips (word i) n ≤ 3) → (nearest word n ≡ i) ⊎ (nearest word n ≡ 4096)
        go (yes l) = inl (nearest-is n i h l)
        go (no l) = inr (nearest-far eight n i h (omega arith))
