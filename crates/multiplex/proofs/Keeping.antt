-- Structures of the examples keep the law.
--
--   fitting, none-linked, one-linked, two_linked, three-linked
--   few-seven         one component is no more than 128
--
-- Assumes nothing.
use mathlib.Core.Path.{◌≡◌, refl, sym, ap, ◌∙◌, subst}
use mathlib.Core.Bool.{Bool, true, false, cond}
use mathlib.Core.List.{List, [], ◌∷◌}
use Prim.Native.Nat.{ℕ, zero, suc, ◌+◌, ◌^◌, ◌≤◌, ◌<◌}
use native.Mathlib.Omega.{arith}
use native.Mathlib.Decide.{ℕ_discrete}
use lib.Dec.{T, ltb, lit<, lit≤}
use lib.ListN.{get_or}
use Rattle.field.specs.Field.{bad_tdms, deletes, key}
use Rattle.map.specs.Map.{ids, counted}
use Rattle.multiplex.specs.Broadcast.{Fit, Linked, some}

-- ---- structures

pub fitting : (t : ℕ) → T (ltb t (2 ^ 62)) → bad_tdms t ≡ false → deletes t ≡ false → Fit t
fitting t w p d = record { width = lit< w; pairs = p; stays = d }

pub none-linked : Linked []
none-linked = record { few = lit≤ tt; fit = λ i h. absurd (omega arith); rising = λ i h. absurd (omega arith) }

pub one-linked : (x : ℕ) → Fit x → Linked (x ∷ [])
one-linked x f = record { few = lit≤ tt; fit = fits; rising = λ i h. absurd (omega arith) }
  where
    fits : (i : ℕ) → i < 1 → Fit (get_or (x ∷ []) i 0)
    fits zero h = f
    fits (suc i) h = absurd (omega arith)

pub two_linked : (x y : ℕ) → Fit x → Fit y → key x < key y → Linked (x ∷ y ∷ [])
two_linked x y f g l = record { few = lit≤ tt; fit = fits; rising = rise }
  where
    fits : (i : ℕ) → i < 2 → Fit (get_or (x ∷ y ∷ []) i 0)
    fits zero h = f
    fits (suc zero) h = g
    fits (suc (suc i)) h = absurd (omega arith)

    rise : (i : ℕ) → suc i < 2 → key (get_or (x ∷ y ∷ []) i 0) < key (get_or (x ∷ y ∷ []) (suc i) 0)
    rise zero h = l
    rise (suc i) h = absurd (omega arith)

pub three-linked : (x y z : ℕ) → Fit x → Fit y → Fit z → key x < key y → key y < key z → Linked (x ∷ y ∷ z ∷ [])
three-linked x y z f g h l m = record { few = lit≤ tt; fit = fits; rising = rise }
  where
    fits : (i : ℕ) → i < 3 → Fit (get_or (x ∷ y ∷ z ∷ []) i 0)
    fits zero h = f
    fits (suc zero) h = g
    fits (suc (suc zero)) h' = h
    fits (suc (suc (suc i))) h = absurd (omega arith)

    rise : (i : ℕ) → suc i < 3 → key (get_or (x ∷ y ∷ z ∷ []) i 0) < key (get_or (x ∷ y ∷ z ∷ []) (suc i) 0)
    rise zero h = l
    rise (suc zero) h = m
    rise (suc (suc i)) h = absurd (omega arith)

-- ---- how many components

-- a set of which only component 7 can be has none behind it, and at most one in all
none-behind : (p : ℕ → Bool) → ((id : ℕ) → p id ≡ true → id ≡ 7) → (n k : ℕ) → 7 < k → counted p n k ≡ 0
unfolding counted
none-behind p only zero k h = refl
none-behind p only (suc n) k h = go (p k) refl (none-behind p only n (suc k) (omega arith))
  where
    go : (b : Bool) → p k ≡ b → counted p n (suc k) ≡ 0 → cond b 1 0 + counted p n (suc k) ≡ 0
    go true e r = absurd (omega (arith, h, only k e))
    go false e r = omega (arith, r)

counted-one : (p : ℕ → Bool) → ((id : ℕ) → p id ≡ true → id ≡ 7) → (n k : ℕ) → counted p n k ≤ 1
unfolding counted
counted-one p only zero k = omega arith
counted-one p only (suc n) k = go (p k) refl (counted-one p only n (suc k))
  where
    go : (b : Bool) → p k ≡ b → counted p n (suc k) ≤ 1 → cond b 1 0 + counted p n (suc k) ≤ 1
    go true e r = omega (arith, none-behind p only n (suc k) (omega (arith, only k e)))
    go false e r = omega (arith, r)

pub few-seven : (xs : ℕ → List ℕ) → ((id : ℕ) → (id ≡ 7 → ⊥) → xs id ≡ []) → counted (λ (id : ℕ). some (xs id)) ids 0 ≤ 128
unfolding some
few-seven xs none = omega (arith, counted-one (λ (id : ℕ). some (xs id)) only ids 0)
  where
    only : (id : ℕ) → some (xs id) ≡ true → id ≡ 7
    only id e = go (ℕ_discrete id 7)
      where
        go : Dec (id ≡ 7) → id ≡ 7
        go (yes q) = q
        go (no q) = absurd (subst T (sym e ∙ ap some (none id q)) tt)
