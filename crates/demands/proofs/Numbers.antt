-- Numbers that are in a list, by tests that compute, and what an order of refusal can give.
--
--   among_in, in-among       a number is in a list, by a test
--   in-every, in-none        a number of one list is in another, or is not
--   refusal-in, rows_in      what an order of refusal gives is 0 or the number of one of its rows
--
-- Assumes nothing.
use mathlib.Core.Path.{◌≡◌, refl, sym, subst}
use mathlib.Core.Bool.{Bool, true, false, not, ◌&&◌, ◌||◌}
use mathlib.Core.List.{List, [], ◌∷◌}
use mathlib.Core.Logic.{◌⊎◌, inl, inr}
use Prim.Native.Nat.{ℕ}
use borrow.Author.Tests.{eqb-true, eq-eqb}
use lib.Dec.{T, eqb, T_not}
use Rattle.bits.specs.Rows.{Row, row, refusal}
use Rattle.history.specs.Sent.{In}

-- ---- lists of numbers, by tests that compute

abbrev pub among : ℕ → List ℕ → Bool
among n [] = false
among n (k ∷ ns) = eqb n k || among n ns

-- each of the first is among the second, or none is
abbrev pub every : List ℕ → List ℕ → Bool
every [] ns = true
every (m ∷ ms) ns = among m ns && every ms ns

abbrev pub none : List ℕ → List ℕ → Bool
none [] ns = true
none (m ∷ ms) ns = not (among m ns) && none ms ns

both : (a b : Bool) → T (a && b) → T a × T b
both true b h = (tt, h)
both false b h = absurd h

pub among_in : (n : ℕ) (ns : List ℕ) → T (among n ns) → In n ns
unfolding In
among_in n [] h = absurd h
among_in n (k ∷ ns) h = go (eqb n k) refl h (among_in n ns)
  where
    go : (b : Bool) → eqb n k ≡ b → T (b || among n ns) → (T (among n ns) → In n ns) → (n ≡ k) ⊎ In n ns
    go true e q later = inl (eqb-true n k e)
    go false e q later = inr (later q)

pub in-among : (n : ℕ) (ns : List ℕ) → In n ns → T (among n ns)
unfolding In
in-among n [] h = absurd h
in-among n (k ∷ ns) (inl e) = subst (λ (b : Bool). T (b || among n ns)) (sym (eq-eqb n k e)) tt
in-among n (k ∷ ns) (inr h) = go (eqb n k) (in-among n ns h)
  where
    go : (b : Bool) → T (among n ns) → T (b || among n ns)
    go true q = tt
    go false q = q

pub in-every : (n : ℕ) (ms ns : List ℕ) → T (every ms ns) → In n ms → In n ns
unfolding In
in-every n [] ns t h = absurd h
in-every n (m ∷ ms) ns t (inl e) = subst (λ (x : ℕ). In x ns) (sym e) (among_in m ns (both (among m ns) _ t).0)
in-every n (m ∷ ms) ns t (inr h) = in-every n ms ns (both (among m ns) _ t).1 h

pub in-none : (n : ℕ) (ms ns : List ℕ) → T (none ms ns) → In n ms → In n ns → ⊥
unfolding In
in-none n [] ns t h q = h
in-none n (m ∷ ms) ns t (inl e) q = T_not (among m ns) (both (not (among m ns)) _ t).0 (in-among m ns (subst (λ (x : ℕ). In x ns) e q))
in-none n (m ∷ ms) ns t (inr h) q = in-none n ms ns (both (not (among m ns)) _ t).1 h q

-- ---- what an order of refusal gives

abbrev pub numbers_of : List Row → List ℕ
numbers_of [] = []
numbers_of (row t n ∷ rows) = n ∷ numbers_of rows

pub refusal-in : (rows : List Row) → In (refusal rows) (0 ∷ numbers_of rows)
unfolding refusal In
refusal-in [] = inl refl
refusal-in (row true n ∷ rows) = inr (inl refl)
refusal-in (row false n ∷ rows) = go (refusal-in rows)
  where
    go : In (refusal rows) (0 ∷ numbers_of rows) → In (refusal rows) (0 ∷ n ∷ numbers_of rows)
    go (inl e) = inl e
    go (inr h) = inr (inr h)

pub rows_in : (rows : List Row) (ns : List ℕ) → T (every (0 ∷ numbers_of rows) ns) → In (refusal rows) ns
rows_in rows ns t = in-every (refusal rows) (0 ∷ numbers_of rows) ns t (refusal-in rows)
