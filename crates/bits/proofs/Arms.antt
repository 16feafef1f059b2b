-- A table that the code has as a `match` on a number, one arm for each entry and the last entry as the arm of all others: the laws
-- that its proof is made of, one use for each arm.
--
--   entry t k n e    the arm of key n: entry n is entry k
--   Before n k       what the last arm is told: k is none of the n keys before it
--   beyond           then k is n or more
--   last t k n       the last arm: where k is at most n, entry n is entry k
--
-- Assumes nothing.
use mathlib.Core.Path.{◌≡◌, ap, sym}
use mathlib.Core.List.{List}
use Prim.Native.Nat.{ℕ, zero, suc, ◌≤◌, ◌<◌}
use native.Mathlib.Omega.{arith}
use lib.ListN.{get_or}

pub entry : (t : List ℕ) (k n : ℕ) → k ≡ n → get_or t n 0 ≡ get_or t k 0
entry t k n e = ap (λ (x : ℕ). get_or t x 0) (sym e)

abbrev pub Before : ℕ → ℕ → Type 0
Before zero k = Unit {0}
Before (suc n) k = Before n k × (k ≡ n → ⊥)

pub beyond : (n k : ℕ) → Before n k → n ≤ k
beyond zero k h = omega arith
beyond (suc n) k h = let l : n ≤ k = beyond n k h.0 in omega (arith, h.1)

pub last : (t : List ℕ) (k n : ℕ) → k < suc n → Before n k → get_or t n 0 ≡ get_or t k 0
last t k n l h = let b : n ≤ k = beyond n k h in entry t k n (omega arith)
