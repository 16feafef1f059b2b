-- A contract that says of a result what it is determines it: any two results that it allows are equal.
-- Assumes nothing.
use mathlib.Core.Path.{◌≡◌, sym, ◌∙◌}

pub determined {ℓ} : {A : Type ℓ} {r s v : A} → r ≡ v → s ≡ v → r ≡ s
determined p q = p ∙ sym q
