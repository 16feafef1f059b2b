-- For the contract of next: any two results that it allows are equal.
-- Assumes nothing.
use mathlib.Core.Path.{◌≡◌}
use mathlib.Core.List.{List}
use Prim.Native.Nat.{ℕ}
use Rattle.bits.proofs.Determined.{determined}
use Rattle.records.specs.declared.Step.{Step}
use Rattle.records.specs.Format.{step_at}

pub next-same : (s : List ℕ) (at : ℕ) (r q : Step) → r ≡ step_at s at → q ≡ step_at s at → r ≡ q
next-same s at r q = determined
