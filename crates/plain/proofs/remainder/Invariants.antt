-- `plain::remainder`: the lines that are left give the remainder.
use mathlib.Core.Path.{◌≡◌}
use Prim.Native.Nat.{◌-◌}
use Rattle.golay.specs.Code.{divide}
use Rattle.plain.proofs.remainder.Given as goal

abbrev pub invariant-loop : goal.invariant-loop
invariant-loop l = divide (12 - l.counter) l.rest ≡ divide 12 l.fn.n
