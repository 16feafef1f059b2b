-- `bare::read_type`: none of the types before is within two flips.
use mathlib.Core.Path.{◌≡◌}
use lib.ListN.{drop}
use Rattle.bare.specs.Bare.{types, type_near}
use Rattle.bare.proofs.read_type.Given as goal

abbrev pub invariant-loop-kind : goal.invariant-loop-kind
invariant-loop-kind l = type_near types l.fn.byte ≡ type_near (drop l.kind-index types) l.fn.byte
