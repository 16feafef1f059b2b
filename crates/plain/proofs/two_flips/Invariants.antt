-- `plain::two_flips`: nothing was found below the bit that the loop stands at.
use mathlib.Core.Path.{◌≡◌}
use Rattle.plain.specs.Plain.{error_patterns, leaving}
use Rattle.plain.proofs.Trying.{none}
use Rattle.plain.proofs.two_flips.Given as goal

abbrev pub invariant-loop-bit : goal.invariant-loop-bit
invariant-loop-bit l = leaving l.n (error_patterns 2 l.bit) ≡ none
