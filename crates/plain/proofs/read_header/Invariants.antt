-- `plain::read_header`: no pattern of fewer flips than the loop stands at leaves a word.
use mathlib.Core.Path.{◌≡◌}
use Rattle.plain.specs.Plain.{trials, leaving}
use Rattle.plain.proofs.Trying.{none}
use Rattle.plain.proofs.read_header.Given as goal

abbrev pub invariant-loop-flips : goal.invariant-loop-flips
invariant-loop-flips l = leaving l.n (trials l.flips) ≡ none
