use Rattle.std.proofs.Common.{◌≡◌, ◌&&◌, drop, eqb}
use Rattle.slot.specs.Slot.{free}
use Rattle.slot.proofs.folded.Given as goal

abbrev pub invariant-loop-byte : goal.invariant-loop-byte
invariant-loop-byte l = (eqb l.all 0 && free (drop l.byte-index l.slot)) ≡ free l.slot
