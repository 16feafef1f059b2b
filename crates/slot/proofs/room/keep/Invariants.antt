use Rattle.std.proofs.Common.{◌≡◌, length}
use lib.Seq.{paste}
use Rattle.slot.specs.Slot.{whole_at}
use Rattle.slot.proofs.room.keep.Given as goal

abbrev pub invariant-loop-k : goal.invariant-loop-k
invariant-loop-k l = (length l.slot ≡ length l.initial.slot) × (l.slot ≡ paste l.initial.slot whole_at l.initial.slot l.k)
