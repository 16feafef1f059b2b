use Rattle.std.proofs.Common.{◌≡◌, ◌+◌, ◌-◌, ◌&&◌}
use Rattle.bits.specs.Search.{all}
use Rattle.table.proofs.Apart.{differs}
use Rattle.table.proofs.look.last.Given as goal

abbrev pub invariant-loop-other : goal.invariant-loop-other
invariant-loop-other l =
    (l.alone && all (differs l.addresses l.k) (16 - l.other-index) (l.k + 1 + l.other-index)) ≡ all (differs l.addresses l.k) 16 (l.k + 1)
