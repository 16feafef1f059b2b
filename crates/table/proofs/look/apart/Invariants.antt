use Rattle.std.proofs.Common.{◌≡◌, ◌-◌, ◌&&◌}
use Rattle.bits.specs.Search.{all}
use Rattle.table.proofs.Apart.{alone}
use Rattle.table.proofs.look.apart.Given as goal

abbrev pub invariant-loop-k : goal.invariant-loop-k
invariant-loop-k l = (l.so && all (alone l.addresses) (16 - l.k) l.k) ≡ all (alone l.addresses) 16 0
