use Rattle.std.proofs.Common.{◌≡◌, ◌-◌, ◌&&◌, length}
use Rattle.bits.specs.Search.{all}
use Rattle.table.proofs.Apart.{Gathered, good_slot_at}
use Rattle.table.proofs.look.is_good.Given as goal

abbrev pub invariant-loop-k : goal.invariant-loop-k
invariant-loop-k l =
    ((l.so && all (good_slot_at l.state) (16 - l.k) l.k) ≡ all (good_slot_at l.state) 16 0) × (length l.addresses ≡ 32) × Gathered l.state l.k l.addresses
