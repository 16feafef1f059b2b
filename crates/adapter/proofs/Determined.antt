-- For the contracts of the packet call and of the group writer: any two results that they allow, of the answer and of every lent
-- byte, are equal. Assumes nothing.
use mathlib.Core.Path.{◌≡◌}
use mathlib.Core.List.{List}
use Prim.Native.Nat.{ℕ}
use lib.ListN.{length}
use Rattle.bits.proofs.Determined.{determined}
use Rattle.table.proofs.Determined.{Same, same}
use Rattle.group.specs.declared.Answer.{Answer}
use Rattle.adapter.specs.Calls.{packet_answered, packet_answer, packet_after, write_answer, write_after}

pub packet-same : (s image : List ℕ) → Same (packet_answer s image) (packet_after s image)
packet-same s image = same (packet_answer s image) (packet_after s image)

-- the same with what the number carries
pub answered-same : (s image : List ℕ) (x y : Answer) (t u : List ℕ)
    → x ≡ packet_answered s image → t ≡ packet_after s image → y ≡ packet_answered s image → u ≡ packet_after s image → (x ≡ y) × (t ≡ u)
answered-same s image x y t u a b c d = (determined a c, determined b d)

pub write_same : (a p : ℕ) (message output : List ℕ) → Same (write_answer a p (length message) (length output)) (write_after a p message output)
write_same a p message output = same (write_answer a p (length message) (length output)) (write_after a p message output)
