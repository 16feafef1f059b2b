use Rattle.std.proofs.Common.{◌+◌, ◌-◌, ◌∙◌, arith}
use Rattle.bits.specs.Search.{all}
use Rattle.bits.proofs.Search.{all-next, all_end}
use Rattle.table.proofs.Apart.{alone, alone-used, alone-free}
use Rattle.table.proofs.look.apart.Goals.{then-addresses-k-ne0, else-addresses-k-ne0}
use Rattle.table.proofs.look.apart.Goals as goal

pub loop-k-preserved : goal.loop-k-preserved
loop-k-preserved c =
    let xs = c.args.addresses.now in
    let at = c.loop-k in
    all-next (alone xs) at.so (all (alone xs) 16 0) (16 - at.k) at.k c.if-addresses-k-ne0.so (16 - (at.k + 1)) (at.k + 1) (omega arith) (omega arith)
    (elim c.if-addresses-k-ne0.branch [
      | then-addresses-k-ne0 w ↦ w.so-is ∙ alone-used xs at.k at.so w.last-so.result w.if-addresses-k-ne0.true w.last-so.ensures
      | else-addresses-k-ne0 w ↦ w.so-is ∙ alone-free xs at.k at.so w.if-addresses-k-ne0.false
    ])
    at.invariant

pub returns : goal.returns
returns c =
    let xs = c.args.addresses.now in
    let at = c.loop-k in
    all_end (alone xs) at.so (all (alone xs) 16 0) (16 - at.k) at.k (omega arith) at.invariant
