-- `asking::Shown::of`: nothing yet, or the freshness with the place and length of the group. Assumes nothing.
use mathlib.Core.Path.{◌≡◌, sym, ◌∙◌}
use Prim.Native.Nat.{◌+◌, ◌*◌}
use Rattle.slot.specs.Slot.{slot_size}
use Rattle.asking.specs.Asking.{group_length}
use Rattle.asking.proofs.Laws.{asked-none, asked-group, length-180, length-360}
use Rattle.asking.proofs.Shown.of.Goals.{then-head-eq1, else-head-eq1}
use Rattle.asking.proofs.Shown.of.Goals as goal

pub returns-then-head-eq0 : goal.returns-then-head-eq0
returns-then-head-eq0 c = sym (asked-none c.args.k c.args.head c.if-head-eq0.true)

pub returns : goal.returns
returns c =
    let h = c.args.head in
    let size : c.if-head-eq1.len ≡ group_length h =
    elim c.if-head-eq1.branch [ then-head-eq1 w ↦ w.len-is ∙ sym (length-180 h w.if-head-eq1.true) | else-head-eq1 w ↦ w.len-is ∙ sym (length-360 h w.if-head-eq1.false) ] in
    (λ i. record { number = c.of.ensures c.if-head-eq0.false i; at = c.args.k * slot_size + 360; len = size i })
    ∙ sym (asked-group h c.if-head-eq0.false c.args.k)
