-- `adapter::write::one`: a fourth of the message is lent, and the place that its image is written into.
use mathlib.Core.Path.{◌≡◌, sym, ◌∙◌}
use Rattle.packet.specs.Damage.{data_size}
use Rattle.adapter.proofs.Writing.{data-45, data-90, one-put}
use Rattle.adapter.proofs.write.one.Goals as goal
use Rattle.adapter.proofs.write.one.Goals.{then-protected, else-protected}

pub returns : goal.returns
returns c =
    let p = c.args.protected in
    let size : c.if-protected.len ≡ data_size p =
    elim c.if-protected.branch [ then-protected w ↦ w.len-is ∙ sym (data-45 p w.if-protected.true) | else-protected w ↦ w.len-is ∙ sym (data-90 p w.if-protected.false) ] in
    one-put p c.args.index _ c.args.message.now size c.args.address _ c.args.output.now c.sent.ensures
