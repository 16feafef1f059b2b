use Rattle.std.proofs.Common.{sym, ap, Bool, ◌||◌, ◌∙◌}
use mathlib.Core.Bool.{or-false}
use Rattle.head.specs.Head.{good_head}
use Rattle.slot.specs.Slot.{free, good_slot}
use Rattle.slot.proofs.Goods.{good-slot}
use Rattle.slot.proofs.Slot.good.Goals as goal

pub returns-then-good : goal.returns-then-good
returns-then-good c =
    sym (good-slot c.args.slot.now (sym (c.good.ensures ∙ ap good_head c.requires.head_value) ∙ c.if-good.true))

pub returns : goal.returns
unfolding good_slot
returns c =
    c.folded.ensures ∙ sym (or-false (free c.args.slot.now))
    ∙ ap (λ (b : Bool). free c.args.slot.now || b) (sym c.if-good.false ∙ c.good.ensures ∙ ap good_head c.requires.head_value)
