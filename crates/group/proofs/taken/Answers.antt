-- `group::taken`: the row that is moved by, told with what it carries.
use mathlib.Core.Path.{refl, sym, ap, ◌∙◌}
use native.Mathlib.Omega.{arith}
use Rattle.packet.specs.Received.{readable_as}
use Rattle.packet.proofs.Answers.{filled-begins}
use Rattle.head.specs.Move.{move_number}
use Rattle.group.specs.Group.{block_of}
use Rattle.group.proofs.Doing.{taken-moved, taken-told, block-le}
use Rattle.group.proofs.taken.Goals as goal

pub moved-row-requires-clause-bytes_len_bound : goal.moved-row-requires-clause-bytes_len_bound
moved-row-requires-clause-bytes_len_bound c = omega (arith, c.requires.bytes_len, block-le c.args.head)

pub returns : goal.returns
returns c =
    let h = c.args.head in
    let b = c.args.bytes.now in
    let r = readable_as c.args.index b in
    let t = taken-moved r h c.args.slot.now c.requires.head_value _ b _ refl (c.into.ensures ∙ ap move_number c.moved-row.ensures.value)
    (sym (filled-begins (block_of h) b c.requires.bytes_len)) c.moved-row.ensures.slot_after in
    record { value = taken-told r h _ _ t.0 c.told.ensures; slot_after = t.1 }
