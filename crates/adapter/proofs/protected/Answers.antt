-- `adapter::protected`: 31 with the place of the word, or what the slot takes of the 45 bytes.
use mathlib.Core.Path.{◌≡◌, refl, sym, ap, ◌∙◌}
use mathlib.Core.List.{List}
use Prim.Native.Nat.{ℕ}
use native.Mathlib.Omega.{arith}
use lib.ListN.{length}
use Rattle.std.specs.Prelude.{Ok, Err}
use Rattle.words.specs.Protected.{DataAnswer, data_read}
use Rattle.words.specs.Told.{told_data}
use Rattle.words.proofs.Each.{read_length}
use Rattle.packet.specs.Received.{data_as, refused_as}
use Rattle.packet.proofs.Answers.{data-short, data-whole}
use Rattle.head.specs.declared.Head.{Head}
use Rattle.group.specs.Group.{taken, taken_after}
use Rattle.group.specs.declared.Answer.{Answer}
use Rattle.group.proofs.Doing.{block-45}
use Rattle.adapter.proofs.Arriving.{taken_as}
use Rattle.adapter.proofs.protected.Goals as goal

-- what the slot answers to a protected packet, and the slot after it
abbrev Answered : ℕ → List ℕ → Head → List ℕ → Answer → List ℕ → Type 0
Answered index useful head slot answer after =
    (answer ≡ taken (data_as index (data_read useful)) head) × (after ≡ taken_after (data_as index (data_read useful)) slot)

pub taken-requires-clause-bytes_len : goal.taken-requires-clause-bytes_len
taken-requires-clause-bytes_len c =
    ap (λ (d : DataAnswer). length d.bytes) c.in-Ok.ensures.value ∙ read_length c.args.useful.now ∙ block-45 c.args.head c.requires.protection_value

whole : (c : goal.After-slice_known-in-Ok-1) → Answered c.args.index c.args.useful.now c.args.head c.args.slot.now c.taken.result c.taken.new.slot
whole c =
    let i = c.args.index in
    taken_as _ _ c.args.head _ c.args.slot.now _ _
    (sym (data-whole i (told_data (Ok c.in-Ok.data)) (omega arith)) ∙ ap (data_as i) c.in-Ok.ensures.value)
    refl (c.taken.ensures.value, c.taken.ensures.slot_after)

pub returns-in-Ok-clause-value : goal.returns-in-Ok-clause-value
returns-in-Ok-clause-value c = (whole c).0

pub returns-in-Ok-clause-slot_after : goal.returns-in-Ok-clause-slot_after
returns-in-Ok-clause-slot_after c = (whole c).1

short : (c : goal.After-slice_known-in-Err-1) → Answered c.args.index c.args.useful.now c.args.head c.args.slot.now c.refused.result c.refused.new.slot
short c =
    let i = c.args.index in
    let e = c.in-Err.ensures in
    taken_as _ _ c.args.head _ c.args.slot.now _ _
    (ap (λ (n : ℕ). refused_as n c.in-Err.word.place) c.into.ensures ∙ (sym (data-short i (told_data (Err c.in-Err.word)) e.place) ∙ ap (data_as i) e.value))
    refl (c.refused.ensures.value, c.refused.ensures.slot_after)

pub returns-in-Err-clause-value : goal.returns-in-Err-clause-value
returns-in-Err-clause-value c = (short c).0

pub returns-in-Err-clause-slot_after : goal.returns-in-Err-clause-slot_after
returns-in-Err-clause-slot_after c = (short c).1
