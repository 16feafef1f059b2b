-- `adapter::served`: the head, the type, then the useful bytes by the slot's protection.
use mathlib.Core.Path.{◌≡◌, sym, ap, ◌∙◌}
use mathlib.Core.List.{List}
use Prim.Native.Nat.{ℕ}
use lib.ListN.{length}
use Rattle.bare.specs.Bare.{HeaderAnswer}
use Rattle.faults.proofs.Refusals.{number-not-zero}
use Rattle.packet.proofs.Answers.{IsData, useful-read, useful-length}
use Rattle.slot.specs.Slot.{head_of}
use Rattle.group.specs.Group.{taken, taken_after}
use Rattle.group.specs.declared.Answer.{Answer}
use Rattle.group.proofs.Doing.{block-90}
use Rattle.adapter.specs.Calls.{reading_at}
use Rattle.adapter.proofs.Arriving.{reading-typed, reading-protected, reading-plain, taken_as}
use Rattle.adapter.proofs.served.Goals as goal

-- what the slot answers to an image, and the slot after it
abbrev Served : List ℕ → List ℕ → Answer → List ℕ → Type 0
Served slot image answer after = (answer ≡ taken (reading_at slot image) (head_of slot)) × (after ≡ taken_after (reading_at slot image) slot)

typed : (c : goal.After-slice_known-in-Err-1) → Served c.args.slot.now c.args.image.now c.refused.result c.refused.new.slot
typed c =
    let head = c.load-head in
    taken_as _ _ head.result _ c.args.slot.now _ _
    (reading-typed head.result c.args.slot.now c.args.image.now head.ensures c.requires.image_len _ (c.into.ensures ∙ c.in-Err.ensures)
    (λ z. number-not-zero c.in-Err.refusal (sym c.into.ensures ∙ z)))
    head.ensures (c.refused.ensures.value, c.refused.ensures.slot_after)

pub returns-in-Err-clause-value : goal.returns-in-Err-clause-value
returns-in-Err-clause-value c = (typed c).0

pub returns-in-Err-clause-slot_after : goal.returns-in-Err-clause-slot_after
returns-in-Err-clause-slot_after c = (typed c).1

pub taken-requires-clause-bytes_len : goal.taken-requires-clause-bytes_len
taken-requires-clause-bytes_len c =
    ap length (useful-read c.args.image.now _ c.useful-useful.ensures) ∙ useful-length c.args.image.now ∙ block-90 c.load-head.result c.if-head-eq1.false

shielded : (c : goal.After-slice_known-then-head-eq1-1) → Served c.args.slot.now c.args.image.now c.protected.result c.protected.new.slot
shielded c =
    let head = c.load-head in
    let is : IsData c.args.image.now = record { size = c.requires.image_len; type = sym c.in_default.ensures } in
    taken_as _ _ head.result _ c.args.slot.now _ _
    (reading-protected head.result c.args.slot.now c.args.image.now head.ensures is _ _ (ap (λ (h : HeaderAnswer). h.index) c.requires.header_value)
    (useful-read c.args.image.now _ c.useful-useful.ensures) c.if-head-eq1.true)
    head.ensures (c.protected.ensures.value, c.protected.ensures.slot_after)

pub returns-then-head-eq1-clause-value : goal.returns-then-head-eq1-clause-value
returns-then-head-eq1-clause-value c = (shielded c).0

pub returns-then-head-eq1-clause-slot_after : goal.returns-then-head-eq1-clause-slot_after
returns-then-head-eq1-clause-slot_after c = (shielded c).1

plain : (c : goal.After-slice_known-else-head-eq1-1) → Served c.args.slot.now c.args.image.now c.taken.result c.taken.new.slot
plain c =
    let head = c.load-head in
    let is : IsData c.args.image.now = record { size = c.requires.image_len; type = sym c.in_default.ensures } in
    taken_as _ _ head.result _ c.args.slot.now _ _
    (reading-plain head.result c.args.slot.now c.args.image.now head.ensures is _ _ (ap (λ (h : HeaderAnswer). h.index) c.requires.header_value)
    (useful-read c.args.image.now _ c.useful-useful.ensures) c.if-head-eq1.false)
    head.ensures (c.taken.ensures.value, c.taken.ensures.slot_after)

pub returns-else-head-eq1-clause-value : goal.returns-else-head-eq1-clause-value
returns-else-head-eq1-clause-value c = (plain c).0

pub returns-else-head-eq1-clause-slot_after : goal.returns-else-head-eq1-clause-slot_after
returns-else-head-eq1-clause-slot_after c = (plain c).1
