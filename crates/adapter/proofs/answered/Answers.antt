-- `adapter::answered`: the rows that need no slot, then by the header that is read. Assumes nothing.
use mathlib.Core.Path.{◌≡◌, refl, sym, subst}
use mathlib.Core.List.{List, []}
use Prim.Native.Nat.{ℕ, ◌<◌, ◌^◌}
use Rattle.bits.specs.Rows.{refusal}
use Rattle.image.proofs.Laws.{header-lt}
use Rattle.faults.proofs.Refusals.{number-not-zero}
use Rattle.adapter.specs.Calls.{image_rows}
use Rattle.adapter.proofs.Arriving.{Sized, image-sized, image-refused, image-placed}
use Rattle.adapter.proofs.answered.Goals as goal

-- past the rows
sized : (s image : List ℕ) → 0 ≡ refusal (image_rows s image []) → Sized s image
sized s image e = image-sized s image 0 e refl

pub returns-in-Err-clause-value : goal.returns-in-Err-clause-value
returns-in-Err-clause-value c =
    (image-refused c.args.state.now c.args.image.now _ c.in-Err.ensures _ (number-not-zero _)
    c.refused.ensures).0

pub returns-in-Err-clause-state_after : goal.returns-in-Err-clause-state_after
returns-in-Err-clause-state_after c =
    (image-refused c.args.state.now c.args.image.now _ c.in-Err.ensures _ (number-not-zero _) refl).1

pub header-requires : goal.header-requires
header-requires c = (sized c.args.state.now c.args.image.now c.in_default.ensures).image-size

pub near_header-header-requires : goal.near_header-header-requires
near_header-header-requires c = subst (λ (n : ℕ). n < 2 ^ 23) (sym c.header.ensures) (header-lt _)

pub arrived-requires-clause-state_len : goal.arrived-requires-clause-state_len
arrived-requires-clause-state_len c = (sized c.args.state.now c.args.image.now c.in_default.ensures).state-size

pub arrived-requires-clause-image_len : goal.arrived-requires-clause-image_len
arrived-requires-clause-image_len c = (sized c.args.state.now c.args.image.now c.in_default.ensures).image-size

pub returns-clause-value : goal.returns-clause-value
returns-clause-value c =
    (image-placed _ _ _ c.in_default.ensures _ _ refl (c.arrived.ensures.value, c.arrived.ensures.state_after)).0

pub returns-clause-state_after : goal.returns-clause-state_after
returns-clause-state_after c =
    (image-placed _ _ _ c.in_default.ensures _ _ refl (c.arrived.ensures.value, c.arrived.ensures.state_after)).1
