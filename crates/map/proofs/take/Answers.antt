-- The answer first; then the change up to the field's frame, a missed frame, the field into its structure, and the frames.
-- Assumes nothing.
use mathlib.Core.Path.{◌≡◌, refl, ap, ◌∙◌}
use mathlib.Core.List.{List}
use Prim.Native.Nat.{ℕ}
use native.Mathlib.Omega.{arith}
use borrow.Author.Rules.{rules}
use lib.ListN.{length}
use Rattle.bits.proofs.Rows.{refused, accepted}
use Rattle.faults.proofs.Refusals.{number-not-zero}
use Rattle.map.specs.Map.{map_size, changed, spoiled_both}
use Rattle.map.specs.Calls.{changed_to, up_to, taken_in, frame_taken, take_answer, take_after}
use Rattle.map.proofs.Doing.{fits, flag-lt, changed-to, kept-to, gap-to, none-to, taken_none, frame-again, frame-taken}
use Rattle.map.proofs.take.Goals as goal
use Rattle.map.proofs.take.Goals.{then-changing, else-changing, then-missed, else-missed, then-field, else-field}

pub returns-in_err-field-clause-map_after : goal.returns-in_err-field-clause-map_after
unfolding take_after
returns-in_err-field-clause-map_after c =
    (refused _ _ _ c.args.map.now c.in_err-field.ensures.number (number-not-zero _)).1

sized : (m f : List ℕ) → 0 ≡ take_answer m f → length m ≡ map_size
sized m f e = (fits m f 0 e refl).size

pub frames_of-frames-requires : goal.frames_of-frames-requires
frames_of-frames-requires c = sized _ _ c.in_ok-field.ensures.number

pub returns-then-again-clause-map_after : goal.returns-then-again-clause-map_after
unfolding take_after
returns-then-again-clause-map_after c =
    let m = c.args.map.now in
    (accepted 0 _ _ m c.in_ok-field.ensures.number m refl
    (frame-again m _ _ c.frames_of-frames.ensures _ c.again.ensures c.if-again.true
    ∙ ap (frame_taken m) c.in_ok-field.ensures.value)).1

pub each-requires-clause-map_len : goal.each-requires-clause-map_len
each-requires-clause-map_len c = sized _ _ c.in_ok-field.ensures.number

pub each-requires-then-missed-clause-map_len : goal.each-requires-then-missed-clause-map_len
each-requires-then-missed-clause-map_len c = omega (arith, sized _ _ c.in_ok-field.ensures.number)

pub put_in-requires-clause-map_len : goal.put_in-requires-clause-map_len
put_in-requires-clause-map_len c = omega (arith, sized _ _ c.in_ok-field.ensures.number)

pub put_in-requires-clause-flag_bound : goal.put_in-requires-clause-flag_bound
put_in-requires-clause-flag_bound c = flag-lt _ _ c.in_ok-field.ensures.value

pub put_frames-requires : goal.put_frames-requires
put_frames-requires c = omega (arith, sized _ _ c.in_ok-field.ensures.number)

pub returns-clause-map_after : goal.returns-clause-map_after
unfolding take_after
returns-clause-map_after c =
    let m = c.args.map.now in
    let r = c.in_ok-field.field in
    let frames = c.frames_of-frames in
    let moved : c.if-changing.map ≡ changed_to m r.count =
    elim c.if-changing.branch [
      | then-changing w ↦ changed-to m _ frames.ensures r.count _ c.changing.ensures w.if-changing.true _ w.all_heard-sure.ensures _ (w.map-is ∙ w.each.ensures (changed w.all_heard-sure.result) (λ block left l p. search rules))
      | else-changing w ↦ w.map-is ∙ kept-to m _ frames.ensures r.count _ c.changing.ensures w.if-changing.false
    ] in
    let gapped : c.if-missed.map ≡ up_to m r.count =
    elim c.if-missed.branch [
      | then-missed w ↦ gap-to m _ frames.ensures r.count _ c.skips-missed.ensures _ moved w.if-missed.true _ (w.map-is ∙ w.each-then-missed.ensures spoiled_both (λ block left l p. search rules))
      | else-missed w ↦ w.map-is ∙ none-to m _ frames.ensures r.count _ c.skips-missed.ensures _ moved w.if-missed.false
    ] in
    let taken : c.if-field.map ≡ taken_in r c.if-missed.map =
    elim c.if-field.branch [
      | then-field w ↦ w.map-is ∙ w.put_in.ensures
      | else-field w ↦ w.map-is ∙ taken_none r c.if-missed.map w.if-field.false
    ] in
    (accepted 0 _ _ m c.in_ok-field.ensures.number _ refl
    (frame-taken m _ _ frames.ensures _ c.again.ensures c.if-again.false _ _ _ _ gapped taken c.after.ensures c.put_frames.ensures
    ∙ ap (frame_taken m) c.in_ok-field.ensures.value)).1
