-- A turn and the end of the loop over all components. Assumes nothing.
use mathlib.Core.Path.{◌≡◌, ◌∙◌}
use native.Mathlib.Omega.{arith}
use lib.ListN.{length}
use Rattle.map.specs.Map.{map_size}
use Rattle.map.proofs.Moving.{block-span, each_turn, each-end}
use Rattle.map.proofs.each.Goals as goal

pub loop-id-preserved : goal.loop-id-preserved
loop-id-preserved g c =
    let l = c.loop-id in
    let size : length l.map ≡ map_size = omega arith in
    λ f does. each_turn f l.id l.map c.loop-id-test.true _ (does _ _ (block-span l.id l.map size c.loop-id-test.true) c.change.ensures)
    ∙ l.invariant f does

pub returns : goal.returns
returns g c = λ f does. each-end f c.loop-id.id c.loop-id.map _ c.loop-id-test.false (c.loop-id.invariant f does)
