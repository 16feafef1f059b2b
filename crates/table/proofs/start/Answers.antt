-- `table::start`: its one row, then every byte cleared, and the setting stored. Assumes nothing.
use mathlib.Core.Path.{◌≡◌, ap, ◌∙◌}
use mathlib.Core.List.{List}
use Prim.Native.Nat.{ℕ}
use lib.ListN.{set}
use Rattle.bits.specs.Bits.{blank}
use Rattle.bits.proofs.Storing.{blank-length}
use Rattle.faults.specs.declared.refusal.Refusal.TheVariants.{Length}
use Rattle.table.specs.State.{tail_at, state_size}
use Rattle.table.specs.Calls.{start_after}
use Rattle.table.proofs.Doing.{kept, changed, start-refused, start-passed, setting-stored}
use Rattle.table.proofs.start.Goals as goal

pub returns-then-state-ne-SIZE-clause-value : goal.returns-then-state-ne-SIZE-clause-value
returns-then-state-ne-SIZE-clause-value c = start-refused c.args.state.now c.if-state-ne-SIZE.true

pub returns-then-state-ne-SIZE-clause-state_after : goal.returns-then-state-ne-SIZE-clause-state_after
unfolding start_after
returns-then-state-ne-SIZE-clause-state_after c =
    kept Length _ _ _ (start-refused c.args.state.now c.if-state-ne-SIZE.true)

pub returns-clause-value : goal.returns-clause-value
returns-clause-value c = start-passed c.args.state.now c.if-state-ne-SIZE.false

pub returns-clause-state_after : goal.returns-clause-state_after
unfolding start_after
returns-clause-state_after c =
    let cleared : c.clear.new.bytes ≡ blank state_size = c.clear.ensures ∙ ap blank c.if-state-ne-SIZE.false in
    changed _ _ _ _ (start-passed c.args.state.now c.if-state-ne-SIZE.false)
    (ap (λ (x : List ℕ). set x tail_at 3) cleared ∙ setting-stored (blank state_size) 3 (blank-length state_size))
