-- What was heard of a component of a good map, its mark as a test. Assumes nothing.
use mathlib.Core.Path.{◌≡◌, refl, sym, ap, ◌∙◌}
use mathlib.Core.Bool.{true}
use mathlib.Core.List.{List}
use Prim.Native.Nat.{ℕ, ◌≤◌, ◌<◌}
use native.Mathlib.Omega.{arith}
use Rattle.map.specs.Map.{ids, good}
use Rattle.map.specs.Answers.{as_heard}
use Rattle.map.specs.Calls.{heard, heard_by, heard_at}
use Rattle.map.proofs.Looking.{heard-tested, shown-good}
use Rattle.map.proofs.Kept.{then-whole}
use Rattle.map.proofs.heard.Goals as goal

small : (m : List ℕ) (id count : ℕ) → good m ≡ true → id < ids → (heard_at m id count).whole ≤ 1
unfolding heard_at
small m id count g h = then-whole m id count g h

numbered : (m : List ℕ) (id count : ℕ) → (heard_at m id count).number ≡ 0
unfolding heard_at
numbered m id count = refl

pub returns : goal.returns
unfolding heard heard_by
returns c =
    let m = c.args.map.now in
    let zero = sym c.in_ok-checked.ensures in
    heard-tested (as_heard c.heard_at-heard.result) (heard_at m c.args.id c.args.count) c.heard_at-heard.ensures (numbered m c.args.id c.args.count)
    (small m c.args.id c.args.count (shown-good m zero) (omega arith))
    ∙ sym (ap (λ (n : ℕ). heard_by n (heard_at m c.args.id c.args.count)) zero)
