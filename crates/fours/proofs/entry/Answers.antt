-- The number of four patterns, and in it the one of the remainder.
use mathlib.Core.Path.{ap, ◌∙◌}
use Prim.Native.Nat.{ℕ, ◌/◌, ◌%◌, ◌*◌, ◌^◌}
use Rattle.golay.proofs.Fours.{fours-right}
use Rattle.fours.proofs.entry.Goals as goal

pub returns : goal.returns
returns c =
    ap (λ (x : ℕ). x / 2 ^ (c.args.r % 4 * 16) % 2 ^ 16) c.four.ensures
    ∙ fours-right c.args.r c.requires
