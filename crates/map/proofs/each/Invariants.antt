-- The components from the next on are still to be changed. Assumes nothing.
use Rattle.std.proofs.Common.{◌≡◌, ℕ, List, ◌-◌, length}
use Rattle.map.specs.Map.{ids, block_size, each_from}
use Rattle.map.proofs.each.Given as goal

abbrev pub invariant-loop-id : goal.invariant-loop-id
invariant-loop-id g l =
    (f : List ℕ → List ℕ) → ((block left : _) → length block.now ≡ block_size → goal.F-post g l.fn.change block tt left → left.now ≡ f block.now)
    → each_from (ids - l.id) l.id f l.map ≡ each_from ids 0 f l.fn.map
