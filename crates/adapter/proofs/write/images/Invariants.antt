-- `adapter::write::images`: the images before the one that comes next.
use mathlib.Core.Path.{◌≡◌}
use Rattle.adapter.proofs.Writing.{put_to}
use Rattle.adapter.proofs.write.images.Given as goal

abbrev pub invariant-loop-index : goal.invariant-loop-index
invariant-loop-index l = l.output ≡ put_to l.protected l.address l.message l.initial.output l.index
