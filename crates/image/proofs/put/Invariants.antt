use Rattle.std.proofs.Common.{◌≡◌, ◌+◌, ◌∷◌, length, take}
use Rattle.image.specs.Image.{image_of}
use Rattle.image.proofs.put.Given as goal

abbrev pub invariant-loop-j : goal.invariant-loop-j
invariant-loop-j l = (length l.out ≡ 94) × (take (l.j + 4) l.out ≡ take (l.j + 4) (image_of l.header (l.kind ∷ l.useful)))
