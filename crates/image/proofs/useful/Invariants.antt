use Rattle.std.proofs.Common.{◌≡◌, length, take, drop}
use Rattle.image.specs.Image.{bytes_of}
use Rattle.image.proofs.useful.Given as goal

abbrev pub invariant-loop-j : goal.invariant-loop-j
invariant-loop-j l = (length l.useful ≡ 90) × (take l.j l.useful ≡ take l.j (drop 1 (bytes_of l.image)))
