-- The frames behind one more: they stay good.
-- Assumes nothing.
use Rattle.std.proofs.Common.{◌≡◌, ℕ, Bool, true, false, cond, leb, refl}
use Rattle.bits.proofs.Search.{and_right}
use Rattle.frames.specs.Counts.{good_frames, skips, begins, frames_after}
use Rattle.frames.specs.declared.Frames.{Frames}

pub after-good : (h : Frames) (n : ℕ) → good_frames h ≡ true → good_frames (frames_after h n) ≡ true
unfolding good_frames frames_after
after-good h n g = go (begins n) (skips h n)
  where
    go : (c s : Bool) → leb (cond c 1 (cond s 0 h.unbroken)) 1 ≡ true
    go true s = refl
    go false true = refl
    go false false = and_right (leb h.heard 1) (leb h.unbroken 1) g
