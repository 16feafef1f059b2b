-- The four stores put the frames there. Assumes nothing.
use native.Mathlib.Omega.{arith}
use Rattle.runs.proofs.Parts.{sets-put}
use Rattle.map.specs.Map.{frames_at, frames_bytes, with_frames}
use Rattle.map.proofs.put_frames.Goals as goal

pub returns : goal.returns
unfolding with_frames
returns c = sets-put frames_at (frames_bytes c.args.frames) c.args.map.now (omega arith)
