-- What the frames say, and how many components are in force. Assumes nothing.
use borrow.Author.Rules.{rules}
use Rattle.map.specs.Calls.{in_force_then}
use Rattle.map.proofs.Looking.{known-then}
use Rattle.map.proofs.look.known_at.Goals as goal

pub returns : goal.returns
unfolding in_force_then
returns c =
    known-then c.args.map.now c.args.count _ c.frames_of-frames.result c.frames_of-frames.ensures
    (c.counted.ensures (in_force_then c.args.map.now c.args.count) (λ id b h e. search rules))
