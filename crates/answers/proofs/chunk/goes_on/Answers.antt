use Rattle.std.proofs.Common.{sym, ap, ◌∙◌, not}
use Rattle.answers.specs.Said.{goes}
use Rattle.answers.proofs.Speaking.{goes-other}
use Rattle.answers.proofs.chunk.goes_on.Goals.{in-Bad, in_default}
use Rattle.answers.proofs.chunk.goes_on.Goals as goal

pub returns : goal.returns
unfolding goes
returns c = elim c.match-matches.branch [
  | in-Bad w ↦ ap not w.matches-is ∙ sym (ap goes w.in-Bad.is)
  | in_default w ↦ ap not w.matches-is ∙ sym (goes-other c.args.last w.in_default.not-Bad)
]
