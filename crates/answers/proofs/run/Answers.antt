-- The first that it prints is the heading, and it begins on a state that is started.
use Rattle.std.proofs.Common.{refl, arith}
use Rattle.answers.specs.Text.{heading}
use Rattle.answers.specs.Said.{first}
use Rattle.answers.proofs.Turning.{reached-first}
use Rattle.answers.proofs.run.Goals as goal

pub print-requires : goal.print-requires
unfolding heading
print-requires g c = first refl

pub loop-init : goal.loop-init
loop-init g c = (omega arith, (λ _. omega arith), λ _. reached-first _ _ _ refl c.start.ensures.state_after)
