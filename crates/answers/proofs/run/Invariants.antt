use Rattle.std.proofs.Common.{◌≡◌, ◌+◌, ◌*◌, ◌≤◌, true}
use Rattle.answers.specs.Said.{held, Reached}
use Rattle.answers.proofs.run.Given as goal

abbrev pub invariant-loop : goal.invariant-loop
invariant-loop g l = (l.progress.number ≤ 1 + 1025 * l.counter) × (l.progress.going ≡ true → l.progress.kept ≤ 97)
    × (l.progress.going ≡ true → Reached (held l.progress.state l.progress.buffer l.progress.kept l.progress.number true))
