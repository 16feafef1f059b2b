-- The answers given, and then a pass from the place on, are the whole pass. Assumes nothing.
use Rattle.std.proofs.Common.{◌≡◌, ◌-◌, ◌≤◌, length, take}
use Rattle.serving.proofs.Laws.{passed, ahead}
use Rattle.serving.proofs.serve_all.Given as goal

abbrev pub invariant-loop-kind : goal.invariant-loop-kind
invariant-loop-kind l = record {
  within : l.at ≤ length l.s;
  few : l.served ≤ l.at;
  rest : passed l.s 0 l.initial.state ≡ ahead (take l.served l.answers) (passed l.s l.at l.state);
}

abbrev pub decreases-loop-kind : goal.decreases-loop-kind
decreases-loop-kind l = length l.s - l.at
