use Rattle.rows.proofs.tell.run.Given as goal

abbrev pub invariant-loop-byte : goal.invariant-loop-byte
invariant-loop-byte g l = goal.F-IsAlwaysCallable g l.called
