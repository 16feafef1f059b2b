-- `serving::serve_all`: a turn serves the record at the place, and a pass ends where none stands. Assumes nothing.
use mathlib.Core.Path.{sym}
use native.Mathlib.Omega.{arith}
use Rattle.records.proofs.Laws.{record-whole}
use Rattle.serving.proofs.Laws.{stops-there, loop-turn, loop-end}
use Rattle.serving.proofs.serve_all.Goals as goal

pub overflow_add-end : goal.overflow_add-end
overflow_add-end c =
    let whole = record-whole c.args.s.now c.loop-kind.at _ _ (sym c.in-Record.ensures) in
    omega (arith, whole.ends, c.body_size.ensures)

pub slice_bounds-serve-end : goal.slice_bounds-serve-end
slice_bounds-serve-end c =
    let whole = record-whole c.args.s.now c.loop-kind.at _ _ (sym c.in-Record.ensures) in
    omega (arith, whole.ends, c.body_size.ensures)

pub bounds-answers-served : goal.bounds-answers-served
bounds-answers-served c =
    let whole = record-whole c.args.s.now c.loop-kind.at _ _ (sym c.in-Record.ensures) in
    omega (arith, whole.begins, whole.ends)

pub loop-kind-smaller : goal.loop-kind-smaller
loop-kind-smaller c =
    let whole = record-whole c.args.s.now c.loop-kind.at _ _ (sym c.in-Record.ensures) in
    omega (arith, whole.begins, whole.ends, c.body_size.ensures)

pub loop-kind-preserved : goal.loop-kind-preserved
loop-kind-preserved c =
    let turn = c.loop-kind in
    let whole = record-whole c.args.s.now turn.at _ _ (sym c.in-Record.ensures) in
    record {
      within = omega (arith, whole.ends, c.body_size.ensures);
      few = omega (arith, whole.begins);
      rest = loop-turn _ _ _ turn.answers turn.served _ turn.invariant.rest _ _ _ _ _ (sym c.in-Record.ensures) c.body_size.ensures
          (omega (arith, whole.begins, whole.ends)) (c.serve.ensures.value, c.serve.ensures.state_after);
    }

pub returns : goal.returns
returns c =
    let turn = c.loop-kind in
    let end = loop-end _ _ _ turn.answers turn.served _ turn.invariant.rest c.next.result (stops-there _ c.in_default.not-Record) (sym c.next.ensures)
    (omega arith) turn.invariant.within in
    record {
      value = end.0;
      state_after = end.1;
      answers_after = end.2;
      served_in_bounds = end.3;
      at_after = end.4;
      at_in_bounds = end.5;
    }
