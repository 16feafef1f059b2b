-- `table::look::find`: turn by turn. Assumes nothing.
use mathlib.Core.Path.{refl, ap, ◌∙◌}
use Rattle.std.proofs.Common.{arith}
use Rattle.bits.specs.Search.{first}
use Rattle.table.specs.State.{place_of}
use Rattle.table.proofs.Looking.{find-hit, find-pass, find-place}
use Rattle.table.proofs.look.find.Goals as goal

pub loop-k-init : goal.loop-k-init
unfolding first
loop-k-init c = refl

pub loop-k-preserved-then-head-address : goal.loop-k-preserved-then-head-address
loop-k-preserved-then-head-address c =
    find-hit c.args.state.now c.args.address c.loop-k.k c.loop-k.found c.head.result c.loop-k-test.true (omega arith) c.loop-k.invariant
    c.head.ensures c.if-head-address.true

pub loop-k-preserved : goal.loop-k-preserved
loop-k-preserved c =
    find-pass c.args.state.now c.args.address c.loop-k.k c.loop-k.found c.head.result c.loop-k-test.true (omega arith) c.loop-k.invariant
    c.head.ensures c.if-head-address.false

pub returns-clause-place : goal.returns-clause-place
returns-clause-place c =
    ap place_of c.then_some.ensures ∙ find-place c.args.state.now c.args.address c.loop-k.k c.loop-k.found (omega arith) c.loop-k.invariant
