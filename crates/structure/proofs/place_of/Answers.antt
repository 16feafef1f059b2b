use Rattle.std.proofs.Common.{◌≤◌, ap, ◌∙◌, arith}
use Rattle.structure.specs.Structure.{head_of, stored}
use Rattle.structure.proofs.Turns.{stored-to, place_none, place-hit, place-pass, place_end}
use Rattle.structure.proofs.place_of.Goals as goal

pub loop-k-init : goal.loop-k-init
loop-k-init c = place_none c.args.s.now c.args.tdms _ (c.stored-stored.ensures ∙ ap stored c.load.ensures)

pub nth-requires-clause-k_bound : goal.nth-requires-clause-k_bound
nth-requires-clause-k_bound c = omega (arith, c.stored-stored.ensures ∙ ap stored c.load.ensures, stored-to (head_of c.args.s.now))

pub loop-k-preserved-then-nth-tdms : goal.loop-k-preserved-then-nth-tdms
loop-k-preserved-then-nth-tdms c =
    let top : c.loop-k.k ≤ stored (head_of c.args.s.now) = omega (arith, c.stored-stored.ensures ∙ ap stored c.load.ensures) in
    place-hit c.args.s.now c.args.tdms c.loop-k.k c.loop-k-test.true top _ c.nth.ensures c.if-nth-tdms.true

pub loop-k-preserved : goal.loop-k-preserved
loop-k-preserved c =
    let top : c.loop-k.k ≤ stored (head_of c.args.s.now) = omega (arith, c.stored-stored.ensures ∙ ap stored c.load.ensures) in
    place-pass c.args.s.now c.args.tdms c.loop-k.k c.loop-k-test.true top _ c.nth.ensures c.if-nth-tdms.false _ c.loop-k.invariant

pub returns : goal.returns
returns c = place_end c.args.s.now c.args.tdms c.loop-k.k c.loop-k-test.false _ c.loop-k.invariant
