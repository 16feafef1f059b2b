-- `plain::three_flips`: a turn of the loop over the bits.
use native.Mathlib.Omega.{arith}
use Rattle.plain.proofs.Trying.{none, none_yet, turn-hit, turn-fits, turn-miss}
use Rattle.plain.proofs.three_flips.Goals as goal

pub loop-bit-init : goal.loop-bit-init
loop-bit-init c = none_yet c.args.n 2

pub returns-in-Some-clause-leaves : goal.returns-in-Some-clause-leaves
returns-in-Some-clause-leaves c =
    turn-hit c.args.n 2 c.loop-bit.bit c.args.bits c.loop-bit-test.true c.requires c.loop-bit.invariant
    c.in-Some.below c.in-Some.ensures.leaves c.in-Some.ensures.fits

pub returns-in-Some-clause-fits : goal.returns-in-Some-clause-fits
returns-in-Some-clause-fits c =
    turn-fits c.args.n 2 c.loop-bit.bit c.args.bits c.loop-bit-test.true c.requires c.loop-bit.invariant
    c.in-Some.below c.in-Some.ensures.leaves c.in-Some.ensures.fits

pub loop-bit-preserved : goal.loop-bit-preserved
loop-bit-preserved c =
    turn-miss c.args.n 2 c.loop-bit.bit c.args.bits c.loop-bit-test.true c.requires c.loop-bit.invariant
    none c.in_default.ensures.leaves (omega arith)
