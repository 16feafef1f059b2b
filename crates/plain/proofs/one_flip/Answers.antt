-- `plain::one_flip`: a turn of the loop over the bits, with no flip below the one.
use mathlib.Core.Path.{sym, ◌∙◌}
use native.Mathlib.Omega.{arith}
use native.Mathlib.Nat.{add-zero}
use Rattle.plain.proofs.Trying.{none, weight, none_yet, weight-lt, clean, damaged, turn-hit, turn-miss}
use Rattle.plain.proofs.one_flip.Goals as goal

pub loop-bit-init : goal.loop-bit-init
loop-bit-init c = none_yet c.args.n 0

pub returns-then-remainder-eq0-clause-leaves : goal.returns-then-remainder-eq0-clause-leaves
returns-then-remainder-eq0-clause-leaves c =
    sym (add-zero (weight c.loop-bit.bit))
    ∙ turn-hit c.args.n 0 c.loop-bit.bit c.args.bits c.loop-bit-test.true c.requires c.loop-bit.invariant
    0 (sym (clean _ _ (sym c.remainder.ensures ∙ c.if-remainder-eq0.true))) (omega arith)

pub returns-then-remainder-eq0-clause-fits : goal.returns-then-remainder-eq0-clause-fits
returns-then-remainder-eq0-clause-fits c = weight-lt c.loop-bit.bit c.args.bits c.loop-bit-test.true c.requires

pub loop-bit-preserved : goal.loop-bit-preserved
loop-bit-preserved c =
    turn-miss c.args.n 0 c.loop-bit.bit c.args.bits c.loop-bit-test.true c.requires c.loop-bit.invariant
    none (sym (damaged _ _ (λ e. c.if-remainder-eq0.false (c.remainder.ensures ∙ e)))) (omega arith)
