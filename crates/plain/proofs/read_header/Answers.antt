-- `plain::read_header`: the flips in turn, by what each finds.
use mathlib.Core.Path.{sym, ap, ◌∙◌, subst}
use Prim.Native.Nat.{ℕ, ◌≤◌}
use native.Mathlib.Omega.{arith}
use Rattle.plain.proofs.Plain.{plain-33, plain-48, plain-found, plain-none}
use Rattle.plain.proofs.Trying.{none, none_tried, trial-miss}
use Rattle.std.specs.Prelude.{Ok}
use Rattle.bare.specs.Told.{told_header}
use Rattle.bare.specs.declared.Header.{Header}
use Rattle.plain.proofs.read_header.Goals as goal

pub returns-then-n-ge-NUMBERS : goal.returns-then-n-ge-NUMBERS
returns-then-n-ge-NUMBERS c = sym (plain-33 c.args.n c.args.most c.if-n-ge-NUMBERS.true)

pub returns-then-most-gt-CORRECTED : goal.returns-then-most-gt-CORRECTED
returns-then-most-gt-CORRECTED c = sym (plain-48 c.args.n c.args.most c.if-n-ge-NUMBERS.false c.if-most-gt-CORRECTED.true)

pub loop-flips-init : goal.loop-flips-init
loop-flips-init c = none_tried c.args.n

pub returns-in-Some : goal.returns-in-Some
returns-in-Some c =
    ap (λ (h : Header). told_header (Ok h)) c.header.ensures
    ∙ sym (plain-found c.args.n c.args.most c.if-n-ge-NUMBERS.false c.if-most-gt-CORRECTED.false c.loop-flips.flips c.in-Some.pattern
    (omega arith) c.loop-flips.invariant c.in-Some.ensures.leaves c.in-Some.ensures.fits)

pub loop-flips-preserved : goal.loop-flips-preserved
loop-flips-preserved c = trial-miss c.args.n c.loop-flips.flips c.loop-flips.invariant (subst (λ (x : ℕ). none ≤ x) c.in_default.ensures.leaves (omega arith))

pub returns : goal.returns
returns c =
    sym (plain-none c.args.n c.args.most c.if-n-ge-NUMBERS.false c.if-most-gt-CORRECTED.false c.loop-flips.flips (omega arith) (omega arith)
    c.loop-flips.invariant)
