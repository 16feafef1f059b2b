-- `bare::read_header_within`: 33, 48; a word as it stands; then 49 by the flips of the nearest header.
use mathlib.Core.Path.{sym, ap, ◌∙◌, subst}
use Prim.Native.Nat.{ℕ, ◌≤◌, ◌<◌}
use native.Mathlib.Omega.{arith}
use Rattle.golay.proofs.Reading.{clean-nearest}
use Rattle.bare.specs.Bare.{HeaderAnswer}
use Rattle.bare.proofs.Bare.{header-clean, within-33, within-48, within-49, within-0}
use Rattle.bare.proofs.read_header_within.Goals as goal

pub returns-then-n-ge-NUMBERS : goal.returns-then-n-ge-NUMBERS
returns-then-n-ge-NUMBERS c = sym (within-33 c.args.n c.args.most c.if-n-ge-NUMBERS.true)

pub returns-then-most-gt-CORRECTED : goal.returns-then-most-gt-CORRECTED
returns-then-most-gt-CORRECTED c = sym (within-48 c.args.n c.args.most c.if-n-ge-NUMBERS.false c.if-most-gt-CORRECTED.true)

pub header_of-requires-clause-word_value : goal.header_of-requires-clause-word_value
header_of-requires-clause-word_value c = clean-nearest c.args.n (sym c.remainder-rest.ensures ∙ c.if-rest-eq0.true)

-- a clean header has no flips, whatever the setting
pub returns-then-rest-eq0 : goal.returns-then-rest-eq0
returns-then-rest-eq0 c =
    let small = c.if-n-ge-NUMBERS.false in
    c.header_of.ensures
    ∙ sym (within-0 c.args.n c.args.most small c.if-most-gt-CORRECTED.false
    (omega (arith, header-clean c.args.n small (sym c.remainder-rest.ensures ∙ c.if-rest-eq0.true))))

pub returns-then-most-header : goal.returns-then-most-header
returns-then-most-header c =
    sym (within-49 c.args.n c.args.most c.if-n-ge-NUMBERS.false c.if-most-gt-CORRECTED.false
    (subst (λ (x : ℕ). c.args.most < x) (ap (λ (h : HeaderAnswer). h.flips) c.by_table-header.ensures) c.if-most-header.true))

pub returns : goal.returns
returns c =
    c.by_table-header.ensures
    ∙ sym (within-0 c.args.n c.args.most c.if-n-ge-NUMBERS.false c.if-most-gt-CORRECTED.false
    (subst (λ (x : ℕ). x ≤ c.args.most) (ap (λ (h : HeaderAnswer). h.flips) c.by_table-header.ensures) c.if-most-header.false))
