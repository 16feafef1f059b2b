-- `plain::remainder`: the loop does the lines of the long division.
use mathlib.Core.Path.{◌≡◌, sym, ap, ◌∙◌}
use Prim.Native.Nat.{ℕ, ◌/◌, ◌-◌}
use native.Mathlib.Omega.{arith}
use Rattle.golay.specs.Code.{line, divide, remainder}
use Rattle.plain.proofs.Dividing.{line-left, line_taken, next}
use Rattle.plain.proofs.remainder.Goals as goal
use Rattle.plain.proofs.remainder.Goals.{then-rest-eq1, else-rest-eq1}

pub loop-preserved : goal.loop-preserved
loop-preserved c =
    let one : c.if-rest-eq1.rest / 2 ≡ line c.loop.rest =
    elim c.if-rest-eq1.branch [
      | then-rest-eq1 w ↦ line_taken c.loop.rest _ w.if-rest-eq1.true w.rest-is
      | else-rest-eq1 w ↦ line-left c.loop.rest _ w.if-rest-eq1.false w.rest-is
    ] in
    ap (divide _) one ∙ next 12 c.loop.counter c.loop.rest (omega arith) ∙ c.loop.invariant

pub returns : goal.returns
unfolding remainder divide
returns c =
    let ended : 12 - c.loop.counter ≡ 0 = omega arith in
    ap (λ (k : ℕ). divide k c.loop.rest) (sym ended) ∙ c.loop.invariant
