-- `records::good_head`: the version, and the length against the kind's. Assumes nothing.
use mathlib.Core.Path.{ap₂}
use mathlib.Core.Bool.{◌&&◌}
use Prim.Native.Nat.{ℕ, ◌+◌}
use native.Mathlib.Omega.{arith}
use lib.Dec.{eqb}
use lib.ListN.{get_or}
use Rattle.records.specs.Format.{good_head}
use Rattle.records.proofs.Laws.{size-le}
use Rattle.records.proofs.good_head.Goals as goal

pub overflow_cast-right : goal.overflow_cast-right
overflow_cast-right c = omega (arith, size-le _ _ c.body_size.ensures)

pub overflow_add-right : goal.overflow_add-right
overflow_add-right c = omega (arith, size-le _ _ c.body_size.ensures)

pub returns : goal.returns
unfolding good_head
returns c =
    let a = c.args in
    ap₂ (λ (x y : ℕ). eqb (get_or a.s.now (a.at + 2) 0) 1 && eqb x (2 + y)) c.two_at.ensures c.body_size.ensures
