-- The count over the components: a turn and its end. Assumes nothing.
use mathlib.Core.Path.{◌≡◌, sym, ap, ◌∙◌}
use mathlib.Core.Bool.{Bool, cond}
use Prim.Native.Nat.{◌+◌}
use native.Mathlib.Omega.{arith}
use native.Mathlib.Nat.{add-zero}
use Rattle.map.proofs.Looking.{count-on, count-end}
use Rattle.map.proofs.look.counted.Goals as goal
use Rattle.map.proofs.look.counted.Goals.{then-holds, else-holds}

pub loop-id-preserved : goal.loop-id-preserved
loop-id-preserved g c =
    let l = c.loop-id in
    let next : c.if-holds.count ≡ l.count + cond c.holds.result 1 0 =
    elim c.if-holds.branch [
      | then-holds w ↦ w.count-is ∙ ap (λ (b : Bool). l.count + cond b 1 0) (sym w.if-holds.true)
      | else-holds w ↦ w.count-is ∙ sym (add-zero l.count) ∙ ap (λ (b : Bool). l.count + cond b 1 0) (sym w.if-holds.false)
    ] in (
      elim c.if-holds.branch [ then-holds w ↦ omega arith | else-holds w ↦ omega arith ],
      λ p does.
          count-on p l.id l.count _ c.loop-id-test.true (l.invariant.1 p does) c.holds.result
          (does l.id c.holds.result c.loop-id-test.true c.holds.ensures) c.if-holds.count next,
    )

pub returns : goal.returns
returns g c = λ p does. count-end p c.loop-id.id c.loop-id.count _ c.loop-id-test.false (c.loop-id.invariant.1 p does)
