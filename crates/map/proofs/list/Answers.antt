-- A turn and the end of the loop that stores the marks. Assumes nothing.
use mathlib.Core.Path.{◌≡◌, ap, ◌∙◌}
use native.Mathlib.Omega.{arith}
use borrow.Author.Rules.{rules}
use lib.ListN.{length-set}
use Rattle.frames.specs.Counts.{changing, all_heard, enough as enough_heard}
use Rattle.frames.specs.declared.Frames.{Frames}
use Rattle.bits.specs.Rows.{refusal, done}
use Rattle.map.specs.Map.{ids}
use Rattle.map.specs.Calls.{marks, show_answer, list_answer, list_after}
use Rattle.map.proofs.Doing.{marks-turn, marks-end}
use Rattle.map.proofs.list.Goals as goal

pub loop-id-preserved : goal.loop-id-preserved
loop-id-preserved c =
    let l = c.loop-id in
    let e = c.frames_of-frames.ensures in (
      simp length-set l.invariant.0,
      marks-turn c.args.map.now l.out c.args.count l.id c.from.result l.invariant.0 (omega arith) l.invariant.1
          (c.from.ensures ∙ c.mark_at.ensures c.args.count
          (c.changing-change.ensures ∙ ap (λ (h : Frames). changing h c.args.count) e) (c.all_heard-sure.ensures ∙ ap all_heard e)
          (c.enough-heard.ensures ∙ ap enough_heard e)),
    )

pub returns-clause-out_after : goal.returns-clause-out_after
unfolding list_answer list_after show_answer refusal done
returns-clause-out_after c =
    let l = c.loop-id in
    let all : l.out ≡ marks ids 0 c.args.map.now c.args.count =
    marks-end c.args.map.now l.out c.args.count l.id (omega arith) l.invariant.0 l.invariant.1 in
    rw all (search rules)
