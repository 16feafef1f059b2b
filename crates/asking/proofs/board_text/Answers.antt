-- `asking::board_text`: the notice, or with a fresh answer the part that it names. Assumes nothing.
use mathlib.Core.Path.{sym, ap, ◌∙◌}
use Rattle.asking.proofs.Laws.{board-none, board-refused, board-fresh, board-aside, is-fresh, not-fresh}
use Rattle.asking.proofs.board_text.Goals.{then-is_fresh, else-is_fresh}
use Rattle.asking.proofs.board_text.Goals as goal

pub returns-after-is_fresh-clause-text : goal.returns-after-is_fresh-clause-text
returns-after-is_fresh-clause-text c =
    let s = c.args.state.now in
    let a = c.args.address in
    let n = c.args.notice.now in
    let f = c.in-Ok-Some.freshness in
    let told = rw c.in-Ok-Some.field-0-is at c.in-Ok-Some.ensures in
    elim c.if-is_fresh.branch [
      | then-is_fresh w ↦ ap (λ x. x.now) w.result-is
          ∙ board-fresh s a n f (is-fresh f (sym c.eq-is_fresh.ensures ∙ w.if-is_fresh.true)) told.number c.in-Ok-Some.group.now told.part
      | else-is_fresh w ↦ ap (λ x. x.now) w.result-is
          ∙ board-aside s a n f (not-fresh f (sym c.eq-is_fresh.ensures ∙ w.if-is_fresh.false)) told.number
    ]

pub returns-in-Ok-None-clause-text : goal.returns-in-Ok-None-clause-text
returns-in-Ok-None-clause-text c =
    let told = rw c.in-Ok-None.field-0-is at c.in-Ok-None.ensures in
    board-none _ _ _ told.number

pub returns-in-Err-clause-text : goal.returns-in-Err-clause-text
returns-in-Err-clause-text c = board-refused _ _ _ _ c.in-Err.ensures.number
