-- `feed::calls::feed_board_text`: the part of what ask says.
use mathlib.Core.Path.{ap, ◌∙◌}
use mathlib.Core.Bool.{cond}
use lib.Dec.{eqb}
use lib.ListN.{length}
use Rattle.asking.specs.Asking.{Asked}
use Rattle.feed.specs.Board.{board_from, board_at, board_length}
use Rattle.feed.proofs.calls.feed_board_text.Goals as goal

pub returns-clause-from_after : goal.returns-clause-from_after
unfolding board_from
returns-clause-from_after c = c.part.ensures.from ∙ ap (λ (x : Asked). cond (eqb x.number 5) 1 0) c.answer-answer.ensures

pub returns-clause-at_after : goal.returns-clause-at_after
unfolding board_at
returns-clause-at_after c = c.part.ensures.at ∙ ap (λ (x : Asked). cond (eqb x.number 5) x.at 0) c.answer-answer.ensures

pub returns-clause-len_after : goal.returns-clause-len_after
unfolding board_length
returns-clause-len_after c =
    c.part.ensures.len ∙ ap (λ (x : Asked). cond (eqb x.number 5) x.len (length c.args.notice.now)) c.answer-answer.ensures
