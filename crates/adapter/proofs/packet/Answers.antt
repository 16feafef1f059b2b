-- `adapter::packet`: the number of the answer.
use mathlib.Core.Path.{sym, ap, ◌∙◌}
use Rattle.group.specs.declared.Answer.{Answer}
use Rattle.adapter.proofs.Laws.{packet-number}
use Rattle.adapter.proofs.packet.Goals as goal

pub returns-clause-value : goal.returns-clause-value
returns-clause-value c = ap (λ (x : Answer). x.number) c.answered.ensures.value ∙ sym (packet-number _ _)
