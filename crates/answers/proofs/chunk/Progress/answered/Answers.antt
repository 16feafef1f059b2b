use Rattle.std.proofs.Common.{◌+◌, ◌-◌, ap, sym, ◌∙◌, ◌≤◌, arith, take, length-take-le}
use Rattle.answers.specs.Text.{lines}
use Rattle.answers.proofs.Stores.{moved}
use Rattle.answers.proofs.Turning.{told-end, next-end, told-some, next-some, held-turned}
use Rattle.answers.proofs.chunk.Progress.answered.Goals as goal

pub returns-then-more-eq0-clause-out_after : goal.returns-then-more-eq0-clause-out_after
returns-then-more-eq0-clause-out_after c =
    let start = c.args.self.now in
    c.ended.ensures.out_after ∙ sym (told-end start.state start.buffer start.kept c.args.more start.number c.if-more-eq0.true)

pub returns-then-more-eq0-clause-going_after : goal.returns-then-more-eq0-clause-going_after
returns-then-more-eq0-clause-going_after c =
    let start = c.args.self.now in
    sym (next-end start.state start.buffer start.kept c.args.more start.number c.if-more-eq0.true)

pub returns-clause-out_after : goal.returns-clause-out_after
returns-clause-out_after c =
    let start = c.args.self.now in
    c.put_lines-len.ensures.out_after ∙ ap (lines start.number) c.speak-told.ensures.answers_after
    ∙ sym (told-some start.state start.buffer start.kept c.args.more start.number c.if-more-eq0.false (omega arith))

pub returns-clause-going_after : goal.returns-clause-going_after
returns-clause-going_after c =
    let start = c.args.self.now in
    let spoke = c.speak-told in
    let end = start.kept + c.args.more in
    let left = end - spoke.result.at in
    let bytes = take end start.buffer in
    let at : spoke.result.at ≤ end = omega (arith, length-take-le end start.buffer (omega arith)) in
    let moves = ap (take left) c.copy_within.ensures.after ∙ moved start.buffer spoke.result.at end at (omega arith) in
    held-turned start.state spoke.new.state bytes spoke.new.answers c.copy_within.new.self start.number spoke.result.count
    spoke.result.at left spoke.result.going spoke.ensures.state_after moves
    spoke.ensures.at_value spoke.ensures.going_value (omega arith) spoke.ensures.answers_after
    ∙ sym (next-some start.state start.buffer start.kept c.args.more start.number c.if-more-eq0.false (omega arith))
