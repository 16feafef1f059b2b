-- The three rows of `head::Wish::answer`, one after the other. Assumes nothing.
use Rattle.head.proofs.Wishes.{wish-22, wish-23, wish-24, wish-0}
use Rattle.head.proofs.Wish.answer.Goals as goal

pub returns-then-self : goal.returns-then-self
returns-then-self c = wish-22 c.args.self c.if-self.true

pub returns-then-self-gt1 : goal.returns-then-self-gt1
returns-then-self-gt1 c = wish-23 c.args.self c.if-self.false c.if-self-gt1.true

pub returns-then-self-2 : goal.returns-then-self-2
returns-then-self-2 c = wish-24 c.args.self c.if-self.false c.if-self-gt1.false c.if-self-2.true

pub returns : goal.returns
returns c = wish-0 c.args.self c.if-self.false c.if-self-gt1.false c.if-self-2.false
