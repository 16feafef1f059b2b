-- What is counted. Assumes nothing.
use borrow.Author.Rules.{rules}
use Rattle.map.specs.Map.{present, components}
use Rattle.map.proofs.look.components.Goals as goal

pub returns : goal.returns
unfolding components
returns c =
    c.counted.ensures (present c.args.which c.args.change c.args.sure c.args.map.now) (λ id b h e. search rules)
