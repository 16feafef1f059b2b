-- Each number is made of the bytes that hold its bits. Assumes nothing.
use Rattle.field.proofs.Laws.{loaded}
use Rattle.field.proofs.Field.load.Goals as goal

pub returns : goal.returns
returns c = loaded c.args.f.now (λ k. (c.type_inv.f k).fits) c.requires c.eight_at-rest.result c.eight_at-rest.ensures
