use Rattle.words.proofs.Packing.{word-gathered}
use Rattle.words.proofs.word.Goals as goal

pub returns : goal.returns
returns c = word-gathered c.args.useful.now (λ k. (c.type_inv.useful k).fits) c.args.w c.requires.w_bound
