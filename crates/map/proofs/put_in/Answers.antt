-- The part of the map that is lent for the field. Assumes nothing.
use Rattle.map.proofs.Moving.{structure-given}
use Rattle.map.proofs.put_in.Goals as goal

pub returns : goal.returns
returns c = structure-given c.args.field c.args.map.now c.requires.fact _ c.put_structure.ensures
