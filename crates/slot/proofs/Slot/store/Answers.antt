use Rattle.slot.proofs.Steps.{head-stores}
use Rattle.slot.proofs.Slot.store.Goals as goal

pub returns : goal.returns
returns c =
    head-stores c.args.head c.args.slot.now _ _ _ c.requires c.put_four.ensures c.put_four-2.ensures c.put_four-3.ensures
