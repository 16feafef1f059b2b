-- `records::body_size`: one kind after the other. Assumes nothing.
use mathlib.Core.Path.{sym, ap}
use Rattle.records.specs.Format.{body_size}
use Rattle.records.proofs.Laws.{size-unknown}
use Rattle.records.proofs.body_size.Goals as goal

pub returns-in-Ok-Packet : goal.returns-in-Ok-Packet
unfolding body_size
returns-in-Ok-Packet c = let e = rw c.in-Ok-Packet.field-0-is at c.in-Ok-Packet.ensures in sym (ap body_size e)

pub returns-in-Ok-SubframeEnd : goal.returns-in-Ok-SubframeEnd
unfolding body_size
returns-in-Ok-SubframeEnd c = let e = rw c.in-Ok-SubframeEnd.field-0-is at c.in-Ok-SubframeEnd.ensures in sym (ap body_size e)

pub returns-in-Ok-Follow : goal.returns-in-Ok-Follow
unfolding body_size
returns-in-Ok-Follow c = let e = rw c.in-Ok-Follow.field-0-is at c.in-Ok-Follow.ensures in sym (ap body_size e)

pub returns-in-Ok-Leave : goal.returns-in-Ok-Leave
unfolding body_size
returns-in-Ok-Leave c = let e = rw c.in-Ok-Leave.field-0-is at c.in-Ok-Leave.ensures in sym (ap body_size e)

pub returns-in-Ok-Ask : goal.returns-in-Ok-Ask
unfolding body_size
returns-in-Ok-Ask c = let e = rw c.in-Ok-Ask.field-0-is at c.in-Ok-Ask.ensures in sym (ap body_size e)

pub returns-in-Err : goal.returns-in-Err
returns-in-Err c = size-unknown _ c.in-Err.ensures
