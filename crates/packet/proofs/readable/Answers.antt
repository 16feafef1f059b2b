-- `packet::readable`: the bytes at the front of a blank room.
use Rattle.std.proofs.Common.{◌≡◌, ◌++◌, List, length, drop, ℕ, ap₂}
use Rattle.bits.specs.Bits.{blank}
use Rattle.bits.proofs.Storing.{drop-blank}
use Rattle.packet.specs.Received.{filled}
use Rattle.packet.proofs.readable.Goals as goal

room-filled : (from b : List ℕ) → b ≡ from → b ++ drop (length from) (blank 90) ≡ filled 0 from
unfolding filled
room-filled from b e = ap₂ ◌++◌ e (drop-blank (length from) 90)

pub returns : goal.returns
unfolding blank
returns c = λ i. record { number = 0; place = 0; index = c.args.index; bytes = room-filled c.args.from.now _ c.copy_from_slice.ensures.after i }
