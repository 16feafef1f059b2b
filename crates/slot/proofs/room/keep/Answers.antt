-- `slot::room::keep`: k bytes are copied to the whole group's room.
use Rattle.std.proofs.Common.{◌+◌, ℕ, refl, ap, ◌∙◌, arith, length-set}
use lib.ListN.{set}
use lib.Seq.{paste-zero}
use Rattle.bits.proofs.Storing.{copied}
use Rattle.slot.specs.Slot.{whole_at}
use Rattle.slot.proofs.Rooms.{keep-read, keep-lent}
use Rattle.slot.proofs.room.keep.Goals as goal

pub loop-k-init : goal.loop-k-init
loop-k-init c = (refl, paste-zero c.args.slot.now whole_at c.args.slot.now)

pub loop-k-preserved : goal.loop-k-preserved
loop-k-preserved c =
    let at = c.loop-k in
    let slot = c.args.slot.now in (
      simp length-set at.invariant.0,
      ap (λ (x : ℕ). set at.slot (whole_at + at.k) x)
          (keep-read slot at.slot at.k at.invariant.1 c.requires.slot_len (omega arith))
          ∙ copied slot slot at.slot whole_at _ at.k at.invariant.1 refl (omega arith) (omega arith),
    )

pub returns : goal.returns
returns c =
    keep-lent c.args.slot.now c.loop-k.slot _ c.loop-k.k c.args.len c.requires.slot_len c.requires.len_le_room_size (omega arith)
    c.loop-k.invariant.1 c.clear.ensures
