-- `feed::feed_received`: refused, the lent values are those before; otherwise they are the reading's.
use mathlib.Core.Path.{◌≡◌, sym, ap, ◌∙◌}
use mathlib.Core.List.{List}
use Prim.Native.Nat.{ℕ}
use native.Mathlib.Omega.{arith}
use lib.ListN.{length}
use Rattle.bits.specs.Bits.{blank}
use Rattle.runs.proofs.Copying.{put_all}
use Rattle.feed.specs.Fed.{values}
use Rattle.feed.proofs.Fed.{fed-20, fed-23, fed-read}
use Rattle.feed.proofs.feed_received.Goals as goal

pub returns-then-bytes-ne-USEFUL : goal.returns-then-bytes-ne-USEFUL
returns-then-bytes-ne-USEFUL c =
    ap (λ (n : ℕ). values n c.args.place.now c.args.index.now c.args.bytes.now) c.into.ensures
    ∙ sym (fed-20 c.args.protection c.args.image.now _ c.if-bytes-ne-USEFUL.true)

pub returns-then-protection-gt1 : goal.returns-then-protection-gt1
returns-then-protection-gt1 c =
    ap (λ (n : ℕ). values n c.args.place.now c.args.index.now c.args.bytes.now) c.into-then-protection-gt1.ensures
    ∙ sym (fed-23 c.args.protection c.args.image.now _ c.if-bytes-ne-USEFUL.false c.if-protection-gt1.true)

pub returns-in-Ok : goal.returns-in-Ok
returns-in-Ok c =
    let r = c.in-Ok.reading in
    let full : length r.bytes ≡ length c.args.bytes.now = omega arith in
    ap (λ (l : List ℕ). values 0 0 r.index l) (c.copy.ensures ∙ put_all _ _ full)
    ∙ (c.in-Ok.ensures ∙ sym (fed-read c.args.protection c.args.image.now _ c.if-bytes-ne-USEFUL.false c.if-protection-gt1.false))

pub returns-in-Err : goal.returns-in-Err
returns-in-Err c =
    let u = c.in-Err.unread in
    (λ j. values (c.into-in-Err.ensures j) u.place 0 ((c.clear.ensures ∙ ap blank c.if-bytes-ne-USEFUL.false) j))
    ∙ (c.in-Err.ensures ∙ sym (fed-read c.args.protection c.args.image.now _ c.if-bytes-ne-USEFUL.false c.if-protection-gt1.false))
