-- The bytes stored are the field's, and nothing refused it. Assumes nothing.
use mathlib.Core.Path.{◌≡◌}
use native.Mathlib.Omega.{arith}
use borrow.Author.Rules.{rules}
use Rattle.bits.specs.Rows.{refusal, done}
use Rattle.field.specs.Field.{field_bytes, write_number, written_after}
use Rattle.field.proofs.Bytes.{Within, write-stores}
use Rattle.field.proofs.write.Goals as goal

pub returns-clause-out_after : goal.returns-clause-out_after
unfolding write_number written_after refusal done
returns-clause-out_after c =
    let small : Within c.args.field = record {
      count = omega arith;
      flag = omega arith;
      id = omega arith;
      tdms = omega arith;
      links = omega arith;
    } in
    let same : c.put_eight.new.s ≡ field_bytes c.args.field =
    write-stores c.args.field small c.args.out.now c.put_eight.new.s c.if-out-ne-SIZE.false c.put_eight.ensures in
    rw same (search rules)
