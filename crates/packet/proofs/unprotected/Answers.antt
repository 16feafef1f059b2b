-- `packet::unprotected`: 31 with the place of the word, or the 45 bytes.
use mathlib.Core.Path.{sym, ap, ◌∙◌}
use native.Mathlib.Omega.{arith}
use lib.ListN.{length}
use Rattle.std.specs.Prelude.{Ok, Err}
use Rattle.std.proofs.lemmas.Result.{err_from_is_err_and}
use Rattle.words.specs.Protected.{DataAnswer}
use Rattle.words.specs.Told.{told_data}
use Rattle.words.proofs.Each.{read_length}
use Rattle.packet.specs.Received.{data_as}
use Rattle.packet.proofs.Answers.{data-short, data-whole}
use Rattle.packet.proofs.unprotected.Goals as goal

pub readable-requires : goal.readable-requires
readable-requires c =
    omega (arith, ap (λ (d : DataAnswer). length d.bytes) c.in_ok-data.ensures.value, read_length c.args.useful.now)

pub returns-in_err-data : goal.returns-in_err-data
returns-in_err-data c =
    let p = err_from_is_err_and c.from_residual.result c.from_residual.ensures.1 in
    let e = c.in_err-data.ensures in
    rw (p.1, p.2) (sym (data-short c.args.index (told_data (Err c.in_err-data.field-0.0)) e.place) ∙ ap (data_as c.args.index) e.value)

pub returns : goal.returns
returns c =
    c.readable.ensures
    ∙ (sym (data-whole c.args.index (told_data (Ok c.in_ok-data.«data»)) (omega arith)) ∙ ap (data_as c.args.index) c.in_ok-data.ensures.value)
