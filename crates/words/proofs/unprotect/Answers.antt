use Rattle.std.proofs.Common.{◌<◌, get_or, sym, ap, subst, ◌∙◌}
use Rattle.std.proofs.lemmas.Result.{err_from_is_err_and}
use Rattle.words.specs.Protected.{words_of, data_of, data_read}
use Rattle.words.specs.Protected.{WordsAnswer}
use Rattle.words.proofs.Each.{words_small}
use Rattle.words.proofs.Packing.{words-length}
use Rattle.words.proofs.unprotect.Goals as goal

pub gathered-requires : goal.gathered-requires
gathered-requires c =
    let ns = words_of c.args.useful.now in
    λ k. subst (λ (r : WordsAnswer). get_or r.informations k 0 < 4096) (sym c.in_ok-words.ensures.value) (words_small ns (words-length c.args.useful.now) k)

pub returns-in_err-words-clause-value : goal.returns-in_err-words-clause-value
unfolding data_read
returns-in_err-words-clause-value c =
    let p = err_from_is_err_and c.from_residual.result c.from_residual.ensures.1 in
    let e = c.in_err-words.ensures.value in
    rw (p.1, p.2) (λ i. record { place = (e i).place; flips = (e i).flips; bytes = data_of (e i).informations })

pub returns-clause-value : goal.returns-clause-value
unfolding data_read
returns-clause-value c =
    let e = c.in_ok-words.ensures.value in
    λ i. record { place = (e i).place; flips = (e i).flips; bytes = (c.gathered.ensures ∙ ap (λ (r : WordsAnswer). data_of r.informations) e) i }
