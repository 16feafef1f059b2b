-- The answers of the pass in a row, and 35 behind them where a bad record stands.
use Rattle.std.proofs.Common.{◌≡◌, true, false, sym, ap, ◌∙◌, arith, length}
use Rattle.bits.proofs.Runs.{Below}
use Rattle.serving.specs.Served.{pass}
use Rattle.answers.specs.Said.{goes}
use Rattle.answers.proofs.Speaking.{pass-many, pass-few, spoken-on, spoken-bad}
use Rattle.answers.proofs.chunk.speak.Goals as goal

pub returns-then-goes_on-clause-answers_after : goal.returns-then-goes_on-clause-answers_after
returns-then-goes_on-clause-answers_after c =
    let done = c.serve_all-pass in
    let on : goes (pass (length c.args.s.now) c.args.s.now 0 c.args.state.now).last ≡ true = sym (c.goes_on.ensures ∙ ap goes done.ensures.value) ∙ c.if-goes_on.true in
    spoken-on c.args.state.now c.args.s.now done.new.answers done.result.served done.ensures.answers_after done.ensures.served_in_bounds on

pub returns-then-goes_on-clause-count_bound : goal.returns-then-goes_on-clause-count_bound
returns-then-goes_on-clause-count_bound c =
    let done = c.serve_all-pass in
    let bytes : Below 256 c.args.s.now = λ k. (c.type_inv.s k).fits in
    let records = pass-many c.args.state.now c.args.s.now done.new.answers done.result.served done.ensures.answers_after done.ensures.served_in_bounds bytes in
    omega (arith, records, done.ensures.at_after, done.ensures.at_in_bounds)

pub returns-then-goes_on-clause-s_len_bound_2 : goal.returns-then-goes_on-clause-s_len_bound_2
returns-then-goes_on-clause-s_len_bound_2 c _ =
    let done = c.serve_all-pass in
    let bytes : Below 256 c.args.s.now = λ k. (c.type_inv.s k).fits in
    let on : goes (pass (length c.args.s.now) c.args.s.now 0 c.args.state.now).last ≡ true = sym (c.goes_on.ensures ∙ ap goes done.ensures.value) ∙ c.if-goes_on.true in
    omega (arith, pass-few c.args.state.now c.args.s.now bytes on, done.ensures.at_after)

pub bounds-answers-pass : goal.bounds-answers-pass
bounds-answers-pass c =
    let done = c.serve_all-pass in
    let bytes : Below 256 c.args.s.now = λ k. (c.type_inv.s k).fits in
    let records = pass-many c.args.state.now c.args.s.now done.new.answers done.result.served done.ensures.answers_after done.ensures.served_in_bounds bytes in
    omega (arith, records, done.ensures.at_after, done.ensures.at_in_bounds)

pub returns-clause-answers_after : goal.returns-clause-answers_after
returns-clause-answers_after c =
    let done = c.serve_all-pass in
    let bytes : Below 256 c.args.s.now = λ k. (c.type_inv.s k).fits in
    let records = pass-many c.args.state.now c.args.s.now done.new.answers done.result.served done.ensures.answers_after done.ensures.served_in_bounds bytes in
    let off : goes (pass (length c.args.s.now) c.args.s.now 0 c.args.state.now).last ≡ false = sym (c.goes_on.ensures ∙ ap goes done.ensures.value) ∙ c.if-goes_on.false in
    spoken-bad c.args.state.now c.args.s.now done.new.answers done.result.served done.ensures.answers_after done.ensures.served_in_bounds off
    (omega (arith, records, done.ensures.at_after, done.ensures.at_in_bounds))

pub returns-clause-count_bound : goal.returns-clause-count_bound
returns-clause-count_bound c =
    let done = c.serve_all-pass in
    let bytes : Below 256 c.args.s.now = λ k. (c.type_inv.s k).fits in
    let records = pass-many c.args.state.now c.args.s.now done.new.answers done.result.served done.ensures.answers_after done.ensures.served_in_bounds bytes in
    omega (arith, records, done.ensures.at_after, done.ensures.at_in_bounds)
