-- The lines of the answers so far are stored.
use Rattle.std.proofs.Common.{◌≡◌, ◌*◌, ◌≤◌, ℕ, List, refl, ap, ◌∙◌, arith, length, take, length-take-le, take_all}
use Rattle.answers.specs.Text.{lines}
use Rattle.answers.proofs.Stores.{sets-front}
use Rattle.answers.proofs.Numbers.{lines-put, lines-most}
use Rattle.answers.proofs.text.put_lines.Goals as goal

-- the lines so far leave room
room : (first len k : ℕ) (answers : List ℕ) → k ≤ length answers → len ≡ length (lines first (take k answers)) → len ≤ 42 * k
room first len k answers h e = omega (arith, lines-most first (take k answers), length-take-le k answers h)

pub loop-k-init : goal.loop-k-init
unfolding lines
loop-k-init c = (refl, refl, refl)

pub put_line-len-requires : goal.put_line-len-requires
put_line-len-requires c =
    let turn = c.loop-k in
    omega (arith, room c.args.first turn.len turn.k c.args.answers.now (omega arith) turn.invariant.1)

pub loop-k-preserved : goal.loop-k-preserved
loop-k-preserved c =
    let turn = c.loop-k in
    let start = c.args in
    let put = c.put_line-len.ensures in
    let more = lines-put start.out.now start.first turn.k start.answers.now turn.out turn.len (omega arith) turn.invariant.1 turn.invariant.2 in
    (omega arith, put.value ∙ more.0, put.out_after ∙ more.1)

pub returns-clause-out_after : goal.returns-clause-out_after
returns-clause-out_after c =
    let turn = c.loop-k in
    let start = c.args in
    let all : lines start.first (take turn.k start.answers.now) ≡ lines start.first start.answers.now =
    ap (lines start.first) (take_all turn.k start.answers.now (omega arith)) in
    let fits = room start.first turn.len turn.k start.answers.now (omega arith) turn.invariant.1 in
    let given = lines start.first (take turn.k start.answers.now) in
    (λ i. take (turn.invariant.1 i) (turn.invariant.2 i)) ∙ sets-front start.out.now given (omega (arith, fits)) ∙ all

pub returns-clause-upper_bound : goal.returns-clause-upper_bound
returns-clause-upper_bound c =
    let turn = c.loop-k in
    omega (arith, room c.args.first turn.len turn.k c.args.answers.now (omega arith) turn.invariant.1)
