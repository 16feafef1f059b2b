-- How far what was heard of a good map reaches, its mark as a test. Assumes nothing.
use mathlib.Core.Path.{sym, ap, ◌∙◌}
use Prim.Native.Nat.{ℕ}
use Rattle.map.specs.Answers.{as_known}
use Rattle.map.specs.Calls.{known, known_by, known_at}
use Rattle.map.proofs.Looking.{known-tested, shown-good}
use Rattle.map.proofs.Kept.{good-each}
use Rattle.map.proofs.known.Goals as goal

pub returns : goal.returns
unfolding known known_by
returns c =
    let m = c.args.map.now in
    let zero = sym c.in_ok-checked.ensures in
    known-tested m c.args.count (as_known c.known_at-known.result) c.known_at-known.ensures (good-each m (shown-good m zero)).frames
    ∙ sym (ap (λ (n : ℕ). known_by n (known_at m c.args.count)) zero)
