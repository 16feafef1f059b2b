use Rattle.std.proofs.Common.{ℕ, take, drop, ap, ◌∙◌}
use Rattle.std.proofs.Math.Nat.{add-sub_cancel_left}
use Rattle.std.proofs.lemmas.Result.{MatchResult-at_ok}
use Rattle.runs.specs.Part.{part}
use Rattle.runs.proofs.array_at.Goals as goal

pub returns : goal.returns
unfolding part
returns g c =
    (MatchResult-at_ok _ _ _ c.unwrap.ensures c.try_into.ensures.1).same
    ∙ ap (λ (n : ℕ). take n (drop c.args.at c.args.s.now)) (add-sub_cancel_left c.args.at g.row.N)
