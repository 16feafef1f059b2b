-- `plain::no_flip`: it is a word as it stands, or it is none.
use mathlib.Core.Path.{sym, ◌∙◌}
use Rattle.plain.proofs.Trying.{clean, damaged}
use Rattle.plain.proofs.no_flip.Goals as goal

pub returns-then-remainder-eq0-clause-leaves : goal.returns-then-remainder-eq0-clause-leaves
returns-then-remainder-eq0-clause-leaves c = sym (clean c.args.n 23 (sym c.remainder.ensures ∙ c.if-remainder-eq0.true))

pub returns-clause-leaves : goal.returns-clause-leaves
returns-clause-leaves c = sym (damaged c.args.n 23 (λ e. c.if-remainder-eq0.false (c.remainder.ensures ∙ e)))
