-- `spell` copies the digits that the library prints.
use Rattle.std.proofs.Common.{◌∙◌, arith, ap, length, ◌+◌, ℕ, List}
use Rattle.answers.proofs.Numbers.{decimal-same, digits-put}
use Rattle.answers.proofs.text.spell.Goals as goal

pub returns-clause-value : goal.returns-clause-value
returns-clause-value c =
    ap (λ (x : List ℕ). c.args.at + length x) (c.as_bytes-digits.ensures.value ∙ c.format.ensures.text ∙ decimal-same c.args.n (omega arith))

pub returns-clause-out_after : goal.returns-clause-out_after
returns-clause-out_after c =
    digits-put c.args.out.now _ _ c.args.at c.args.n (omega arith) (omega arith) (c.as_bytes-digits.ensures.value ∙ c.format.ensures.text)
    c.copy_from_slice.ensures.after
