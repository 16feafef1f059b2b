use Rattle.std.proofs.Common.{◌≡◌, length, take}
use Rattle.std.proofs.lemmas.List.Edits.{sets}
use Rattle.answers.specs.Text.{lines}
use Rattle.answers.proofs.text.put_lines.Given as goal

abbrev pub invariant-loop-k : goal.invariant-loop-k
invariant-loop-k l = (length l.out ≡ length l.fn.out) × (l.len ≡ length (lines l.first (take l.k l.answers)))
    × (l.out ≡ sets l.fn.out 0 (lines l.first (take l.k l.answers)))
