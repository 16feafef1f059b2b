-- `bare::near_header`: a word as it stands, or information and flips by the rows.
use mathlib.Core.Path.{◌≡◌, sym, ap, ◌∙◌}
use Prim.Native.Nat.{ℕ}
use native.Mathlib.Omega.{arith}
use lib.ListN.{get_or}
use Rattle.golay.specs.Code.{remainder}
use Rattle.golay.proofs.Division.{remainder-small}
use Rattle.golay.proofs.Fours.{entry_of}
use Rattle.golay.proofs.Reading.{clean-nearest}
use Rattle.golay.proofs.Rule.{patterns}
use Rattle.bare.proofs.Entries.{header-entry, entry-flips}
use Rattle.bare.proofs.near_header.Goals as goal

-- the entry is that of the remainder
own : (n r e : ℕ) → r ≡ remainder n → e ≡ entry_of (get_or patterns r 0) → e ≡ entry_of (get_or patterns (remainder n) 0)
own n r e p q = q ∙ ap (λ (x : ℕ). entry_of (get_or patterns x 0)) p

pub header_of-requires-clause-word_value : goal.header_of-requires-clause-word_value
header_of-requires-clause-word_value c = clean-nearest c.args.n (sym c.remainder-left.ensures ∙ c.if-left-eq0.true)

pub entry-entry-requires : goal.entry-entry-requires
entry-entry-requires c = omega (arith, c.remainder-left.ensures, remainder-small c.args.n c.requires)

pub overflow_cast-result-3 : goal.overflow_cast-result-3
overflow_cast-result-3 c =
    omega (arith, entry-flips c.args.n c.entry-entry.result c.requires (own _ _ _ c.remainder-left.ensures c.entry-entry.ensures))

pub returns : goal.returns
returns c = sym (header-entry c.args.n c.entry-entry.result c.requires (own _ _ _ c.remainder-left.ensures c.entry-entry.ensures))
