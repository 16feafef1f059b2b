-- `bare::damaged`: information and flips of the first 23 bits by the entry of their remainder, and the parity bit's flip by the parity of all.
use mathlib.Core.Path.{◌≡◌, ap, ◌∙◌}
use Prim.Native.Nat.{ℕ, ◌%◌, ◌^◌}
use native.Mathlib.Omega.{arith}
use lib.ListN.{get_or}
use Rattle.golay.specs.Code.{remainder}
use Rattle.golay.proofs.Division.{remainder-small}
use Rattle.golay.proofs.Fours.{entry_of}
use Rattle.golay.proofs.Rule.{patterns}
use Rattle.bare.proofs.Entries.{near-lt, judged-entry}
use Rattle.bare.proofs.damaged.Goals as goal

-- the entry is that of the remainder; what is made of it is small
own : (n r e : ℕ) → r ≡ remainder (n % 2 ^ 23) → e ≡ entry_of (get_or patterns r 0) → e ≡ entry_of (get_or patterns (remainder (n % 2 ^ 23)) 0)
own n r e p q = q ∙ ap (λ (x : ℕ). entry_of (get_or patterns x 0)) p

pub entry-requires : goal.entry-requires
entry-requires c = omega (arith, c.requires.r_value, remainder-small (c.args.n % 2 ^ 23) (omega arith))

pub overflow_add-result : goal.overflow_add-result
overflow_add-result c =
    omega (arith, near-lt c.args.n c.entry.result c.requires.n_bound (own _ _ _ c.requires.r_value c.entry.ensures))

pub returns : goal.returns
returns c = judged-entry c.args.n c.entry.result c.requires.n_bound (own _ _ _ c.requires.r_value c.entry.ensures)
