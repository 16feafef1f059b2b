-- The entries of both halves, added, are what the table's rule says of the whole information.
use mathlib.Core.Path.{◌≡◌, ap, ap₂, ◌∙◌}
use Prim.Native.Nat.{ℕ, ◌+◌, ◌/◌, ◌%◌}
use native.Mathlib.Omega.{arith}
use lib.Bits.{bit_xor}
use lib.ListN.{get_or}
use lib.Seq.{get_or-drop}
use Rattle.golay.proofs.Adding.{checks, checks-right}
use Rattle.lookup.proofs.check.Goals as goal

pub returns : goal.returns
returns c =
    let i = c.args.i in
    let place : 64 + i / 64 % 64 ≡ i / 64 + 64 = omega (arith, c.requires) in
    ap₂ bit_xor c.low.ensures (c.high.ensures ∙ get_or-drop 64 checks (i / 64 % 64) 0 ∙ ap (λ (k : ℕ). get_or checks k 0) place)
    ∙ checks-right.each i c.requires
