use Rattle.std.proofs.Common.{ℕ, List, map, sym, ap, subst, ◌∙◌}
use Rattle.bits.specs.Bits.{sent, numbers_in}
use Rattle.bits.proofs.Runs.{Below}
use Rattle.golay.specs.Code.{word24}
use Rattle.words.specs.Protected.{protected}
use Rattle.words.proofs.Packing.{segments-below}
use Rattle.words.proofs.protect.Goals as goal

pub coded-requires : goal.coded-requires
coded-requires c = subst (Below 4096) (sym c.segments.ensures) (segments-below c.args.bytes.now)

pub returns : goal.returns
unfolding protected
returns c = c.coded.ensures ∙ ap (λ (is : List ℕ). numbers_in 8 90 (sent 24 (map word24 is))) c.segments.ensures
