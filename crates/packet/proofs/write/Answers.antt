-- `packet::write`: the word of the header, then the image of it.
use mathlib.Core.Path.{sym, ap, ◌∙◌, subst}
use mathlib.Core.List.{◌∷◌}
use Prim.Native.Nat.{ℕ, ◌+◌, ◌*◌, ◌<◌, ◌^◌}
use native.Mathlib.Omega.{arith}
use Rattle.golay.proofs.Words.{word23-lt}
use Rattle.image.specs.Image.{image_of}
use Rattle.packet.specs.Received.{written}
use Rattle.packet.proofs.write.Goals as goal

pub put-requires-clause-header_bound : goal.put-requires-clause-header_bound
put-requires-clause-header_bound c =
    let small : c.args.address + 1024 * c.args.index < 4096 = omega (arith, c.requires.address_bound, c.requires.index_bound) in
    subst (λ (x : ℕ). x < 2 ^ 23) (sym c.header_word-header.ensures) (word23-lt _ small)

pub returns : goal.returns
unfolding written
returns c = c.put.ensures ∙ ap (λ (x : ℕ). image_of x (c.args.kind ∷ c.args.useful.now)) c.header_word-header.ensures
