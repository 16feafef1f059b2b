use Rattle.std.proofs.Common.{ℕ, ◌≡◌, ◌+◌, ◌∷◌, take, subst, arith, length-set}
use Rattle.bits.proofs.Storing.{stored, agreed}
use Rattle.image.specs.Image.{image_of}
use Rattle.image.proofs.Laws.{image-length}
use Rattle.image.proofs.Gathering.{first-four, next-byte, last_byte}
use Rattle.image.proofs.put.Goals as goal

pub loop-j-init : goal.loop-j-init
loop-j-init c = (
  simp length-set c.requires.out_len,
  first-four c.args.header c.args.kind c.args.useful.now c.requires.header_bound c.ranges.kind.fits (λ k. (c.type_inv.useful k).fits)
      c.requires.useful_len c.args.out.now c.requires.out_len,
)

pub loop-j-preserved : goal.loop-j-preserved
loop-j-preserved c =
    let h = c.args.header in
    let t = c.args.kind in
    let u = c.args.useful.now in
    let at = c.loop-j in
    let long = image-length h (t ∷ u) in (
      simp length-set at.invariant.0,
      stored at.out (image_of h (t ∷ u)) (at.j + 4) (at.j + 1 + 4) _ at.invariant.1 (omega arith) (omega arith) (omega arith)
          (next-byte h t u c.requires.header_bound c.ranges.kind.fits (λ k. (c.type_inv.useful k).fits) c.requires.useful_len at.j (omega arith)),
    )

pub returns : goal.returns
returns c =
    let h = c.args.header in
    let t = c.args.kind in
    let u = c.args.useful.now in
    let at = c.loop-j in
    let I = image_of h (t ∷ u) in
    let long = image-length h (t ∷ u) in
    let end : at.j + 4 ≡ 93 = omega arith in
    let front : take 93 at.out ≡ take 93 I = subst (λ (n : ℕ). take n at.out ≡ take n I) end at.invariant.1 in
    let last = last_byte h t u c.requires.header_bound c.ranges.kind.fits (λ k. (c.type_inv.useful k).fits) c.requires.useful_len in
    agreed _ I 94 94 (stored at.out I 93 94 _ front (omega arith) (omega arith) (omega arith) last)
    (simp length-set at.invariant.0) long (omega arith)
