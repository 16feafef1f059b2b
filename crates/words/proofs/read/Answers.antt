use Rattle.std.proofs.Common.{ℕ, ◌≡◌, ◌+◌, ◌%◌, ◌<◌, ◌^◌, get_or, sym, subst, ◌∙◌, add-one, arith, length, length-set}
use Rattle.std.proofs.lemmas.List.{length-map}
use Rattle.bits.specs.Bits.{blank}
use Rattle.bits.proofs.Storing.{stored, agreed, get_d_map}
use Rattle.golay.specs.Code.{word24, nearest}
use Rattle.words.specs.Protected.{words_of, informations as informations_of}
use Rattle.words.proofs.Packing.{words-length, words-below}
use Rattle.words.proofs.Each.{words-short, words-whole, one-read, one-unread, Reached, reached-more, reached-stop, reached-end}
use Rattle.words.proofs.read.Goals as goal

pub judged-one-requires : goal.judged-one-requires
judged-one-requires c = subst (λ (x : ℕ). x < 2 ^ 24) (sym c.word.ensures) (words-below c.args.useful.now c.loop-w.w)

pub returns-then-turned-gt-CORRECTED-clause-value : goal.returns-then-turned-gt-CORRECTED-clause-value
unfolding blank
returns-then-turned-gt-CORRECTED-clause-value c =
    let s = c.args.useful.now in
    let w = c.loop-w.w in
    let l : w < 30 = c.loop-w-test.true in
    let stop = one-unread c.word.result (get_or (words_of s) w 0) c.judged-one.result (words-below s w) c.word.ensures c.judged-one.ensures c.if-turned-gt-CORRECTED.true in
    sym (words-short (words_of s) w (reached-stop (words_of s) w c.loop-w.flips (omega (arith, words-length s, l)) c.loop-w.invariant.2 stop) l)

pub loop-w-preserved : goal.loop-w-preserved
unfolding informations_of
loop-w-preserved c =
    let s = c.args.useful.now in
    let ns = words_of s in
    let at = c.loop-w in
    let w = at.w in
    let v = c.judged-one.result in
    let l : w < length ns = omega (arith, words-length s, c.loop-w-test.true) in
    let r = one-read c.word.result (get_or ns w 0) v (words-below s w) c.word.ensures c.judged-one.ensures c.if-turned-gt-CORRECTED.false in (
      simp length-set at.invariant.0,
      stored at.informations (informations_of ns) w (w + 1) (v % 4096) at.invariant.1
          (omega (arith, at.invariant.0, c.loop-w-test.true)) (omega (arith, l, length-map ns (nearest word24))) (add-one w)
          (r.information ∙ sym (get_d_map (nearest word24) ns w l)),
      subst (λ (x : ℕ). Reached ns (w + 1) (at.flips + x)) (sym r.flipped)
          (reached-more ns w at.flips l at.invariant.2 r.near (omega (arith, r.few, r.flipped))),
    )

pub returns-clause-value : goal.returns-clause-value
unfolding informations_of
returns-clause-value c =
    let s = c.args.useful.now in
    let ns = words_of s in
    let at = c.loop-w in
    let end : at.w ≡ length ns = omega (arith, words-length s) in
    let last = reached-end ns at.flips (subst (λ (x : ℕ). Reached ns x at.flips) end at.invariant.2) in
    let same = agreed at.informations (informations_of ns) 30 at.w at.invariant.1 at.invariant.0 (length-map ns (nearest word24) ∙ words-length s) (omega (arith, end, words-length s)) in
    (λ i. record { place = 30; flips = sym last.1 i; informations = same i }) ∙ sym (words-whole ns (last.0 ∙ words-length s))
