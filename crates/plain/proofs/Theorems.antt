-- What is promised of the plain reader.
--
--   plain-is-table     for every number and every setting its whole answer is the table reader's
--   pattern-unique     why: of at most three flips only one pattern has a given remainder
--   plain-distance     where it accepts, the flips that it counts are the distance to the nearest word, which is the one that it reads
--   tried-exactly      a pattern is found exactly if there is one of so few flips that leaves a word: none is left out
--
-- Assumes nothing.
use mathlib.Core.Path.{◌≡◌, refl, sym, ap, ◌∙◌, subst}
use mathlib.Core.Logic.{◌↔◌}
use Prim.Native.Nat.{ℕ, suc, ◌+◌, ◌*◌, ◌/◌, ◌%◌, ◌^◌, ◌≤◌, ◌<◌}
use native.Mathlib.Omega.{arith}
use native.Mathlib.Decide.{dec_lt, dec_le}
use lib.Bits.{bit_xor, xor_comm, xor_lt}
use lib.Count.{ones}
use Rattle.bits.specs.Bits.{flips}
use Rattle.bits.proofs.Flips.{xor-cancel, xor-zero}
use Rattle.golay.specs.Code.{remainder, word23, nearest, Pattern}
use Rattle.golay.proofs.Division.{remainder-xor, multiple-remainder}
use Rattle.golay.proofs.Reading.{corrected-nearest, nearest23-lt}
use Rattle.golay.proofs.Words.{word23-lt, word23-multiple}
use Rattle.bare.specs.Bare.{header_read, most_flips, header_within}
use Rattle.bare.specs.Bare.{HeaderAnswer}
use Rattle.bare.proofs.Bare.{header-word, header-flips, within-33, within-48, within-49, within-0}
use Rattle.bare.proofs.Theorems.{header-exactly, within-exactly}
use Rattle.plain.specs.Plain.{trials, leaving, header_plain}
use Rattle.plain.proofs.Plain.{plain-33, plain-48, plain-49, plain-0}
use Rattle.plain.proofs.Trying.{none, Fewer, found, not_found, trials-small, trials-only, trials-all}

-- ---- what is tried

pub tried-exactly : (n f : ℕ) → (leaving n (trials f) < none) ↔ ((e : ℕ) × (Fewer f e × (remainder (bit_xor n e) ≡ 0)))
tried-exactly n f = (
  λ h. (leaving n (trials f), found (Fewer f) n (trials f) (trials-only f) h),
  λ x. trials-all n f x.0 x.1.0 x.1.1,
)

-- ---- the same as the table reader

module _ (n e : ℕ) where
  -- a pattern that leaves a word has the remainder of the number that it is flipped in
  own : remainder (bit_xor n e) ≡ 0 → remainder e ≡ remainder n
  own r = sym (xor-zero (remainder n) (remainder e) (sym (remainder-xor n e) ∙ r))

-- of at most three ones, and with a given remainder, there is only one
pub pattern-unique : (r d e : ℕ) → Pattern r d → Pattern r e → d ≡ e
pattern-unique r d e p q =
    sym (xor-cancel d d)
    ∙ ap (bit_xor d) (corrected-nearest d d p.bits (at p) ∙ sym (corrected-nearest d e p.bits (at q)))
    ∙ xor-cancel d e
  where
    at : {x : ℕ} → Pattern r x → Pattern (remainder d) x
    at {x} = subst (λ (s : ℕ). Pattern s x) (sym p.own)

module _ (n most : ℕ) (h : n < 2 ^ 23) (l : most ≤ most_flips) where
  abbrev e : ℕ
  e = leaving n (trials (suc most))

  -- a pattern is found: it is the one that the nearest word differs in
  module _ (f : e < none) where
    is : Fewer (suc most) e × (remainder (bit_xor n e) ≡ 0)
    is = found (Fewer (suc most)) n (trials (suc most)) (trials-only (suc most)) f

    word : bit_xor n e ≡ word23 (nearest word23 n)
    word = corrected-nearest n e h (record { bits = f; few = omega (arith, is.0.few); own = own n e is.1 })

    read : header_read n ≡ record { number = 0; address = bit_xor n e % 1024; index = bit_xor n e / 1024 % 4; flips = ones e }
    read =
        header-word n (bit_xor n e) h word
        ∙ (λ i. record { number = 0; address = bit_xor n e % 1024; index = bit_xor n e / 1024 % 4; flips = ones (xor-cancel n e i) })

    same-found : header_plain n most ≡ header_within n most
    same-found = plain-0 n most h l e refl f ∙ sym read ∙ sym (within-0 n most h l (omega (arith, ap (λ (x : HeaderAnswer). x.flips) read, is.0.few)))

  -- none is found: the nearest word lies beyond the setting, for otherwise what it differs in would have been tried
  module _ (f : e < none → ⊥) where
    near : ℕ
    near = word23 (nearest word23 n)

    differs : ones (bit_xor n near) ≡ (header_read n).flips
    unfolding flips near
    differs = ap ones (xor_comm n near) ∙ sym (header-flips n h)

    within : nearest word23 n < 4096
    within = nearest23-lt n h

    leaves : remainder (bit_xor n (bit_xor n near)) ≡ 0
    unfolding near
    leaves = ap remainder (xor-cancel n near) ∙ multiple-remainder near (word23-multiple (nearest word23 n) within)

    fits : bit_xor n near < none
    unfolding near
    fits = xor_lt 23 n near h (word23-lt (nearest word23 n) within)

    beyond : most < (header_read n).flips
    beyond = go (dec_lt most (header_read n).flips)
      where
        go : Dec (most < (header_read n).flips) → most < (header_read n).flips
        go (yes b) = b
        go (no b) = absurd (f (trials-all n (suc most) (bit_xor n near) (record { bits = fits; few = omega (arith, differs, b) }) leaves))

    same_none : header_plain n most ≡ header_within n most
    same_none =
        plain-49 n most h l (not_found n (trials (suc most)) (trials-small (suc most)) f) ∙ sym (within-49 n most h l beyond)

pub plain-is-table : (n most : ℕ) → header_plain n most ≡ header_within n most
plain-is-table n most = go (dec_lt n (2 ^ 23)) (dec_le most most_flips) (dec_lt (leaving n (trials (suc most))) none)
  where
    go : Dec (n < 2 ^ 23) → Dec (most ≤ most_flips) → Dec (leaving n (trials (suc most)) < none) → header_plain n most ≡ header_within n most
    go (no h) l f = plain-33 n most (omega (arith, h)) ∙ sym (within-33 n most (omega (arith, h)))
    go (yes h) (no l) f = plain-48 n most h (omega (arith, l)) ∙ sym (within-48 n most h (omega (arith, l)))
    go (yes h) (yes l) (yes f) = same-found n most h l f
    go (yes h) (yes l) (no f) = same_none n most h l f

-- ---- the distance

-- the word of i lies d flips from n, and no word lies nearer
pub record Distance (n d i : ℕ) : Type 0 where
  pub information : i < 4096
  pub reached : flips (word23 i) n ≡ d
  pub least : (j : ℕ) → j < 4096 → d ≤ flips (word23 j) n

nearest-least : (n : ℕ) → n < 2 ^ 23 → (j : ℕ) → j < 4096 → flips (word23 (nearest word23 n)) n ≤ flips (word23 j) n
nearest-least n h j hj = go (dec_le (flips (word23 j) n) 3)
  where
    go : Dec (flips (word23 j) n ≤ 3) → flips (word23 (nearest word23 n)) n ≤ flips (word23 j) n
    go (yes near) = omega (arith, ap (λ (i : ℕ). flips (word23 i) n) ((header-exactly n h).only j hj near))
    go (no far) = omega (arith, far, (header-exactly n h).near)

module _ (n most : ℕ) (h : n < 2 ^ 23) (l : most ≤ most_flips) (z : (header_within n most).number ≡ 0) where
  i : ℕ
  i = nearest word23 n

  reads : header_within n most ≡ record { number = 0; address = i % 1024; index = i / 1024; flips = flips (word23 i) n }
  unfolding i
  reads = (within-exactly n most h l).reads ((within-exactly n most h l).accepted.0 z) ∙ (header-exactly n h).reads

  within-distance : Distance n (header_within n most).flips ((header_within n most).address + 1024 * (header_within n most).index)
  unfolding i
  within-distance =
      subst (λ (x : HeaderAnswer). Distance n x.flips (x.address + 1024 * x.index)) (sym reads)
      (subst (Distance n (flips (word23 i) n)) whole
      (record { information = (header-exactly n h).information; reached = refl; least = nearest-least n h }))
    where
      whole : i ≡ i % 1024 + 1024 * (i / 1024)
      whole = omega arith

pub plain-distance : (n most : ℕ) → (header_plain n most).number ≡ 0
    → Distance n (header_plain n most).flips ((header_plain n most).address + 1024 * (header_plain n most).index)
plain-distance n most z =
    subst (λ (x : HeaderAnswer). Distance n x.flips (x.address + 1024 * x.index)) (sym (plain-is-table n most))
    (go (dec_lt n (2 ^ 23)) (dec_le most most_flips))
  where
    z' : (header_within n most).number ≡ 0
    z' = ap (λ (x : HeaderAnswer). x.number) (sym (plain-is-table n most)) ∙ z

    number : (x : HeaderAnswer) → header_within n most ≡ x → x.number ≡ 0
    number x e = ap (λ (y : HeaderAnswer). y.number) (sym e) ∙ z'

    go : Dec (n < 2 ^ 23) → Dec (most ≤ most_flips)
        → Distance n (header_within n most).flips ((header_within n most).address + 1024 * (header_within n most).index)
    go (yes h) (yes l) = within-distance n most h l z'
    go (no h) l = absurd (omega (arith, number _ (within-33 n most (omega (arith, h)))))
    go (yes h) (no l) = absurd (omega (arith, number _ (within-48 n most h (omega (arith, l)))))
