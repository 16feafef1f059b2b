-- What the codes promise, stated of the definitions that the contracts cite.
--
--   header-exactly    each number of 23 bits lies within three flips of exactly one word, and is read as it
--   header-flipped    a written header with at most three flips is read as it was written, with the number of flips
--   within-exactly    the reader with a setting: accepted exactly if that word lies within the setting, and read as it
--   within-flipped, within-beyond    a written header with no more flips than the setting, and with more
--   word-exactly      a number of 24 bits is accepted exactly if a word lies within three flips, and is read as it
--   word-flipped      a written word with at most three flips is read as it was written, with the number of flips
--   word-four         with four it is refused
--   header-back, word_back    reading what was written gives it back
--
-- Assumes nothing.
use mathlib.Core.Path.{◌≡◌, refl, sym, ap, ◌∙◌, subst}
use Prim.Native.Nat.{ℕ, ◌+◌, ◌*◌, ◌/◌, ◌%◌, ◌^◌, ◌≤◌, ◌<◌}
use native.Mathlib.Omega.{arith}
use native.Mathlib.Decide.{dec_lt}
use lib.Bits.{bit_xor, xor_lt, xor_zero_r}
use lib.Count.{ones}
use mathlib.Core.Logic.{◌↔◌}
use Rattle.bits.specs.Bits.{flips}
use Rattle.bits.specs.Rows.{given}
use Rattle.bits.proofs.Flips.{flips-of, ones-zero}
use Rattle.bare.specs.Bare.{header_read, most_flips, header_within, header_refused, header_written, word_read, word_written}
use Rattle.golay.specs.Code.{word23, word24, nearest}
use Rattle.bare.specs.Bare.{HeaderAnswer}
use Rattle.bare.specs.Bare.{WordAnswer}
use Rattle.bare.specs.Bare.{Written}
use Rattle.bare.proofs.Bare.{header_as, header-small, header-flips, within-49, within-0, header-written, word-near, word_none, word-written}
use Rattle.golay.proofs.Nearest.{nearest-near, nearest-le, nearest-one, nearest-read, nearest-far}
use Rattle.golay.proofs.Reading.{nearest23-lt}
use Rattle.golay.proofs.Words.{word23-apart, word23-lt, word24-apart, word24-lt}

-- ---- 23 bits

-- the one word that a number of 23 bits is read as
pub record ReadAs (n i : ℕ) : Type 0 where
  pub information : i < 4096
  pub near : flips (word23 i) n ≤ 3
  pub only : (j : ℕ) → j < 4096 → flips (word23 j) n ≤ 3 → j ≡ i
  pub reads : header_read n ≡ record { number = 0; address = i % 1024; index = i / 1024; flips = flips (word23 i) n }

pub header-reads : (n i : ℕ) → n < 2 ^ 23 → nearest word23 n ≡ i
    → header_read n ≡ record { number = 0; address = i % 1024; index = i / 1024; flips = flips (word23 i) n }
unfolding header_as given
header-reads n i h e = header-small n h ∙ ap (λ (x : ℕ). header_as 0 x n) e

pub header-exactly : (n : ℕ) → n < 2 ^ 23 → ReadAs n (nearest word23 n)
header-exactly n h =
    let l = nearest23-lt n h in
    let f = nearest-near word23 n l in
    record {
      information = l;
      near = f;
      only = λ j hj fj. nearest-one word23 word23-apart n j (nearest word23 n) hj l fj f;
      reads = header-reads n (nearest word23 n) h refl;
    }

pub header-flipped : (a i e : ℕ) → a ≤ 1023 → i ≤ 3 → e < 2 ^ 23 → ones e ≤ 3
    → header_read (bit_xor (header_written a i).value e) ≡ record { number = 0; address = a; index = i; flips = ones e }
header-flipped a i e ha hi he few =
    ap (λ (w : Written). header_read (bit_xor w.value e)) (header-written a i ha hi)
    ∙ header-reads (bit_xor (word23 (a + 1024 * i)) e) (a + 1024 * i)
    (xor_lt 23 (word23 (a + 1024 * i)) e (word23-lt (a + 1024 * i) (omega arith)) he)
    (nearest-read word23 word23-apart (a + 1024 * i) e (omega arith) few)
    ∙ (λ j. record { number = 0; address = address j; index = index j; flips = flips-of (word23 (a + 1024 * i)) e j })
  where
    address : (a + 1024 * i) % 1024 ≡ a
    address = omega arith

    index : (a + 1024 * i) / 1024 ≡ i
    index = omega arith

pub header-back : (a i : ℕ) → a ≤ 1023 → i ≤ 3
    → header_read (header_written a i).value ≡ record { number = 0; address = a; index = i; flips = 0 }
header-back a i ha hi =
    ap header_read (sym (xor_zero_r (header_written a i).value))
    ∙ header-flipped a i 0 ha hi (omega arith) (omega (arith, ones-zero))
    ∙ (λ j. record { number = 0; address = a; index = i; flips = ones-zero j })

-- ---- 23 bits with a setting

pub record ReadWithin (n most i : ℕ) : Type 0 where
  pub word : ReadAs n i
  pub accepted : ((header_within n most).number ≡ 0) ↔ (flips (word23 i) n ≤ most)
  pub reads : flips (word23 i) n ≤ most → header_within n most ≡ header_read n
  pub refuses : most < flips (word23 i) n → header_within n most ≡ header_refused 49

pub within-exactly : (n most : ℕ) → n < 2 ^ 23 → most ≤ most_flips → ReadWithin n most (nearest word23 n)
within-exactly n most h l = record {
  word = header-exactly n h;
  accepted = (λ e. go e (dec_lt most (flips (word23 (nearest word23 n)) n)), λ f. ap (λ (x : HeaderAnswer). x.number) (near f) ∙ zero);
  reads = near;
  refuses = far;
}
  where
    same : (header_read n).flips ≡ flips (word23 (nearest word23 n)) n
    same = header-flips n h

    near : flips (word23 (nearest word23 n)) n ≤ most → header_within n most ≡ header_read n
    near f = within-0 n most h l (subst (λ (x : ℕ). x ≤ most) (sym same) f)

    far : most < flips (word23 (nearest word23 n)) n → header_within n most ≡ header_refused 49
    far f = within-49 n most h l (subst (λ (x : ℕ). most < x) (sym same) f)

    zero : (header_read n).number ≡ 0
    zero = ap (λ (x : HeaderAnswer). x.number) (header-exactly n h).reads

    go : (header_within n most).number ≡ 0 → Dec (most < flips (word23 (nearest word23 n)) n) → flips (word23 (nearest word23 n)) n ≤ most
    go e (yes f) = absurd (omega (arith, e, ap (λ (x : HeaderAnswer). x.number) (far f)))
    go e (no f) = omega (arith, f)

-- a written header with at most three flips, at a setting
module _ (a i e most : ℕ) (ha : a ≤ 1023) (hi : i ≤ 3) (he : e < 2 ^ 23) (few : ones e ≤ 3) (l : most ≤ most_flips) where
  flipped : ℕ
  flipped = bit_xor (header_written a i).value e

  small : flipped < 2 ^ 23
  unfolding flipped
  small = xor_lt 23 (header_written a i).value e
      (subst (λ (w : Written). w.value < 2 ^ 23) (sym (header-written a i ha hi)) (word23-lt (a + 1024 * i) (omega arith))) he

  turned : (header_read flipped).flips ≡ ones e
  unfolding flipped
  turned = ap (λ (x : HeaderAnswer). x.flips) (header-flipped a i e ha hi he few)

  pub within-flipped : ones e ≤ most
      → header_within (bit_xor (header_written a i).value e) most ≡ record { number = 0; address = a; index = i; flips = ones e }
  unfolding flipped
  within-flipped f =
      within-0 flipped most small l (subst (λ (x : ℕ). x ≤ most) (sym turned) f) ∙ header-flipped a i e ha hi he few

  pub within-beyond : most < ones e → header_within (bit_xor (header_written a i).value e) most ≡ header_refused 49
  unfolding flipped
  within-beyond f = within-49 flipped most small l (subst (λ (x : ℕ). most < x) (sym turned) f)

-- ---- 24 bits

pub eight-seven : (i j : ℕ) → i < 4096 → j < 4096 → (i ≡ j → ⊥) → 7 ≤ flips (word24 i) (word24 j)
eight-seven i j hi hj ne = omega (arith, word24-apart i j hi hj ne)

-- a word lies within three flips of n
pub record Near (n i : ℕ) : Type 0 where
  pub information : i < 4096
  pub near : flips (word24 i) n ≤ 3

-- and it is the one that n is read as
pub word_read_lem : (n i : ℕ) → n < 2 ^ 24 → Near n i
    → word_read n ≡ record { number = 0; information = i; flips = flips (word24 i) n }
word_read_lem n i h near = word-near n i h near.information near.near

-- there are two cases, told by the number
pub word-readable : (n : ℕ) → n < 2 ^ 24 → (word_read n).number ≡ 0
    → (nearest word24 n < 4096) × (word_read n ≡ record { number = 0; information = nearest word24 n; flips = flips (word24 (nearest word24 n)) n })
word-readable n h e = go (dec_lt (nearest word24 n) 4096)
  where
    go : Dec (nearest word24 n < 4096)
        → (nearest word24 n < 4096) × (word_read n ≡ record { number = 0; information = nearest word24 n; flips = flips (word24 (nearest word24 n)) n })
    go (yes l) = (l, word-near n (nearest word24 n) h l (nearest-near word24 n l))
    go (no l) = absurd (omega (arith, e, ap (λ (w : WordAnswer). w.number) (word_none n h (omega (arith, nearest-le word24 n)))))

pub word-unreadable : (n : ℕ) → n < 2 ^ 24 → ((word_read n).number ≡ 0 → ⊥) → nearest word24 n ≡ 4096
word-unreadable n h e = go (dec_lt (nearest word24 n) 4096)
  where
    go : Dec (nearest word24 n < 4096) → nearest word24 n ≡ 4096
    go (yes l) = absurd (e (ap (λ (w : WordAnswer). w.number) (word-near n (nearest word24 n) h l (nearest-near word24 n l))))
    go (no l) = omega (arith, nearest-le word24 n)

pub word-exactly : (n : ℕ) → n < 2 ^ 24 → ((word_read n).number ≡ 0) ↔ ((i : ℕ) × Near n i)
word-exactly n h = (
  λ e. let l = (word-readable n h e).0 in (nearest word24 n, record { information = l; near = nearest-near word24 n l }),
  λ near. ap (λ (w : WordAnswer). w.number) (word_read_lem n near.0 h near.1),
)

pub word-flipped : (i e : ℕ) → i < 4096 → e < 2 ^ 24 → ones e ≤ 3
    → word_read (bit_xor (word_written i).value e) ≡ record { number = 0; information = i; flips = ones e }
word-flipped i e h he few =
    ap (λ (w : Written). word_read (bit_xor w.value e)) (word-written i h)
    ∙ word-near (bit_xor (word24 i) e) i (xor_lt 24 (word24 i) e (word24-lt i h) he) h (omega (arith, flips-of (word24 i) e))
    ∙ (λ j. record { number = 0; information = i; flips = flips-of (word24 i) e j })

pub word-four : (i e : ℕ) → i < 4096 → e < 2 ^ 24 → ones e ≡ 4
    → word_read (bit_xor (word_written i).value e) ≡ record { number = 31; information = 0; flips = 0 }
word-four i e h he four =
    ap (λ (w : Written). word_read (bit_xor w.value e)) (word-written i h)
    ∙ word_none (bit_xor (word24 i) e) (xor_lt 24 (word24 i) e (word24-lt i h) he)
    (nearest-far word24 eight-seven word24-apart (bit_xor (word24 i) e) i h (flips-of (word24 i) e ∙ four))

pub word_back : (i : ℕ) → i < 4096 → word_read (word_written i).value ≡ record { number = 0; information = i; flips = 0 }
word_back i h =
    ap word_read (sym (xor_zero_r (word_written i).value))
    ∙ word-flipped i 0 h (omega arith) (omega (arith, ones-zero))
    ∙ (λ j. record { number = 0; information = i; flips = ones-zero j })
