-- The bare calls case by case: what each definition of specs/Bare.antt comes to where a row holds and where none does.
--
--   header-large, header-small, header-word    33; read as the nearest word
--   header-few, header-clean                   its flips: at most three; none where nothing is left
--   within-33, within-48, within-49, within-0  the reader with a setting; within-three: at 3 it is the reader without one
--   header-address, header-index, header-written
--   word-large, word_none, word-near, word-clean, near-small, judged-clean, judged-by
--   word-much, word-written
--
-- Assumes nothing.
use mathlib.Core.Path.{◌≡◌, refl, sym, ap, ◌∙◌, subst}
use mathlib.Core.List.{[], ◌∷◌}
use Prim.Native.Nat.{ℕ, ◌+◌, ◌*◌, ◌/◌, ◌%◌, ◌^◌, ◌≤◌, ◌<◌}
use native.Mathlib.Omega.{arith}
use borrow.Author.Tests.{le-leb, lt-leb, lt-ltb, le-ltb}
use lib.Bits.{bit_xor, xor_comm}
use lib.Count.{ones}
use lib.Dec.{leb, ltb}
use Rattle.bits.specs.Bits.{flips}
use Rattle.bits.specs.Rows.{row, refusal, given}
use Rattle.bits.proofs.Flips.{flips-same}
use Rattle.bits.proofs.Rows.{refusal-hit, refusal-miss}
use Rattle.bare.specs.Bare.{header_read, most_flips, header_within, header_refused, header_written, word_read, word_written, Judged}
use Rattle.golay.specs.Code.{remainder, word23, word24, check, nearest}
use Rattle.bare.specs.Bare.{HeaderAnswer}
use Rattle.bare.specs.Bare.{WordAnswer}
use Rattle.bare.specs.Bare.{Written}
use native.Mathlib.Decide.{dec_lt}
use Rattle.golay.proofs.Nearest.{nearest-near}
use Rattle.golay.proofs.Reading.{clean-word, clean-nearest, nearest23-lt, nearest24-is, nearest24-none}
use Rattle.golay.proofs.Words.{word23-first}

-- ---- headers

unfoldable pub header_as : ℕ → ℕ → ℕ → HeaderAnswer
header_as answer i n = record {
  number = answer;
  address = given answer (i % 1024);
  index = given answer (i / 1024);
  flips = given answer (flips (word23 i) n);
}

header-answer : (n k : ℕ) → refusal (row (leb (2 ^ 23) n) 33 ∷ []) ≡ k → header_read n ≡ header_as k (nearest word23 n) n
unfolding header_read header_as
header-answer n k e = ap (λ (x : ℕ). header_as x (nearest word23 n) n) e

pub header-large : (n : ℕ) → 2 ^ 23 ≤ n → header_read n ≡ record { number = 33; address = 0; index = 0; flips = 0 }
unfolding header_as given
header-large n h = header-answer n 33 (refusal-hit (leb (2 ^ 23) n) 33 [] (le-leb (2 ^ 23) n h))

-- below it the answer is 0, and the values are those of the nearest word
pub header-small : (n : ℕ) → n < 2 ^ 23 → header_read n ≡ header_as 0 (nearest word23 n) n
unfolding refusal
header-small n h = header-answer n 0 (refusal-miss (leb (2 ^ 23) n) 33 [] (lt-leb (2 ^ 23) n h))

-- the values from the nearest word itself
pub header-word : (n w : ℕ) → n < 2 ^ 23 → w ≡ word23 (nearest word23 n)
    → header_read n ≡ record { number = 0; address = w % 1024; index = w / 1024 % 4; flips = ones (bit_xor n w) }
unfolding header_as given flips
header-word n w h e =
    header-small n h ∙ (λ i. record { number = 0; address = address i; index = index i; flips = turned i })
  where
    information : nearest word23 n ≡ w % 2 ^ 12
    information = sym (ap (λ (x : ℕ). x % 2 ^ 12) e ∙ word23-first (nearest word23 n) (nearest23-lt n h))

    address : nearest word23 n % 1024 ≡ w % 1024
    address = omega (arith, information)

    index : nearest word23 n / 1024 ≡ w / 1024 % 4
    index = omega (arith, information)

    turned : ones (bit_xor (word23 (nearest word23 n)) n) ≡ ones (bit_xor n w)
    turned = ap (λ (x : ℕ). ones (bit_xor x n)) (sym e) ∙ ap ones (xor_comm w n)

-- ---- headers with a setting

abbrev flips_read : ℕ → ℕ
flips_read n = flips (word23 (nearest word23 n)) n

abbrev within_rows : ℕ → ℕ → ℕ
within_rows n most = refusal (row (leb (2 ^ 23) n) 33 ∷ row (ltb most_flips most) 48 ∷ row (ltb most (flips_read n)) 49 ∷ [])

within-answer : (n most k : ℕ) → within_rows n most ≡ k → header_within n most ≡ header_as k (nearest word23 n) n
unfolding header_within header_as
within-answer n most k e = ap (λ (x : ℕ). header_as x (nearest word23 n) n) e

pub within-33 : (n most : ℕ) → 2 ^ 23 ≤ n → header_within n most ≡ header_refused 33
unfolding header_as given
within-33 n most h = within-answer n most 33 (refusal-hit (leb (2 ^ 23) n) 33 _ (le-leb (2 ^ 23) n h))

pub header-flips : (n : ℕ) → n < 2 ^ 23 → (header_read n).flips ≡ flips (word23 (nearest word23 n)) n
unfolding header_as given
header-flips n h = ap (λ (x : HeaderAnswer). x.flips) (header-small n h)

-- a header of 23 bits lies within three flips of its word
pub header-few : (n : ℕ) → n < 2 ^ 23 → (header_read n).flips ≤ most_flips
header-few n h = omega (arith, header-flips n h, nearest-near word23 n (nearest23-lt n h))

-- what leaves no remainder has none
pub header-clean : (n : ℕ) → n < 2 ^ 23 → remainder n ≡ 0 → (header_read n).flips ≡ 0
header-clean n h e = header-flips n h ∙ ap (λ (x : ℕ). flips x n) (sym (clean-nearest n e)) ∙ flips-same n

module _ (n most : ℕ) (h : n < 2 ^ 23) where
  past-33 : within_rows n most ≡ refusal (row (ltb most_flips most) 48 ∷ row (ltb most (flips_read n)) 49 ∷ [])
  past-33 = refusal-miss (leb (2 ^ 23) n) 33 _ (lt-leb (2 ^ 23) n h)

  pub within-48 : most_flips < most → header_within n most ≡ header_refused 48
  unfolding header_as given
  within-48 l = within-answer n most 48 (past-33 ∙ refusal-hit (ltb most_flips most) 48 _ (lt-ltb most_flips most l))

  module _ (l : most ≤ most_flips) where
    past-48 : within_rows n most ≡ refusal (row (ltb most (flips_read n)) 49 ∷ [])
    past-48 = past-33 ∙ refusal-miss (ltb most_flips most) 48 _ (le-ltb most_flips most l)

    pub within-49 : most < (header_read n).flips → header_within n most ≡ header_refused 49
    unfolding header_as given
    within-49 f =
        within-answer n most 49
        (past-48 ∙ refusal-hit (ltb most (flips_read n)) 49 [] (lt-ltb most (flips_read n) (subst (λ (x : ℕ). most < x) (header-flips n h) f)))

    pub within-0 : (header_read n).flips ≤ most → header_within n most ≡ header_read n
    unfolding refusal
    within-0 f =
        within-answer n most 0
        (past-48 ∙ refusal-miss (ltb most (flips_read n)) 49 [] (le-ltb most (flips_read n) (subst (λ (x : ℕ). x ≤ most) (header-flips n h) f)))
        ∙ sym (header-small n h)

-- the reader without a setting is the reader at 3: 49 cannot occur there
pub within-three : (n : ℕ) → header_within n most_flips ≡ header_read n
within-three n = go (dec_lt n (2 ^ 23))
  where
    go : Dec (n < 2 ^ 23) → header_within n most_flips ≡ header_read n
    go (yes h) = within-0 n most_flips h (omega arith) (header-few n h)
    go (no h) = within-33 n most_flips (omega (arith, h)) ∙ sym (header-large n (omega (arith, h)))

written_as : ℕ → ℕ → Written
written_as answer v = record { number = answer; value = given answer v }

header-written-answer : (a i k : ℕ) → refusal (row (ltb 1023 a) 33 ∷ row (ltb 3 i) 33 ∷ []) ≡ k
    → header_written a i ≡ record { number = k; value = given k (word23 (a + 1024 * i)) }
unfolding header_written written_as
header-written-answer a i k e = ap (λ (x : ℕ). written_as x (word23 (a + 1024 * i))) e

pub header-address : (a i : ℕ) → 1023 < a → header_written a i ≡ record { number = 33; value = 0 }
unfolding given
header-address a i h = header-written-answer a i 33 (refusal-hit (ltb 1023 a) 33 _ (lt-ltb 1023 a h))

pub header-index : (a i : ℕ) → a ≤ 1023 → 3 < i → header_written a i ≡ record { number = 33; value = 0 }
unfolding given
header-index a i h l =
    header-written-answer a i 33
    (refusal-miss (ltb 1023 a) 33 (row (ltb 3 i) 33 ∷ []) (le-ltb 1023 a h) ∙ refusal-hit (ltb 3 i) 33 [] (lt-ltb 3 i l))

pub header-written : (a i : ℕ) → a ≤ 1023 → i ≤ 3 → header_written a i ≡ record { number = 0; value = word23 (a + 1024 * i) }
unfolding given refusal
header-written a i h l =
    header-written-answer a i 0
    (refusal-miss (ltb 1023 a) 33 (row (ltb 3 i) 33 ∷ []) (le-ltb 1023 a h) ∙ refusal-miss (ltb 3 i) 33 [] (le-ltb 3 i l))

-- ---- words

word_as : ℕ → ℕ → ℕ → WordAnswer
word_as answer i n = record { number = answer; information = given answer i; flips = given answer (flips (word24 i) n) }

abbrev word_rows : ℕ → ℕ → ℕ
word_rows n i = refusal (row (leb (2 ^ 24) n) 33 ∷ row (leb 4096 i) 31 ∷ [])

word-answer : (n i k : ℕ) → nearest word24 n ≡ i → word_rows n i ≡ k
    → word_read n ≡ record { number = k; information = given k i; flips = given k (flips (word24 i) n) }
unfolding word_read word_as
word-answer n i k p e = ap (λ (x : ℕ). word_as (word_rows n x) x n) p ∙ ap (λ (x : ℕ). word_as x i n) e

pub word-large : (n : ℕ) → 2 ^ 24 ≤ n → word_read n ≡ record { number = 33; information = 0; flips = 0 }
unfolding given
word-large n h = word-answer n (nearest word24 n) 33 refl (refusal-hit (leb (2 ^ 24) n) 33 _ (le-leb (2 ^ 24) n h))

pub word_none : (n : ℕ) → n < 2 ^ 24 → nearest word24 n ≡ 4096 → word_read n ≡ record { number = 31; information = 0; flips = 0 }
unfolding given refusal
word_none n h e = word-answer n 4096 31 e (refusal-miss (leb (2 ^ 24) n) 33 (row (leb 4096 4096) 31 ∷ []) (lt-leb (2 ^ 24) n h))

pub word-near : (n i : ℕ) → n < 2 ^ 24 → i < 4096 → flips (word24 i) n ≤ 3
    → word_read n ≡ record { number = 0; information = i; flips = flips (word24 i) n }
unfolding given refusal
word-near n i h l f =
    word-answer n i 0 (nearest24-is n i l f)
    (refusal-miss (leb (2 ^ 24) n) 33 (row (leb 4096 i) 31 ∷ []) (lt-leb (2 ^ 24) n h) ∙ refusal-miss (leb 4096 i) 31 [] (lt-leb 4096 i l))

-- the check bits of its information: a word
pub word-clean : (n : ℕ) → n < 2 ^ 24 → check (n % 4096) ≡ n / 4096 → word_read n ≡ record { number = 0; information = n % 4096; flips = 0 }
word-clean n h e =
    word-near n (n % 4096) h (omega arith) (omega (arith, none))
    ∙ (λ j. record { number = 0; information = n % 4096; flips = none j })
  where
    none : flips (word24 (n % 4096)) n ≡ 0
    none = ap (λ (x : ℕ). flips x n) (clean-word n e) ∙ flips-same n

-- information and flips as one number, and apart again
judged-parts : (n i f : ℕ) → i < 4096 → (f ≤ 3 → word_read n ≡ record { number = 0; information = i; flips = f })
    → (3 < f → word_read n ≡ record { number = 31; information = 0; flips = 0 }) → Judged n (i + f * 4096)
judged-parts n i f small few many = record {
  read = λ l. few (omega arith) ∙ (λ j. record { number = 0; information = sym low j; flips = sym high j });
  unread = λ l. many (omega arith);
}
  where
    low : (i + f * 4096) % 4096 ≡ i
    low = omega arith

    high : (i + f * 4096) / 4096 ≡ f
    high = omega arith

-- a number with the check bits of its information is read as it stands
pub judged-clean : (n : ℕ) → n < 2 ^ 24 → check (n % 4096) ≡ n / 4096 → Judged n (n % 4096)
judged-clean n h e = record {
  read = λ l. word-clean n h e ∙ (λ j. record { number = 0; information = sym low j; flips = sym high j });
  unread = λ l. absurd (omega arith);
}
  where
    low : n % 4096 % 4096 ≡ n % 4096
    low = omega arith

    high : n % 4096 / 4096 ≡ 0
    high = omega arith

-- by the information nearest to the first 23 bits: its word of 24, if that lies within three flips, and otherwise none
module _ (n i word : ℕ) (h : n < 2 ^ 24) (e : i ≡ nearest word23 (n % 2 ^ 23)) (w : word ≡ word24 i) where
  pub near-small : i < 4096
  near-small = subst (λ (x : ℕ). x < 4096) (sym e) (nearest23-lt (n % 2 ^ 23) (omega arith))

  turned : ones (bit_xor n word) ≡ flips (word24 i) n
  unfolding flips
  turned = ap ones (xor_comm n word) ∙ ap (λ (x : ℕ). ones (bit_xor x n)) w

  word-far : 3 < ones (bit_xor n word) → word_read n ≡ record { number = 31; information = 0; flips = 0 }
  word-far f =
      word_none n h (nearest24-none n (subst (λ (k : ℕ). 3 < flips (word24 k) n) e (subst (λ (x : ℕ). 3 < x) turned f)))

  word-by : ones (bit_xor n word) ≤ 3 → word_read n ≡ record { number = 0; information = i; flips = ones (bit_xor n word) }
  word-by f =
      word-near n i h near-small (subst (λ (x : ℕ). x ≤ 3) turned f)
      ∙ (λ j. record { number = 0; information = i; flips = sym turned j })

  pub judged-by : Judged n (i + ones (bit_xor n word) * 4096)
  judged-by = judged-parts n i (ones (bit_xor n word)) near-small word-by word-far

word-written-answer : (i k : ℕ) → refusal (row (leb 4096 i) 33 ∷ []) ≡ k → word_written i ≡ record { number = k; value = given k (word24 i) }
unfolding word_written written_as
word-written-answer i k e = ap (λ (x : ℕ). written_as x (word24 i)) e

pub word-much : (i : ℕ) → 4096 ≤ i → word_written i ≡ record { number = 33; value = 0 }
unfolding given
word-much i h = word-written-answer i 33 (refusal-hit (leb 4096 i) 33 [] (le-leb 4096 i h))

pub word-written : (i : ℕ) → i < 4096 → word_written i ≡ record { number = 0; value = word24 i }
unfolding given refusal
word-written i h = word-written-answer i 0 (refusal-miss (leb 4096 i) 33 [] (lt-leb 4096 i h))
