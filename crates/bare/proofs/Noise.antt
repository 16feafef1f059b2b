-- How often noise is read as a header: the counts of specs/Noise.antt, for all 2^23 numbers, without going through them.
--
--   corrected n        the flips that reading n corrects
--   readable-near      n is read at a setting exactly if these are no more
--   word-near          and as a word exactly if it lies within so many flips of it
--   word-counted       so each word is read from as many numbers as there are patterns of flips with so many ones at the most
--   readable-counted   there are 4,096 words,
--   read-as-counted    and four of each address
--   noise              the counts at the four settings
--
-- Assumes nothing.
use mathlib.Core.Path.{◌≡◌, refl, sym, ap, ap₂, ◌∙◌}
use mathlib.Core.Bool.{Bool, true, false, ◌&&◌, and_assoc}
use mathlib.Core.List.{[], ◌∷◌, map}
use Prim.Native.Nat.{ℕ, ◌+◌, ◌*◌, ◌/◌, ◌%◌, ◌^◌, ◌≤◌, ◌<◌}
use native.Mathlib.Omega.{arith}
use native.Mathlib.Decide.{dec_le}
use borrow.Author.Tests.{leb-true, eqb-true, le-leb, lt-leb, eq-eqb}
use lib.Dec.{leb, eqb}
use Rattle.bits.specs.Bits.{flips}
use Rattle.bits.proofs.Flips.{flips-of}
use Rattle.bits.proofs.Search.{and_left, and_right, same_truth}
use Rattle.golay.specs.Code.{word23, nearest}
use Rattle.golay.proofs.Nearest.{nearest-is}
use Rattle.golay.proofs.Reading.{nearest23-lt}
use Rattle.golay.proofs.Words.{word23-apart, word23-lt}
use Rattle.bare.specs.Bare.{header_within}
use Rattle.bare.specs.Bare.{HeaderAnswer}
use Rattle.bare.specs.Noise.{counted, readable, read_as, settings, Noise}
use Rattle.bare.proofs.Theorems.{within-exactly}
use Rattle.bare.proofs.Counting.{counted-agree, counted-xor, volume, counted-ones, counted-classes}

-- ---- what is read

-- how far off the nearest word is
unfoldable pub corrected : ℕ → ℕ
corrected n = flips (word23 (nearest word23 n)) n

module _ (n most : ℕ) (h : n < 2 ^ 23) (l : most ≤ 3) where
  number-near : corrected n ≤ most → (header_within n most).number ≡ 0
  unfolding corrected
  number-near = (within-exactly n most h l).accepted.1

  number-far : most < corrected n → (header_within n most).number ≡ 49
  unfolding corrected
  number-far f = ap (λ (x : HeaderAnswer). x.number) ((within-exactly n most h l).refuses f)

  address-near : corrected n ≤ most → (header_within n most).address ≡ nearest word23 n % 1024
  unfolding corrected
  address-near f = let e = within-exactly n most h l in ap (λ (x : HeaderAnswer). x.address) (e.reads f ∙ e.word.reads)

  pub readable-near : readable most n ≡ leb (corrected n) most
  unfolding readable
  readable-near = go (dec_le (corrected n) most)
    where
      go : Dec (corrected n ≤ most) → eqb (header_within n most).number 0 ≡ leb (corrected n) most
      go (yes f) = eq-eqb _ 0 (number-near f) ∙ sym (le-leb (corrected n) most f)
      go (no f) = ap (λ (x : ℕ). eqb x 0) (number-far (omega arith)) ∙ sym (lt-leb (corrected n) most (omega arith))

  pub read-as-near : (a : ℕ) → read_as a most n ≡ (readable most n && eqb (nearest word23 n % 1024) a)
  unfolding read_as
  read-as-near a = go (readable most n) refl
    where
      go : (b : Bool) → readable most n ≡ b → (b && eqb (header_within n most).address a) ≡ (b && eqb (nearest word23 n % 1024) a)
      go true e = ap (λ (x : ℕ). eqb x a) (address-near (leb-true (corrected n) most (sym readable-near ∙ e)))
      go false e = refl

  corrected-word : (i : ℕ) → nearest word23 n ≡ i → corrected n ≡ flips (word23 i) n
  unfolding corrected
  corrected-word i e = ap (λ (x : ℕ). flips (word23 x) n) e

  -- a number is read as a word exactly if it lies within so many flips of it
  word-near : (i : ℕ) → i < 4096 → (readable most n && eqb (nearest word23 n) i) ≡ leb (flips (word23 i) n) most
  word-near i hi =
      ap (λ (b : Bool). b && eqb (nearest word23 n) i) readable-near
      ∙ same_truth (leb (corrected n) most && eqb (nearest word23 n) i) (leb (flips (word23 i) n) most) few read
    where
      few : (leb (corrected n) most && eqb (nearest word23 n) i) ≡ true → leb (flips (word23 i) n) most ≡ true
      few t =
          let near = and_left (leb (corrected n) most) (eqb (nearest word23 n) i) t in
          let same = and_right (leb (corrected n) most) (eqb (nearest word23 n) i) t in
          ap (λ (x : ℕ). leb x most) (sym (corrected-word i (eqb-true (nearest word23 n) i same))) ∙ near

      read : leb (flips (word23 i) n) most ≡ true → (leb (corrected n) most && eqb (nearest word23 n) i) ≡ true
      read t =
          let e = nearest-is word23 word23-apart n i hi (omega (arith, leb-true (flips (word23 i) n) most t)) in
          ap₂ (λ (a b : Bool). a && b) (ap (λ (x : ℕ). leb x most) (corrected-word i e) ∙ t) (eq-eqb (nearest word23 n) i e)

-- an information is one address and one index
parts_whole : (i a c : ℕ) → a < 1024 → (eqb (i % 1024) a && eqb (i / 1024) c) ≡ eqb i (a + 1024 * c)
parts_whole i a c h = same_truth (eqb (i % 1024) a && eqb (i / 1024) c) (eqb i (a + 1024 * c)) whole parts
  where
    whole : (eqb (i % 1024) a && eqb (i / 1024) c) ≡ true → eqb i (a + 1024 * c) ≡ true
    whole t =
        let low = eqb-true (i % 1024) a (and_left (eqb (i % 1024) a) (eqb (i / 1024) c) t) in
        let high = eqb-true (i / 1024) c (and_right (eqb (i % 1024) a) (eqb (i / 1024) c) t) in
        eq-eqb i (a + 1024 * c) (omega arith)

    parts : eqb i (a + 1024 * c) ≡ true → (eqb (i % 1024) a && eqb (i / 1024) c) ≡ true
    parts t =
        let e = eqb-true i (a + 1024 * c) t in
        ap₂ (λ (x y : Bool). x && y) (eq-eqb (i % 1024) a (omega arith)) (eq-eqb (i / 1024) c (omega arith))

-- ---- how many are read

module _ (most : ℕ) (l : most ≤ 3) where
  -- the numbers that are read as a word are that word with each pattern of flips that has no more ones than the setting
  pub word-counted : (i : ℕ) → i < 4096 → counted (λ (n : ℕ). readable most n && eqb (nearest word23 n) i) (2 ^ 23) ≡ volume 23 most
  word-counted i h =
      counted-agree _ _ (2 ^ 23) (λ n hn. word-near n most hn l i h)
      ∙ counted-xor 23 (word23 i) (λ (n : ℕ). leb (flips (word23 i) n) most) (word23-lt i h)
      ∙ counted-agree _ _ (2 ^ 23) (λ e he. ap (λ (x : ℕ). leb x most) (flips-of (word23 i) e))
      ∙ counted-ones 23 most

  -- each number has a nearest word
  pub readable-counted : counted (readable most) (2 ^ 23) ≡ 4096 * volume 23 most
  readable-counted = counted-classes (readable most) (nearest word23) (2 ^ 23) (volume 23 most) 4096 nearest23-lt word-counted

  -- the words of an address differ in the index
  module _ (a : ℕ) (ha : a < 1024) where
    index_read : (n c : ℕ) → n < 2 ^ 23
        → (read_as a most n && eqb (nearest word23 n / 1024) c) ≡ (readable most n && eqb (nearest word23 n) (a + 1024 * c))
    index_read n c h =
        ap (λ (b : Bool). b && eqb (nearest word23 n / 1024) c) (read-as-near n most h l a)
        ∙ and_assoc (readable most n) (eqb (nearest word23 n % 1024) a) (eqb (nearest word23 n / 1024) c)
        ∙ ap (λ (b : Bool). readable most n && b) (parts_whole (nearest word23 n) a c ha)

    index-counted : (c : ℕ) → c < 4 → counted (λ (n : ℕ). read_as a most n && eqb (nearest word23 n / 1024) c) (2 ^ 23) ≡ volume 23 most
    index-counted c hc = counted-agree _ _ (2 ^ 23) (λ n h. index_read n c h) ∙ word-counted (a + 1024 * c) (omega arith)

    pub read-as-counted : counted (read_as a most) (2 ^ 23) ≡ 4 * volume 23 most
    read-as-counted =
        counted-classes (read_as a most) (λ (n : ℕ). nearest word23 n / 1024) (2 ^ 23) (volume 23 most) 4
        (λ n h. omega (arith, nearest23-lt n h)) index-counted

-- ---- the four settings

-- 1, and 23 with one 1, 253 with two, 1,771 with three: 2^11 in all, as the code is perfect
volumes : map (volume 23) settings ≡ (1 ∷ 24 ∷ 277 ∷ 2048 ∷ [])
unfolding volume
volumes = refl

at-settings : (f : ℕ → ℕ) (m : ℕ) → ((most : ℕ) → most ≤ 3 → f most ≡ m * volume 23 most)
    → map f settings ≡ (m * 1 ∷ m * 24 ∷ m * 277 ∷ m * 2048 ∷ [])
at-settings f m each =
    (λ j. each 0 (omega arith) j ∷ each 1 (omega arith) j ∷ each 2 (omega arith) j ∷ each 3 (omega arith) j ∷ [])
    ∙ ap (map (λ (v : ℕ). m * v)) volumes

pub noise : Noise
noise = record {
  all = at-settings (λ (most : ℕ). counted (readable most) (2 ^ 23)) 4096 readable-counted;
  address = λ a h. at-settings (λ (most : ℕ). counted (read_as a most) (2 ^ 23)) 4 (λ most l. read-as-counted most l a h);
}
