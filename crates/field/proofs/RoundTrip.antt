-- Reading undoes writing, and writing reading.
--
--   written-length, written_below   what is written is ten bytes
--   field-bounds                    what is read is within its width
--   read-written                    a field of numbers within their widths, written, reads as it was
--   written_read                    ten bytes, read, are written as they were
--   pack-below, pack-unpack         six numbers make 62 bits, and are had back; unpack-pack: and 62 bits, by their six numbers
--
-- Assumes nothing.
use mathlib.Core.Path.{◌≡◌, sym, ap, ap₂, ◌∙◌}
use mathlib.Core.List.{List, [], ◌++◌, append-nil}
use Prim.Native.Nat.{ℕ, ◌+◌, ◌*◌, ◌/◌, ◌%◌, ◌^◌, ◌≤◌, ◌<◌}
use native.Mathlib.Omega.{arith}
use lib.ListN.{length, take, drop, length-drop}
use lib.Seq.{take_all}
use lib.Pow.{shr-shr}
use Rattle.bits.specs.Bits.{bits_of, number, sent, numbers_in}
use Rattle.bits.proofs.Runs.{Below, below-drop, bits-front, digit, digit_lt, sent-below, sent-length, sent-numbers_in, numbers_in-length, numbers_in-below, numbers_in-sent}
use Rattle.runs.specs.Part.{part}
use Rattle.runs.proofs.Parts.{part-cat}
use Rattle.field.specs.Field.{bits_at, field_of, field_bits, field_bytes, fln1, lln1, fln2, lln2, fcp, lcp, tdms_of, numbers_of}
use Rattle.field.specs.declared.Field.{Field}
use Rattle.field.proofs.Bytes.{bits-length, bits_below, Within, field-number}

pub written-length : (r : Field) → length (field_bytes r) ≡ 10
unfolding field_bytes
written-length r = numbers_in-length 8 10 (field_bits r)

pub written_below : (r : Field) → Below 256 (field_bytes r)
unfolding field_bytes
written_below r = numbers_in-below 8 10 (field_bits r) (bits_below r)

-- ---- what is read

bits-lt : (i w : ℕ) (f : List ℕ) → bits_at i w f < 2 ^ w
unfolding bits_at
bits-lt i w f = digit_lt w i (sent 8 f) (sent-below 8 f)

pub field-bounds : (f : List ℕ) → Within (field_of f)
unfolding field_of
field-bounds f = record {
  count = bits-lt 0 8 f;
  flag = bits-lt 8 1 f;
  id = bits-lt 9 8 f;
  tdms = bits-lt 17 62 f;
  links = bits-lt 79 1 f;
}

-- ---- written, and read

-- the field's bits are sent again
sent-again : (r : Field) → sent 8 (field_bytes r) ≡ field_bits r
unfolding field_bytes
sent-again r =
    sent-numbers_in 8 10 (field_bits r) (bits_below r) (omega (arith, bits-length r))
    ∙ take_all 80 (field_bits r) (omega (arith, bits-length r))

bits-again : (i w : ℕ) (r : Field) → bits_at i w (field_bytes r) ≡ number (field_bits r) / 2 ^ i % 2 ^ w
unfolding bits_at
bits-again i w r =
    ap (λ (bs : List ℕ). number (take w (drop i bs))) (sent-again r) ∙ digit w i (field_bits r) (bits_below r)

digits : (c g d t l n : ℕ) → c < 256 → g < 2 → d < 256 → t < 2 ^ 62 → l < 2
    → n ≡ c + 2 ^ 8 * (g + 2 * (d + 2 ^ 8 * (t + 2 ^ 62 * l)))
    → (n / 2 ^ 0 % 2 ^ 8 ≡ c) × (n / 2 ^ 8 % 2 ≡ g) × (n / 2 ^ 9 % 2 ^ 8 ≡ d) × (n / 2 ^ 17 % 2 ^ 62 ≡ t) × (n / 2 ^ 79 % 2 ≡ l)
digits c g d t l n hc hg hd ht hl e = (omega arith, omega arith, omega arith, omega arith, omega arith)

pub read-written : (r : Field) → r.count < 256 → r.flag < 2 → r.id < 256 → r.tdms < 2 ^ 62 → r.links < 2
    → field_of (field_bytes r) ≡ r
unfolding field_of
read-written r hc hg hd ht hl =
    let h : Within r = record { count = hc; flag = hg; id = hd; tdms = ht; links = hl } in
    let q =
    digits r.count r.flag r.id r.tdms r.links (number (field_bits r)) hc hg hd ht hl (field-number r h) in
    λ i. record {
      count = (bits-again 0 8 r ∙ q.0) i;
      flag = (bits-again 8 1 r ∙ q.1) i;
      id = (bits-again 9 8 r ∙ q.2) i;
      tdms = (bits-again 17 62 r ∙ q.3) i;
      links = (bits-again 79 1 r ∙ q.4) i;
    }

-- ---- read, and written

-- a part's bits are those of its number
part-bits : (i w : ℕ) (f : List ℕ) → i + w ≤ length (sent 8 f) → bits_of w (bits_at i w f) ≡ part i w (sent 8 f)
unfolding bits_at part
part-bits i w f l =
    bits-front w (drop i (sent 8 f)) (below-drop i (sent 8 f) (sent-below 8 f)) (omega (arith, length-drop i (sent 8 f)))

pub written_read : (f : List ℕ) → length f ≡ 10 → Below 256 f → field_bytes (field_of f) ≡ f
unfolding field_bytes field_bits field_of part
written_read f l h =
    let bs = sent 8 f in
    let long : length bs ≡ 80 = omega (arith, sent-length 8 f) in
    let cut : field_bits (field_of f) ≡ part 0 80 bs =
    ap₂ ◌++◌ (part-bits 0 8 f (omega arith))
    (ap₂ ◌++◌ (part-bits 8 1 f (omega arith))
    (ap₂ ◌++◌ (part-bits 9 8 f (omega arith))
    (ap₂ ◌++◌ (part-bits 17 62 f (omega arith)) (part-bits 79 1 f (omega arith))
    ∙ sym (part-cat 17 62 1 bs)) ∙ sym (part-cat 9 8 63 bs)) ∙ sym (part-cat 8 1 71 bs)) ∙ sym (part-cat 0 8 72 bs) in
    let whole : part 0 80 bs ≡ bs = take_all 80 bs (omega arith) in
    ap (numbers_in 8 10) (cut ∙ whole ∙ sym (append-nil bs))
    ∙ ap (λ (k : ℕ). numbers_in 8 k (bs ++ [])) (sym l)
    ∙ numbers_in-sent 8 f [] h

-- ---- six numbers

module _ (a b c d e f : ℕ) (ha : a < 1024) (hb : b < 1024) (hc : c < 1024) (hd : d < 1024) (he : e < 2048) (hf : f < 2048) where
  pub pack-below : tdms_of a b c d e f < 2 ^ 62
  unfolding tdms_of
  pack-below = omega arith

  pub pack-unpack : numbers_of (tdms_of a b c d e f) ≡ record { fln1 = a; lln1 = b; fln2 = c; lln2 = d; fcp = e; lcp = f }
  unfolding numbers_of tdms_of fln1 lln1 fln2 lln2 fcp lcp
  pack-unpack =
      let n = tdms_of a b c d e f in
      let p2 : n / 2 ^ 10 ≡ b + 1024 * (c + 1024 * (d + 1024 * (e + 2048 * f))) = omega arith in
      let p3 : n / 2 ^ 20 ≡ c + 1024 * (d + 1024 * (e + 2048 * f)) = omega arith in
      let p4 : n / 2 ^ 30 ≡ d + 1024 * (e + 2048 * f) = omega arith in
      let p5 : n / 2 ^ 40 ≡ e + 2048 * f = omega arith in
      let p6 : n / 2 ^ 51 ≡ f = omega arith in
      let q1 : n % 1024 ≡ a = omega arith in
      let q2 : n / 2 ^ 10 % 1024 ≡ b = ap (λ (x : ℕ). x % 1024) p2 ∙ omega arith in
      let q3 : n / 2 ^ 20 % 1024 ≡ c = ap (λ (x : ℕ). x % 1024) p3 ∙ omega arith in
      let q4 : n / 2 ^ 30 % 1024 ≡ d = ap (λ (x : ℕ). x % 1024) p4 ∙ omega arith in
      let q5 : n / 2 ^ 40 % 2048 ≡ e = ap (λ (x : ℕ). x % 2048) p5 ∙ omega arith in
      let q6 : n / 2 ^ 51 % 2048 ≡ f = ap (λ (x : ℕ). x % 2048) p6 ∙ omega arith in
      λ i. record { fln1 = q1 i; lln1 = q2 i; fln2 = q3 i; lln2 = q4 i; fcp = q5 i; lcp = q6 i }

joined : (n p q r s t a b c d e f : ℕ) → n ≡ a + 2 ^ 10 * p → p ≡ b + 2 ^ 10 * q → q ≡ c + 2 ^ 10 * r → r ≡ d + 2 ^ 10 * s
    → s ≡ e + 2 ^ 11 * t → t ≡ f → a + 2 ^ 10 * b + 2 ^ 20 * c + 2 ^ 30 * d + 2 ^ 40 * e + 2 ^ 51 * f ≡ n
joined n p q r s t a b c d e f ep eq er es et ef = omega arith

pub unpack-pack : (t : ℕ) → t < 2 ^ 62 → tdms_of (fln1 t) (lln1 t) (fln2 t) (lln2 t) (fcp t) (lcp t) ≡ t
unfolding tdms_of fln1 lln1 fln2 lln2 fcp lcp
unpack-pack t h =
    let q2 : t / 2 ^ 10 ≡ t / 2 ^ 10 % 1024 + 2 ^ 10 * (t / 2 ^ 20) = omega (arith, shr-shr t 10 10) in
    let q3 : t / 2 ^ 20 ≡ t / 2 ^ 20 % 1024 + 2 ^ 10 * (t / 2 ^ 30) = omega (arith, shr-shr t 20 10) in
    let q4 : t / 2 ^ 30 ≡ t / 2 ^ 30 % 1024 + 2 ^ 10 * (t / 2 ^ 40) = omega (arith, shr-shr t 30 10) in
    let q5 : t / 2 ^ 40 ≡ t / 2 ^ 40 % 2048 + 2 ^ 11 * (t / 2 ^ 51) = omega (arith, shr-shr t 40 11) in
    let q6 : t / 2 ^ 51 ≡ t / 2 ^ 51 % 2048 = omega arith in
    joined t (t / 2 ^ 10) (t / 2 ^ 20) (t / 2 ^ 30) (t / 2 ^ 40) (t / 2 ^ 51) (t % 1024) _ _ _ _ _ (omega arith) q2 q3 q4 q5 q6
