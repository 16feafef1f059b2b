-- A field's bits as one number, and as ten bytes.
--
--   bits_below, bits-length     each of the 80 bits is a bit
--   Within                      each number of a field is within its width
--   field-number                the number of a field's bits
--   bytes                       the ten bytes of a field whose numbers are within their widths; write-stores: stored, they are these
--
-- Assumes nothing.
use mathlib.Core.Path.{◌≡◌, refl, sym, ap, ap₂, ◌∙◌}
use mathlib.Core.List.{List, [], ◌∷◌, ◌++◌, append-nil}
use Prim.Native.Nat.{ℕ, suc, ◌+◌, ◌*◌, ◌/◌, ◌%◌, ◌^◌, ◌<◌}
use native.Mathlib.Omega.{arith}
use lib.ListN.{length, set, length-append, drop_of_length-le}
use lib.Pow.{shr-shr}
use Rattle.bits.specs.Bits.{bits_of, number, numbers_in}
use Rattle.bits.proofs.Runs.{Below, below-cat, bits_of-length, bits_of-below, number-cat, number-bits-small, numbers_in-bits, bits-number}
use Rattle.runs.specs.Part.{put}
use Rattle.runs.specs.Numbers.{four, eight}
use Rattle.field.specs.Field.{field_bits, field_bytes}
use Rattle.field.specs.declared.Field.{Field}

pub bits-length : (r : Field) → length (field_bits r) ≡ 80
unfolding field_bits
bits-length r = simp (length-append, bits_of-length) refl

pub bits_below : (r : Field) → Below 2 (field_bits r)
unfolding field_bits
bits_below r =
    let three = bits_of 62 r.tdms ++ bits_of 1 r.links in
    let two = bits_of 8 r.id ++ three in
    below-cat (bits_of 8 r.count) (bits_of 1 r.flag ++ two) (bits_of-below 8 r.count)
    (below-cat (bits_of 1 r.flag) two (bits_of-below 1 r.flag)
    (below-cat (bits_of 8 r.id) three (bits_of-below 8 r.id)
    (below-cat (bits_of 62 r.tdms) (bits_of 1 r.links) (bits_of-below 62 r.tdms) (bits_of-below 1 r.links))))

-- each number of a field is within its width
pub record Within (r : Field) : Type 0 where
  pub count : r.count < 256
  pub flag : r.flag < 2
  pub id : r.id < 256
  pub tdms : r.tdms < 2 ^ 62
  pub links : r.links < 2

number-front : (w n : ℕ) (xs : List ℕ) → n < 2 ^ w → number (bits_of w n ++ xs) ≡ n + 2 ^ w * number xs
number-front w n xs h =
    number-cat (bits_of w n) xs
    ∙ ap₂ (λ (x y : ℕ). x + 2 ^ y * number xs) (number-bits-small w n h) (bits_of-length w n)

pub field-number : (r : Field) → Within r
    → number (field_bits r)
    ≡ r.count + 2 ^ 8 * (r.flag + 2 * (r.id + 2 ^ 8 * (r.tdms + 2 ^ 62 * r.links)))
unfolding field_bits
field-number r h =
    number-front 8 r.count _ h.count
    ∙ ap (λ (x : ℕ). r.count + 2 ^ 8 * x) (number-front 1 r.flag _ h.flag
    ∙ ap (λ (x : ℕ). r.flag + 2 * x) (number-front 8 r.id _ h.id
    ∙ ap (λ (x : ℕ). r.id + 2 ^ 8 * x) (number-front 62 r.tdms _ h.tdms
    ∙ ap (λ (x : ℕ). r.tdms + 2 ^ 62 * x) (number-bits-small 1 r.links h.links))))

-- ---- ten bytes

taken-four : (k m n : ℕ) (rest : List ℕ)
    → numbers_in 8 (suc (suc (suc (suc k)))) (bits_of (8 + (8 + (8 + (8 + m)))) n ++ rest)
    ≡ four n ++ numbers_in 8 k (bits_of m (n / 2 ^ 32) ++ rest)
unfolding four
taken-four k m n rest =
    let two : n / 256 / 256 ≡ n / 2 ^ 16 = shr-shr n 8 8 in
    let three : n / 256 / 256 / 256 ≡ n / 2 ^ 24 = ap (λ (x : ℕ). x / 256) two ∙ shr-shr n 16 8 in
    let four : n / 256 / 256 / 256 / 256 ≡ n / 2 ^ 32 = ap (λ (x : ℕ). x / 256) three ∙ shr-shr n 24 8 in
    numbers_in-bits 8 (suc (suc (suc k))) (8 + (8 + (8 + m))) n rest
    ∙ ap (λ (xs : List ℕ). n % 256 ∷ xs) (numbers_in-bits 8 (suc (suc k)) (8 + (8 + m)) (n / 256) rest
    ∙ ap (λ (xs : List ℕ). n / 256 % 256 ∷ xs) (numbers_in-bits 8 (suc k) (8 + m) (n / 256 / 256) rest
    ∙ ap₂ (λ (x : ℕ) (xs : List ℕ). x % 256 ∷ xs) two (numbers_in-bits 8 k m (n / 256 / 256 / 256) rest
    ∙ ap₂ (λ (x y : ℕ). x % 256 ∷ numbers_in 8 k (bits_of m y ++ rest)) three four)))

taken-ten : (n : ℕ) → numbers_in 8 10 (bits_of 80 n) ≡ n % 256 ∷ n / 256 % 256 ∷ eight (n / 65536)
unfolding eight numbers_in
taken-ten n =
    ap (numbers_in 8 10) (sym (append-nil (bits_of 80 n)))
    ∙ numbers_in-bits 8 9 72 n []
    ∙ ap (λ (xs : List ℕ). n % 256 ∷ xs) (numbers_in-bits 8 8 64 (n / 256) []
    ∙ ap (λ (xs : List ℕ). n / 256 % 256 ∷ xs) (ap (λ (x : ℕ). numbers_in 8 8 (bits_of 64 x ++ [])) (shr-shr n 8 8)
    ∙ taken-four 4 32 (n / 65536) []
    ∙ ap (λ (xs : List ℕ). four (n / 65536) ++ xs) (taken-four 0 0 (n / 65536 / 2 ^ 32) []
    ∙ append-nil (four (n / 65536 / 2 ^ 32)))))

digits : (c g d t l n : ℕ) → c < 256 → g < 2 → d < 256 → n ≡ c + 2 ^ 8 * (g + 2 * (d + 2 ^ 8 * (t + 2 ^ 62 * l)))
    → (n % 256 ≡ c) × (n / 256 % 256 ≡ g + d % 128 * 2) × (n / 65536 ≡ d / 128 + t * 2 + l * 2 ^ 63)
digits c g d t l n hc hg hd e =
    let q : n / 256 ≡ g + 2 * (d + 256 * (t + 2 ^ 62 * l)) = omega arith in
    (omega arith, ap (λ (x : ℕ). x % 256) q ∙ omega arith, omega arith)

pub bytes : (r : Field) → Within r
    → field_bytes r
    ≡ r.count ∷ (r.flag + r.id % 128 * 2) ∷ eight (r.id / 128 + r.tdms * 2 + r.links * 2 ^ 63)
unfolding field_bytes
bytes r h =
    let n = number (field_bits r) in
    let q = digits r.count r.flag r.id r.tdms r.links n h.count h.flag h.id (field-number r h) in
    let whole : bits_of 80 n ≡ field_bits r =
    ap (λ (x : ℕ). bits_of x n) (sym (bits-length r)) ∙ bits-number (field_bits r) (bits_below r) in
    ap (numbers_in 8 10) (sym whole) ∙ taken-ten n ∙ (λ i. q.0 i ∷ q.1 i ∷ eight (q.2 i))

-- the bytes stored are the field's
pub write-stores : (r : Field) → Within r → (out after : List ℕ) → length out ≡ 10
    → after
    ≡ put 2 8 (eight (r.id / 128 + r.tdms * 2 + r.links * 2 ^ 63)) (set (set out 0 r.count) 1 (r.flag + r.id % 128 * 2))
    → after ≡ field_bytes r
unfolding put
write-stores r h [] after l e = absurd (omega arith)
write-stores r h (a ∷ []) after l e = absurd (omega arith)
write-stores r h (a ∷ b ∷ rest) after l e =
    let n = r.id / 128 + r.tdms * 2 + r.links * 2 ^ 63 in
    e
    ∙ ap (λ (x : List ℕ). r.count ∷ (r.flag + r.id % 128 * 2) ∷ x)
    (ap (λ (x : List ℕ). eight n ++ x) (drop_of_length-le rest {i = 8} (omega arith)) ∙ append-nil (eight n))
    ∙ sym (bytes r h)
