-- Laws of the packet image: its header number, its 91 bytes and its spare bit, and the image made of the first two.
--
--   sent-image      what an image is sent as: the header's bits, the bytes' bits, a bit 0
--   image-length, image-bytes          94 bytes
--   header-image, bytes-image, spare-image     what an image was made of is read of it
--   header-lt, bytes-length, bytes_lt, useful-length, spare-lt     the sizes of what is read
--   image-whole     an image whose spare bit is 0 is made of what is read of it
--   type-bits, useful-bits     where the type byte and the 90 useful bytes stand in order of transmission
--
-- Assumes nothing.
use mathlib.Core.Path.{◌≡◌, refl, sym, ap, ap₂, ◌∙◌, subst}
use mathlib.Core.List.{List, [], ◌∷◌, ◌++◌, append-nil}
use Prim.Native.Nat.{ℕ, ◌-◌, ◌*◌, ◌^◌, ◌<◌}
use native.Mathlib.Omega.{arith}
use lib.ListN.{length, take, drop, get_or, length-append, length-drop, take-append-drop}
use lib.Seq.{take_at, drop_at, take_all, drop-drop}
use Rattle.bits.specs.Bits.{bits_of, number, sent, numbers_in}
use Rattle.bits.proofs.Runs.{Below, below-drop, below-cat, bits_of-length, bits_of-below, bits-number, bits-front, number_lt, number-bits-small, digit_lt, sent-length, sent-below, numbers_in-length, numbers_in-below, numbers_in-step, numbers_in-sent, sent-numbers_in}
use Rattle.image.specs.Image.{header_of, bytes_of, spare_of, image_of}

abbrev pub run : ℕ → List ℕ → List ℕ
run h bs = bits_of 23 h ++ (sent 8 bs ++ (0 ∷ []))

spare-bit : 0 ∷ [] ≡ bits_of 1 0
unfolding bits_of
spare-bit = refl

pub spare-below : Below 2 (0 ∷ [])
spare-below = rw spare-bit (bits_of-below 1 0)

pub run-below : (h : ℕ) (bs : List ℕ) → Below 2 (run h bs)
run-below h bs =
    below-cat (bits_of 23 h) (sent 8 bs ++ (0 ∷ [])) (bits_of-below 23 h)
    (below-cat (sent 8 bs) (0 ∷ []) (sent-below 8 bs) spare-below)

pub run-rest : (h : ℕ) (bs : List ℕ) → drop 23 (run h bs) ≡ sent 8 bs ++ (0 ∷ [])
run-rest h bs = drop_at (bits_of 23 h) (sent 8 bs ++ (0 ∷ [])) 23 (bits_of-length 23 h)

-- ---- the image of a header and bytes

pub image-length : (h : ℕ) (bs : List ℕ) → length (image_of h bs) ≡ 94
unfolding image_of
image-length h bs = numbers_in-length 8 94 (run h bs)

pub image-bytes : (h : ℕ) (bs : List ℕ) → Below 256 (image_of h bs)
unfolding image_of
image-bytes h bs = numbers_in-below 8 94 (run h bs) (run-below h bs)

module _ (h : ℕ) (bs : List ℕ) (l : length bs ≡ 91) where
  run_length : length (run h bs) ≡ 752
  run_length = simp (length-append, bits_of-length, sent-length) (omega arith)

  pub sent-image : sent 8 (image_of h bs) ≡ run h bs
  unfolding image_of
  sent-image =
      sent-numbers_in 8 94 (run h bs) (run-below h bs) (omega (arith, run_length))
      ∙ take_all 752 (run h bs) (omega (arith, run_length))

  pub header-image : h < 2 ^ 23 → header_of (image_of h bs) ≡ h
  unfolding header_of
  header-image s =
      ap (λ (x : List ℕ). number (take 23 x)) sent-image
      ∙ ap number (take_at (bits_of 23 h) (sent 8 bs ++ (0 ∷ [])) 23 (bits_of-length 23 h)) ∙ number-bits-small 23 h s

  pub bytes-image : Below 256 bs → bytes_of (image_of h bs) ≡ bs
  unfolding bytes_of
  bytes-image s =
      ap (λ (x : List ℕ). numbers_in 8 91 (drop 23 x)) sent-image ∙ ap (numbers_in 8 91) (run-rest h bs)
      ∙ ap (λ (x : ℕ). numbers_in 8 x (sent 8 bs ++ (0 ∷ []))) (sym l) ∙ numbers_in-sent 8 bs (0 ∷ []) s

  pub spare-image : spare_of (image_of h bs) ≡ 0
  unfolding spare_of number
  spare-image =
      ap (λ (x : List ℕ). number (drop 751 x)) sent-image
      ∙ ap number
      (sym (drop-drop 728 23 (run h bs)) ∙ ap (drop 728) (run-rest h bs)
      ∙ drop_at (sent 8 bs) (0 ∷ []) 728 (sent-length 8 bs ∙ ap (λ (x : ℕ). x * 8) l))

-- ---- what is read of an image

pub header-lt : (s : List ℕ) → header_of s < 2 ^ 23
unfolding header_of
header-lt s = digit_lt 23 0 (sent 8 s) (sent-below 8 s)

pub bytes-length : (s : List ℕ) → length (bytes_of s) ≡ 91
unfolding bytes_of
bytes-length s = numbers_in-length 8 91 (drop 23 (sent 8 s))

pub bytes_lt : (s : List ℕ) → Below 256 (bytes_of s)
unfolding bytes_of
bytes_lt s = numbers_in-below 8 91 (drop 23 (sent 8 s)) (below-drop 23 (sent 8 s) (sent-below 8 s))

pub useful-length : (s : List ℕ) → length (drop 1 (bytes_of s)) ≡ 90
useful-length s = length-drop 1 (bytes_of s) ∙ omega (arith, bytes-length s)

pub type-bits : (s : List ℕ) → get_or (bytes_of s) 0 0 ≡ number (take 8 (drop 23 (sent 8 s)))
unfolding bytes_of
type-bits s = ap (λ (x : List ℕ). get_or x 0 0) (numbers_in-step 8 90 (drop 23 (sent 8 s)))

pub useful-bits : (s : List ℕ) → drop 1 (bytes_of s) ≡ numbers_in 8 90 (drop 31 (sent 8 s))
unfolding bytes_of
useful-bits s =
    ap (drop 1) (numbers_in-step 8 90 (drop 23 (sent 8 s))) ∙ ap (numbers_in 8 90) (drop-drop 8 23 (sent 8 s))

module _ (s : List ℕ) (l : length s ≡ 94) where
  bits-length : length (sent 8 s) ≡ 752
  bits-length = sent-length 8 s ∙ ap (λ (x : ℕ). x * 8) l

  last-length : length (drop 751 (sent 8 s)) ≡ 1
  last-length = length-drop 751 (sent 8 s) ∙ ap (λ (x : ℕ). x - 751) bits-length

  last-below : Below 2 (drop 751 (sent 8 s))
  last-below = below-drop 751 (sent 8 s) (sent-below 8 s)

  pub spare-lt : spare_of s < 2
  unfolding spare_of
  spare-lt = subst (λ (x : ℕ). number (drop 751 (sent 8 s)) < 2 ^ x) last-length (number_lt (drop 751 (sent 8 s)) last-below)

  pub image-whole : Below 256 s → spare_of s ≡ 0 → image_of (header_of s) (bytes_of s) ≡ s
  unfolding image_of header_of bytes_of spare_of
  image-whole b e =
      let B = sent 8 s in
      let front : bits_of 23 (number (take 23 B)) ≡ take 23 B = bits-front 23 B (sent-below 8 s) (omega (arith, bits-length)) in
      let middle : sent 8 (numbers_in 8 91 (drop 23 B)) ≡ take 728 (drop 23 B) =
      sent-numbers_in 8 91 (drop 23 B) (below-drop 23 B (sent-below 8 s)) (rw length-drop (omega (arith, bits-length))) in
      let last : 0 ∷ [] ≡ drop 728 (drop 23 B) =
      spare-bit ∙ ap₂ bits_of (sym last-length) (sym e) ∙ bits-number (drop 751 B) last-below ∙ sym (drop-drop 728 23 B) in
      ap₂ (λ (x y : List ℕ). numbers_in 8 94 (x ++ y)) front
      (ap₂ ◌++◌ middle last ∙ take-append-drop 728 (drop 23 B))
      ∙ ap (numbers_in 8 94) (take-append-drop 23 B ∙ sym (append-nil B))
      ∙ ap (λ (x : ℕ). numbers_in 8 x (B ++ [])) (sym l) ∙ numbers_in-sent 8 s [] b
