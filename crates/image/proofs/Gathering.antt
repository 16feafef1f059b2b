-- What shifts and masks gather: the code's expressions are the numbers of the definitions.
--
--   header-gathered, spare-gathered, byte-gathered     the header, the spare bit and the 91 bytes of an image's bytes
--   useful-gathered        the bytes behind the first, counted from 0
--   first-four, next-byte, last_byte       an image's bytes from the header, the type byte and the useful bytes, as they are stored
--
-- Assumes nothing.
use mathlib.Core.Path.{◌≡◌, refl, sym, ap, ap₂, ◌∙◌}
use mathlib.Core.List.{List, [], ◌∷◌, ◌++◌}
use Prim.Native.Nat.{ℕ, suc, ◌+◌, ◌*◌, ◌/◌, ◌%◌, ◌^◌, ◌<◌}
use native.Mathlib.Omega.{arith}
use native.Mathlib.Nat.{mod-lt}
use native.Mathlib.Numerals.{add-one}
use lib.Bits.{bit_and, bit_or, and_mask}
use lib.Dec.{lit<, lit≤}
use lib.ListN.{length, take, drop, get_or, set, length-set, drop_of_length-le, get_or-eq_default}
use lib.Seq.{drop-drop, drop-append-le, get_or-drop}
use Rattle.bits.specs.Bits.{bits_of, number, sent}
use Rattle.bits.proofs.Runs.{Below, below-cons, below-cat, bits_of-length, number-bits-small, number-cat, number-ends, number-take, number-drop, number_at, digit, sent-below, sent-drop, sent-length, numbers_in-at, or_above}
use Rattle.bits.proofs.Storing.{stored}
use Rattle.image.specs.Image.{header_of, bytes_of, spare_of, image_of}
use Rattle.image.proofs.Laws.{image-length, run, spare-below, run-below, run-rest}

-- ---- of an image

module _ (s : List ℕ) (h : Below 256 s) where
  pub header-gathered :
      bit_or (bit_or (get_or s 0 0) ((get_or s 1 0 * 256) % 4294967296)) ((bit_and (get_or s 2 0) 127 * 65536) % 4294967296) ≡ header_of s
  unfolding header_of
  header-gathered =
      ap₂ (λ (x y : ℕ). bit_or x ((y * 65536) % 4294967296))
      (or_above 8 8 32 (get_or s 0 0) (get_or s 1 0) (h 0) (h 1) (lit≤ tt)) (and_mask (get_or s 2 0) 7)
      ∙ or_above 7 16 32 (get_or s 0 0 + 256 * get_or s 1 0) (get_or s 2 0 % 128) (omega (arith, h 0, h 1)) (mod-lt (get_or s 2 0) (lit< tt)) (lit≤ tt)
      ∙ omega (arith, h 0, h 1, h 2, number-take 23 (sent 8 s) (sent-below 8 s), number_at 8 0 s h, number_at 8 1 s h, number_at 8 2 s h)

  pub spare-gathered : length s ≡ 94 → get_or s 93 0 / 128 ≡ spare_of s
  unfolding spare_of sent number
  spare-gathered l =
      omega (
        arith,
        h 93,
        number_at 8 93 s h,
        ap (λ (x : List ℕ). number (sent 8 x)) (drop_of_length-le s {i = 94} (omega arith)),
        number-drop 7 (sent 8 (drop 93 s)) (sent-below 8 (drop 93 s)),
        ap (λ (x : List ℕ). number (drop 7 x)) (sent-drop 8 93 s),
        ap number (drop-drop 7 744 (sent 8 s)),
      )

  -- a byte of the 91 is the highest bit of one byte of the image and the seven lower bits of the next
  pub byte-gathered : (j : ℕ) → j < 91 → bit_or (get_or s (j + 2) 0 / 128) ((bit_and (get_or s (j + 3) 0) 127 * 2) % 256) ≡ get_or (bytes_of s) j 0
  unfolding bytes_of
  byte-gathered j hj =
      let bits : drop (j * 8) (drop 23 (sent 8 s)) ≡ drop 7 (sent 8 (drop (j + 2) s)) =
      drop-drop (j * 8) 23 (sent 8 s) ∙ ap (λ (x : ℕ). drop x (sent 8 s)) (place_of j) ∙ sym (drop-drop 7 ((j + 2) * 8) (sent 8 s)) ∙ ap (drop 7) (sent-drop 8 (j + 2) s) in
      ap (λ (x : ℕ). bit_or (get_or s (j + 2) 0 / 128) ((x * 2) % 256)) (and_mask (get_or s (j + 3) 0) 7)
      ∙ or_above 7 1 8 (get_or s (j + 2) 0 / 128) (get_or s (j + 3) 0 % 128) (omega (arith, h (j + 2))) (mod-lt (get_or s (j + 3) 0) (lit< tt)) (lit≤ tt)
      ∙ sym
      (numbers_in-at 8 91 j (drop 23 (sent 8 s)) hj ∙ ap (λ (x : List ℕ). number (take 8 x)) bits
      ∙ digit 8 7 (sent 8 (drop (j + 2) s)) (sent-below 8 (drop (j + 2) s))
      ∙ omega (arith, h (j + 2), h (j + 3), number_at 8 (j + 2) s h, next j, number_at 8 (j + 3) s h))
    where
      place_of : (j : ℕ) → 23 + j * 8 ≡ (j + 2) * 8 + 7
      place_of j = omega arith

      next : (j : ℕ) → number (sent 8 (drop (suc (j + 2)) s)) ≡ number (sent 8 (drop (j + 3) s))
      next j = ap (λ (x : ℕ). number (sent 8 (drop x s))) (one_on j)
        where
          one_on : (j : ℕ) → suc (j + 2) ≡ j + 3
          one_on j = omega arith

  pub useful-gathered : (j : ℕ) → j < 90 → bit_or (get_or s (j + 3) 0 / 128) ((bit_and (get_or s (j + 4) 0) 127 * 2) % 256) ≡ get_or (drop 1 (bytes_of s)) j 0
  useful-gathered j hj =
      let high : j + 3 ≡ 1 + j + 2 = omega arith in
      let low : j + 4 ≡ 1 + j + 3 = omega arith in
      ap₂ (λ (x y : ℕ). bit_or (get_or s x 0 / 128) ((bit_and (get_or s y 0) 127 * 2) % 256)) high low
      ∙ byte-gathered (1 + j) (omega arith) ∙ sym (get_or-drop 1 (bytes_of s) j 0)

-- ---- of a header and bytes

one-above : (a n : ℕ) → a < 128 → bit_or a ((bit_and n 1 * 128) % 256) ≡ a + 128 * (n % 2)
one-above a n h =
    ap (λ (x : ℕ). bit_or a ((x * 128) % 256)) (and_mask n 1) ∙ or_above 1 7 8 a (n % 2) h (mod-lt n (lit< tt)) (lit≤ tt)

module _ (h : ℕ) (bs : List ℕ) (s : h < 2 ^ 23) (b : Below 256 bs) where
  number-run : number (run h bs) ≡ h + 8388608 * number (sent 8 bs)
  number-run =
      number-cat (bits_of 23 h) (sent 8 bs ++ (0 ∷ []))
      ∙ ap₂ (λ (x y : ℕ). x + y) (number-bits-small 23 h s)
      (ap₂ (λ (x y : ℕ). 2 ^ x * y) (bits_of-length 23 h) (number-ends (sent 8 bs)))

  image-digit : (j : ℕ) → j < 94 → get_or (image_of h bs) j 0 ≡ number (take 8 (drop (j * 8) (run h bs)))
  unfolding image_of
  image-digit j l = numbers_in-at 8 94 j (run h bs) l

  first_byte : bit_and h 255 ≡ get_or (image_of h bs) 0 0
  first_byte = and_mask h 8 ∙ omega (arith, image-digit 0 (lit< tt), digit 8 0 (run h bs) (run-below h bs), number-run)

  second-byte : bit_and (h / 256) 255 ≡ get_or (image_of h bs) 1 0
  second-byte = and_mask (h / 256) 8 ∙ omega (arith, image-digit 1 (lit< tt), digit 8 8 (run h bs) (run-below h bs), number-run)

  third-byte : bit_or (h / 65536) ((bit_and (get_or bs 0 0) 1 * 128) % 256) ≡ get_or (image_of h bs) 2 0
  third-byte =
      one-above (h / 65536) (get_or bs 0 0) (omega arith)
      ∙ omega (arith, image-digit 2 (lit< tt), digit 8 16 (run h bs) (run-below h bs), number-run, number_at 8 0 bs b)

  byte_at : length bs ≡ 91 → (j : ℕ) → j < 91 → get_or bs j 0 / 2 + 128 * (get_or bs (suc j) 0 % 2) ≡ get_or (image_of h bs) (j + 3) 0
  byte_at l j hj =
      let place : (j + 3) * 8 ≡ 23 + (j * 8 + 1) = omega arith in
      sym
      (image-digit (j + 3) (omega arith)
      ∙ ap (λ (x : List ℕ). number (take 8 x))
      (ap (λ (x : ℕ). drop x (run h bs)) place ∙ sym (drop-drop (j * 8 + 1) 23 (run h bs)) ∙ ap (drop (j * 8 + 1)) (run-rest h bs)
      ∙ sym (drop-drop 1 (j * 8) (sent 8 bs ++ (0 ∷ [])))
      ∙ ap (drop 1)
      (drop-append-le (j * 8) (sent 8 bs) (0 ∷ []) (omega (arith, sent-length 8 bs))
      ∙ ap (λ (x : List ℕ). x ++ (0 ∷ [])) (sent-drop 8 j bs)))
      ∙ digit 8 1 (sent 8 (drop j bs) ++ (0 ∷ []))
      (below-cat (sent 8 (drop j bs)) (0 ∷ []) (sent-below 8 (drop j bs)) spare-below)
      ∙ omega (arith, b j, number-ends (sent 8 (drop j bs)), number_at 8 j bs b, number_at 8 (suc j) bs b))

-- ---- a type byte and useful bytes, stored one after the other

module _ (h t : ℕ) (u : List ℕ) (s : h < 2 ^ 23) (ht : t < 256) (b : Below 256 u) (l : length u ≡ 90) where
  byte_of : (j : ℕ) → j < 91 → get_or (t ∷ u) j 0 / 2 + 128 * (get_or u j 0 % 2) ≡ get_or (image_of h (t ∷ u)) (j + 3) 0
  byte_of = byte_at h (t ∷ u) s (below-cons t u ht b) (ap suc l)

  -- the first four, whatever was there
  pub first-four : (o : List ℕ) → length o ≡ 94
      → take 4 (set (set (set (set o 0 (bit_and h 255)) 1 (bit_and (h / 256) 255)) 2 (bit_or (h / 65536) ((bit_and t 1 * 128) % 256))) 3
      (bit_or (t / 2) ((bit_and (get_or u 0 0) 1 * 128) % 256)))
      ≡ take 4 (image_of h (t ∷ u))
  first-four o lo =
      let I = image_of h (t ∷ u) in
      let long = image-length h (t ∷ u) in
      let all = below-cons t u ht b in
      let one = set o 0 (bit_and h 255) in
      let two = set one 1 (bit_and (h / 256) 255) in
      let three = set two 2 (bit_or (h / 65536) ((bit_and t 1 * 128) % 256)) in
      let front1 : take 1 one ≡ take 1 I =
      stored o I 0 1 _ refl (omega arith) (omega arith) refl (first_byte h (t ∷ u) s all) in
      let front2 : take 2 two ≡ take 2 I =
      stored one I 1 2 _ front1 (simp length-set (omega arith)) (omega arith) refl (second-byte h (t ∷ u) s all) in
      let front3 : take 3 three ≡ take 3 I =
      stored two I 2 3 _ front2 (simp length-set (omega arith)) (omega arith) refl (third-byte h (t ∷ u) s all) in
      stored three I 3 4 _ front3 (simp length-set (omega arith)) (omega arith) refl
      (one-above (t / 2) (get_or u 0 0) (omega arith) ∙ byte_of 0 (omega arith))

  pub next-byte : (j : ℕ) → j < 90 → bit_or (get_or u j 0 / 2) ((bit_and (get_or u (j + 1) 0) 1 * 128) % 256) ≡ get_or (image_of h (t ∷ u)) (j + 4) 0
  next-byte j hj =
      let place : suc j + 3 ≡ j + 4 = omega arith in
      one-above (get_or u j 0 / 2) (get_or u (j + 1) 0) (omega (arith, b j))
      ∙ ap (λ (x : ℕ). get_or u j 0 / 2 + 128 * (get_or u x 0 % 2)) (add-one j) ∙ byte_of (suc j) (omega arith)
      ∙ ap (λ (x : ℕ). get_or (image_of h (t ∷ u)) x 0) place

  -- the spare bit is 0
  pub last_byte : get_or u 89 0 / 2 ≡ get_or (image_of h (t ∷ u)) 93 0
  last_byte = omega (arith, byte_of 90 (omega arith), get_or-eq_default u 0 {n = 90} (omega arith))
