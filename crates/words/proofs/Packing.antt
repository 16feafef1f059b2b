-- Laws of the bytes, segments and words of protected data, and of the code that packs them by shifts and masks.
--
--   two-stored, three-stored           a list that agrees with another up to a place does so two or three places further
--                                      after the right stores there
--   or-low, grouped, back              a number's low bits laid above another number; numbers taken at another width, and
--                                      back again
--   word24s-below                      words are of 24 bits
--   *-length, *-below                  how many words, data, segments and protected bytes there are, and how large
--   words-protected, data-segments     the words of protected data are those of its segments, and its data is the data
--   word-gathered                      a word of three bytes
--   data-first, data-second, data-third          the three bytes of two informations
--   segment-first, segment-second                the two segments of three bytes
--   coded-first, coded-second, coded-third       the three bytes of a word
--
-- Assumes nothing.
use mathlib.Core.Path.{◌≡◌, refl, sym, ap, ◌∙◌}
use mathlib.Core.List.{List, [], ◌∷◌, ◌++◌, map, append-nil}
use Prim.Native.Nat.{ℕ, zero, suc, ◌+◌, ◌-◌, ◌*◌, ◌/◌, ◌%◌, ◌^◌, ◌≤◌, ◌<◌}
use native.Mathlib.Omega.{arith}
use native.Mathlib.Nat.{mod-lt, mul_comm}
use native.Mathlib.Numerals.{add-one}
use lib.Bits.{bit_and, bit_or, and_mask}
use lib.Dec.{lit<, lit≤}
use lib.ListN.{length, take, drop, get_or, set, length-set, length-map}
use lib.Pow.{pow_pos}
use lib.Seq.{take_all}
use Rattle.bits.specs.Bits.{number, sent, numbers_in}
use Rattle.bits.proofs.Runs.{Below, sent-length, sent-below, numbers_in-length, numbers_in-at, numbers_in-below, numbers_in-sent, sent-numbers_in, or_above, word_bytes, regrouped}
use Rattle.bits.proofs.Storing.{stored}
use Rattle.golay.specs.Code.{word24}
use Rattle.golay.proofs.Words.{word24-lt}
use Rattle.words.specs.Protected.{protected, words_of, data_of}

-- ---- stores one after the other

module _ (out target : List ℕ) (j n x y : ℕ) (e : take j out ≡ take j target) where
  pub two-stored : j + 1 < length out → j + 1 < length target → n ≡ j + 2 → x ≡ get_or target j 0 → y ≡ get_or target (j + 1) 0
      → take n (set (set out j x) (j + 1) y) ≡ take n target
  two-stored ho ht en ex ey =
      stored (set out j x) target (j + 1) n y (stored out target j (j + 1) x e (omega arith) (omega arith) (add-one j) ex)
      (simp length-set (omega arith)) ht (omega arith) ey

module _ (out target : List ℕ) (j n x y z : ℕ) (e : take j out ≡ take j target) where
  pub three-stored : j + 2 < length out → j + 2 < length target → n ≡ j + 3 → x ≡ get_or target j 0 → y ≡ get_or target (j + 1) 0
      → z ≡ get_or target (j + 2) 0 → take n (set (set (set out j x) (j + 1) y) (j + 2) z) ≡ take n target
  three-stored ho ht en ex ey ez =
      stored (set (set out j x) (j + 1) y) target (j + 2) n z
      (two-stored out target j (j + 2) x y e (omega arith) (omega arith) (omega arith) ex ey)
      (simp length-set (omega arith)) ht (omega arith) ez

-- ---- shifts, masks and numbers of another width

-- a number's low bits laid above another number
or-low : (r k w a n : ℕ) → a < 2 ^ k → r + k ≤ w → bit_or a ((bit_and n (2 ^ r - 1) * 2 ^ k) % 2 ^ w) ≡ a + 2 ^ k * (n % 2 ^ r)
or-low r k w a n h l =
    ap (λ (x : ℕ). bit_or a ((x * 2 ^ k) % 2 ^ w)) (and_mask n r) ∙ or_above r k w a (n % 2 ^ r) h (mod-lt n (pow_pos r)) l

-- `regrouped`, with the second number's place as the code has it
grouped : (w v k j a b r : ℕ) (ns : List ℕ) → Below (2 ^ v) ns → j < k → j * w ≡ a * v + r → b ≡ suc a
    → get_or (numbers_in w k (sent v ns)) j 0
    ≡ (get_or ns a 0 + 2 ^ v * (get_or ns b 0 + 2 ^ v * number (sent v (drop (suc b) ns)))) / 2 ^ r % 2 ^ w
grouped w v k j a b r ns h l e s =
    regrouped w v k j a r ns h l e
    ∙ ap (λ (x : ℕ). (get_or ns a 0 + 2 ^ v * (get_or ns x 0 + 2 ^ v * number (sent v (drop (suc x) ns)))) / 2 ^ r % 2 ^ w) (sym s)

-- taken at another width and sent, numbers are as they were
back : (w v k n : ℕ) (ns : List ℕ) → Below (2 ^ v) ns → length ns ≡ n → k * w ≡ n * v
    → numbers_in v n (sent w (numbers_in w k (sent v ns))) ≡ ns
back w v k n ns h l e =
    let long : length (sent v ns) ≡ k * w = sent-length v ns ∙ ap (λ (x : ℕ). x * v) l ∙ sym e in
    ap (numbers_in v n)
    (sent-numbers_in w k (sent v ns) (sent-below v ns) (omega arith) ∙ take_all (k * w) (sent v ns) (omega arith) ∙ sym (append-nil (sent v ns)))
    ∙ ap (λ (x : ℕ). numbers_in v x (sent v ns ++ [])) (sym l) ∙ numbers_in-sent v ns [] h

-- ---- a function of each number of a list

map_below : (f : ℕ → ℕ) (m b : ℕ) → 0 < b → ((i : ℕ) → i < m → f i < b) → (ns : List ℕ) → Below m ns → Below b (map f ns)
map_below f m b z hf [] h k = z
map_below f m b z hf (n ∷ ns) h zero = hf n (h 0)
map_below f m b z hf (n ∷ ns) h (suc k) = map_below f m b z hf ns (λ j. h (suc j)) k

pub word24s-below : (is : List ℕ) → Below 4096 is → Below (2 ^ 24) (map word24 is)
word24s-below is h = map_below word24 4096 (2 ^ 24) (lit< tt) word24-lt is h

-- ---- how many, and how large

module _ (s : List ℕ) where
  pub words-length : length (words_of s) ≡ 30
  unfolding words_of
  words-length = numbers_in-length 24 30 (sent 8 s)

  pub words-below : Below (2 ^ 24) (words_of s)
  unfolding words_of
  words-below = numbers_in-below 24 30 (sent 8 s) (sent-below 8 s)

module _ (is : List ℕ) where
  pub data-length : length (data_of is) ≡ 45
  unfolding data_of
  data-length = numbers_in-length 8 45 (sent 12 is)

  pub data-below : Below 256 (data_of is)
  unfolding data_of
  data-below = numbers_in-below 8 45 (sent 12 is) (sent-below 12 is)

module _ (d : List ℕ) where
  pub segments-length : length (numbers_in 12 30 (sent 8 d)) ≡ 30
  segments-length = numbers_in-length 12 30 (sent 8 d)

  pub segments-below : Below 4096 (numbers_in 12 30 (sent 8 d))
  segments-below = numbers_in-below 12 30 (sent 8 d) (sent-below 8 d)

  pub protected-length : length (protected d) ≡ 90
  unfolding protected
  protected-length = numbers_in-length 8 90 (sent 24 (map word24 (numbers_in 12 30 (sent 8 d))))

  pub protected-below : Below 256 (protected d)
  unfolding protected
  protected-below =
      numbers_in-below 8 90 (sent 24 (map word24 (numbers_in 12 30 (sent 8 d)))) (sent-below 24 (map word24 (numbers_in 12 30 (sent 8 d))))

  -- ---- back again

  pub words-protected : words_of (protected d) ≡ map word24 (numbers_in 12 30 (sent 8 d))
  unfolding words_of protected
  words-protected =
      back 8 24 90 30 (map word24 (numbers_in 12 30 (sent 8 d))) (word24s-below (numbers_in 12 30 (sent 8 d)) segments-below)
      (length-map (numbers_in 12 30 (sent 8 d)) word24 ∙ segments-length) refl

  pub data-segments : length d ≡ 45 → Below 256 d → data_of (numbers_in 12 30 (sent 8 d)) ≡ d
  unfolding data_of
  data-segments l h = back 12 8 30 45 d h l refl

-- ---- what the code gathers

pub word-gathered : (s : List ℕ) → Below 256 s → (w : ℕ) → w < 30
    → bit_or (bit_or (get_or s (w * 3) 0) ((get_or s (w * 3 + 1) 0 * 256) % 4294967296)) ((get_or s (w * 3 + 2) 0 * 65536) % 4294967296)
    ≡ get_or (words_of s) w 0
unfolding words_of
word-gathered s h w l =
    ap (λ (x : ℕ). bit_or x ((get_or s (w * 3 + 2) 0 * 65536) % 4294967296))
    (or_above 8 8 32 (get_or s (w * 3) 0) (get_or s (w * 3 + 1) 0) (h (w * 3)) (h (w * 3 + 1)) (lit≤ tt))
    ∙ or_above 8 16 32 (get_or s (w * 3) 0 + 256 * get_or s (w * 3 + 1) 0) (get_or s (w * 3 + 2) 0)
    (omega (arith, h (w * 3), h (w * 3 + 1))) (h (w * 3 + 2)) (lit≤ tt)
    ∙ sym
    (numbers_in-at 24 30 w (sent 8 s) l
    ∙ ap (λ (x : ℕ). number (take 24 (drop x (sent 8 s)))) (mul_comm w 24)
    ∙ word_bytes w s h
    ∙ ap (λ (x : ℕ). get_or s x 0 + 256 * get_or s (x + 1) 0 + 65536 * get_or s (x + 2) 0) (mul_comm 3 w))

-- two informations, three bytes
module _ (is : List ℕ) (h : Below 4096 is) (v : ℕ) (l : v < 15) where
  data-digit : (j r : ℕ) → j * 8 ≡ v * 2 * 12 + r → r ≤ 16
      → get_or (data_of is) j 0
      ≡ (get_or is (v * 2) 0 + 4096 * (get_or is (v * 2 + 1) 0 + 4096 * number (sent 12 (drop (suc (v * 2 + 1)) is)))) / 2 ^ r % 256
  unfolding data_of
  data-digit j r e f = grouped 8 12 45 j (v * 2) (v * 2 + 1) r is h (omega arith) e (add-one (v * 2))

  pub data-first : bit_and (get_or is (v * 2) 0) 255 ≡ get_or (data_of is) (v * 3) 0
  data-first = and_mask (get_or is (v * 2) 0) 8 ∙ omega (arith, data-digit (v * 3) 0 (omega arith) (lit≤ tt))

  pub data-second :
      bit_or (get_or is (v * 2) 0 / 256) ((bit_and (get_or is (v * 2 + 1) 0) 15 * 16) % 65536) ≡ get_or (data_of is) (v * 3 + 1) 0
  data-second =
      or-low 4 4 16 (get_or is (v * 2) 0 / 256) (get_or is (v * 2 + 1) 0) (omega (arith, h (v * 2))) (lit≤ tt)
      ∙ omega (arith, h (v * 2), data-digit (v * 3 + 1) 8 (omega arith) (lit≤ tt))

  pub data-third : get_or is (v * 2 + 1) 0 / 16 ≡ get_or (data_of is) (v * 3 + 2) 0
  data-third = omega (arith, h (v * 2), h (v * 2 + 1), data-digit (v * 3 + 2) 16 (omega arith) (lit≤ tt))

-- three bytes, two segments
module _ (d : List ℕ) (h : Below 256 d) (v : ℕ) (l : v < 15) where
  pub segment-first :
      bit_or (get_or d (v * 3) 0) ((bit_and (get_or d (v * 3 + 1) 0) 15 * 256) % 65536) ≡ get_or (numbers_in 12 30 (sent 8 d)) (v * 2) 0
  segment-first =
      or-low 4 8 16 (get_or d (v * 3) 0) (get_or d (v * 3 + 1) 0) (h (v * 3)) (lit≤ tt)
      ∙ omega (arith, h (v * 3), grouped 12 8 30 (v * 2) (v * 3) (v * 3 + 1) 0 d h (omega arith) (omega arith) (omega arith))

  pub segment-second :
      bit_or (get_or d (v * 3 + 1) 0 / 16) ((get_or d (v * 3 + 2) 0 * 16) % 65536) ≡ get_or (numbers_in 12 30 (sent 8 d)) (v * 2 + 1) 0
  segment-second =
      or_above 8 4 16 (get_or d (v * 3 + 1) 0 / 16) (get_or d (v * 3 + 2) 0) (omega (arith, h (v * 3 + 1))) (h (v * 3 + 2)) (lit≤ tt)
      ∙ omega (
        arith,
        h (v * 3 + 1),
        h (v * 3 + 2),
        grouped 12 8 30 (v * 2 + 1) (v * 3 + 1) (v * 3 + 2) 4 d h (omega arith) (omega arith) (omega arith),
      )

-- a word, three bytes
module _ (ns : List ℕ) (h : Below (2 ^ 24) ns) (w : ℕ) (l : w < 30) (n : ℕ) (e : n ≡ get_or ns w 0) where
  coded-digit : (j r : ℕ) → j * 8 ≡ w * 24 + r → r ≤ 16
      → get_or (numbers_in 8 90 (sent 24 ns)) j 0
      ≡ (get_or ns w 0 + 2 ^ 24 * (get_or ns (suc w) 0 + 2 ^ 24 * number (sent 24 (drop (suc (suc w)) ns)))) / 2 ^ r % 256
  coded-digit j r p f = regrouped 8 24 90 j w r ns h (omega arith) p

  pub coded-first : bit_and n 255 ≡ get_or (numbers_in 8 90 (sent 24 ns)) (w * 3) 0
  coded-first = and_mask n 8 ∙ omega (arith, coded-digit (w * 3) 0 (omega arith) (lit≤ tt))

  pub coded-second : bit_and (n / 256) 255 ≡ get_or (numbers_in 8 90 (sent 24 ns)) (w * 3 + 1) 0
  coded-second = and_mask (n / 256) 8 ∙ omega (arith, coded-digit (w * 3 + 1) 8 (omega arith) (lit≤ tt))

  pub coded-third : n / 65536 ≡ get_or (numbers_in 8 90 (sent 24 ns)) (w * 3 + 2) 0
  coded-third = omega (arith, h w, coded-digit (w * 3 + 2) 16 (omega arith) (lit≤ tt))
