-- Laws of runs of bits, each over any width w. `Below m ns` says that each of a list's numbers is below m; beyond the
-- list's end stands 0.
--
--   below-*       so is each of a part, of one more, and of two lists in a row
--   bits_of-*      a number's bits: how many, each a bit, which bit is where, the low and the high ones in a row
--   number-bits   the number of the bits of n is n up to 2 ^ w
--   bits-number   the bits of a run's number are the run; bits-front: of a run's first w bits
--   number-*      the number of two runs in a row, of a run's front and of its rest, of the bits from a place on; its size
--   digit         the number of a part of a run is a digit of the run's number; digit_lt: its size
--   sent-*        what is sent: how many bits, each a bit, two lists in a row, the front, the rest and a part;
--                 sent-place, sent-bit: which bit is where
--   number_at     the number of what is sent from one number on
--   numbers_in-*   the numbers of a run: how many, how large, one more, which number is where, two takings in a row, of a front,
--                 after a run, of a number's bits
--   numbers_in-sent, sent-numbers_in   reading undoes sending, and sending reading
--   or_above      shift and or lay a number above another
--   three-bytes, word_bytes, bytes_word   words of 24 bits from bytes, and bytes from such a word
--
-- Assumes nothing.
use mathlib.Core.Path.{◌≡◌, refl, sym, ap, ap₂, ◌∙◌, subst}
use mathlib.Core.List.{List, [], ◌∷◌, ◌++◌, append_assoc, append-nil}
use Prim.Native.Nat.{ℕ, zero, suc, ◌+◌, ◌*◌, ◌/◌, ◌%◌, ◌^◌, ◌≤◌, ◌<◌}
use native.Mathlib.Omega.{arith}
use native.Mathlib.Nat.{pow-suc, mul_assoc, mul_comm, zero-mul, suc-mul, add-zero, zero-add, suc-add, add_comm, mod-lt, mod-eq_of_lt, mod-one, div-one, zero-mod, zero-div, div-add-mod', div-lt_iff_lt-mul}
use native.Mathlib.Numerals.{add-one, one-add}
use lib.ListN.{length, take, drop, get_or, length-append, length-drop, get_or-append}
use lib.Seq.{take-append-le, drop-append-le, take_at, drop_at, take-add, drop-drop, get_or-drop, drop-cons, drop-nil, take-nil, length-take-le}
use lib.Bits.{bit_or, or_shifted_r}
use lib.Pow.{pow_pos, mod-pow-add, shr-shr, shl_exact}
use Rattle.bits.specs.Bits.{bits_of, number, sent, numbers_in}

-- ---- each below a bound; beyond a list's end stands 0

abbrev pub Below : ℕ → List ℕ → Type 0
Below m ns = (k : ℕ) → get_or ns k 0 < m

pub below-drop : {m : ℕ} (i : ℕ) (ns : List ℕ) → Below m ns → Below m (drop i ns)
below-drop {m} i ns h k = subst (λ (x : ℕ). x < m) (sym (get_or-drop i ns k 0)) (h (i + k))

pub below-take : {m : ℕ} (i : ℕ) (ns : List ℕ) → Below m ns → Below m (take i ns)
below-take zero ns h k = let z = h 0 in omega arith
below-take (suc i) [] h k = h k
below-take (suc i) (n ∷ ns) h zero = h 0
below-take (suc i) (n ∷ ns) h (suc k) = below-take i ns (λ j. h (suc j)) k

pub below-cons : {m : ℕ} (n : ℕ) (ns : List ℕ) → n < m → Below m ns → Below m (n ∷ ns)
below-cons n ns h hs zero = h
below-cons n ns h hs (suc k) = hs k

pub below-cat : {m : ℕ} (xs ys : List ℕ) → Below m xs → Below m ys → Below m (xs ++ ys)
below-cat [] ys hx hy k = hy k
below-cat (x ∷ xs) ys hx hy zero = hx 0
below-cat (x ∷ xs) ys hx hy (suc k) = below-cat xs ys (λ j. hx (suc j)) hy k

-- ---- the bits of a number

shr-suc : (n k : ℕ) → n / 2 / 2 ^ k ≡ n / 2 ^ suc k
shr-suc n k = shr-shr n 1 k ∙ ap (λ (x : ℕ). n / 2 ^ x) (one-add k)

mod-suc : (n k : ℕ) → n % 2 ^ suc k ≡ n % 2 + 2 * (n / 2 % 2 ^ k)
mod-suc n k = omega (arith, rw add-one at (mod-pow-add n k 1))

pub bits_of-length : (w n : ℕ) → length (bits_of w n) ≡ w
unfolding bits_of
bits_of-length zero n = refl
bits_of-length (suc w) n = ap suc (bits_of-length w (n / 2))

pub bits_of-below : (w n : ℕ) → Below 2 (bits_of w n)
unfolding bits_of
bits_of-below zero n k = omega arith
bits_of-below (suc w) n zero = omega arith
bits_of-below (suc w) n (suc k) = bits_of-below w (n / 2) k

pub bits_of-bit : (w n r : ℕ) → r < w → get_or (bits_of w n) r 0 ≡ n / 2 ^ r % 2
unfolding bits_of
bits_of-bit zero n r h = absurd (omega arith)
bits_of-bit (suc w) n zero h = ap (λ (x : ℕ). x % 2) (sym (div-one n))
bits_of-bit (suc w) n (suc r) h = bits_of-bit w (n / 2) r (omega arith) ∙ ap (λ (x : ℕ). x % 2) (shr-suc n r)

pub bits_of-cat : (a b n : ℕ) → bits_of (a + b) n ≡ bits_of a n ++ bits_of b (n / 2 ^ a)
unfolding bits_of
bits_of-cat zero b n = ap₂ bits_of (zero-add b) (sym (div-one n))
bits_of-cat (suc a) b n =
    ap (λ (x : ℕ). bits_of x n) (suc-add a b)
    ∙ ap (λ (xs : List ℕ). n % 2 ∷ xs)
    (bits_of-cat a b (n / 2) ∙ ap (λ (x : ℕ). bits_of a (n / 2) ++ bits_of b x) (shr-suc n a))

-- ---- the number of a run

pub number-bits : (w n : ℕ) → number (bits_of w n) ≡ n % 2 ^ w
unfolding bits_of number
number-bits zero n = sym (mod-one n)
number-bits (suc w) n = omega (arith, number-bits w (n / 2), mod-suc n w)

pub number-bits-small : (w n : ℕ) → n < 2 ^ w → number (bits_of w n) ≡ n
number-bits-small w n h = number-bits w n ∙ mod-eq_of_lt h

pub number-cat : (xs ys : List ℕ) → number (xs ++ ys) ≡ number xs + 2 ^ length xs * number ys
unfolding number
number-cat [] ys = omega arith
number-cat (x ∷ xs) ys =
    omega (
      arith,
      number-cat xs ys,
      ap (λ (p : ℕ). p * number ys) (pow-suc 2 (length xs) ∙ mul_comm (2 ^ length xs) 2),
      mul_assoc 2 (2 ^ length xs) (number ys),
    )

pub number_lt : (bs : List ℕ) → Below 2 bs → number bs < 2 ^ length bs
unfolding number
number_lt [] h = omega arith
number_lt (b ∷ bs) h = omega (arith, h 0, number_lt bs (λ k. h (suc k)), pow-suc 2 (length bs))

pub bits-number : (bs : List ℕ) → Below 2 bs → bits_of (length bs) (number bs) ≡ bs
unfolding bits_of number
bits-number [] h = refl
bits-number (b ∷ bs) h =
    let l = h 0 in
    let q : (b + 2 * number bs) / 2 ≡ number bs = omega arith in
    let r : (b + 2 * number bs) % 2 ≡ b = omega arith in
    ap₂ (λ (x y : ℕ). x ∷ bits_of (length bs) y) r q ∙ ap (λ (xs : List ℕ). b ∷ xs) (bits-number bs (λ k. h (suc k)))

pub bits-front : (w : ℕ) (bs : List ℕ) → Below 2 bs → w ≤ length bs → bits_of w (number (take w bs)) ≡ take w bs
bits-front w bs h l =
    ap (λ (x : ℕ). bits_of x (number (take w bs))) (sym (length-take-le w bs l)) ∙ bits-number (take w bs) (below-take w bs h)

pub number-take : (k : ℕ) (bs : List ℕ) → Below 2 bs → number (take k bs) ≡ number bs % 2 ^ k
unfolding number
number-take zero bs h = sym (mod-one (number bs))
number-take (suc k) [] h = sym (zero-mod (2 ^ suc k))
number-take (suc k) (b ∷ bs) h =
    let l = h 0 in
    let q : (b + 2 * number bs) / 2 ≡ number bs = omega arith in
    omega (arith, number-take k bs (λ j. h (suc j)), mod-suc (b + 2 * number bs) k, ap (λ (x : ℕ). x % 2 ^ k) q)

pub number-drop : (k : ℕ) (bs : List ℕ) → Below 2 bs → number (drop k bs) ≡ number bs / 2 ^ k
unfolding number
number-drop zero bs h = sym (div-one (number bs))
number-drop (suc k) [] h = sym (zero-div (2 ^ suc k))
number-drop (suc k) (b ∷ bs) h =
    let l = h 0 in
    let q : number bs ≡ (b + 2 * number bs) / 2 = omega arith in
    number-drop k bs (λ j. h (suc j)) ∙ ap (λ (x : ℕ). x / 2 ^ k) q ∙ shr-suc (b + 2 * number bs) k

-- the number of the bits from bit i on; beyond the end stands 0
pub number-next : (w i : ℕ) (bs : List ℕ) → number (take (suc w) (drop i bs)) ≡ get_or bs i 0 + 2 * number (take w (drop (suc i) bs))
unfolding number
number-next w zero [] = omega (arith, ap number (take-nil w))
number-next w zero (b ∷ bs) = refl
number-next w (suc i) [] = omega (arith, ap number (take-nil w))
number-next w (suc i) (b ∷ bs) = number-next w i bs

-- bits 0 at the end add nothing
pub number-ends : (bs : List ℕ) → number (bs ++ (0 ∷ [])) ≡ number bs
unfolding number
number-ends [] = refl
number-ends (b ∷ bs) = ap (λ (x : ℕ). b + 2 * x) (number-ends bs)

pub digit : (w i : ℕ) (bs : List ℕ) → Below 2 bs → number (take w (drop i bs)) ≡ number bs / 2 ^ i % 2 ^ w
digit w i bs h = number-take w (drop i bs) (below-drop i bs h) ∙ ap (λ (x : ℕ). x % 2 ^ w) (number-drop i bs h)

pub digit_lt : (w i : ℕ) (bs : List ℕ) → Below 2 bs → number (take w (drop i bs)) < 2 ^ w
digit_lt w i bs h = subst (λ (x : ℕ). x < 2 ^ w) (sym (digit w i bs h)) (mod-lt (number bs / 2 ^ i) (pow_pos w))

-- ---- what is sent

suc-times : (k w : ℕ) → suc k * w ≡ w + k * w
suc-times k w = suc-mul k w ∙ add_comm (k * w) w

pub sent-length : (w : ℕ) (ns : List ℕ) → length (sent w ns) ≡ length ns * w
unfolding sent
sent-length w [] = sym (zero-mul w)
sent-length w (n ∷ ns) =
    length-append (bits_of w n) (sent w ns) ∙ ap₂ ◌+◌ (bits_of-length w n) (sent-length w ns) ∙ sym (suc-times (length ns) w)

pub sent-below : (w : ℕ) (ns : List ℕ) → Below 2 (sent w ns)
unfolding sent
sent-below w [] k = omega arith
sent-below w (n ∷ ns) k = below-cat (bits_of w n) (sent w ns) (bits_of-below w n) (sent-below w ns) k

pub sent-cat : (w : ℕ) (ms ns : List ℕ) → sent w (ms ++ ns) ≡ sent w ms ++ sent w ns
unfolding sent
sent-cat w [] ns = refl
sent-cat w (m ∷ ms) ns =
    ap (λ (xs : List ℕ). bits_of w m ++ xs) (sent-cat w ms ns) ∙ sym (append_assoc (bits_of w m) (sent w ms) (sent w ns))

pub sent-drop : (w j : ℕ) (ns : List ℕ) → drop (j * w) (sent w ns) ≡ sent w (drop j ns)
unfolding sent
sent-drop w zero ns = ap (λ (x : ℕ). drop x (sent w ns)) (zero-mul w)
sent-drop w (suc j) [] = drop-nil (suc j * w)
sent-drop w (suc j) (n ∷ ns) =
    ap (λ (x : ℕ). drop x (bits_of w n ++ sent w ns)) (suc-times j w)
    ∙ sym (drop-drop (j * w) w (bits_of w n ++ sent w ns))
    ∙ ap (drop (j * w)) (drop_at (bits_of w n) (sent w ns) w (bits_of-length w n)) ∙ sent-drop w j ns

pub sent-take : (w j : ℕ) (ns : List ℕ) → take (j * w) (sent w ns) ≡ sent w (take j ns)
unfolding sent
sent-take w zero ns = ap (λ (x : ℕ). take x (sent w ns)) (zero-mul w)
sent-take w (suc j) [] = take-nil (suc j * w)
sent-take w (suc j) (n ∷ ns) =
    ap (λ (x : ℕ). take x (bits_of w n ++ sent w ns)) (suc-times j w)
    ∙ take-add w (j * w) (bits_of w n ++ sent w ns)
    ∙ ap₂ ◌++◌ (take_at (bits_of w n) (sent w ns) w (bits_of-length w n))
    (ap (take (j * w)) (drop_at (bits_of w n) (sent w ns) w (bits_of-length w n)) ∙ sent-take w j ns)

pub sent-part : (w m j : ℕ) (ns : List ℕ) → take (m * w) (drop (j * w) (sent w ns)) ≡ sent w (take m (drop j ns))
sent-part w m j ns = ap (take (m * w)) (sent-drop w j ns) ∙ sent-take w m (drop j ns)

-- bit r of number j is bit j * w + r sent
pub sent-place : (w j r : ℕ) (ns : List ℕ) → j < length ns → r < w → get_or (sent w ns) (j * w + r) 0 ≡ get_or ns j 0 / 2 ^ r % 2
unfolding sent
sent-place w j r ns hj hr =
    sym (get_or-drop (j * w) (sent w ns) r 0)
    ∙ ap (λ (xs : List ℕ). get_or xs r 0) (sent-drop w j ns ∙ ap (sent w) (drop-cons ns j 0 hj))
    ∙ get_or-append (bits_of w (get_or ns j 0)) (sent w (drop (suc j) ns)) 0 r (rw bits_of-length hr)
    ∙ bits_of-bit w (get_or ns j 0) r hr

-- bit k sent is the bit of weight 2 ^ (k mod w) in number k / w
pub sent-bit : (w k : ℕ) (ns : List ℕ) → 0 < w → k < length ns * w → get_or (sent w ns) k 0 ≡ get_or ns (k / w) 0 / 2 ^ (k % w) % 2
sent-bit w k ns hw hk =
    ap (λ (x : ℕ). get_or (sent w ns) x 0) (sym (div-add-mod' k w))
    ∙ sent-place w (k / w) (k % w) ns ((div-lt_iff_lt-mul hw).1 hk) (mod-lt k hw)

pub number-sent : (w n : ℕ) (ns : List ℕ) → n < 2 ^ w → number (sent w (n ∷ ns)) ≡ n + 2 ^ w * number (sent w ns)
unfolding sent
number-sent w n ns h =
    number-cat (bits_of w n) (sent w ns)
    ∙ ap₂ (λ (x y : ℕ). x + 2 ^ y * number (sent w ns)) (number-bits-small w n h) (bits_of-length w n)

-- the number of what is sent from number j on; beyond the end stands 0
pub number_at : (w j : ℕ) (ns : List ℕ) → Below (2 ^ w) ns
    → number (sent w (drop j ns)) ≡ get_or ns j 0 + 2 ^ w * number (sent w (drop (suc j) ns))
unfolding number sent
number_at w zero [] h = omega arith
number_at w zero (n ∷ ns) h = number-sent w n ns (h 0)
number_at w (suc j) [] h = omega arith
number_at w (suc j) (n ∷ ns) h = number_at w j ns (λ k. h (suc k))

-- ---- the numbers of a run

pub numbers_in-length : (w k : ℕ) (bs : List ℕ) → length (numbers_in w k bs) ≡ k
unfolding numbers_in
numbers_in-length w zero bs = refl
numbers_in-length w (suc k) bs = ap suc (numbers_in-length w k (drop w bs))

pub numbers_in-step : (w k : ℕ) (bs : List ℕ) → numbers_in w (suc k) bs ≡ number (take w bs) ∷ numbers_in w k (drop w bs)
unfolding numbers_in
numbers_in-step w k bs = refl

pub numbers_in-at : (w k j : ℕ) (bs : List ℕ) → j < k → get_or (numbers_in w k bs) j 0 ≡ number (take w (drop (j * w) bs))
unfolding numbers_in
numbers_in-at w zero j bs h = absurd (omega arith)
numbers_in-at w (suc k) zero bs h = ap (λ (x : ℕ). number (take w (drop x bs))) (sym (zero-mul w))
numbers_in-at w (suc k) (suc j) bs h =
    numbers_in-at w k j (drop w bs) (omega arith)
    ∙ ap (λ (xs : List ℕ). number (take w xs)) (drop-drop (j * w) w bs ∙ ap (λ (x : ℕ). drop x bs) (sym (suc-times j w)))

pub numbers_in-below : (w k : ℕ) (bs : List ℕ) → Below 2 bs → Below (2 ^ w) (numbers_in w k bs)
unfolding numbers_in
numbers_in-below w zero bs h j = pow_pos w
numbers_in-below w (suc k) bs h zero = digit_lt w 0 bs h
numbers_in-below w (suc k) bs h (suc j) = numbers_in-below w k (drop w bs) (below-drop w bs h) j

pub numbers_in-cat : (w a b : ℕ) (bs : List ℕ) → numbers_in w (a + b) bs ≡ numbers_in w a bs ++ numbers_in w b (drop (a * w) bs)
unfolding numbers_in
numbers_in-cat w zero b bs = ap₂ (λ (x y : ℕ). numbers_in w x (drop y bs)) (zero-add b) (sym (zero-mul w))
numbers_in-cat w (suc a) b bs =
    ap (λ (x : ℕ). numbers_in w x bs) (suc-add a b)
    ∙ ap (λ (xs : List ℕ). number (take w bs) ∷ xs)
    (numbers_in-cat w a b (drop w bs)
    ∙ ap (λ (xs : List ℕ). numbers_in w a (drop w bs) ++ numbers_in w b xs)
    (drop-drop (a * w) w bs ∙ ap (λ (x : ℕ). drop x bs) (sym (suc-times a w))))

-- what stands after the last of them does not matter
pub numbers_in-front : (w k : ℕ) (xs ys : List ℕ) → k * w ≤ length xs → numbers_in w k (xs ++ ys) ≡ numbers_in w k xs
unfolding numbers_in
numbers_in-front w zero xs ys l = refl
numbers_in-front w (suc k) xs ys l =
    let fits : w ≤ length xs = omega (arith, suc-times k w) in
    ap₂ (λ (x y : List ℕ). number x ∷ numbers_in w k y) (take-append-le w xs ys fits) (drop-append-le w xs ys fits)
    ∙ ap (λ (x : List ℕ). number (take w xs) ∷ x)
    (numbers_in-front w k (drop w xs) ys (omega (arith, suc-times k w, length-drop w xs)))

-- the first of them where a run stands in front
pub numbers_in-run : (w k : ℕ) (xs ys : List ℕ) → length xs ≡ w → numbers_in w (suc k) (xs ++ ys) ≡ number xs ∷ numbers_in w k ys
unfolding numbers_in
numbers_in-run w k xs ys e = ap₂ (λ (x y : List ℕ). number x ∷ numbers_in w k y) (take_at xs ys w e) (drop_at xs ys w e)

pub numbers_in-bits : (w k m n : ℕ) (rest : List ℕ)
    → numbers_in w (suc k) (bits_of (w + m) n ++ rest) ≡ n % 2 ^ w ∷ numbers_in w k (bits_of m (n / 2 ^ w) ++ rest)
numbers_in-bits w k m n rest =
    ap (numbers_in w (suc k))
    (ap (λ (xs : List ℕ). xs ++ rest) (bits_of-cat w m n) ∙ append_assoc (bits_of w n) (bits_of m (n / 2 ^ w)) rest)
    ∙ numbers_in-run w k (bits_of w n) (bits_of m (n / 2 ^ w) ++ rest) (bits_of-length w n)
    ∙ ap (λ (x : ℕ). x ∷ numbers_in w k (bits_of m (n / 2 ^ w) ++ rest)) (number-bits w n)

pub numbers_in-sent : (w : ℕ) (ns rest : List ℕ) → Below (2 ^ w) ns → numbers_in w (length ns) (sent w ns ++ rest) ≡ ns
unfolding sent numbers_in
numbers_in-sent w [] rest h = refl
numbers_in-sent w (n ∷ ns) rest h =
    ap (numbers_in w (suc (length ns))) (append_assoc (bits_of w n) (sent w ns) rest)
    ∙ numbers_in-run w (length ns) (bits_of w n) (sent w ns ++ rest) (bits_of-length w n)
    ∙ ap₂ (λ (x : ℕ) (xs : List ℕ). x ∷ xs) (number-bits-small w n (h 0)) (numbers_in-sent w ns rest (λ k. h (suc k)))

pub sent-numbers_in : (w k : ℕ) (bs : List ℕ) → Below 2 bs → k * w ≤ length bs → sent w (numbers_in w k bs) ≡ take (k * w) bs
unfolding sent numbers_in
sent-numbers_in w zero bs h l = ap (λ (x : ℕ). take x bs) (sym (zero-mul w))
sent-numbers_in w (suc k) bs h l =
    ap₂ ◌++◌
    (bits-front w bs h (omega (arith, suc-times k w)))
    (sent-numbers_in w k (drop w bs) (below-drop w bs h) (omega (arith, suc-times k w, length-drop w bs)))
    ∙ sym (take-add w (k * w) bs) ∙ ap (λ (x : ℕ). take x bs) (sym (suc-times k w))

-- ---- bytes and words of three bytes

-- a number laid above another, by shift and or
pub or_above : (j k w a b : ℕ) → a < 2 ^ k → b < 2 ^ j → j + k ≤ w → bit_or a ((b * 2 ^ k) % 2 ^ w) ≡ a + 2 ^ k * b
or_above j k w a b ha hb l =
    ap (bit_or a) (shl_exact j k w hb l) ∙ or_shifted_r b k a ha ∙ add_comm (b * 2 ^ k) a ∙ ap (λ (x : ℕ). a + x) (mul_comm b (2 ^ k))

pub three-bytes : (s : List ℕ) → Below 256 s
    → number (take 24 (sent 8 s)) ≡ get_or s 0 0 + 256 * get_or s 1 0 + 65536 * get_or s 2 0
three-bytes s h =
    number-take 24 (sent 8 s) (sent-below 8 s)
    ∙ omega (arith, h 0, h 1, h 2, number_at 8 0 s h, number_at 8 1 s h, number_at 8 2 s h)

pub word_bytes : (j : ℕ) (s : List ℕ) → Below 256 s
    → number (take 24 (drop (24 * j) (sent 8 s))) ≡ get_or s (3 * j) 0 + 256 * get_or s (3 * j + 1) 0 + 65536 * get_or s (3 * j + 2) 0
word_bytes j s h =
    let place : 24 * j ≡ 3 * j * 8 = omega arith in
    let front : get_or (drop (3 * j) s) 0 0 ≡ get_or s (3 * j) 0 = get_or-drop (3 * j) s 0 0 ∙ ap (λ (x : ℕ). get_or s x 0) (add-zero (3 * j)) in
    ap (λ (x : ℕ). number (take 24 (drop x (sent 8 s)))) place
    ∙ ap (λ (xs : List ℕ). number (take 24 xs)) (sent-drop 8 (3 * j) s)
    ∙ three-bytes (drop (3 * j) s) (below-drop (3 * j) s h)
    ∙ omega (arith, get_or-drop (3 * j) s 1 0, get_or-drop (3 * j) s 2 0)

pub bytes_word : (n : ℕ) → numbers_in 8 3 (bits_of 24 n) ≡ n % 256 ∷ n / 256 % 256 ∷ n / 65536 % 256 ∷ []
unfolding numbers_in
bytes_word n =
    ap (numbers_in 8 3) (sym (append-nil (bits_of 24 n)))
    ∙ numbers_in-bits 8 2 16 n []
    ∙ ap (λ (xs : List ℕ). n % 256 ∷ xs)
    (numbers_in-bits 8 1 8 (n / 256) []
    ∙ ap (λ (xs : List ℕ). n / 256 % 256 ∷ xs)
    (numbers_in-bits 8 0 0 (n / 256 / 256) [] ∙ ap (λ (x : ℕ). x % 256 ∷ []) (shr-shr n 8 8)))

-- ---- numbers of one width taken from numbers of another, by the two of these at which each begins

pub regrouped : (w v k j a r : ℕ) (ns : List ℕ) → Below (2 ^ v) ns → j < k → j * w ≡ a * v + r
    → get_or (numbers_in w k (sent v ns)) j 0
    ≡ (get_or ns a 0 + 2 ^ v * (get_or ns (suc a) 0 + 2 ^ v * number (sent v (drop (suc (suc a)) ns)))) / 2 ^ r % 2 ^ w
regrouped w v k j a r ns h l e =
    numbers_in-at w k j (sent v ns) l
    ∙ ap (λ (x : ℕ). number (take w (drop x (sent v ns)))) e
    ∙ ap (λ (bs : List ℕ). number (take w bs)) (sym (drop-drop r (a * v) (sent v ns)) ∙ ap (drop r) (sent-drop v a ns))
    ∙ digit w r (sent v (drop a ns)) (sent-below v (drop a ns))
    ∙ ap (λ (x : ℕ). x / 2 ^ r % 2 ^ w)
    (number_at v a ns h ∙ ap (λ (x : ℕ). get_or ns a 0 + 2 ^ v * x) (number_at v (suc a) ns h))
