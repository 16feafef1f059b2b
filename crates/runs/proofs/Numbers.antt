-- Numbers of four and of eight bytes in a run, lowest byte first. `Below 256 s` says that each of s is a byte.
--
--   four-length, four_below        four bytes
--   four_at-part                    the number at a place is that of the part there
--   four_at-lt                      it has four bytes
--   four_at-four, four_at-put, four-four_at     each of the two undoes the other
--   four-written, four_at-read     what the library writes and reads
--   eight-length, eight-below, eight_at-part, eight_at-eight     the same for eight bytes
--   eight-written, eight_at-read
--
-- Assumes nothing.
use mathlib.Core.Path.{◌≡◌, refl, sym, ap, ap₂, ◌∙◌}
use mathlib.Core.List.{List, [], ◌∷◌, ◌++◌}
use Prim.Native.Nat.{ℕ, zero, suc, ◌+◌, ◌*◌, ◌/◌, ◌%◌, ◌^◌, ◌≤◌, ◌<◌}
use native.Mathlib.Omega.{arith}
use native.Mathlib.Nat.{add-zero, add_assoc}
use lib.Dec.{lit<, lit≤}
use lib.ListN.{length, drop, get_or}
use lib.Pow.{shr-shr}
use Rattle.bits.proofs.Runs.{Below, below-cat, below-take, below-drop}
use Rattle.std.specs.Int.{w32, w64, to_le_bytes, from_le_bytes}
use Rattle.runs.specs.Part.{part, put}
use Rattle.runs.specs.Numbers.{four, four_at, eight, eight_at}
use Rattle.runs.proofs.Parts.{part_length, get_d_part, part-put}

-- ---- a number as four bytes

pub four-length : (n : ℕ) → length (four n) ≡ 4
unfolding four
four-length n = refl

pub four_below : (n : ℕ) → Below 256 (four n)
unfolding four
four_below n zero = omega arith
four_below n (suc zero) = omega arith
four_below n (suc (suc zero)) = omega arith
four_below n (suc (suc (suc zero))) = omega arith
four_below n (suc (suc (suc (suc k)))) = omega arith

-- the number at a place is that of the part there
pub four_at-part : (at i n : ℕ) (s : List ℕ) → i + 4 ≤ n → four_at (at + i) s ≡ four_at i (part at n s)
unfolding four_at
four_at-part at i n s h =
    let place : (k : ℕ) → k < 4 → get_or s (at + i + k) 0 ≡ get_or (part at n s) (i + k) 0 =
    λ k l. ap (λ (x : ℕ). get_or s x 0) (add_assoc at i k) ∙ sym (get_d_part at n (i + k) s (omega arith)) in
    let first : get_or s (at + i) 0 ≡ get_or (part at n s) i 0 = sym (get_d_part at n i s (omega arith)) in
    omega (arith, place 1 (lit< tt), place 2 (lit< tt), place 3 (lit< tt))

pub four_at-lt : (at : ℕ) (s : List ℕ) → Below 256 s → four_at at s < 2 ^ 32
unfolding four_at
four_at-lt at s h = omega (arith, h at, h (at + 1), h (at + 2), h (at + 3))

together : (n q r t a b c d : ℕ) → n ≡ 256 * q + a → q ≡ 256 * r + b → r ≡ 256 * t + c → t ≡ d
    → a + 256 * b + 65536 * c + 16777216 * d ≡ n
together n q r t a b c d e f g h = omega arith

pub four_at-four : (n : ℕ) (r : List ℕ) → n < 2 ^ 32 → four_at 0 (four n ++ r) ≡ n
unfolding four four_at
four_at-four n r h =
    together n (n / 256) (n / 65536) (n / 16777216) (n % 256) (n / 256 % 256) (n / 65536 % 256) (n / 16777216 % 256)
    (omega arith) (omega (arith, shr-shr n 8 8)) (omega (arith, shr-shr n 16 8)) (omega arith)

pub four_at-put : (at n : ℕ) (s : List ℕ) → at ≤ length s → n < 2 ^ 32 → four_at at (put at 4 (four n) s) ≡ n
unfolding four
four_at-put at n s h l =
    ap (λ (x : ℕ). four_at x (put at 4 (four n) s)) (sym (add-zero at))
    ∙ four_at-part at 0 4 (put at 4 (four n) s) (lit≤ tt)
    ∙ ap (four_at 0) (part-put at 4 (four n) s h refl) ∙ four_at-four n [] l

four-of : (b : List ℕ) → length b ≡ 4 → Below 256 b → four (four_at 0 b) ≡ b
unfolding four four_at
four-of [] l h = absurd (omega arith)
four-of (a ∷ []) l h = absurd (omega arith)
four-of (a ∷ b ∷ []) l h = absurd (omega arith)
four-of (a ∷ b ∷ c ∷ []) l h = absurd (omega arith)
four-of (a ∷ b ∷ c ∷ d ∷ []) l h =
    let la = h 0 in
    let lb = h 1 in
    let lc = h 2 in
    let ld = h 3 in
    let n : ℕ = a + 256 * b + 65536 * c + 16777216 * d in
    let qb : n / 256 ≡ b + 256 * (c + 256 * d) = omega arith in
    let qc : n / 65536 ≡ c + 256 * d = omega arith in
    let qd : n / 16777216 ≡ d = omega arith in
    let pa : n % 256 ≡ a = omega arith in
    let pb : n / 256 % 256 ≡ b = ap (λ (x : ℕ). x % 256) qb ∙ omega arith in
    let pc : n / 65536 % 256 ≡ c = ap (λ (x : ℕ). x % 256) qc ∙ omega arith in
    let pd : n / 16777216 % 256 ≡ d = ap (λ (x : ℕ). x % 256) qd ∙ omega arith in
    λ i. pa i ∷ pb i ∷ pc i ∷ pd i ∷ []
four-of (a ∷ b ∷ c ∷ d ∷ x ∷ r) l h = absurd (omega arith)

pub four-four_at : (at : ℕ) (s : List ℕ) → at + 4 ≤ length s → Below 256 s → four (four_at at s) ≡ part at 4 s
unfolding part
four-four_at at s l h =
    ap (λ (x : ℕ). four (four_at x s)) (sym (add-zero at))
    ∙ ap four (four_at-part at 0 4 s (lit≤ tt))
    ∙ four-of (part at 4 s) (part_length at 4 s l) (below-take 4 (drop at s) (below-drop at s h))

pub four-written : (n : ℕ) → to_le_bytes w32 n ≡ four n
unfolding four
four-written n = refl

pub four_at-read : (at : ℕ) (s : List ℕ) → from_le_bytes w32 (part at 4 s) ≡ four_at at s
unfolding four_at
four_at-read at s =
    let place : (k : ℕ) → k < 4 → get_or (part at 4 s) k 0 ≡ get_or s (at + k) 0 = λ k. get_d_part at 4 k s in
    let read : from_le_bytes w32 (part at 4 s)
    ≡ get_or (part at 4 s) 0 0 + get_or (part at 4 s) 1 0 * 256 + get_or (part at 4 s) 2 0 * 65536 + get_or (part at 4 s) 3 0 * 16777216 = refl in
    read ∙ omega (arith, place 0 (lit< tt), place 1 (lit< tt), place 2 (lit< tt), place 3 (lit< tt), ap (λ (x : ℕ). get_or s x 0) (add-zero at))

-- ---- eight bytes

pub eight-length : (n : ℕ) → length (eight n) ≡ 8
unfolding eight four
eight-length n = refl

pub eight-below : (n : ℕ) → Below 256 (eight n)
unfolding eight
eight-below n = below-cat (four n) (four (n / 2 ^ 32)) (four_below n) (four_below (n / 2 ^ 32))

pub eight_at-part : (at : ℕ) (s : List ℕ) → eight_at at s ≡ eight_at 0 (part at 8 s)
unfolding eight_at
eight_at-part at s =
    ap₂ (λ (x y : ℕ). x + 2 ^ 32 * y)
    (ap (λ (x : ℕ). four_at x s) (sym (add-zero at)) ∙ four_at-part at 0 8 s (lit≤ tt))
    (four_at-part at 4 8 s (lit≤ tt))

-- four bytes are those of the number's rest
rest : (n q r : ℕ) → n ≡ 4294967296 * q + r → (n / 256 % 256 ≡ r / 256 % 256) × ((n / 65536 % 256 ≡ r / 65536 % 256) × (n / 16777216 % 256 ≡ r / 16777216 % 256))
rest n q r e =
    let one : n / 256 ≡ 16777216 * q + r / 256 = omega arith in
    let two : n / 65536 ≡ 65536 * q + r / 65536 = omega arith in
    let three : n / 16777216 ≡ 256 * q + r / 16777216 = omega arith in (
      ap (λ (x : ℕ). x % 256) one ∙ whole (65536 * q) (r / 256) (16777216 * q) (omega arith),
      (
        ap (λ (x : ℕ). x % 256) two ∙ whole (256 * q) (r / 65536) (65536 * q) (omega arith),
        ap (λ (x : ℕ). x % 256) three ∙ whole q (r / 16777216) (256 * q) refl,
      ),
    )
  where
    whole : (k x y : ℕ) → y ≡ 256 * k → (y + x) % 256 ≡ x % 256
    whole k x y h = omega arith

low : (n : ℕ) → four n ≡ four (n % 2 ^ 32)
unfolding four
low n =
    let e : n ≡ 4294967296 * (n / 4294967296) + n % 4294967296 = omega arith in
    let f = rest n (n / 4294967296) (n % 4294967296) e in
    let a : n % 256 ≡ n % 4294967296 % 256 = omega arith in
    λ i. a i ∷ f.0 i ∷ f.1.0 i ∷ f.1.1 i ∷ []

high : (xs ys : ℕ) → four_at 4 (four xs ++ four ys) ≡ four_at 0 (four ys ++ [])
unfolding four four_at
high xs ys = refl

pub eight_at-eight : (n : ℕ) → n < 2 ^ 64 → eight_at 0 (eight n) ≡ n
unfolding eight_at eight
eight_at-eight n h =
    let one : four_at 0 (four n ++ four (n / 2 ^ 32)) ≡ n % 2 ^ 32 =
    ap (λ (x : List ℕ). four_at 0 (x ++ four (n / 2 ^ 32))) (low n) ∙ four_at-four (n % 2 ^ 32) (four (n / 2 ^ 32)) (omega arith) in
    let two : four_at 4 (four n ++ four (n / 2 ^ 32)) ≡ n / 2 ^ 32 =
    high n (n / 2 ^ 32) ∙ four_at-four (n / 2 ^ 32) [] (omega arith) in
    ap₂ (λ (x y : ℕ). x + 2 ^ 32 * y) one two ∙ omega arith

pub eight-written : (n : ℕ) → to_le_bytes w64 n ≡ eight n
unfolding eight four
eight-written n =
    let q : ℕ = n / 4294967296 in
    let a : n / 1099511627776 % 256 ≡ q / 256 % 256 = ap (λ (x : ℕ). x % 256) (sym (shr-shr n 32 8)) in
    let b : n / 281474976710656 % 256 ≡ q / 65536 % 256 = ap (λ (x : ℕ). x % 256) (sym (shr-shr n 32 16)) in
    let c : n / 72057594037927936 % 256 ≡ q / 16777216 % 256 = ap (λ (x : ℕ). x % 256) (sym (shr-shr n 32 24)) in
    λ i. n % 256 ∷ n / 256 % 256 ∷ n / 65536 % 256 ∷ n / 16777216 % 256 ∷ q % 256 ∷ a i ∷ b i ∷ c i ∷ []

pub eight_at-read : (at : ℕ) (s : List ℕ) → from_le_bytes w64 (part at 8 s) ≡ eight_at at s
unfolding eight_at four_at
eight_at-read at s =
    let b : ℕ → ℕ = λ k. get_or (part at 8 s) k 0 in
    let read : from_le_bytes w64 (part at 8 s)
    ≡ b 0 + b 1 * 256 + b 2 * 65536 + b 3 * 16777216 + b 4 * 4294967296 + b 5 * 1099511627776 + b 6 * 281474976710656 + b 7 * 72057594037927936 = refl in
    read ∙ omega arith ∙ sym (eight_at-part at s)
