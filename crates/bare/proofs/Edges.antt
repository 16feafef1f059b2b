-- P1 to P9 hold: one list, one statement. Each row comes to a test that antt computes: whether the word of the row's address
-- and index lies within three flips, whether the type does within two.
-- Assumes nothing.
use mathlib.Core.Path.{◌≡◌, sym, ap, ◌∙◌}
use mathlib.Core.Bool.{Bool, true}
use mathlib.Core.List.{List, [], ◌∷◌}
use Prim.Native.Nat.{ℕ, ◌+◌, ◌*◌, ◌/◌, ◌%◌, ◌^◌, ◌≤◌, ◌<◌}
use native.Mathlib.Omega.{arith}
use lib.Bits.{bit_xor, xor_lt}
use lib.Count.{ones, ones_in}
use lib.Dec.{T, leb, ltb, eqb, leb→le, ltb→lt, eqb→eq}
use Rattle.bits.specs.Bits.{flips}
use Rattle.bits.specs.Rows.{given, refusal}
use Rattle.bits.proofs.Every.{both, both_left, both_right}
use Rattle.bits.proofs.Flips.{ones-in}
use Rattle.bits.specs.All.{All}
use Rattle.bare.specs.Bare.{type_read, type_near}
use Rattle.golay.specs.Code.{less, line, divide, remainder, word23, nearest}
use Rattle.bare.specs.Bare.{HeaderAnswer}
use Rattle.bare.specs.Edges.{Edge, reads, reads_not, typed, untyped, Reads, Holds, edges}
use Rattle.golay.proofs.Nearest.{nearest-is}
use Rattle.bare.proofs.Theorems.{header-reads, header-exactly}
use Rattle.golay.proofs.Words.{word23-apart, word23-lt}

-- flips of a word against a number of 23 bits, in the form that computes
word_flips : ℕ → ℕ → ℕ
word_flips i n = ones_in 23 (bit_xor (word23 i) n)

word-flips : (i n : ℕ) → i < 2 ^ 12 → n < 2 ^ 23 → flips (word23 i) n ≡ word_flips i n
unfolding flips word_flips
word-flips i n hi hn = ones-in 23 (bit_xor (word23 i) n) (xor_lt 23 (word23 i) n (word23-lt i hi) hn)

-- address and index in range, and a number of 23 bits
fit : ℕ → ℕ → ℕ → Bool
fit n a i = both (ltb n (2 ^ 23)) (both (ltb a 1024) (ltb i 4))

test : Edge → Bool
test (reads n a i) = both (fit n a i) (leb (word_flips (a + 1024 * i) n) 3)
test (reads_not n a i) = both (fit n a i) (ltb 3 (word_flips (a + 1024 * i) n))
test (typed b t) = both (eqb (type_read b).number 0) (eqb (type_read b).value t)
test (untyped b) = eqb (type_read b).number 28

module _ (n a i : ℕ) (t : T (fit n a i)) where
  fits : (n < 2 ^ 23) × (a < 1024) × (i < 4)
  unfolding fit
  fits =
      let rest = both_right (ltb n (2 ^ 23)) (both (ltb a 1024) (ltb i 4)) t in (
        ltb→lt n (2 ^ 23) (both_left (ltb n (2 ^ 23)) (both (ltb a 1024) (ltb i 4)) t),
        ltb→lt a 1024 (both_left (ltb a 1024) (ltb i 4) rest),
        ltb→lt i 4 (both_right (ltb a 1024) (ltb i 4) rest),
      )

  reads-holds : word_flips (a + 1024 * i) n ≤ 3 → Reads n a i
  reads-holds f =
      let k : a + 1024 * i < 4096 = omega (arith, fits.1, fits.2) in
      let near : flips (word23 (a + 1024 * i)) n ≤ 3 = omega (arith, word-flips (a + 1024 * i) n k fits.0) in
      let r = header-reads n (a + 1024 * i) fits.0 (nearest-is word23 word23-apart n (a + 1024 * i) k near) in (
        ap (λ (h : HeaderAnswer). h.number) r,
        ap (λ (h : HeaderAnswer). h.address) r ∙ omega (arith, fits.1),
        ap (λ (h : HeaderAnswer). h.index) r ∙ omega (arith, fits.1),
      )

  reads_not-holds : 3 < word_flips (a + 1024 * i) n → Reads n a i → ⊥
  reads_not-holds far read =
      let e = header-exactly n fits.0 in
      let at : nearest word23 n ≡ a + 1024 * i = same (nearest word23 n) (sym (ap (λ (h : HeaderAnswer). h.address) e.reads) ∙ read.1) (sym (ap (λ (h : HeaderAnswer). h.index) e.reads) ∙ read.2) in
      let k : a + 1024 * i < 4096 = omega (arith, fits.1, fits.2) in
      omega (arith, e.near, ap (λ (x : ℕ). flips (word23 x) n) at, word-flips (a + 1024 * i) n k fits.0)
    where
      same : (m : ℕ) → m % 1024 ≡ a → m / 1024 ≡ i → m ≡ a + 1024 * i
      same m p q = omega arith

test-holds : (e : Edge) → T (test e) → Holds e
unfolding test
test-holds (reads n a i) t =
    reads-holds n a i (both_left (fit n a i) _ t) (leb→le _ 3 (both_right (fit n a i) (leb (word_flips (a + 1024 * i) n) 3) t))
test-holds (reads_not n a i) t =
    reads_not-holds n a i (both_left (fit n a i) _ t) (ltb→lt 3 _ (both_right (fit n a i) (ltb 3 (word_flips (a + 1024 * i) n)) t))
test-holds (typed b v) t = (
  eqb→eq (type_read b).number 0 (both_left (eqb (type_read b).number 0) (eqb (type_read b).value v) t),
  eqb→eq (type_read b).value v (both_right (eqb (type_read b).number 0) (eqb (type_read b).value v) t),
)
test-holds (untyped b) t = eqb→eq (type_read b).number 28 t

tests : List Edge → Bool
tests [] = true
tests (e ∷ es) = both (test e) (tests es)

all_hold : (es : List Edge) → T (tests es) → All Holds es
unfolding tests
all_hold [] t = tt
all_hold (e ∷ es) t = (test-holds e (both_left (test e) (tests es) t), all_hold es (both_right (test e) (tests es) t))

pub edges-hold : All Holds edges
unfolding tests test fit word_flips word23 remainder divide line less ones_in type_read type_near refusal given flips ones
edges-hold = all_hold edges tt
