-- Laws of xor, of the count of ones, and of flips, the number of bits in which two numbers differ.
--
--   xor-parity     the lowest bit of a xor is that of the sum
--   xor_assoc, xor-cancel, xor-zero
--   ones-xor       the ones of a xor and of the common bits together
--   flips-*        a distance: 0 exactly at equals, symmetric, the triangle law, the parity law
--   ones-in        the count of ones that computes
--   or-none        an or is 0 only where both parts are
--
-- Assumes nothing.
use mathlib.Core.Path.{◌≡◌, refl, sym, ap, ap₂, ◌∙◌}
use Prim.Native.Nat.{ℕ, zero, suc, ◌+◌, ◌*◌, ◌/◌, ◌%◌, ◌^◌, ◌≤◌, ◌<◌}
use native.Mathlib.Omega.{arith}
use native.Mathlib.Nat.{mod-lt}
use native.Mathlib.Numerals.{add-one}
use lib.Arith.{bin_ind, lt-one}
use lib.Bits.{bit_xor, bit_and, bit_or, or_add_and, and_le_l, and_le_r, xor_shr, xor_mod, and_shr, and_mod, xor_add_and, xor_comm, xor_self, xor_zero_r, xor_block, xor_lt}
use lib.Count.{ones, ones_in, ones_step, ones_cat}
use lib.Pow.{shr_lt, pow_pos, split}
use Rattle.bits.specs.Bits.{flips}

by-halves : (x y : ℕ) → x / 2 ≡ y / 2 → x % 2 ≡ y % 2 → x ≡ y
by-halves x y p q = omega arith

pub xor-half : (a b : ℕ) → bit_xor a b / 2 ≡ bit_xor (a / 2) (b / 2)
xor-half a b = xor_shr a b 1

pub xor-parity : (a b : ℕ) → bit_xor a b % 2 ≡ (a + b) % 2
xor-parity a b = omega (arith, xor_add_and a b)

sum-parity : (x y c : ℕ) → x % 2 ≡ y % 2 → (x + c) % 2 ≡ (y + c) % 2
sum-parity x y c e = omega arith

sum-parity-r : (x y c : ℕ) → x % 2 ≡ y % 2 → (c + x) % 2 ≡ (c + y) % 2
sum-parity-r x y c e = omega arith

regroup : (a b c : ℕ) → (a + b + c) % 2 ≡ (a + (b + c)) % 2
regroup a b c = omega arith

pub xor_assoc : (a b c : ℕ) → bit_xor (bit_xor a b) c ≡ bit_xor a (bit_xor b c)
xor_assoc =
    bin_ind (λ (n : ℕ). (b c : ℕ) → bit_xor (bit_xor n b) c ≡ bit_xor n (bit_xor b c)) (λ b c. refl)
    (λ n ih b c. by-halves _ _
    (xor-half (bit_xor n b) c ∙ ap (λ (x : ℕ). bit_xor x (c / 2)) (xor-half n b) ∙ ih (b / 2) (c / 2)
    ∙ sym (xor-half n (bit_xor b c) ∙ ap (bit_xor (n / 2)) (xor-half b c)))
    (xor-parity (bit_xor n b) c ∙ sum-parity (bit_xor n b) (n + b) c (xor-parity n b) ∙ regroup n b c
    ∙ sym (xor-parity n (bit_xor b c) ∙ sum-parity-r (bit_xor b c) (b + c) n (xor-parity b c))))

-- taken away twice is put back
pub xor-cancel : (a b : ℕ) → bit_xor a (bit_xor a b) ≡ b
xor-cancel a b = sym (xor_assoc a a b) ∙ ap (λ (x : ℕ). bit_xor x b) (xor_self a)

-- nothing is left only between equals
pub xor-zero : (a b : ℕ) → bit_xor a b ≡ 0 → a ≡ b
xor-zero a b e = sym (xor_zero_r a) ∙ ap (bit_xor a) (sym e) ∙ xor-cancel a b

-- the middle one of two xors goes
pub xor-through : (a b c : ℕ) → bit_xor (bit_xor a b) (bit_xor b c) ≡ bit_xor a c
xor-through a b c = xor_assoc a b (bit_xor b c) ∙ ap (bit_xor a) (xor-cancel b c)

-- two xors of pairs are the xor of two xors
pub xor-pairs : (a b c d : ℕ) → bit_xor (bit_xor a b) (bit_xor c d) ≡ bit_xor (bit_xor a c) (bit_xor b d)
xor-pairs a b c d =
    xor_assoc a b (bit_xor c d)
    ∙ ap (bit_xor a) (sym (xor_assoc b c d) ∙ ap (λ (x : ℕ). bit_xor x d) (xor_comm b c) ∙ xor_assoc c b d)
    ∙ sym (xor_assoc a c (bit_xor b d))

low_sum : (a b : ℕ) → bit_xor a b % 2 + bit_and a b % 2 * 2 ≡ a % 2 + b % 2
low_sum a b = ap₂ (λ (x y : ℕ). x + y * 2) (xor_mod a b 1) (and_mod a b 1) ∙ xor_add_and (a % 2) (b % 2)

carry : (x y a b p q r s : ℕ) → x + y * 2 ≡ a + b → p + 2 * q ≡ r + s → (x + p) + 2 * (y + q) ≡ (a + r) + (b + s)
carry x y a b p q r s e f = omega arith

pub ones-zero : ones 0 ≡ 0
unfolding ones ones_in
ones-zero = refl

pub ones-xor : (a b : ℕ) → ones (bit_xor a b) + 2 * ones (bit_and a b) ≡ ones a + ones b
ones-xor =
    bin_ind (λ (n : ℕ). (b : ℕ) → ones (bit_xor n b) + 2 * ones (bit_and n b) ≡ ones n + ones b)
    (λ b. omega (arith, ones-zero))
    (λ n ih b. ap₂ (λ (x y : ℕ). x + 2 * y) (ones_step (bit_xor n b)) (ones_step (bit_and n b))
    ∙ ap₂ (λ (x y : ℕ). (bit_xor n b % 2 + ones x) + 2 * (bit_and n b % 2 + ones y)) (xor-half n b) (and_shr n b 1)
    ∙ carry (bit_xor n b % 2) (bit_and n b % 2) (n % 2) (b % 2) (ones (bit_xor (n / 2) (b / 2))) (ones (bit_and (n / 2) (b / 2)))
    (ones (n / 2)) (ones (b / 2)) (low_sum n b) (ih (b / 2))
    ∙ sym (ap₂ (λ (x y : ℕ). x + y) (ones_step n) (ones_step b)))

-- the count that computes: below 2 ^ k, k bits are enough to look at
pub ones-in : (k n : ℕ) → n < 2 ^ k → ones n ≡ ones_in k n
unfolding ones_in
ones-in zero n h = ap ones (lt-one h) ∙ ones-zero
ones-in (suc k) n h = ones_step n ∙ ap (λ (x : ℕ). n % 2 + x) (ones-in k (n / 2) (shr_lt k 1 (rw add-one h)))

-- no ones, no number
pub ones_none : (n : ℕ) → ones n ≡ 0 → n ≡ 0
ones_none =
    bin_ind (λ (n : ℕ). ones n ≡ 0 → n ≡ 0) (λ e. refl)
    (λ n ih e. by-halves n 0 (ih (omega (arith, ones_step n))) (omega (arith, ones_step n)))

-- ---- flips

pub flips-same : (a : ℕ) → flips a a ≡ 0
unfolding flips
flips-same a = ap ones (xor_self a) ∙ ones-zero

pub flips-none : (a b : ℕ) → flips a b ≡ 0 → a ≡ b
unfolding flips
flips-none a b e = xor-zero a b (ones_none (bit_xor a b) e)

pub flips-comm : (a b : ℕ) → flips a b ≡ flips b a
unfolding flips
flips-comm a b = ap ones (xor_comm a b)

-- two ones more than the sum of both differences are never there
pub flips-triangle : (a b c : ℕ) → flips a c ≤ flips a b + flips b c
unfolding flips
flips-triangle a b c =
    omega (arith, ones-xor (bit_xor a b) (bit_xor b c), ap ones (xor-through a b c))

pub flips-parity : (a b : ℕ) → flips a b % 2 ≡ (ones a + ones b) % 2
unfolding flips
flips-parity a b = omega (arith, ones-xor a b)

-- the flips above and below a place are counted apart
pub flips-cat : (k a b r s : ℕ) → r < 2 ^ k → s < 2 ^ k → flips (a * 2 ^ k + r) (b * 2 ^ k + s) ≡ flips a b + flips r s
unfolding flips
flips-cat k a b r s hr hs =
    ap ones (xor_block k a b r s hr hs) ∙ ones_cat k (bit_xor a b) (bit_xor r s) (xor_lt k r s hr hs)

-- so there are no more of them below a place than in all
pub flips-low : (k a b : ℕ) → flips (a % 2 ^ k) (b % 2 ^ k) ≤ flips a b
flips-low k a b =
    omega (
      arith,
      flips-cat k (a / 2 ^ k) (b / 2 ^ k) (a % 2 ^ k) (b % 2 ^ k) (mod-lt a (pow_pos k)) (mod-lt b (pow_pos k)),
      ap₂ flips (split a k) (split b k),
    )

-- what was flipped is what the xor with the sent number shows
pub flips-of : (c e : ℕ) → flips c (bit_xor c e) ≡ ones e
unfolding flips
flips-of c e = ap ones (xor-cancel c e)

-- what is folded together with or is 0 only where each part is
pub or-none : (a b : ℕ) → bit_or a b ≡ 0 → (a ≡ 0) × (b ≡ 0)
or-none a b e =
    (omega (arith, or_add_and a b, and_le_r a b), omega (arith, or_add_and a b, and_le_l a b))
