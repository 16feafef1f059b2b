-- The division by G(x): it is linear, it leaves eleven bits, and what leaves nothing is a multiple of G(x).
--
--   divide-xor        linear
--   divide-shifted    the last powers alone are the remainder
--   remainder-parts   the remainder of 23 bits from that of the first twelve
--   remainder-small   eleven bits
--   divided           n is a multiple of G(x) and the remainder
--   multiple-none     a multiple leaves nothing
--
-- Assumes nothing.
use mathlib.Core.Path.{◌≡◌, refl, sym, ap, ap₂, ◌∙◌, subst}
use mathlib.Core.Logic.{◌⊎◌, inl, inr, ⊎_elim}
use Prim.Native.Nat.{ℕ, zero, suc, ◌+◌, ◌*◌, ◌/◌, ◌%◌, ◌^◌, ◌≤◌, ◌<◌}
use native.Mathlib.Omega.{arith}
use native.Mathlib.Numerals.{add-one}
use native.Mathlib.Nat.{pow-suc, mul_assoc, mul_comm, mod-lt, mul-one, one-mul, add-suc}
use lib.Dec.{lit<}
use lib.Bits.{bit_xor, xor_comm, xor_self, xor_zero_r, xor_lt, xor_shifted, xor_block}
use lib.Pow.{pow_mono, split, shr_lt}
use Rattle.bits.proofs.Flips.{xor-half, xor-parity, xor_assoc, xor-cancel, xor-pairs}
use Rattle.golay.specs.Code.{G, less, line, divide, remainder, product, Multiple}

bit : (n : ℕ) → (n % 2 ≡ 0) ⊎ (n % 2 ≡ 1)
bit n = go (n % 2) (mod-lt n (lit< tt))
  where
    go : (b : ℕ) → b < 2 → (b ≡ 0) ⊎ (b ≡ 1)
    go zero h = inl refl
    go (suc zero) h = inr refl
    go (suc (suc b)) h = absurd (omega arith)

-- the two kinds of line
pub line-even : (n : ℕ) → n % 2 ≡ 0 → line n ≡ n / 2
unfolding line less
line-even n e = ap (λ (b : ℕ). less b n / 2) e

pub line-odd : (n : ℕ) → n % 2 ≡ 1 → line n ≡ bit_xor G n / 2
unfolding line less
line-odd n e = ap (λ (b : ℕ). less b n / 2) e

-- ---- linear

line-xor : (a b : ℕ) → line (bit_xor a b) ≡ bit_xor (line a) (line b)
line-xor a b = ⊎_elim (λ p. ⊎_elim (λ q. both-even p q) (λ q. right p q) (bit b)) (λ p. ⊎_elim (λ q. left p q) (λ q. both-odd p q) (bit b)) (bit a)
  where
    both-even : a % 2 ≡ 0 → b % 2 ≡ 0 → line (bit_xor a b) ≡ bit_xor (line a) (line b)
    both-even p q =
        line-even (bit_xor a b) (omega (arith, xor-parity a b)) ∙ xor-half a b
        ∙ sym (ap₂ bit_xor (line-even a p) (line-even b q))

    both-odd : a % 2 ≡ 1 → b % 2 ≡ 1 → line (bit_xor a b) ≡ bit_xor (line a) (line b)
    both-odd p q =
        line-even (bit_xor a b) (omega (arith, xor-parity a b))
        ∙ ap (λ (x : ℕ). x / 2) (sym (xor-pairs G a G b ∙ ap (λ (x : ℕ). bit_xor x (bit_xor a b)) (xor_self G)))
        ∙ xor-half (bit_xor G a) (bit_xor G b) ∙ sym (ap₂ bit_xor (line-odd a p) (line-odd b q))

    left : a % 2 ≡ 1 → b % 2 ≡ 0 → line (bit_xor a b) ≡ bit_xor (line a) (line b)
    left p q =
        line-odd (bit_xor a b) (omega (arith, xor-parity a b)) ∙ ap (λ (x : ℕ). x / 2) (sym (xor_assoc G a b))
        ∙ xor-half (bit_xor G a) b ∙ sym (ap₂ bit_xor (line-odd a p) (line-even b q))

    right : a % 2 ≡ 0 → b % 2 ≡ 1 → line (bit_xor a b) ≡ bit_xor (line a) (line b)
    right p q =
        line-odd (bit_xor a b) (omega (arith, xor-parity a b))
        ∙ ap (λ (x : ℕ). x / 2) (sym (xor_assoc G a b) ∙ ap (λ (x : ℕ). bit_xor x b) (xor_comm G a) ∙ xor_assoc a G b)
        ∙ xor-half a (bit_xor G b) ∙ sym (ap₂ bit_xor (line-even a p) (line-odd b q))

pub divide-xor : (k a b : ℕ) → divide k (bit_xor a b) ≡ bit_xor (divide k a) (divide k b)
unfolding divide
divide-xor zero a b = refl
divide-xor (suc k) a b = ap (divide k) (line-xor a b) ∙ divide-xor k (line a) (line b)

pub remainder-xor : (a b : ℕ) → remainder (bit_xor a b) ≡ bit_xor (remainder a) (remainder b)
unfolding remainder
remainder-xor a b = divide-xor 12 a b

-- ---- the last powers alone

pub divide-shifted : (k h : ℕ) → divide k (h * 2 ^ k) ≡ h
unfolding divide
divide-shifted zero h = mul-one h
divide-shifted (suc k) h =
    ap (λ (x : ℕ). divide k (line x)) (ap (λ (x : ℕ). h * x) (pow-suc 2 k) ∙ sym (mul_assoc h (2 ^ k) 2))
    ∙ ap (divide k) (line-even (h * 2 ^ k * 2) (omega arith) ∙ doubled (h * 2 ^ k))
    ∙ divide-shifted k h
  where
    doubled : (x : ℕ) → x * 2 / 2 ≡ x
    doubled x = omega arith

-- the first twelve bits are divided; the last eleven are added to what they leave
pub remainder-parts : (n : ℕ) → remainder n ≡ bit_xor (remainder (n % 2 ^ 12)) (n / 2 ^ 12)
unfolding remainder
remainder-parts n =
    ap (divide 12) (sym (xor_shifted (n / 2 ^ 12) 12 (n % 2 ^ 12) (mod-lt n (lit< tt)) ∙ split n 12)
    ∙ xor_comm (n / 2 ^ 12 * 2 ^ 12) (n % 2 ^ 12))
    ∙ divide-xor 12 (n % 2 ^ 12) (n / 2 ^ 12 * 2 ^ 12)
    ∙ ap (bit_xor (divide 12 (n % 2 ^ 12))) (divide-shifted 12 (n / 2 ^ 12))

-- ---- eleven bits

line-lt : (k n : ℕ) → 11 ≤ k → n < 2 ^ (k + 1) → line n < 2 ^ k
line-lt k n h l = ⊎_elim (λ p. even p) (λ p. odd p) (bit n)
  where
    even : n % 2 ≡ 0 → line n < 2 ^ k
    even p = subst (λ (x : ℕ). x < 2 ^ k) (sym (line-even n p)) (shr_lt k 1 l)

    odd : n % 2 ≡ 1 → line n < 2 ^ k
    odd p =
        subst (λ (x : ℕ). x < 2 ^ k) (sym (line-odd n p))
        (shr_lt k 1 (xor_lt (k + 1) G n (lt_of (pow_mono {i = 12} {j = k + 1} (omega arith))) l))
      where
        lt_of : 2 ^ 12 ≤ 2 ^ (k + 1) → G < 2 ^ (k + 1)
        lt_of q = omega arith

divide-lt : (k n : ℕ) → n < 2 ^ (11 + k) → divide k n < 2 ^ 11
unfolding divide
divide-lt zero n h = h
divide-lt (suc k) n h = divide-lt k (line n) (line-lt (11 + k) n (omega arith) (rw (add-one, ← add-suc) h))

pub remainder-small : (n : ℕ) → n < 2 ^ 23 → remainder n < 2 ^ 11
unfolding remainder
remainder-small n h = divide-lt 12 n h

-- ---- multiples of G(x)

xor-double : (a b : ℕ) → bit_xor (2 * a) (2 * b) ≡ 2 * bit_xor a b
xor-double a b =
    ap₂ bit_xor (twice a) (twice b) ∙ xor_block 1 a b 0 0 (lit< tt) (lit< tt) ∙ sym (twice (bit_xor a b))
  where
    twice : (x : ℕ) → 2 * x ≡ x * 2 ^ 1 + 0
    twice x = omega arith

-- what a line took away, put back
line-back : (n : ℕ) → n ≡ bit_xor (n % 2 * G) (2 * line n)
line-back n = ⊎_elim (λ p. even p) (λ p. odd p) (bit n)
  where
    even : n % 2 ≡ 0 → n ≡ bit_xor (n % 2 * G) (2 * line n)
    even p = rw (p, line-even n p) (omega arith)

    odd : n % 2 ≡ 1 → n ≡ bit_xor (n % 2 * G) (2 * line n)
    odd p =
        rw (p, line-odd n p)
        (sym (ap (bit_xor G) (halved (bit_xor G n) (omega (arith, xor-parity G n))) ∙ xor-cancel G n))
      where
        halved : (x : ℕ) → x % 2 ≡ 0 → 2 * (x / 2) ≡ x
        halved x e = omega arith

-- "x^11 m(x) = q(x) G(x) + r(x)", for any number of lines
pub divided : (k n : ℕ) → (q : ℕ) × (q < 2 ^ k) × (n ≡ bit_xor (product k q G) (2 ^ k * divide k n))
unfolding divide product
divided zero n = (0, lit< tt, sym (one-mul n))
divided (suc k) n = go (divided k (line n))
  where
    scaled : (d : ℕ) → 2 * (2 ^ k * d) ≡ 2 ^ suc k * d
    scaled d = sym (mul_assoc 2 (2 ^ k) d) ∙ ap (λ (x : ℕ). x * d) (mul_comm 2 (2 ^ k) ∙ sym (pow-suc 2 k))

    go : (q : ℕ) × (q < 2 ^ k) × (line n ≡ bit_xor (product k q G) (2 ^ k * divide k (line n)))
        → (q : ℕ) × (q < 2 ^ suc k) × (n ≡ bit_xor (product (suc k) q G) (2 ^ suc k * divide k (line n)))
    go (q, h, e) = (
      n % 2 + 2 * q,
      omega (arith, pow-suc 2 k, mod-lt n {m = 2} (lit< tt)),
      line-back n
          ∙ ap (λ (x : ℕ). bit_xor (n % 2 * G) (2 * x)) e
          ∙ ap (bit_xor (n % 2 * G)) (sym (xor-double (product k q G) (2 ^ k * divide k (line n))) ∙ ap (bit_xor (2 * product k q G)) (scaled (divide k (line n))))
          ∙ sym (xor_assoc (n % 2 * G) (2 * product k q G) (2 ^ suc k * divide k (line n)))
          ∙ ap₂ (λ (x y : ℕ). bit_xor (bit_xor (x * G) (2 * product k y G)) (2 ^ suc k * divide k (line n))) (low (n % 2) q (mod-lt n (lit< tt))) (high (n % 2) q (mod-lt n (lit< tt))),
    )
      where
        low : (b q : ℕ) → b < 2 → b ≡ (b + 2 * q) % 2
        low b q l = omega arith

        high : (b q : ℕ) → b < 2 → q ≡ (b + 2 * q) / 2
        high b q l = omega arith

line-multiple : (b p : ℕ) → b < 2 → line (bit_xor (b * G) (2 * p)) ≡ p
line-multiple b p h = line-xor (b * G) (2 * p) ∙ ap₂ bit_xor (none b h) (line-even (2 * p) (omega arith) ∙ half p)
  where
    half : (x : ℕ) → 2 * x / 2 ≡ x
    half x = omega arith

    none : (b : ℕ) → b < 2 → line (b * G) ≡ 0
    none zero h = line-even 0 refl
    none (suc zero) h = line-odd G refl ∙ ap (λ (x : ℕ). x / 2) (xor_self G)
    none (suc (suc b)) h = absurd (omega arith)

pub multiple-none : (k q : ℕ) → divide k (product k q G) ≡ 0
unfolding divide product
multiple-none zero q = refl
multiple-none (suc k) q = ap (divide k) (line-multiple (q % 2) (product k (q / 2) G) (mod-lt q (lit< tt))) ∙ multiple-none k (q / 2)

-- nothing is left exactly of a multiple
pub none-multiple : (n : ℕ) → remainder n ≡ 0 → Multiple n
unfolding remainder Multiple
none-multiple n e =
    let d = divided 12 n in
    (d.0, d.1, d.2 ∙ ap (λ (x : ℕ). bit_xor (product 12 d.0 G) (2 ^ 12 * x)) e ∙ xor_zero_r (product 12 d.0 G))

pub multiple-remainder : (n : ℕ) → Multiple n → remainder n ≡ 0
unfolding remainder Multiple
multiple-remainder n m = ap (divide 12) m.2 ∙ multiple-none 12 m.0
