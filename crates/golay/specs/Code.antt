-- The Golay codes of ETS 300 352: (23,12) of 4.3.6.1.3 for headers, (24,12) of 8.3.2 for protected data, in the
-- standard's own order. Bit k sent has weight 2^k; of a polynomial the highest power is sent first.
--
--   generator      G(x) by its powers, and G as the number of its twelve bits
--   remainder n    of the division by G(x) of the polynomial whose 23 bits are n
--   word23 i       the systematic word: twelve bits of information, eleven of remainder
--   word24 i       the same with a 24th bit that makes the parity of all 24 odd
--   check i        the last twelve bits of word24 i
--   Multiple n     n is a polynomial which is a multiple of the generator polynomial
--   nearest word n the information whose word lies within three flips of n, 4,096 where there is none
--   Patterns t     t is the table of 2,048 error patterns, one for each remainder
--   Checks t       t is the table of check bits
use Rattle.std.specs.Prelude.{◌≡◌, ℕ, zero, suc, ◌+◌, ◌-◌, ◌*◌, ◌/◌, ◌%◌, ◌^◌, ◌≤◌, ◌<◌, List, [], ◌∷◌, leb, length, get_or}
use Rattle.std.specs.Int.Bits.{bit_xor}
use Rattle.std.specs.Int.Count.{ones}
use Rattle.bits.specs.Bits.{flips}
use Rattle.bits.specs.Search.{first}

-- 4.3.6.1.3: G(x) = x^11 + x^10 + x^6 + x^5 + x^4 + x^2 + 1
abbrev pub generator : List ℕ
generator = 11 ∷ 10 ∷ 6 ∷ 5 ∷ 4 ∷ 2 ∷ 0 ∷ []

-- A polynomial of degree d at most, given by its powers, as the number of its d + 1 bits: x^d is sent first, so x^p has
-- weight 2^(d - p).
abbrev pub as_sent : ℕ → List ℕ → ℕ
as_sent d [] = 0
as_sent d (p ∷ ps) = 2 ^ (d - p) + as_sent d ps

abbrev pub G : ℕ
G = as_sent 11 generator

-- One line of the long division: where the highest power is there, G(x) is taken away under it. That place is then done
-- with, and the next power is the highest.
unfoldable pub less : ℕ → ℕ → ℕ
less zero n = n
less (suc b) n = bit_xor G n

unfoldable pub line : ℕ → ℕ
line n = less (n % 2) n / 2

unfoldable pub divide : ℕ → ℕ → ℕ
divide zero n = n
divide (suc k) n = divide k (line n)

-- Twelve lines take x^22 to x^11 away from 23 bits; eleven bits are left.
unfoldable pub remainder : ℕ → ℕ
remainder n = divide 12 n

-- M(x) = x^11 m(x) + r(x): "12 bits of useful information, followed by eleven redundancy bits determined as the
-- remainder of the division of the polynomial x^11 m(x) by the generator polynomial". The 23 bits of x^11 m(x) are those
-- of m(x), which are sent first, and eleven zeros.
unfoldable pub word23 : ℕ → ℕ
word23 i = i + 2 ^ 12 * remainder i

-- 8.3.2: "The resulting 23-bit code shall be appended by a single parity bit giving overall odd parity for the 24 bit
-- block."
unfoldable pub word24 : ℕ → ℕ
word24 i = word23 i + 2 ^ 23 * (suc (ones (word23 i)) % 2)

-- the last twelve bits of that word: the remainder and the parity bit
unfoldable pub check : ℕ → ℕ
check i = word24 i / 2 ^ 12

-- The product of a polynomial q(x) of k bits and g(x), both sent highest power first.
unfoldable pub product : ℕ → ℕ → ℕ → ℕ
product zero q g = 0
product (suc k) q g = bit_xor (q % 2 * g) (2 * product k (q / 2) g)

-- "a polynomial which is a multiple of the generator polynomial G(x)": q(x) has degree 11, twelve bits
unfoldable pub Multiple : ℕ → Type 0
Multiple n = (q : ℕ) × (q < 2 ^ 12) × (n ≡ product 12 q G)

-- document 01, sections 1 and 2: a number is read as the word within three flips, if there is one
unfoldable pub nearest : (ℕ → ℕ) → ℕ → ℕ
nearest word n = first (λ (i : ℕ). leb (flips (word i) n) 3) 4096 0

-- The rule of the table: the pattern for a remainder has at most three ones, and that remainder.
pub record Pattern (r e : ℕ) : Type 0 where
  pub bits : e < 2 ^ 23
  pub few : ones e ≤ 3
  pub own : remainder e ≡ r

pub record Patterns (t : List ℕ) : Type 0 where
  pub size : length t ≡ 2048
  pub each : (r : ℕ) → r < 2048 → Pattern r (get_or t r 0)

-- The rule of the table of check bits: an information's are those of its six low bits and of its six high bits, added.
pub record Checks (t : List ℕ) : Type 0 where
  pub size : length t ≡ 128
  pub each : (i : ℕ) → i < 4096 → bit_xor (get_or t (i % 64) 0) (get_or t (i / 64 + 64) 0) ≡ check i
