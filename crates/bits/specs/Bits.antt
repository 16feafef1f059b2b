-- Bits and the order in which they are sent. ETS 300 352 sends numbers and bytes lowest bit first (4.3.6.1, 8.1);
-- bit k sent has weight 2^k.
--
--   flips a b      in how many bits two numbers differ
--   bits_of w n     the w low bits of n, in the order in which they are sent
--   number bs      the number that a run of bits is
--   sent w ns      numbers of w bits each, sent one after the other
--   numbers_in w k bs   the first k numbers of w bits each in a run of bits
--   blank n        n bytes of 0
use Rattle.std.specs.Prelude.{ℕ, zero, suc, ◌+◌, ◌*◌, ◌/◌, ◌%◌, List, [], ◌∷◌, ◌++◌, take, drop, replicate}
use Rattle.std.specs.Int.Bits.{bit_xor}
use Rattle.std.specs.Int.Count.{ones}

unfoldable pub flips : ℕ → ℕ → ℕ
flips a b = ones (bit_xor a b)

unfoldable pub bits_of : ℕ → ℕ → List ℕ
bits_of zero n = []
bits_of (suc w) n = n % 2 ∷ bits_of w (n / 2)

unfoldable pub number : List ℕ → ℕ
number [] = 0
number (b ∷ bs) = b + 2 * number bs

unfoldable pub sent : ℕ → List ℕ → List ℕ
sent w [] = []
sent w (n ∷ ns) = bits_of w n ++ sent w ns

unfoldable pub numbers_in : ℕ → ℕ → List ℕ → List ℕ
numbers_in w zero bs = []
numbers_in w (suc k) bs = number (take w bs) ∷ numbers_in w k (drop w bs)

unfoldable pub blank : ℕ → List ℕ
blank n = replicate n 0
