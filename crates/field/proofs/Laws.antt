-- Laws of a field's bits and bytes. `Below 256 f` says that each of f is a byte.
--
--   eight-put        the two halves of a number, put one after the other
--   loaded           the numbers of a field, by its bytes
--
-- Assumes nothing.
use mathlib.Core.Path.{◌≡◌, sym, ap, ◌∙◌}
use mathlib.Core.List.{List}
use Prim.Native.Nat.{ℕ, suc, ◌+◌, ◌*◌, ◌/◌, ◌%◌, ◌^◌, ◌<◌}
use native.Mathlib.Omega.{arith}
use lib.ListN.{length, take, drop, get_or, drop_of_length-le}
use lib.Seq.{drop-drop}
use Rattle.bits.specs.Bits.{number, sent}
use Rattle.bits.proofs.Runs.{Below, digit, sent-drop, sent-below, number_at}
use Rattle.runs.specs.Numbers.{four_at, eight_at}
use Rattle.runs.proofs.Numbers.{four_at-lt}
use Rattle.field.specs.Field.{bits_at, field_of}

-- ---- a field's numbers by its bytes

-- the number of the bits from byte a on
abbrev from : ℕ → List ℕ → ℕ
from a f = number (sent 8 (drop a f))

-- bits r and on of byte a
bits-from : (a r w : ℕ) (f : List ℕ) → bits_at (a * 8 + r) w f ≡ from a f / 2 ^ r % 2 ^ w
unfolding bits_at
bits-from a r w f =
    ap (λ (bs : List ℕ). number (take w bs)) (sym (drop-drop r (a * 8) (sent 8 f)) ∙ ap (drop r) (sent-drop 8 a f))
    ∙ digit w r (sent 8 (drop a f)) (sent-below 8 (drop a f))

from_end : (f : List ℕ) → length f ≡ 10 → from 10 f ≡ 0
unfolding number sent
from_end f l = ap (λ (x : List ℕ). number (sent 8 x)) (drop_of_length-le f {i = 10} (omega arith))

module _ (f : List ℕ) (h : Below 256 f) where
  from_next : (a : ℕ) → from a f ≡ get_or f a 0 + 256 * from (suc a) f
  from_next a = number_at 8 a f h

  eight_at-lt : eight_at 2 f < 2 ^ 64
  unfolding eight_at
  eight_at-lt = omega (arith, four_at-lt 2 f h, four_at-lt 6 f h)

  eight-bytes : length f ≡ 10 → from 2 f ≡ eight_at 2 f
  unfolding eight_at four_at
  eight-bytes l =
      omega (
        arith,
        from_next 2,
        from_next 3,
        from_next 4,
        from_next 5,
        from_next 6,
        from_next 7,
        from_next 8,
        from_next 9,
        from_end f l,
      )

  load-count : bits_at 0 8 f ≡ get_or f 0 0
  load-count = bits-from 0 0 8 f ∙ omega (arith, h 0, from_next 0)

  load-flag : bits_at 8 1 f ≡ get_or f 1 0 % 2
  load-flag = bits-from 1 0 1 f ∙ omega (arith, from_next 1)

  load-id : bits_at 9 8 f ≡ get_or f 1 0 / 2 + get_or f 2 0 % 2 * 128
  load-id = bits-from 1 1 8 f ∙ omega (arith, h 1, from_next 1, from_next 2)

  load-tdms : (n : ℕ) → from 2 f ≡ n → bits_at 17 62 f ≡ n / 2 % 2 ^ 62
  load-tdms n e = bits-from 2 1 62 f ∙ ap (λ (x : ℕ). x / 2 % 2 ^ 62) e

  load-links : (n : ℕ) → from 2 f ≡ n → n < 2 ^ 64 → bits_at 79 1 f ≡ n / 2 ^ 63
  load-links n e k = bits-from 2 63 1 f ∙ ap (λ (x : ℕ). x / 2 ^ 63 % 2) e ∙ omega arith

  -- a field read, where n is the number of the bytes from byte 2 on
  pub loaded : length f ≡ 10 → (n : ℕ) → n ≡ eight_at 2 f
      → record {
        count = get_or f 0 0;
        flag = get_or f 1 0 % 2;
        id = get_or f 1 0 / 2 + get_or f 2 0 % 2 * 128;
        tdms = n / 2 % 2 ^ 62;
        links = n / 2 ^ 63;
      } ≡ field_of f
  unfolding field_of
  loaded l n e =
      let same : from 2 f ≡ n = eight-bytes l ∙ sym e in
      let small : n < 2 ^ 64 = omega (arith, eight_at-lt) in
      λ i. record {
        count = sym load-count i;
        flag = sym load-flag i;
        id = sym load-id i;
        tdms = sym (load-tdms n same) i;
        links = sym (load-links n same small) i;
      }
