-- The long division line by line, as the loop goes: what is left to divide gives the remainder.
--
--   next        one line
--   line-left, line_taken    a line where the highest power is not there, and where it is
--
-- Assumes nothing.
use mathlib.Core.Path.{◌≡◌, sym, ap, ◌∙◌}
use Prim.Native.Nat.{ℕ, suc, ◌+◌, ◌-◌, ◌/◌, ◌%◌, ◌<◌}
use native.Mathlib.Omega.{arith}
use lib.Bits.{bit_xor, xor_comm}
use Rattle.golay.specs.Code.{G, line, divide}
use Rattle.golay.proofs.Division.{line-even, line-odd}

pub next : (lines done rest : ℕ) → done < lines → divide (lines - (done + 1)) (line rest) ≡ divide (lines - done) rest
unfolding divide
next lines done rest h = ap (λ (k : ℕ). divide k rest) (left lines done h)
  where
    left : (lines done : ℕ) → done < lines → suc (lines - (done + 1)) ≡ lines - done
    left lines done h = omega arith

pub line_taken : (n rest : ℕ) → n % 2 ≡ 1 → rest ≡ bit_xor n G → rest / 2 ≡ line n
line_taken n rest odd e = ap (λ (x : ℕ). x / 2) (e ∙ xor_comm n G) ∙ sym (line-odd n odd)

pub line-left : (n rest : ℕ) → (n % 2 ≡ 1 → ⊥) → rest ≡ n → rest / 2 ≡ line n
line-left n rest even e = ap (λ (x : ℕ). x / 2) e ∙ sym (line-even n (omega (arith, even)))
