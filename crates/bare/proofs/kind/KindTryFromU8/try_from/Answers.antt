-- `bare::kind`: a byte that is one of the four, and any other.
use mathlib.Core.Path.{◌≡◌, refl, sym, ap, ◌∙◌}
use mathlib.Core.Bool.{true, false}
use Prim.Native.Nat.{ℕ}
use native.Mathlib.Omega.{arith}
use borrow.Author.Tests.{ne_eqb}
use Rattle.bare.specs.Bare.{Written, types, among, type_written}
use Rattle.bare.proofs.Types.{type-known, type-unknown}
use Rattle.bare.proofs.kind.KindTryFromU8.try_from.Goals as goal

written-as : (b k : ℕ) → b ≡ k → among types k ≡ true → ◌≡◌ {A = Written} (record { number = 0; value = k }) (type_written b)
written-as b k e t = sym (ap type_written e ∙ type-known k t)

pub returns-in-0 : goal.returns-in-0
unfolding among
returns-in-0 c = written-as c.args.byte 0x00 c.in-0.is refl

pub returns-in-63 : goal.returns-in-63
unfolding among
returns-in-63 c = written-as c.args.byte 0x3F c.in-63.is refl

pub returns-in-199 : goal.returns-in-199
unfolding among
returns-in-199 c = written-as c.args.byte 0xC7 c.in-199.is refl

pub returns-in-248 : goal.returns-in-248
unfolding among
returns-in-248 c = written-as c.args.byte 0xF8 c.in-248.is refl

none-of : (b : ℕ) → (b ≡ 0x00 → ⊥) → (b ≡ 0x3F → ⊥) → (b ≡ 0xC7 → ⊥) → (b ≡ 0xF8 → ⊥) → among types b ≡ false
unfolding among
none-of b n m o p =
    rw (ne_eqb 0x00 b (λ e. n (sym e)), ne_eqb 0x3F b (λ e. m (sym e)), ne_eqb 0xC7 b (λ e. o (sym e)), ne_eqb 0xF8 b (λ e. p (sym e)))

pub returns-in_default : goal.returns-in_default
returns-in_default c =
    sym (type-unknown c.args.byte (none-of c.args.byte (λ e. omega (arith, e)) (λ e. omega (arith, e)) (λ e. omega (arith, e)) (λ e. omega (arith, e))))
