-- Laws of the refusals' numbers.
--
--   number-not-zero    no refusal has the number 0
--   number-from-20     nor one below 20
--   number-same        two refusals with one number are one
--   told-same          an answer is told by its number
--   faults-numbered    the faults of a packet have the numbers of their refusals
--
-- Assumes nothing.
use mathlib.Core.Path.{◌≡◌, refl, sym, ap, ◌∙◌}
use mathlib.Core.Bool.{cond}
use mathlib.Core.List.{List, [], ◌∷◌, map}
use Prim.Native.Nat.{ℕ, ◌≤◌}
use native.Mathlib.Omega.{arith}
use lib.Dec.{eqb}
use Rattle.std.specs.Prelude.{Result, Ok, Err}
use Rattle.faults.specs.Faults.{faults, number}
use Rattle.faults.specs.Refusals.{number_of, told}
use Rattle.faults.specs.declared.refusal.Refusal.{Refusal}
use Rattle.faults.specs.declared.refusal.Refusal.TheVariants.{Length, SpareBit, Address, Protection, Limit, Followed, Full, NotFollowed, TypeUnreadable, TypeControl, TypeScrambled, WordUnreadable, OutOfStep, TooLarge, State, BadPair, TooMany, Unfinished, TypeReserved, Setting, BeyondSetting}

abbrev all_refusals : List Refusal
all_refusals =
    Length ∷ SpareBit ∷ Address ∷ Protection ∷ Limit ∷ Followed ∷ Full ∷ NotFollowed ∷ TypeUnreadable ∷ TypeControl ∷ TypeScrambled
    ∷ WordUnreadable ∷ OutOfStep ∷ TooLarge ∷ State ∷ BadPair ∷ TooMany ∷ Unfinished ∷ TypeReserved ∷ Setting ∷ BeyondSetting ∷ []

abbrev found : List Refusal → ℕ → Refusal
found [] n = Length
found (r ∷ rs) n = cond (eqb n (number_of r)) r (found rs n)

-- the refusal with a number
abbrev refusal_of : ℕ → Refusal
refusal_of n = found all_refusals n

back : (r : Refusal) → refusal_of (number_of r) ≡ r
back Length = refl
back SpareBit = refl
back Address = refl
back Protection = refl
back Limit = refl
back Followed = refl
back Full = refl
back NotFollowed = refl
back TypeUnreadable = refl
back TypeControl = refl
back TypeScrambled = refl
back WordUnreadable = refl
back OutOfStep = refl
back TooLarge = refl
back State = refl
back BadPair = refl
back TooMany = refl
back Unfinished = refl
back TypeReserved = refl
back Setting = refl
back BeyondSetting = refl

pub number-same : (r s : Refusal) → number_of r ≡ number_of s → r ≡ s
number-same r s e = sym (back r) ∙ (ap refusal_of e ∙ back s)

pub number-not-zero : (r : Refusal) → number_of r ≡ 0 → ⊥
number-not-zero Length e = omega (arith, e)
number-not-zero SpareBit e = omega (arith, e)
number-not-zero Address e = omega (arith, e)
number-not-zero Protection e = omega (arith, e)
number-not-zero Limit e = omega (arith, e)
number-not-zero Followed e = omega (arith, e)
number-not-zero Full e = omega (arith, e)
number-not-zero NotFollowed e = omega (arith, e)
number-not-zero TypeUnreadable e = omega (arith, e)
number-not-zero TypeControl e = omega (arith, e)
number-not-zero TypeScrambled e = omega (arith, e)
number-not-zero WordUnreadable e = omega (arith, e)
number-not-zero OutOfStep e = omega (arith, e)
number-not-zero TooLarge e = omega (arith, e)
number-not-zero State e = omega (arith, e)
number-not-zero BadPair e = omega (arith, e)
number-not-zero TooMany e = omega (arith, e)
number-not-zero Unfinished e = omega (arith, e)
number-not-zero TypeReserved e = omega (arith, e)
number-not-zero Setting e = omega (arith, e)
number-not-zero BeyondSetting e = omega (arith, e)

-- behind the numbers of every other answer
pub number-from-20 : (r : Refusal) → 20 ≤ number_of r
number-from-20 Length = omega arith
number-from-20 SpareBit = omega arith
number-from-20 Address = omega arith
number-from-20 Protection = omega arith
number-from-20 Limit = omega arith
number-from-20 Followed = omega arith
number-from-20 Full = omega arith
number-from-20 NotFollowed = omega arith
number-from-20 TypeUnreadable = omega arith
number-from-20 TypeControl = omega arith
number-from-20 TypeScrambled = omega arith
number-from-20 WordUnreadable = omega arith
number-from-20 OutOfStep = omega arith
number-from-20 TooLarge = omega arith
number-from-20 State = omega arith
number-from-20 BadPair = omega arith
number-from-20 TooMany = omega arith
number-from-20 Unfinished = omega arith
number-from-20 TypeReserved = omega arith
number-from-20 Setting = omega arith
number-from-20 BeyondSetting = omega arith

-- where each value that is given is the same, an answer is told by its number
pub told-same : {A : Type 0} → ((x y : A) → x ≡ y) → (a b : Result A Refusal) → told a ≡ told b → a ≡ b
told-same one (Ok x) (Ok y) e = ap Ok (one x y)
told-same one (Ok x) (Err r) e = absurd (number-not-zero r (sym e))
told-same one (Err r) (Ok y) e = absurd (number-not-zero r e)
told-same one (Err r) (Err s) e = ap Err (number-same r s e)

pub faults-numbered : map number faults ≡ map number_of (TypeUnreadable ∷ TypeControl ∷ TypeReserved ∷ TypeScrambled ∷ WordUnreadable ∷ OutOfStep ∷ [])
faults-numbered = refl
