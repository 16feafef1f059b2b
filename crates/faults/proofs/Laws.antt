-- Laws of the list of faults.
--
--   numbers, dropping     their numbers in order; those of them that drop
--   drops-or-control      each of them drops, but for a control packet: a line here changes where a later request adds another
--   number-drops          the number of a fault drops exactly if the fault does
--   unreadable-not-zero   no number of the list is 0
--   fault-number       the fault of a number has the number, and drops exactly if the number does
--   no_whole, no_part  the number of a fault is not 3, nor 1 or 2
--   others-stay        0, the answers to a packet that is taken, and the refusals before its address is found do not
--   by_tests           the tests as the code makes them
--
-- Assumes nothing.
use mathlib.Core.Path.{◌≡◌, refl, sym, subst}
use mathlib.Core.Bool.{Bool, true, false, cond, ◌&&◌, ◌||◌}
use mathlib.Core.List.{List, [], ◌∷◌, map}
use mathlib.Core.Logic.{◌⊎◌, inl, inr}
use Prim.Native.Nat.{ℕ}
use native.Mathlib.Omega.{arith}
use lib.Dec.{eqb}
use Rattle.faults.specs.Faults.{Fault, type_unreadable, type_control, type_reserved, type_scrambled, word_unreadable, out_of_step, number, drops, unreadables, faults, Numbered, fault_of, number_drops}

pub numbers : map number faults ≡ (28 ∷ 29 ∷ 47 ∷ 30 ∷ 31 ∷ 32 ∷ [])
numbers = refl

abbrev those : List Fault → List ℕ
those [] = []
those (f ∷ fs) = cond (drops f) (number f ∷ those fs) (those fs)

-- named one by one
pub dropping : those faults ≡ (28 ∷ 47 ∷ 30 ∷ 31 ∷ 32 ∷ [])
dropping = refl

pub drops-or-control : (f : Fault) → (drops f ≡ true) ⊎ (f ≡ type_control)
drops-or-control type_unreadable = inl refl
drops-or-control type_control = inr refl
drops-or-control type_reserved = inl refl
drops-or-control type_scrambled = inl refl
drops-or-control word_unreadable = inl refl
drops-or-control out_of_step = inl refl

pub number-drops : (f : Fault) → number_drops (number f) ≡ drops f
unfolding number_drops
number-drops type_unreadable = refl
number-drops type_control = refl
number-drops type_reserved = refl
number-drops type_scrambled = refl
number-drops word_unreadable = refl
number-drops out_of_step = refl

pub unreadable-not-zero : (n : ℕ) → Numbered unreadables n → n ≡ 0 → ⊥
unreadable-not-zero n (inl e) z = omega (arith, e, z)
unreadable-not-zero n (inr (inl e)) z = omega (arith, e, z)
unreadable-not-zero n (inr (inr (inl e))) z = omega (arith, e, z)
unreadable-not-zero n (inr (inr (inr (inl e)))) z = omega (arith, e, z)
unreadable-not-zero n (inr (inr (inr (inr (inl e))))) z = omega (arith, e, z)
unreadable-not-zero n (inr (inr (inr (inr (inr x))))) z = x

-- the fault of a number has the number, and drops exactly if the number does
abbrev Same : ℕ → Type 0
Same n = (number (fault_of n) ≡ n) × (number_drops n ≡ drops (fault_of n))

pub fault-number : (n : ℕ) → Numbered unreadables n → (number (fault_of n) ≡ n) × (number_drops n ≡ drops (fault_of n))
unfolding fault_of number_drops
fault-number n (inl e) = subst (λ (k : ℕ). Same k) (sym e) (refl, refl)
fault-number n (inr (inl e)) = subst (λ (k : ℕ). Same k) (sym e) (refl, refl)
fault-number n (inr (inr (inl e))) = subst (λ (k : ℕ). Same k) (sym e) (refl, refl)
fault-number n (inr (inr (inr (inl e)))) = subst (λ (k : ℕ). Same k) (sym e) (refl, refl)
fault-number n (inr (inr (inr (inr (inl e))))) = subst (λ (k : ℕ). Same k) (sym e) (refl, refl)
fault-number n (inr (inr (inr (inr (inr x))))) = absurd x

-- the number of a fault is no answer to a packet that is taken
pub no_whole : (f : Fault) → eqb (number f) 3 ≡ false
no_whole type_unreadable = refl
no_whole type_control = refl
no_whole type_reserved = refl
no_whole type_scrambled = refl
no_whole word_unreadable = refl
no_whole out_of_step = refl

pub no_part : (f : Fault) → (eqb (number f) 1 || eqb (number f) 2) ≡ false
no_part type_unreadable = refl
no_part type_control = refl
no_part type_reserved = refl
no_part type_scrambled = refl
no_part word_unreadable = refl
no_part out_of_step = refl

-- 0, the answers to a packet that is taken, and the refusals before its address is found
pub others-stay : map number_drops (0 ∷ 1 ∷ 2 ∷ 3 ∷ 20 ∷ 21 ∷ 27 ∷ 34 ∷ 49 ∷ [])
    ≡ (false ∷ false ∷ false ∷ false ∷ false ∷ false ∷ false ∷ false ∷ false ∷ [])
unfolding number_drops
others-stay = refl

pub by_tests : (a b c d e f : Bool)
    → ((a || (c || d)) || (e || f))
    ≡ ((a && true) || ((b && false) || ((c && true) || ((d && true) || ((e && true) || ((f && true) || false))))))
by_tests true b c d e f = refl
by_tests false true true d e f = refl
by_tests false true false true e f = refl
by_tests false true false false true f = refl
by_tests false true false false false true = refl
by_tests false true false false false false = refl
by_tests false false true d e f = refl
by_tests false false false true e f = refl
by_tests false false false false true f = refl
by_tests false false false false false true = refl
by_tests false false false false false false = refl
