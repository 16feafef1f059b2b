-- For each contract of the calls: any two results that it allows, of the answer and of everything lent, are equal.
-- Assumes nothing.
use mathlib.Core.Path.{◌≡◌, refl, ap}
use mathlib.Core.List.{List}
use Prim.Native.Nat.{ℕ}
use Rattle.std.specs.Prelude.{Result, Ok, Err, ⊤}
use Rattle.bits.proofs.Determined.{determined}
use Rattle.faults.specs.Refusals.{told}
use Rattle.faults.specs.declared.refusal.Refusal.{Refusal}
use Rattle.faults.proofs.Refusals.{number-same, number-not-zero, told-same}
use Rattle.field.specs.Field.{handed, no_field, no_tdms, read_number, read_field, write_number, written_after, pack_number, packed, unpack_number, unpacked}
use Rattle.field.specs.declared.Field.{Field}
use Rattle.field.specs.declared.Tdms.{Tdms}

-- what a call gives and what it leaves, by the two functions of the call
abbrev pub Same : {A B : Type 0} → A → B → Type 0
Same {A} {B} result after = (r q : A) (t u : B) → r ≡ result → t ≡ after → q ≡ result → u ≡ after → (r ≡ q) × (t ≡ u)

pub same : {A B : Type 0} (result : A) (after : B) → Same result after
same result after r q t u a b c d = (determined a c, determined b d)

-- the same of a call that is told by its number, and leaves something
abbrev pub SameTold : {B : Type 0} → ℕ → B → Type 0
SameTold {B} number after =
    (a b : Result ⊤ Refusal) (t u : B) → told a ≡ number → t ≡ after → told b ≡ number → u ≡ after → (a ≡ b) × (t ≡ u)

pub same-told : {B : Type 0} (number : ℕ) (after : B) → SameTold number after
same-told number after a b t u p q r s = (told-same (λ x y. refl) a b (determined p r), determined q s)

-- and of one that is told by its number and by what it hands out
abbrev pub SameHanded : {A : Type 0} → A → ℕ → A → Type 0
SameHanded {A} nothing number value =
    (a b : Result A Refusal) → told a ≡ number → handed nothing a ≡ value → told b ≡ number → handed nothing b ≡ value → a ≡ b

pub same-handed : {A : Type 0} (nothing : A) (number : ℕ) (value : A) → SameHanded nothing number value
same-handed nothing number value (Ok x) (Ok y) p q r s = ap Ok (determined q s)
same-handed nothing number value (Ok x) (Err e) p q r s = absurd (number-not-zero e (determined r p))
same-handed nothing number value (Err d) (Ok y) p q r s = absurd (number-not-zero d (determined p r))
same-handed nothing number value (Err d) (Err e) p q r s = ap Err (number-same d e (determined p r))

pub read_same : (f : List ℕ) → SameHanded no_field (read_number f) (read_field f)
read_same f = same-handed no_field (read_number f) (read_field f)

pub write_same : (r : Field) (out : List ℕ) → SameTold (write_number r out) (written_after r out)
write_same r out = same-told (write_number r out) (written_after r out)

pub pack-same : (s : Tdms) → SameHanded 0 (pack_number s) (packed s)
pack-same s = same-handed 0 (pack_number s) (packed s)

pub unpack-same : (t : ℕ) → SameHanded no_tdms (unpack_number t) (unpacked t)
unpack-same t = same-handed no_tdms (unpack_number t) (unpacked t)
