-- For the contract of `unprotect`: any two results that it allows are equal.
-- Assumes nothing.
use mathlib.Core.Path.{◌≡◌, sym, ap, ◌∙◌}
use mathlib.Core.List.{List}
use Prim.Native.Nat.{ℕ, ◌<◌}
use native.Mathlib.Omega.{arith}
use Rattle.std.specs.Prelude.{Result, Ok, Err, IfErr}
use Rattle.words.specs.Protected.{DataAnswer, data_read}
use Rattle.words.specs.Told.{told_data}
use Rattle.words.specs.declared.Data.{Data}
use Rattle.words.specs.declared.Unreadable.{Unreadable}

abbrev Placed : Result Data Unreadable → Type 0
Placed r = IfErr r (λ (e : Unreadable). e.place < 30)

same : (r s : Result Data Unreadable) → Placed r → Placed s → told_data r ≡ told_data s → r ≡ s
same (Ok c) (Ok d) p q e =
    ap Ok (λ j. record { flips = ap (λ (x : DataAnswer). x.flips) e j; bytes = ap (λ (x : DataAnswer). x.bytes) e j })
same (Ok c) (Err y) p q e = absurd (omega (arith, q, ap (λ (x : DataAnswer). x.place) e))
same (Err x) (Ok d) p q e = absurd (omega (arith, p, ap (λ (y : DataAnswer). y.place) e))
same (Err x) (Err y) p q e = ap Err (λ j. record { place = ap (λ (z : DataAnswer). z.place) e j })

pub unprotect-same : (u : List ℕ) (r s : Result Data Unreadable) → told_data r ≡ data_read u → told_data s ≡ data_read u → Placed r → Placed s → r ≡ s
unprotect-same u r s e f p q = same r s p q (e ∙ sym f)
