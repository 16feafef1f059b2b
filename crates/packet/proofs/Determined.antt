-- For the contracts of this crate: any two results that one allows are equal.
-- Assumes nothing.
use mathlib.Core.Path.{◌≡◌, sym, ap, ◌∙◌}
use mathlib.Core.Bool.{Bool}
use mathlib.Core.List.{List}
use Prim.Native.Nat.{ℕ}
use Rattle.std.specs.Prelude.{Result, Ok, Err}
use Rattle.bits.proofs.Determined.{determined}
use Rattle.faults.proofs.Refusals.{number-not-zero, number-same}
use Rattle.packet.specs.Received.{ReadingAnswer, received, written}
use Rattle.packet.specs.Told.{told_reading}
use Rattle.packet.specs.declared.Reading.{Reading}
use Rattle.packet.specs.declared.Unread.{Unread}

-- an answer is told by what it is told as
pub reading-same : (r s : Result Reading Unread) → told_reading r ≡ told_reading s → r ≡ s
reading-same (Ok x) (Ok y) e =
    ap Ok (λ j. record { index = ap (λ (a : ReadingAnswer). a.index) e j; bytes = ap (λ (a : ReadingAnswer). a.bytes) e j })
reading-same (Ok x) (Err v) e = absurd (number-not-zero v.refusal (sym (ap (λ (a : ReadingAnswer). a.number) e)))
reading-same (Err u) (Ok y) e = absurd (number-not-zero u.refusal (ap (λ (a : ReadingAnswer). a.number) e))
reading-same (Err u) (Err v) e =
    ap Err
    (λ j. record {
      refusal = number-same u.refusal v.refusal (ap (λ (a : ReadingAnswer). a.number) e) j;
      place = ap (λ (a : ReadingAnswer). a.place) e j;
    })

pub received-same : (p : Bool) (s : List ℕ) (r q : Result Reading Unread) → told_reading r ≡ received p s → told_reading q ≡ received p s → r ≡ q
received-same p s r q e f = reading-same r q (e ∙ sym f)

pub written_same : (a i t : ℕ) (u r q : List ℕ) → r ≡ written a i t u → q ≡ written a i t u → r ≡ q
written_same a i t u r q = determined
