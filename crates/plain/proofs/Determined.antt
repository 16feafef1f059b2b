-- Any two results that the contract of the plain reader allows are equal, and equal to any that the table reader's allows.
-- Assumes nothing.
use mathlib.Core.Path.{◌≡◌, sym, ◌∙◌}
use Prim.Native.Nat.{ℕ}
use Rattle.std.specs.Prelude.{Result}
use Rattle.faults.specs.declared.refusal.Refusal.{Refusal}
use Rattle.bare.specs.Bare.{header_within}
use Rattle.bare.specs.Told.{told_header}
use Rattle.bare.specs.declared.Header.{Header}
use Rattle.bare.proofs.Determined.{header-same}
use Rattle.plain.specs.Plain.{header_plain}
use Rattle.plain.proofs.Theorems.{plain-is-table}

pub read-header-same : (n most : ℕ) (r s : Result Header Refusal) → told_header r ≡ header_plain n most → told_header s ≡ header_plain n most → r ≡ s
read-header-same n most r s e f = header-same r s (e ∙ sym f)

pub either-reader : (n most : ℕ) (plain table : Result Header Refusal) → told_header plain ≡ header_plain n most → told_header table ≡ header_within n most
    → plain ≡ table
either-reader n most plain table p t = header-same plain table (p ∙ plain-is-table n most ∙ sym t)
