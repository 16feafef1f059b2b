-- For each contract of the bare calls: any two results that it allows are equal.
-- Assumes nothing.
use mathlib.Core.Path.{◌≡◌, refl, sym, ap, ◌∙◌}
use mathlib.Core.Bool.{cond}
use Prim.Native.Nat.{ℕ}
use lib.Dec.{eqb}
use Rattle.std.specs.Prelude.{Result, Ok, Err}
use Rattle.faults.specs.declared.refusal.Refusal.{Refusal}
use Rattle.faults.proofs.Refusals.{number-not-zero, number-same}
use Rattle.bare.specs.Bare.{HeaderAnswer, WordAnswer, TypeAnswer, Written, header_read, header_within, header_written, word_read, word_written, type_read, type_written}
use Rattle.bare.specs.Told.{told_header, told_word, told_type, told_number, told_kind, byte_of}
use Rattle.bare.specs.declared.Header.{Header}
use Rattle.bare.specs.declared.Word.{Word}
use Rattle.bare.specs.declared.TypeByte.{TypeByte}
use Rattle.bare.specs.declared.kind.Kind.{Kind}
use Rattle.bare.specs.declared.kind.Kind.TheVariants.{Data, Control, Reserved, Scrambled}

-- an answer is told by what it is told as
pub header-same : (r s : Result Header Refusal) → told_header r ≡ told_header s → r ≡ s
header-same (Ok g) (Ok h) e =
    ap Ok
    (λ j. record {
      address = ap (λ (x : HeaderAnswer). x.address) e j;
      index = ap (λ (x : HeaderAnswer). x.index) e j;
      flips = ap (λ (x : HeaderAnswer). x.flips) e j;
    })
header-same (Ok g) (Err q) e = absurd (number-not-zero q (sym (ap (λ (x : HeaderAnswer). x.number) e)))
header-same (Err p) (Ok h) e = absurd (number-not-zero p (ap (λ (x : HeaderAnswer). x.number) e))
header-same (Err p) (Err q) e = ap Err (number-same p q (ap (λ (x : HeaderAnswer). x.number) e))

pub word-same : (r s : Result Word Refusal) → told_word r ≡ told_word s → r ≡ s
word-same (Ok v) (Ok w) e =
    ap Ok
    (λ j. record {
      information = ap (λ (x : WordAnswer). x.information) e j;
      flips = ap (λ (x : WordAnswer). x.flips) e j;
    })
word-same (Ok v) (Err q) e = absurd (number-not-zero q (sym (ap (λ (x : WordAnswer). x.number) e)))
word-same (Err p) (Ok w) e = absurd (number-not-zero p (ap (λ (x : WordAnswer). x.number) e))
word-same (Err p) (Err q) e = ap Err (number-same p q (ap (λ (x : WordAnswer). x.number) e))

-- the four bytes are four
kind_of : ℕ → Kind
kind_of b = cond (eqb b 0x00) Data (cond (eqb b 0x3F) Control (cond (eqb b 0xC7) Reserved Scrambled))

kind-back : (k : Kind) → kind_of (byte_of k) ≡ k
unfolding kind_of
kind-back Data = refl
kind-back Control = refl
kind-back Reserved = refl
kind-back Scrambled = refl

kind-same : (j k : Kind) → byte_of j ≡ byte_of k → j ≡ k
kind-same j k e = sym (kind-back j) ∙ (ap kind_of e ∙ kind-back k)

type-same : (r s : Result TypeByte Refusal) → told_type r ≡ told_type s → r ≡ s
type-same (Ok t) (Ok u) e =
    ap Ok
    (λ j. record {
      kind = kind-same t.kind u.kind (ap (λ (x : TypeAnswer). x.value) e) j;
      flips = ap (λ (x : TypeAnswer). x.flips) e j;
    })
type-same (Ok t) (Err q) e = absurd (number-not-zero q (sym (ap (λ (x : TypeAnswer). x.number) e)))
type-same (Err p) (Ok u) e = absurd (number-not-zero p (ap (λ (x : TypeAnswer). x.number) e))
type-same (Err p) (Err q) e = ap Err (number-same p q (ap (λ (x : TypeAnswer). x.number) e))

pub written-same : (r s : Result ℕ Refusal) → told_number r ≡ told_number s → r ≡ s
written-same (Ok m) (Ok n) e = ap Ok (ap (λ (x : Written). x.value) e)
written-same (Ok m) (Err q) e = absurd (number-not-zero q (sym (ap (λ (x : Written). x.number) e)))
written-same (Err p) (Ok n) e = absurd (number-not-zero p (ap (λ (x : Written). x.number) e))
written-same (Err p) (Err q) e = ap Err (number-same p q (ap (λ (x : Written). x.number) e))

kind-written-same : (r s : Result Kind Refusal) → told_kind r ≡ told_kind s → r ≡ s
kind-written-same (Ok j) (Ok k) e = ap Ok (kind-same j k (ap (λ (x : Written). x.value) e))
kind-written-same (Ok j) (Err q) e = absurd (number-not-zero q (sym (ap (λ (x : Written). x.number) e)))
kind-written-same (Err p) (Ok k) e = absurd (number-not-zero p (ap (λ (x : Written). x.number) e))
kind-written-same (Err p) (Err q) e = ap Err (number-same p q (ap (λ (x : Written). x.number) e))

pub read-header-same : (n : ℕ) (r s : Result Header Refusal) → told_header r ≡ header_read n → told_header s ≡ header_read n → r ≡ s
read-header-same n r s e f = header-same r s (e ∙ sym f)

pub read-header-within-same : (n most : ℕ) (r s : Result Header Refusal) → told_header r ≡ header_within n most → told_header s ≡ header_within n most → r ≡ s
read-header-within-same n most r s e f = header-same r s (e ∙ sym f)

pub write-header-same : (a i : ℕ) (r s : Result ℕ Refusal) → told_number r ≡ header_written a i → told_number s ≡ header_written a i → r ≡ s
write-header-same a i r s e f = written-same r s (e ∙ sym f)

pub read-word-same : (n : ℕ) (r s : Result Word Refusal) → told_word r ≡ word_read n → told_word s ≡ word_read n → r ≡ s
read-word-same n r s e f = word-same r s (e ∙ sym f)

pub write-word-same : (i : ℕ) (r s : Result ℕ Refusal) → told_number r ≡ word_written i → told_number s ≡ word_written i → r ≡ s
write-word-same i r s e f = written-same r s (e ∙ sym f)

pub read-type-same : (b : ℕ) (r s : Result TypeByte Refusal) → told_type r ≡ type_read b → told_type s ≡ type_read b → r ≡ s
read-type-same b r s e f = type-same r s (e ∙ sym f)

pub write-type-same : (b : ℕ) (r s : Result Kind Refusal) → told_kind r ≡ type_written b → told_kind s ≡ type_written b → r ≡ s
write-type-same b r s e f = kind-written-same r s (e ∙ sym f)
