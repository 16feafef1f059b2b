-- For each contract of ask and of the board text: any two results that it allows, of the answer and of the part, are equal.
-- Assumes nothing.
use mathlib.Core.Path.{◌≡◌, refl, sym, ap, ◌∙◌}
use mathlib.Core.List.{List}
use Prim.Native.Nat.{ℕ, ◌≤◌}
use native.Mathlib.Omega.{arith}
use Rattle.std.specs.Prelude.{Option, Some, None, Result, Ok, Err}
use Rattle.faults.specs.declared.refusal.Refusal.{Refusal}
use Rattle.faults.proofs.Refusals.{number-same, number-from-20}
use Rattle.asking.specs.declared.Freshness.{Freshness}
use Rattle.asking.specs.declared.Freshness.TheVariants.{Fresh, Doubtful, Stale}
use Rattle.asking.specs.declared.Shown.{Shown}
use Rattle.bits.proofs.Determined.{determined}
use Rattle.table.proofs.Determined.{Same, same}
use Rattle.asking.specs.Asking.{Asked, freshness_number, told_asked, number_by, part_by, asked, ask_part, board_text}

pub answer-same : (s : List ℕ) (a : ℕ) (r q : Asked) → r ≡ asked s a → q ≡ asked s a → r ≡ q
answer-same s a r q = determined

pub ask-same : (s : List ℕ) (a : ℕ) → Same (asked s a).number (ask_part s a)
ask-same s a = same (asked s a).number (ask_part s a)

pub board-same : (s : List ℕ) (a : ℕ) (notice : List ℕ) → Same (asked s a).number (board_text s a notice)
board-same s a notice = same (asked s a).number (board_text s a notice)

-- ---- the answers of the code that tell them

freshness-same : (f g : Freshness) → freshness_number f ≡ freshness_number g → f ≡ g
freshness-same Fresh Fresh e = refl
freshness-same Fresh Doubtful e = absurd (omega (arith, e))
freshness-same Fresh Stale e = absurd (omega (arith, e))
freshness-same Doubtful Fresh e = absurd (omega (arith, e))
freshness-same Doubtful Doubtful e = refl
freshness-same Doubtful Stale e = absurd (omega (arith, e))
freshness-same Stale Fresh e = absurd (omega (arith, e))
freshness-same Stale Doubtful e = absurd (omega (arith, e))
freshness-same Stale Stale e = refl

between : (f : Freshness) → (5 ≤ freshness_number f) × (freshness_number f ≤ 7)
between Fresh = (omega arith, omega arith)
between Doubtful = (omega arith, omega arith)
between Stale = (omega arith, omega arith)

pub told-same : (r q : Result (Option Shown) Refusal) → told_asked r ≡ told_asked q → r ≡ q
told-same (Ok None) (Ok None) e = refl
told-same (Ok None) (Ok (Some y)) e = absurd (omega (arith, ap (λ (x : Asked). x.number) e, between y.freshness))
told-same (Ok None) (Err b) e = absurd (omega (arith, ap (λ (x : Asked). x.number) e, number-from-20 b))
told-same (Ok (Some x)) (Ok None) e = absurd (omega (arith, ap (λ (x : Asked). x.number) e, between x.freshness))
told-same (Ok (Some x)) (Ok (Some y)) e =
    let f : x.freshness ≡ y.freshness = freshness-same x.freshness y.freshness (ap (λ (z : Asked). z.number) e) in
    λ i. Ok (Some record { freshness = f i; at = (e i).at; len = (e i).len })
told-same (Ok (Some x)) (Err b) e = absurd (omega (arith, ap (λ (z : Asked). z.number) e, between x.freshness, number-from-20 b))
told-same (Err a) (Ok None) e = absurd (omega (arith, ap (λ (z : Asked). z.number) e, number-from-20 a))
told-same (Err a) (Ok (Some y)) e = absurd (omega (arith, ap (λ (z : Asked). z.number) e, between y.freshness, number-from-20 a))
told-same (Err a) (Err b) e = ap Err (number-same a b (ap (λ (z : Asked). z.number) e))

number-told-same : (r q : Result (Option Freshness) Refusal) → number_by (λ x. x) r ≡ number_by (λ x. x) q → r ≡ q
number-told-same (Ok None) (Ok None) e = refl
number-told-same (Ok None) (Ok (Some g)) e = absurd (omega (arith, e, between g))
number-told-same (Ok None) (Err b) e = absurd (omega (arith, e, number-from-20 b))
number-told-same (Ok (Some f)) (Ok None) e = absurd (omega (arith, e, between f))
number-told-same (Ok (Some f)) (Ok (Some g)) e = ap (λ (x : Freshness). Ok (Some x)) (freshness-same f g e)
number-told-same (Ok (Some f)) (Err b) e = absurd (omega (arith, e, between f, number-from-20 b))
number-told-same (Err a) (Ok None) e = absurd (omega (arith, e, number-from-20 a))
number-told-same (Err a) (Ok (Some g)) e = absurd (omega (arith, e, between g, number-from-20 a))
number-told-same (Err a) (Err b) e = ap Err (number-same a b e)

part-told-same : (r q : Result (Option (Freshness × List ℕ)) Refusal) → number_by (λ x. x.0) r ≡ number_by (λ x. x.0) q
    → part_by (λ x. x.1) r ≡ part_by (λ x. x.1) q → r ≡ q
part-told-same (Ok None) (Ok None) e p = refl
part-told-same (Ok None) (Ok (Some y)) e p = absurd (omega (arith, e, between y.0))
part-told-same (Ok None) (Err b) e p = absurd (omega (arith, e, number-from-20 b))
part-told-same (Ok (Some x)) (Ok None) e p = absurd (omega (arith, e, between x.0))
part-told-same (Ok (Some x)) (Ok (Some y)) e p =
    let f : x.0 ≡ y.0 = freshness-same x.0 y.0 e in
    λ i. Ok (Some (f i, p i))
part-told-same (Ok (Some x)) (Err b) e p = absurd (omega (arith, e, between x.0, number-from-20 b))
part-told-same (Err a) (Ok None) e p = absurd (omega (arith, e, number-from-20 a))
part-told-same (Err a) (Ok (Some y)) e p = absurd (omega (arith, e, between y.0, number-from-20 a))
part-told-same (Err a) (Err b) e p = ap Err (number-same a b e)

-- ask's result in code: how fresh a group is, and the bytes of the part that holds it
pub ask-result-same : (s : List ℕ) (a : ℕ) (r q : Result (Option (Freshness × List ℕ)) Refusal)
    → number_by (λ x. x.0) r ≡ (asked s a).number → part_by (λ x. x.1) r ≡ ask_part s a
    → number_by (λ x. x.0) q ≡ (asked s a).number → part_by (λ x. x.1) q ≡ ask_part s a → r ≡ q
ask-result-same s a r q b c d e = part-told-same r q (b ∙ sym d) (c ∙ sym e)

-- board text's: how fresh the group is, beside the bytes of the text
pub board-result-same : (s : List ℕ) (a : ℕ) (notice : List ℕ) (r q : Result (Option Freshness) Refusal × List ℕ)
    → number_by (λ x. x) r.0 ≡ (asked s a).number → r.1 ≡ board_text s a notice
    → number_by (λ x. x) q.0 ≡ (asked s a).number → q.1 ≡ board_text s a notice → r ≡ q
board-result-same s a notice r q b c d e = λ i. (number-told-same r.0 q.0 (b ∙ sym d) i, (c ∙ sym e) i)
