-- For each contract of the calls: any two results that it allows, of the answer and of every lent byte, are equal.
-- Assumes nothing.
use mathlib.Core.Path.{◌≡◌, refl, sym, ap}
use mathlib.Core.Bool.{Bool, true, false, cond}
use mathlib.Core.List.{List}
use Prim.Native.Nat.{ℕ}
use native.Mathlib.Omega.{arith}
use Rattle.std.specs.Prelude.{Result, Ok, Err, Option, Some, None, is_some, unwrap_or}
use Rattle.bits.proofs.Determined.{determined}
use Rattle.faults.specs.Refusals.{told}
use Rattle.faults.specs.declared.refusal.Refusal.{Refusal}
use Rattle.faults.proofs.Refusals.{number-same, number-not-zero}
use Rattle.field.proofs.Determined.{SameTold, same-told}
use Rattle.map.specs.Answers.{no_span, Shown, Gathered, Reach, told_shown, told_heard, told_known}
use Rattle.map.specs.Calls.{start_answer, start_after, take_answer, take_after, show_answer, shown, list_answer, list_after, heard, known}
use Rattle.map.specs.declared.Span.{Span}
use Rattle.map.specs.declared.Shown.{Shown as ShownBy}
use Rattle.map.specs.declared.Gathered.{Gathered as GatheredBy}
use Rattle.map.specs.declared.Reach.{Reach as ReachBy}

pub start-same : (m : List ℕ) → SameTold (start_answer m) (start_after m)
start-same m = same-told (start_answer m) (start_after m)

pub take_same : (m f : List ℕ) → SameTold (take_answer m f) (take_after m f)
take_same m f = same-told (take_answer m f) (take_after m f)

pub list_same : (m : List ℕ) (count : ℕ) (out : List ℕ) → SameTold (list_answer m out) (list_after m count out)
list_same m count out = same-told (list_answer m out) (list_after m count out)

-- ---- the calls that only read the map: as they are told, they are had back

bit-same : (a b : Bool) → ◌≡◌ {A = ℕ} (cond a 1 0) (cond b 1 0) → a ≡ b
bit-same true true e = refl
bit-same true false e = absurd (omega (arith, e))
bit-same false true e = absurd (omega (arith, e))
bit-same false false e = refl

fields-same : (a b : Option Span) → ◌≡◌ {A = ℕ} (cond (is_some a) 0 46) (cond (is_some b) 0 46) → (unwrap_or a no_span).at ≡ (unwrap_or b no_span).at
    → (unwrap_or a no_span).len ≡ (unwrap_or b no_span).len → a ≡ b
fields-same (Some x) (Some y) n e l = ap Some (λ i. record { at = e i; len = l i })
fields-same (Some x) None n e l = absurd (omega (arith, n))
fields-same None (Some y) n e l = absurd (omega (arith, n))
fields-same None None n e l = refl

change-same : (a b : Option ℕ) → ◌≡◌ {A = ℕ} (cond (is_some a) 1 0) (cond (is_some b) 1 0) → unwrap_or a 0 ≡ unwrap_or b 0 → a ≡ b
change-same (Some x) (Some y) n e = ap Some e
change-same (Some x) None n e = absurd (omega (arith, n))
change-same None (Some y) n e = absurd (omega (arith, n))
change-same None None n e = refl

shown-back : (a b : Result ShownBy Refusal) → told a ≡ told b → told_shown a ≡ told_shown b → a ≡ b
shown-back (Ok x) (Ok y) t e =
    let fields = fields-same x.fields y.fields (ap (λ (s : Shown). s.number) e) (ap (λ (s : Shown). s.at) e) (ap (λ (s : Shown). s.len) e) in
    let change = change-same x.change y.change (ap (λ (s : Shown). s.announced) e) (ap (λ (s : Shown). s.frames) e) in
    let unknown = bit-same x.unknown y.unknown (ap (λ (s : Shown). s.unknown) e) in
    λ i. Ok (record { fields = fields i; change = change i; unknown = unknown i })
shown-back (Ok x) (Err r) t e = absurd (number-not-zero r (sym t))
shown-back (Err r) (Ok y) t e = absurd (number-not-zero r t)
shown-back (Err r) (Err s) t e = ap Err (number-same r s t)

heard-back : (a b : Result GatheredBy Refusal) → told_heard a ≡ told_heard b → a ≡ b
heard-back (Ok x) (Ok y) e =
    let whole = bit-same x.whole y.whole (ap (λ (s : Gathered). s.whole) e) in
    λ i. Ok (record { fields = record { at = (e i).at; len = (e i).len }; whole = whole i })
heard-back (Ok x) (Err r) e = absurd (number-not-zero r (sym (ap (λ (s : Gathered). s.number) e)))
heard-back (Err r) (Ok y) e = absurd (number-not-zero r (ap (λ (s : Gathered). s.number) e))
heard-back (Err r) (Err s) e = ap Err (number-same r s (ap (λ (s : Gathered). s.number) e))

known-back : (a b : Result ReachBy Refusal) → told_known a ≡ told_known b → a ≡ b
known-back (Ok x) (Ok y) e =
    let unbroken = bit-same x.unbroken y.unbroken (ap (λ (s : Reach). s.unbroken) e) in
    λ i. Ok (record { row = (e i).row; unbroken = unbroken i; components = (e i).components })
known-back (Ok x) (Err r) e = absurd (number-not-zero r (sym (ap (λ (s : Reach). s.number) e)))
known-back (Err r) (Ok y) e = absurd (number-not-zero r (ap (λ (s : Reach). s.number) e))
known-back (Err r) (Err s) e = ap Err (number-same r s (ap (λ (s : Reach). s.number) e))

pub show-same : (m : List ℕ) (id count : ℕ) (r q : Result ShownBy Refusal) → told r ≡ show_answer m → told_shown r ≡ shown m id count
    → told q ≡ show_answer m → told_shown q ≡ shown m id count → r ≡ q
show-same m id count r q a b c d = shown-back r q (determined a c) (determined b d)

pub heard-same : (m : List ℕ) (id count : ℕ) (r q : Result GatheredBy Refusal) → told_heard r ≡ heard m id count → told_heard q ≡ heard m id count → r ≡ q
heard-same m id count r q a b = heard-back r q (determined a b)

pub known-same : (m : List ℕ) (count : ℕ) (r q : Result ReachBy Refusal) → told_known r ≡ known m count → told_known q ≡ known m count → r ≡ q
known-same m count r q a b = known-back r q (determined a b)
