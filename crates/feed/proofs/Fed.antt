-- `fed` row by row.
--
--   fed-20, fed-23     refused, and nothing is changed
--   fed-read           otherwise what the packet is read as
--
-- Assumes nothing.
use mathlib.Core.Path.{◌≡◌, ap, ◌∙◌}
use mathlib.Core.Bool.{not}
use mathlib.Core.List.{List, [], ◌∷◌}
use Prim.Native.Nat.{ℕ, ◌≤◌, ◌<◌}
use borrow.Author.Tests.{eq-eqb, ne_eqb, lt-ltb, le-ltb}
use lib.Dec.{eqb, ltb}
use lib.ListN.{length}
use Rattle.bits.specs.Rows.{row, refusal}
use Rattle.bits.proofs.Rows.{refusal-hit, refusal-miss}
use Rattle.packet.specs.Received.{received}
use Rattle.packet.specs.Received.{ReadingAnswer}
use Rattle.feed.specs.Fed.{values, refused, handed, fed}

module _ (protection : ℕ) (image : List ℕ) (before : ReadingAnswer) where
  handed-by : (k : ℕ) → refused protection before.bytes ≡ k
      → fed protection image before ≡ handed k (received (eqb protection 1) image) before
  unfolding fed
  handed-by k e = ap (λ (n : ℕ). handed n (received (eqb protection 1) image) before) e

  pub fed-20 : (length before.bytes ≡ 90 → ⊥)
      → fed protection image before ≡ values 20 before.place before.index before.bytes
  unfolding refused handed
  fed-20 h = handed-by 20 (refusal-hit _ 20 (row (ltb 1 protection) 23 ∷ []) (ap not (ne_eqb (length before.bytes) 90 h)))

  second : length before.bytes ≡ 90 → refused protection before.bytes ≡ refusal (row (ltb 1 protection) 23 ∷ [])
  unfolding refused
  second l = refusal-miss _ 20 (row (ltb 1 protection) 23 ∷ []) (ap not (eq-eqb (length before.bytes) 90 l))

  pub fed-23 : length before.bytes ≡ 90 → 1 < protection
      → fed protection image before ≡ values 23 before.place before.index before.bytes
  unfolding handed
  fed-23 l h = handed-by 23 (second l ∙ refusal-hit (ltb 1 protection) 23 [] (lt-ltb 1 protection h))

  pub fed-read : length before.bytes ≡ 90 → protection ≤ 1 → fed protection image before ≡ received (eqb protection 1) image
  unfolding handed refusal
  fed-read l h = handed-by 0 (second l ∙ refusal-miss (ltb 1 protection) 23 [] (le-ltb 1 protection h))
