-- For the contracts of serve and serve_all: any two results that each allows are equal. Of the answers' slice serve_all says
-- the bytes that it counts as served, and these are.
-- Assumes nothing.
use mathlib.Core.Path.{◌≡◌, sym, ap, ◌∙◌}
use mathlib.Core.List.{List}
use Prim.Native.Nat.{ℕ, ◌≤◌}
use lib.ListN.{length, take}
use lib.Seq.{length-take-le}
use Rattle.bits.proofs.Determined.{determined}
use Rattle.table.proofs.Determined.{Same, same}
use Rattle.records.specs.declared.Step.{Step}
use Rattle.serving.specs.declared.Passed.{Passed}
use Rattle.serving.specs.Served.{served_answer, served_after, Pass}

pub serve-same : (kind : ℕ) (body t : List ℕ) → Same (served_answer kind body t) (served_after kind body t)
serve-same kind body t = same (served_answer kind body t) (served_after kind body t)

-- what serve_all says of its result, the state, the answers, the number served and the place, by the pass
pub record Allowed (p : Pass) (r : Step) (t answers : List ℕ) (served at : ℕ) : Type 0 where
  pub stood : r ≡ p.last
  pub state : t ≡ p.state
  pub given : take served answers ≡ p.answers
  pub room : served ≤ length answers
  pub place : at ≡ p.at

pub serve-all-same : (p : Pass) (r q : Step) (t u a b : List ℕ) (m n i j : ℕ) → Allowed p r t a m i → Allowed p q u b n j
    → (r ≡ q) × (t ≡ u) × (take m a ≡ take n b) × (m ≡ n) × (i ≡ j)
serve-all-same p r q t u a b m n i j x y =
    let answers : take m a ≡ take n b = determined x.given y.given in (
      determined x.stood y.stood,
      determined x.state y.state,
      answers,
      sym (length-take-le m a x.room) ∙ ap length answers ∙ length-take-le n b y.room,
      determined x.place y.place,
    )

-- and so is the struct that tells where it came
pub passed-same : (p : Pass) (r q : Passed) (t u a b : List ℕ) → Allowed p r.last t a r.served r.at → Allowed p q.last u b q.served q.at → r ≡ q
passed-same p r q t u a b x y =
    let same = serve-all-same p r.last q.last t u a b r.served q.served r.at q.at x y in
    λ i. record { last = same.0 i; served = same.3 i; at = same.4 i }
