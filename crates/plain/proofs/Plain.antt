-- The plain reader case by case: what `header_plain` comes to where a row holds and where none does.
--
--   plain-33, plain-48, plain-49     refused
--   plain-0                          read by the pattern that leaves a word
--   plain-found, plain-none          the same as the loop over the flips comes to it
--
-- Assumes nothing.
use mathlib.Core.Path.{◌≡◌, sym, ap, ◌∙◌, subst}
use mathlib.Core.List.{[], ◌∷◌}
use Prim.Native.Nat.{ℕ, suc, ◌+◌, ◌/◌, ◌%◌, ◌^◌, ◌≤◌, ◌<◌}
use native.Mathlib.Omega.{arith}
use borrow.Author.Tests.{le-leb, lt-leb, lt-ltb, le-ltb}
use lib.Bits.{bit_xor}
use lib.Count.{ones}
use lib.Dec.{leb, ltb}
use Rattle.bits.specs.Rows.{row, refusal, given}
use Rattle.bits.proofs.Rows.{refusal-hit, refusal-miss}
use Rattle.bare.specs.Bare.{most_flips, header_refused}
use Rattle.bare.specs.Bare.{HeaderAnswer}
use Rattle.plain.specs.Plain.{error_patterns, trials, leaving, header_plain}
use Rattle.plain.proofs.Trying.{none, Flips, found, patterns-only, trial-hit}

-- the answer by a pattern
unfoldable plain_as : ℕ → ℕ → ℕ → HeaderAnswer
plain_as answer e n = record {
  number = answer;
  address = given answer (bit_xor n e % 1024);
  index = given answer (bit_xor n e / 1024 % 4);
  flips = given answer (ones e);
}

abbrev pattern : ℕ → ℕ → ℕ
pattern n most = leaving n (trials (suc most))

abbrev rows : ℕ → ℕ → ℕ
rows n most = refusal (row (leb (2 ^ 23) n) 33 ∷ row (ltb most_flips most) 48 ∷ row (leb (2 ^ 23) (pattern n most)) 49 ∷ [])

plain-answer : (n most k : ℕ) → rows n most ≡ k → header_plain n most ≡ plain_as k (pattern n most) n
unfolding header_plain plain_as
plain-answer n most k e = ap (λ (x : ℕ). plain_as x (pattern n most) n) e

pub plain-33 : (n most : ℕ) → 2 ^ 23 ≤ n → header_plain n most ≡ header_refused 33
unfolding plain_as given
plain-33 n most h = plain-answer n most 33 (refusal-hit (leb (2 ^ 23) n) 33 _ (le-leb (2 ^ 23) n h))

module _ (n most : ℕ) (h : n < 2 ^ 23) where
  past-33 : rows n most ≡ refusal (row (ltb most_flips most) 48 ∷ row (leb (2 ^ 23) (pattern n most)) 49 ∷ [])
  past-33 = refusal-miss (leb (2 ^ 23) n) 33 _ (lt-leb (2 ^ 23) n h)

  pub plain-48 : most_flips < most → header_plain n most ≡ header_refused 48
  unfolding plain_as given
  plain-48 l = plain-answer n most 48 (past-33 ∙ refusal-hit (ltb most_flips most) 48 _ (lt-ltb most_flips most l))

  module _ (l : most ≤ most_flips) where
    past-48 : rows n most ≡ refusal (row (leb (2 ^ 23) (pattern n most)) 49 ∷ [])
    past-48 = past-33 ∙ refusal-miss (ltb most_flips most) 48 _ (le-ltb most_flips most l)

    pub plain-49 : leaving n (trials (suc most)) ≡ none → header_plain n most ≡ header_refused 49
    unfolding plain_as given
    plain-49 f = plain-answer n most 49 (past-48 ∙ refusal-hit (leb (2 ^ 23) (pattern n most)) 49 [] (le-leb (2 ^ 23) (pattern n most) (omega (arith, f))))

    pub plain-0 : (e : ℕ) → leaving n (trials (suc most)) ≡ e → e < none
        → header_plain n most ≡ record { number = 0; address = bit_xor n e % 1024; index = bit_xor n e / 1024 % 4; flips = ones e }
    unfolding plain_as given refusal
    plain-0 e p f =
        plain-answer n most 0 (past-48 ∙ refusal-miss (leb (2 ^ 23) (pattern n most)) 49 [] (lt-leb (2 ^ 23) (pattern n most) (omega (arith, p, f))))
        ∙ ap (λ (x : ℕ). plain_as 0 x n) p

    -- the search as the loop makes it: what is found at f flips, where fewer left no word
    pub plain-found : (f e : ℕ) → f ≤ most → leaving n (trials f) ≡ none → e ≡ leaving n (error_patterns f 23) → e < none
        → header_plain n most ≡ record { number = 0; address = bit_xor n e % 1024; index = bit_xor n e / 1024 % 4; flips = f }
    plain-found f e m before is fits =
        plain-0 e (trial-hit n f most m before (subst (λ (x : ℕ). x < none) is fits) ∙ sym is) fits
        ∙ (λ i. record { number = 0; address = bit_xor n e % 1024; index = bit_xor n e / 1024 % 4; flips = many i })
      where
        many : ones e ≡ f
        many = ap ones is ∙ (found (Flips f 23) n (error_patterns f 23) (patterns-only f 23) (subst (λ (x : ℕ). x < none) is fits)).0.many

    -- and where none was found up to the setting
    pub plain-none : (f : ℕ) → f ≤ most + 1 → most + 1 ≤ f → leaving n (trials f) ≡ none → header_plain n most ≡ header_refused 49
    plain-none f a b before = plain-49 (ap (λ (x : ℕ). leaving n (trials x)) (omega arith) ∙ before)
