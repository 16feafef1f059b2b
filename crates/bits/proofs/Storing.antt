-- Filling a list from its front, as a loop does that stores one value after the other.
--
--   stored     a list that agrees with another up to a place agrees one further after the right store there
--   get_d_map   what stands at a place of a list that was mapped
--   blank-length   n bytes of 0 are n bytes
--   drop-blank     and fewer behind a cut
--   agreed     two lists that agree up to their common length are equal
--   copied     one more byte of a list is stored at its place in another; copied-length: that stays as long as it was
--
-- Assumes nothing.
use mathlib.Core.Path.{◌≡◌, refl, sym, ap, ap₂, ◌∙◌}
use mathlib.Core.List.{List, [], ◌∷◌, ◌++◌, map}
use Prim.Native.Nat.{ℕ, zero, suc, ◌+◌, ◌-◌, ◌≤◌, ◌<◌}
use native.Mathlib.Omega.{arith}
use native.Mathlib.Nat.{sub-zero, suc-sub-suc, zero-sub}
use native.Mathlib.Numerals.{add-one}
use lib.ListN.{length, take, drop, get_or, set, length-replicate}
use Rattle.bits.specs.Bits.{blank}
use lib.Seq.{take-suc, take-suc-set, take_all, paste, paste-suc, length-paste}

pub stored : (out target : List ℕ) (j n v : ℕ) → take j out ≡ take j target → j < length out → j < length target
    → n ≡ suc j → v ≡ get_or target j 0 → take n (set out j v) ≡ take n target
stored out target j n v e ho ht en ev =
    ap (λ (x : ℕ). take x (set out j v)) en ∙ take-suc-set out j v ho
    ∙ ap₂ (λ (xs : List ℕ) (x : ℕ). xs ++ (x ∷ [])) e ev
    ∙ sym (take-suc target j 0 ht) ∙ ap (λ (x : ℕ). take x target) (sym en)

pub agreed : (xs ys : List ℕ) (n k : ℕ) → take k xs ≡ take k ys → length xs ≡ n → length ys ≡ n → n ≤ k → xs ≡ ys
agreed xs ys n k e lx ly h = sym (take_all k xs (omega arith)) ∙ e ∙ take_all k ys (omega arith)

pub get_d_map : (f : ℕ → ℕ) (ns : List ℕ) (k : ℕ) → k < length ns → get_or (map f ns) k 0 ≡ f (get_or ns k 0)
get_d_map f [] k h = absurd (omega arith)
get_d_map f (n ∷ ns) zero h = refl
get_d_map f (n ∷ ns) (suc k) h = get_d_map f ns k (omega arith)

pub blank-length : (n : ℕ) → length (blank n) ≡ n
unfolding blank
blank-length n = length-replicate n 0

pub drop-blank : (n m : ℕ) → drop n (blank m) ≡ blank (m - n)
unfolding blank
drop-blank zero m = ap blank (sym (sub-zero m))
drop-blank (suc n) zero = ap blank (sym (zero-sub (suc n)))
drop-blank (suc n) (suc m) = drop-blank n m ∙ ap blank (sym (suc-sub-suc m n))

-- one more byte of the list is stored at its place
pub copied : (d s b : List ℕ) (at p k : ℕ) → b ≡ paste d at s k → p ≡ at + k → p < length d → k < length s
    → set b p (get_or s k 0) ≡ paste d at s (k + 1)
copied d s b at p k e q hd hs =
    ap₂ (λ (l : List ℕ) (i : ℕ). set l i (get_or s k 0)) e q
    ∙ paste-suc d at s k 0 (omega arith) hs
    ∙ ap (paste d at s) (sym (add-one k))

-- so the room stays as long as it was
pub copied-length : (d s b : List ℕ) (at k : ℕ) → b ≡ paste d at s k → at + k ≤ length d → k ≤ length s → length b ≡ length d
copied-length d s b at k e hd hs = ap length e ∙ length-paste d at s k hd hs
