-- Runs of bytes that are set to 0 or copied.
--
--   cleared          the end of the loop that sets bytes to 0
--   paste-put        what is copied so far, as a put; copy-end: the end of the loop that copies
--   put_all          a copy as long as what it is put into
--
-- Assumes nothing.
use mathlib.Core.Path.{◌≡◌, sym, ap, ◌∙◌}
use mathlib.Core.List.{List, ◌++◌, append-nil, append_assoc}
use Prim.Native.Nat.{ℕ, ◌+◌}
use lib.ListN.{length, take, drop, replicate}
use lib.Seq.{drop-length, drop-drop, paste, take-length}
use Rattle.bits.specs.Bits.{blank}
use Rattle.runs.specs.Part.{put}

pub cleared : (k : ℕ) (d b : List ℕ) → k ≡ length d → b ≡ replicate k 0 ++ drop k d → b ≡ blank (length d)
unfolding blank
cleared k d b q e =
    e ∙ ap (λ (n : ℕ). replicate n 0 ++ drop n d) q ∙ ap (λ (x : List ℕ). replicate (length d) 0 ++ x) (drop-length d)
    ∙ append-nil (replicate (length d) 0)

-- a copy is a part replaced
pub paste-put : (d : List ℕ) (at : ℕ) (s : List ℕ) (k : ℕ) → paste d at s k ≡ put at k (take k s) d
unfolding put
paste-put d at s k =
    append_assoc (take at d) (take k s) (drop (at + k) d)
    ∙ ap (λ (x : List ℕ). take at d ++ (take k s ++ x)) (sym (drop-drop k at d))

pub copy-end : (d : List ℕ) (at : ℕ) (s b : List ℕ) (k : ℕ) → b ≡ paste d at s k → k ≡ length s → b ≡ put at (length s) s d
copy-end d at s b k e q =
    e ∙ paste-put d at s k ∙ ap (λ (n : ℕ). put at n (take n s) d) q ∙ ap (λ (x : List ℕ). put at (length s) x d) (take-length s)

-- a whole run replaced
pub put_all : (b s : List ℕ) → length b ≡ length s → put 0 (length b) b s ≡ b
unfolding put
put_all b s e = ap (λ (x : List ℕ). b ++ x) (ap (λ (n : ℕ). drop n s) e ∙ drop-length s) ∙ append-nil b
