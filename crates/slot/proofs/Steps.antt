-- What the code's steps come to: stores in a row, and the fold of all bytes.
--
--   head-stores                    three numbers and single bytes stored in a row are the head's bytes
--   fold_next, fold_end            the bytes folded so far and the bytes left say whether all are 0
--
-- Assumes nothing.
use mathlib.Core.Path.{◌≡◌, refl, sym, ap, ap₂, ◌∙◌}
use mathlib.Core.Bool.{Bool, ◌&&◌, and-true, and_assoc}
use mathlib.Core.List.{List, ◌++◌}
use Prim.Native.Nat.{ℕ, zero, suc, ◌+◌, ◌≤◌, ◌<◌}
use native.Mathlib.Omega.{arith}
use native.Mathlib.Numerals.{add-one}
use lib.Bits.{bit_or, or_zero_l}
use lib.Dec.{eqb, eqb-suc-zero}
use lib.ListN.{length, drop, get_or, drop_of_length-le}
use lib.Seq.{drop-cons, sets}
use borrow.Author.Tests.{ne_eqb}
use Rattle.bits.proofs.Flips.{or-none}
use Rattle.runs.specs.Part.{put}
use Rattle.runs.specs.Numbers.{four}
use Rattle.slot.specs.Slot.{head_at, slot_size, head_bytes, with_head, free}
use Rattle.head.specs.declared.Head.{Head}
use Rattle.runs.proofs.Parts.{put-length, put_next, sets-put}
use Rattle.slot.proofs.Heads.{singles}

pub head-stores : (h : Head) (s t u v : List ℕ) → length s ≡ slot_size
    → t ≡ put head_at 4 (four h.wish.address) s → u ≡ put (head_at + 4) 4 (four h.wish.limit) t
    → v ≡ put (head_at + 8) 4 (four h.age) u → sets v (head_at + 12) (singles h) ≡ with_head h s
unfolding with_head head_bytes four
head-stores h s t u v l et eu ev =
    let a = four h.wish.address in
    let b = four h.wish.limit in
    let c = four h.age in
    let d = singles h in
    let n = length d in
    let two : u ≡ put head_at 8 (a ++ b) s = eu ∙ ap (put (head_at + 4) 4 b) et ∙ put_next head_at 4 a s 4 b (omega arith) refl in
    let three : v ≡ put head_at 12 ((a ++ b) ++ c) s =
    ev ∙ ap (put (head_at + 8) 4 c) two ∙ put_next head_at 8 (a ++ b) s 4 c (omega arith) refl in
    let long : length v ≡ slot_size = ap length three ∙ put-length head_at 12 ((a ++ b) ++ c) s (omega arith) refl ∙ l in
    sets-put (head_at + 12) d v (omega arith)
    ∙ ap (put (head_at + 12) n d) three ∙ put_next head_at 12 ((a ++ b) ++ c) s n d (omega arith) refl

or-tests : (a b : ℕ) → eqb (bit_or a b) 0 ≡ (eqb a 0 && eqb b 0)
or-tests zero b = ap (λ (x : ℕ). eqb x 0) (or_zero_l b)
or-tests (suc a) b =
    ne_eqb (bit_or (suc a) b) 0 (λ e. absurd (omega (arith, or-none (suc a) b e)))
    ∙ ap (λ (x : Bool). x && eqb b 0) (sym (eqb-suc-zero a))

pub fold_next : (all k : ℕ) (s : List ℕ) → k < length s
    → (eqb (bit_or all (get_or s k 0)) 0 && free (drop (k + 1) s)) ≡ (eqb all 0 && free (drop k s))
unfolding free
fold_next all k s h =
    ap₂ (λ (x : Bool) (j : ℕ). x && free (drop j s)) (or-tests all (get_or s k 0)) (add-one k)
    ∙ and_assoc (eqb all 0) (eqb (get_or s k 0) 0) (free (drop (suc k) s))
    ∙ ap (λ (x : List ℕ). eqb all 0 && free x) (sym (drop-cons s k 0 h))

pub fold_end : (all k : ℕ) (s : List ℕ) → length s ≤ k → eqb all 0 ≡ (eqb all 0 && free (drop k s))
unfolding free
fold_end all k s h =
    sym (ap (λ (x : List ℕ). eqb all 0 && free x) (drop_of_length-le s {i = k} h) ∙ and-true (eqb all 0))
