-- A part of a run of bytes and the run with it replaced, at any places. `Below 256 s` says that each of s is a byte.
--
--   part_length, part-front, part-cons, part-cat, part-part, get_d_part    parts of runs and of parts
--   put-length, put-put, put_next, put-part, put-below                    a part replaced
--   part-put, part-put-before, part-put-after, get_or-put-*                 what stands where after it
--   sets-put                                                              stores one after the other are a put
--   blank-at, part-blank                                                  a run of 0
--
-- Assumes nothing.
use mathlib.Core.Path.{◌≡◌, refl, sym, ap, ap₂, ◌∙◌}
use mathlib.Core.List.{List, [], ◌∷◌, ◌++◌, append_assoc}
use Prim.Native.Nat.{ℕ, zero, suc, ◌+◌, ◌-◌, ◌≤◌, ◌<◌}
use native.Mathlib.Omega.{arith}
use native.Mathlib.Nat.{add-zero, zero-add, suc-add}
use native.Mathlib.Numerals.{add-one}
use lib.ListN.{length, take, drop, get_or, length-append, length-take, length-drop, take-append-drop}
use lib.Seq.{drop-append-le, take-append-le, take_at, drop_at, take-take, drop-drop, drop-cons, take-add, take-nil, get_or-take, get_or-drop, length-take-le, sets, sets-eq}
use Rattle.bits.specs.Bits.{blank}
use Rattle.bits.proofs.Runs.{Below, below-cat, below-take, below-drop}
use Rattle.runs.specs.Part.{part, put}

-- ---- parts

pub part_length : (at n : ℕ) (s : List ℕ) → at + n ≤ length s → length (part at n s) ≡ n
unfolding part
part_length at n s h = simp (length-take, length-drop) (omega arith)

-- a part of what stands in front
pub part-front : (a m : ℕ) (xs ys : List ℕ) → a + m ≤ length xs → part a m (xs ++ ys) ≡ part a m xs
unfolding part
part-front a m xs ys h =
    ap (take m) (drop-append-le a xs ys (omega arith)) ∙ take-append-le m (drop a xs) ys (omega (arith, length-drop a xs))

pub part-cons : (at n : ℕ) (s : List ℕ) → at < length s → part at (suc n) s ≡ get_or s at 0 ∷ part (at + 1) n s
unfolding part
part-cons at n s h = rw (add-one, drop-cons s at 0)

pub part-cat : (at n m : ℕ) (s : List ℕ) → part at (n + m) s ≡ part at n s ++ part (at + n) m s
unfolding part
part-cat at n m s = take-add n m (drop at s) ∙ ap (λ (x : List ℕ). take n (drop at s) ++ take m x) (drop-drop n at s)

drop-take : (a k : ℕ) (s : List ℕ) → drop a (take (a + k) s) ≡ take k (drop a s)
drop-take zero k s = ap (λ (x : ℕ). take x s) (zero-add k)
drop-take (suc a) k [] = ap (λ (x : ℕ). drop (suc a) (take x [])) (suc-add a k) ∙ sym (take-nil k)
drop-take (suc a) k (y ∷ s) = ap (λ (x : ℕ). drop (suc a) (take x (y ∷ s))) (suc-add a k) ∙ drop-take a k s

pub part-part : (a m b n : ℕ) (s : List ℕ) → a + m ≤ n → part a m (part b n s) ≡ part (b + a) m s
unfolding part
part-part a m b n s h =
    let e : n ≡ a + (n - a) = omega arith in
    ap (λ (x : ℕ). take m (drop a (take x (drop b s)))) e
    ∙ ap (take m) (drop-take a (n - a) (drop b s))
    ∙ take-take m (n - a) (drop a (drop b s)) (omega arith)
    ∙ ap (take m) (drop-drop a b s)

pub get_d_part : (at n k : ℕ) (s : List ℕ) → k < n → get_or (part at n s) k 0 ≡ get_or s (at + k) 0
unfolding part
get_d_part at n k s h = get_or-take n (drop at s) k 0 h ∙ get_or-drop at s k 0

-- ---- a part replaced

module _ (at n : ℕ) (b s : List ℕ) where
  pub put-length : at + n ≤ length s → length b ≡ n → length (put at n b s) ≡ length s
  unfolding put
  put-length h l = simp (length-append, length-take, length-drop) (omega arith)

  put-take : at ≤ length s → take at (put at n b s) ≡ take at s
  unfolding put
  put-take h = take_at (take at s) (b ++ drop n (drop at s)) at (length-take-le at s h)

  put-drop : at ≤ length s → drop at (put at n b s) ≡ b ++ drop n (drop at s)
  unfolding put
  put-drop h = drop_at (take at s) (b ++ drop n (drop at s)) at (length-take-le at s h)

  put_rest : at ≤ length s → length b ≡ n → drop n (drop at (put at n b s)) ≡ drop n (drop at s)
  put_rest h l = ap (drop n) (put-drop h) ∙ drop_at b (drop n (drop at s)) n l

  pub part-put : at ≤ length s → length b ≡ n → part at n (put at n b s) ≡ b
  unfolding part
  part-put h l = ap (take n) (put-drop h) ∙ take_at b (drop n (drop at s)) n l

  pub part-put-before : (a m : ℕ) → at ≤ length s → a + m ≤ at → part a m (put at n b s) ≡ part a m s
  unfolding put
  part-put-before a m h l =
      let fits : a + m ≤ length (take at s) = simp length-take (omega arith) in
      part-front a m (take at s) (b ++ drop n (drop at s)) fits ∙ sym (part-front a m (take at s) (drop at s) fits)
      ∙ ap (part a m) (take-append-drop at s)

  drop-put-after : (a : ℕ) → at ≤ length s → length b ≡ n → at + n ≤ a → drop a (put at n b s) ≡ drop a s
  drop-put-after a h l m =
      let e : at + n + (a - (at + n)) ≡ a = omega arith in
      let beyond : (x : List ℕ) → drop (a - (at + n)) (drop n (drop at x)) ≡ drop a x =
      λ x. ap (drop (a - (at + n))) (drop-drop n at x) ∙ drop-drop (a - (at + n)) (at + n) x ∙ ap (λ (k : ℕ). drop k x) e in
      sym (beyond (put at n b s)) ∙ ap (drop (a - (at + n))) (put_rest h l) ∙ beyond s

  pub part-put-after : (a m : ℕ) → at ≤ length s → length b ≡ n → at + n ≤ a → part a m (put at n b s) ≡ part a m s
  unfolding part
  part-put-after a m h l k = ap (take m) (drop-put-after a h l k)

  pub get_or-put-in : (k : ℕ) → at ≤ length s → length b ≡ n → k < n → get_or (put at n b s) (at + k) 0 ≡ get_or b k 0
  get_or-put-in k h l m = sym (get_d_part at n k (put at n b s) m) ∙ ap (λ (x : List ℕ). get_or x k 0) (part-put h l)

  pub get_or-put-before : (k : ℕ) → at ≤ length s → k < at → get_or (put at n b s) k 0 ≡ get_or s k 0
  get_or-put-before k h m =
      sym (get_or-take at (put at n b s) k 0 m) ∙ ap (λ (x : List ℕ). get_or x k 0) (put-take h) ∙ get_or-take at s k 0 m

  pub get_or-put-after : (k : ℕ) → at ≤ length s → length b ≡ n → at + n ≤ k → get_or (put at n b s) k 0 ≡ get_or s k 0
  get_or-put-after k h l m =
      let from : (x : List ℕ) → get_or (drop k x) 0 0 ≡ get_or x k 0 =
      λ x. get_or-drop k x 0 0 ∙ ap (λ (j : ℕ). get_or x j 0) (add-zero k) in
      sym (from (put at n b s)) ∙ ap (λ (x : List ℕ). get_or x 0 0) (drop-put-after k h l m) ∙ from s

  pub put-put : (c : List ℕ) → at ≤ length s → length b ≡ n → put at n c (put at n b s) ≡ put at n c s
  unfolding put
  put-put c h l = ap₂ (λ (x y : List ℕ). x ++ (c ++ y)) (put-take h) (put_rest h l)

  -- two puts in a row are one
  pub put_next : (m : ℕ) (c : List ℕ) → at ≤ length s → length b ≡ n → put (at + n) m c (put at n b s) ≡ put at (n + m) (b ++ c) s
  unfolding put
  put_next m c h l =
      let front : length (take at s ++ b) ≡ at + n = simp (length-append, length-take) (omega arith) in
      ap (λ (x : List ℕ). take (at + n) x ++ (c ++ drop m (drop (at + n) x)))
      (sym (append_assoc (take at s) b (drop n (drop at s))))
      ∙ ap₂ (λ (x y : List ℕ). x ++ (c ++ drop m y)) (take_at (take at s ++ b) (drop n (drop at s)) (at + n) front)
      (drop_at (take at s ++ b) (drop n (drop at s)) (at + n) front)
      ∙ append_assoc (take at s) b (c ++ drop m (drop n (drop at s)))
      ∙ ap (λ (x : List ℕ). take at s ++ x)
      (sym (append_assoc b c (drop m (drop n (drop at s)))) ∙ ap (λ (x : List ℕ). (b ++ c) ++ x) (drop-drop m n (drop at s)))

pub put-part : (at n : ℕ) (s : List ℕ) → put at n (part at n s) s ≡ s
unfolding part put
put-part at n s = ap (λ (x : List ℕ). take at s ++ x) (take-append-drop n (drop at s)) ∙ take-append-drop at s

pub sets-put : (at : ℕ) (b s : List ℕ) → at + length b ≤ length s → sets s at b ≡ put at (length b) b s
unfolding put
sets-put at b s h =
    sets-eq b s at h ∙ append_assoc (take at s) b (drop (at + length b) s)
    ∙ ap (λ (x : List ℕ). take at s ++ (b ++ x)) (sym (drop-drop (length b) at s))

pub put-below : {m : ℕ} (at n : ℕ) (b s : List ℕ) → Below m b → Below m s → Below m (put at n b s)
unfolding put
put-below at n b s hb hs =
    below-cat (take at s) (b ++ drop n (drop at s)) (below-take at s hs)
    (below-cat b (drop n (drop at s)) hb (below-drop n (drop at s) (below-drop at s hs)))

pub blank-at : (n k : ℕ) → get_or (blank n) k 0 ≡ 0
unfolding blank
blank-at zero k = refl
blank-at (suc n) zero = refl
blank-at (suc n) (suc k) = blank-at n k

pub part-blank : (at n m : ℕ) → at + n ≤ m → part at n (blank m) ≡ blank n
unfolding part blank
part-blank zero zero m h = refl
part-blank zero (suc n) zero h = absurd (omega arith)
part-blank zero (suc n) (suc m) h = ap (λ (x : List ℕ). 0 ∷ x) (part-blank zero n m (omega arith))
part-blank (suc at) n zero h = absurd (omega arith)
part-blank (suc at) n (suc m) h = part-blank at n m (omega arith)
