-- Laws of the text.
--
--   decimal-most         a number has twenty digits at most
--   decimal-same         they are what the library prints for it
--   digits-put           they are copied into a buffer
--   line-put             a line stored in a buffer, piece by piece
--   line-most            a line has 42 bytes at most
--   lines-append, lines_more     lines for answers and for further ones; for one more answer
--   lines-put            lines stored in a buffer, one more
--   lines-most           so many lines have at most 42 bytes each
--
-- Assumes nothing.
use mathlib.Core.Path.{◌≡◌, refl, sym, ap, ◌∙◌}
use mathlib.Core.Bool.{Bool, cond}
use mathlib.Core.List.{List, [], ◌∷◌, ◌++◌, append-nil, append_assoc}
use Prim.Native.Nat.{ℕ, zero, suc, ◌+◌, ◌-◌, ◌*◌, ◌/◌, ◌%◌, ◌^◌, ◌≤◌, ◌<◌}
use native.Mathlib.Omega.{arith}
use native.Mathlib.Nat.{add-zero}
use native.Mathlib.Decide.{dec_le}
use native.Mathlib.Numerals.{add-one}
use borrow.Author.Tests.{lt-ltb, le-ltb}
use lib.ListN.{length, take, drop, get_or, set, length-append}
use lib.Seq.{take-suc, length-take-le, sets, sets-eq}
use borrow.Rule.Slice.PartMut.{put_mid}
use Rattle.std.specs.Fmt as fmt
use Rattle.std.proofs.lemmas.Fmt.{decimal_from_appends, length-decimal-le}
use Rattle.std.proofs.lemmas.List.Edits.{paste_all}
use Rattle.std.proofs.lemmas.Slice.{put_mid-paste}
use Rattle.answers.specs.Text.{digits, decimal, line, lines}
use Rattle.answers.proofs.Stores.{sets-append}

-- ---- digits

abbrev split : ℕ → ℕ → Bool → List ℕ
split f n few = cond few ((48 + n) ∷ []) (digits f (n / 10) ++ ((48 + n % 10) ∷ []))

digits-one : (f n : ℕ) → n < 10 → digits (suc f) n ≡ (48 + n) ∷ []
unfolding digits
digits-one f n h = ap (split f n) (lt-ltb n 10 h)

digits-many : (f n : ℕ) → 10 ≤ n → digits (suc f) n ≡ digits f (n / 10) ++ ((48 + n % 10) ∷ [])
unfolding digits
digits-many f n h = ap (split f n) (le-ltb n 10 h)

digits-most : (f n : ℕ) → length (digits f n) ≤ f
unfolding digits
digits-most zero n = omega arith
digits-most (suc f) n = go (dec_le 10 n) (digits-most f (n / 10))
  where
    go : Dec (10 ≤ n) → length (digits f (n / 10)) ≤ f → length (digits (suc f) n) ≤ suc f
    go (yes h) on = omega (arith, ap length (digits-many f n h), length-append (digits f (n / 10)) ((48 + n % 10) ∷ []))
    go (no h) on = omega (arith, ap length (digits-one f n (omega arith)))

pub decimal-most : (n : ℕ) → length (decimal n) ≤ 20
unfolding decimal
decimal-most n = digits-most 20 n

-- what the library prints for a number
pub decimal-same : (n : ℕ) → n < 2 ^ 64 → fmt.decimal n ≡ decimal n
unfolding decimal
decimal-same n h = sym (decimal_from_appends digits (record { one = digits-one; more = digits-many }) 20 n h (length-decimal-le 20 n (omega arith) (omega (arith, h)) h))

-- the digits copied into a buffer
pub digits-put : (out part given : List ℕ) (at n : ℕ) → n < 2 ^ 64 → at + 20 ≤ length out → given ≡ fmt.decimal n → part ≡ given
    → put_mid at (at + length given - at) out part ≡ sets out at (decimal n)
digits-put out part given at n h room e copied =
    let same = e ∙ decimal-same n h in
    let few : length given ≤ 20 = omega (arith, ap length same, decimal-most n) in
    put_mid-paste at _ out part given (length given) copied (omega arith) refl
    ∙ paste_all out at given (length given) refl
    ∙ sym (append_assoc (take at out) given (drop (at + length given) out))
    ∙ sym (sets-eq given out at (omega (arith, few)))
    ∙ ap (sets out at) same

pub line-put : (l one two : List ℕ) (at k n b e : ℕ) → (b ≡ at + length (decimal k)) × (one ≡ sets l at (decimal k))
    → (e ≡ b + 1 + length (decimal n)) × (two ≡ sets (set one b 32) (b + 1) (decimal n))
    → (e + 1 ≡ at + length (line k n)) × (set two e 10 ≡ sets l at (line k n))
unfolding line
line-put l one two at k n b e p q =
    let mine = set one b 32 in
    let rest = decimal n ++ (10 ∷ []) in (
      omega (arith, p.0, q.0, length-append (decimal k) (32 ∷ rest), length-append (decimal n) (10 ∷ [])),
      (λ i. sets (q.1 i) (q.0 i) (10 ∷ []))
          ∙ sets-append mine (b + 1) (decimal n) (10 ∷ [])
          ∙ ap (λ (i : ℕ). sets mine i rest) (add-one b)
          ∙ (λ i. sets (p.1 i) (p.0 i) (32 ∷ rest))
          ∙ sets-append l at (decimal k) (32 ∷ rest),
    )

-- ---- lines

pub line-most : (k n : ℕ) → length (line k n) ≤ 42
unfolding line
line-most k n =
    omega (arith, length-append (decimal k) (32 ∷ (decimal n ++ (10 ∷ []))), length-append (decimal n) (10 ∷ []), decimal-most k, decimal-most n)

pub lines-append : (k : ℕ) (xs ys : List ℕ) → lines k (xs ++ ys) ≡ lines k xs ++ lines (k + length xs) ys
unfolding lines
lines-append k [] ys = ap (λ (j : ℕ). lines j ys) (sym (add-zero k))
lines-append k (x ∷ xs) ys =
    let e : k + 1 + length xs ≡ k + suc (length xs) = omega arith in
    ap (λ (z : List ℕ). line k x ++ z) (lines-append (k + 1) xs ys ∙ ap (λ (j : ℕ). lines (k + 1) xs ++ lines j ys) e)
    ∙ sym (append_assoc (line k x) (lines (k + 1) xs) (lines (k + suc (length xs)) ys))

lines-one : (k n : ℕ) → lines k (n ∷ []) ≡ line k n
unfolding lines
lines-one k n = append-nil (line k n)

pub lines_more : (k j : ℕ) (ns : List ℕ) → j < length ns → lines k (take (j + 1) ns) ≡ lines k (take j ns) ++ line (k + j) (get_or ns j 0)
lines_more k j ns h =
    ap (λ (i : ℕ). lines k (take i ns)) (add-one j)
    ∙ ap (lines k) (take-suc ns j 0 h)
    ∙ lines-append k (take j ns) (get_or ns j 0 ∷ [])
    ∙ ap (λ (i : ℕ). lines k (take j ns) ++ lines (k + i) (get_or ns j 0 ∷ [])) (length-take-le j ns (omega arith))
    ∙ ap (λ (x : List ℕ). lines k (take j ns) ++ x) (lines-one (k + j) (get_or ns j 0))

-- lines in a buffer: one more
pub lines-put : (l : List ℕ) (k j : ℕ) (ns : List ℕ) (out : List ℕ) (len : ℕ) → j < length ns → len ≡ length (lines k (take j ns))
    → out ≡ sets l 0 (lines k (take j ns))
    → (len + length (line (k + j) (get_or ns j 0)) ≡ length (lines k (take (j + 1) ns)))
    × (sets out len (line (k + j) (get_or ns j 0)) ≡ sets l 0 (lines k (take (j + 1) ns)))
lines-put l k j ns out len h p q =
    let given = lines k (take j ns) in
    let new = line (k + j) (get_or ns j 0) in
    let more : lines k (take (j + 1) ns) ≡ given ++ new = lines_more k j ns h in
    let at : len ≡ 0 + length given = omega (arith, p) in (
      omega (arith, p, ap length more, length-append given new),
      (λ i. sets (q i) (at i) new) ∙ sets-append l 0 given new ∙ ap (sets l 0) (sym more),
    )

pub lines-most : (k : ℕ) (ns : List ℕ) → length (lines k ns) ≤ 42 * length ns
unfolding lines
lines-most k [] = omega arith
lines-most k (n ∷ ns) = omega (arith, length-append (line k n) (lines (k + 1) ns), line-most k n, lines-most (k + 1) ns)
