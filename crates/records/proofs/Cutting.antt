-- A place moves forward, a written record is read back, and a record, good or bad, stays what it is where the bytes before it are cut
-- off or more bytes follow.
--
--   next-forward, next-within    behind a record the place is further on, and in the slice
--   good-version, good_length, good-kind    what a good head says; of bytes, a kind is one of the five
--   record-back, body_back       what is read of a written record: its kind, its body's place, and its body
--   record-bytes                 a written record is bytes
--   shifted, step-shift          what stands at a place, seen from further on
--   front-bad, front-record      a bad record and a record stay what they are where more bytes follow
--
-- Assumes nothing.
use mathlib.Core.Path.{◌≡◌, refl, sym, ap, ap₂, ◌∙◌, subst}
use mathlib.Core.Bool.{Bool, true, false, ◌||◌}
use mathlib.Core.List.{List, ◌++◌}
use Prim.Native.Nat.{ℕ, zero, suc, ◌+◌, ◌-◌, ◌*◌, ◌/◌, ◌%◌, ◌≤◌, ◌<◌}
use native.Mathlib.Omega.{arith}
use native.Mathlib.Nat.{add-zero, add_assoc}
use native.Mathlib.Decide.{dec_le}
use borrow.Author.Tests.{eq-eqb, ne_eqb, eqb-true}
use lib.Dec.{ltb, eqb, lit<, lit≤}
use lib.ListN.{length, get_or, drop, length-append, length-drop, get_or-append}
use lib.Seq.{take_at, get_or-drop}
use Rattle.bits.proofs.Runs.{Below}
use Rattle.bits.proofs.Search.{and_left, and_right}
use Rattle.runs.specs.Part.{part}
use Rattle.records.specs.declared.Step.{Step}
use Rattle.records.specs.declared.Step.TheVariants.{Record, End, More, Bad}
use Rattle.runs.specs.Numbers.{two_at}
use Rattle.records.specs.Format.{body_size, good_head, step_at, record_of}
use Rattle.records.proofs.Laws.{size_none, ladder, none, few, short, kind_at, step-bad, step-record, record-whole}

-- ---- forward

module _ (s : List ℕ) (at kind body : ℕ) (e : step_at s at ≡ Record kind body) where
  pub next-forward : at < body + body_size kind
  next-forward = omega (arith, (record-whole s at kind body e).begins)

  pub next-within : body + body_size kind ≤ length s
  next-within = (record-whole s at kind body e).ends

-- ---- a head by its four bytes

good-same : (s u : List ℕ) (a b : ℕ) → ((j : ℕ) → j < 4 → get_or s (a + j) 0 ≡ get_or u (b + j) 0) → good_head s a ≡ good_head u b
unfolding good_head two_at
good-same s u a b same =
    let first : get_or s a 0 ≡ get_or u b 0 =
    ap (λ (n : ℕ). get_or s n 0) (sym (add-zero a)) ∙ same 0 (lit< tt) ∙ ap (λ (n : ℕ). get_or u n 0) (add-zero b) in
    let second : get_or s (a + 1) 0 ≡ get_or u (b + 1) 0 = same 1 (lit< tt) in
    let third : get_or s (a + 2) 0 ≡ get_or u (b + 2) 0 = same 2 (lit< tt) in
    let fourth : get_or s (a + 3) 0 ≡ get_or u (b + 3) 0 = same 3 (lit< tt) in
    rw (first, second, third, fourth)

-- ---- what a good head says

other-size : (kind : ℕ) → ((1 ≤ kind) × (kind ≤ 5) → ⊥) → body_size kind ≡ 65536
other-size kind other =
    let not-one : (k : ℕ) → 1 ≤ k → k ≤ 5 → kind ≡ k → ⊥ = λ k h l q. other (omega (arith, q), omega (arith, q)) in
    sym (size_none kind (not-one 1 (lit≤ tt) (lit≤ tt)) (not-one 2 (lit≤ tt) (lit≤ tt)) (not-one 3 (lit≤ tt) (lit≤ tt))
    (ap₂ ◌||◌ (ne_eqb kind 4 (not-one 4 (lit≤ tt) (lit≤ tt))) (ne_eqb kind 5 (not-one 5 (lit≤ tt) (lit≤ tt)))))

module _ (s : List ℕ) (at : ℕ) (g : good_head s at ≡ true) where
  pub good-version : get_or s (at + 2) 0 ≡ 1
  unfolding good_head
  good-version = eqb-true _ _ (and_left (eqb (get_or s (at + 2) 0) 1) _ g)

  pub good_length : two_at at s ≡ 2 + body_size (get_or s (at + 3) 0)
  unfolding good_head
  good_length = eqb-true _ _ (and_right (eqb (get_or s (at + 2) 0) 1) _ g)

  -- another kind's length is none that two bytes can say
  pub good-kind : Below 256 s → (1 ≤ get_or s (at + 3) 0) × (get_or s (at + 3) 0 ≤ 5)
  unfolding two_at
  good-kind bytes = go (get_or s (at + 3) 0) good_length (bytes at) (bytes (at + 1)) (dec_le 1 (get_or s (at + 3) 0)) (dec_le (get_or s (at + 3) 0) 5)
    where
      go : (kind : ℕ) → two_at at s ≡ 2 + body_size kind → get_or s at 0 < 256 → get_or s (at + 1) 0 < 256 → Dec (1 ≤ kind) → Dec (kind ≤ 5)
          → (1 ≤ kind) × (kind ≤ 5)
      go kind e a b (yes h) (yes k) = (h, k)
      go kind e a b (no h) k = absurd (omega (arith, e, a, b, other-size kind (λ q. omega (arith, q))))
      go kind e a b (yes h) (no k) = absurd (omega (arith, e, a, b, other-size kind (λ q. omega (arith, q))))

-- ---- a written record

module _ (kind : ℕ) (body rest : List ℕ) (l : length body ≡ body_size kind) where
  back-good : good_head (record_of kind body ++ rest) 0 ≡ true
  unfolding good_head two_at record_of
  back-good =
      let size : 256 * ((2 + length body) / 256) + (2 + length body) % 256 ≡ 2 + body_size kind = omega arith in
      eq-eqb (256 * ((2 + length body) / 256) + (2 + length body) % 256) (2 + body_size kind) size

  long : 4 + body_size kind ≤ length (record_of kind body ++ rest)
  unfolding record_of
  long = omega (arith, length-append body rest)

  pub record-back : step_at (record_of kind body ++ rest) 0 ≡ Record kind 4
  unfolding record_of
  record-back = step-record (record_of kind body ++ rest) 0 (omega (arith, long)) (omega (arith, long)) back-good (omega (arith, long))

  pub body_back : part 4 (body_size kind) (record_of kind body ++ rest) ≡ body
  unfolding record_of part
  body_back = take_at body rest (body_size kind) l

few-size : (kind : ℕ) → 1 ≤ kind → kind ≤ 5 → body_size kind ≤ 94
unfolding body_size
few-size zero h k = absurd (omega arith)
few-size (suc zero) h k = lit≤ tt
few-size (suc (suc zero)) h k = lit≤ tt
few-size (suc (suc (suc zero))) h k = lit≤ tt
few-size (suc (suc (suc (suc zero)))) h k = lit≤ tt
few-size (suc (suc (suc (suc (suc zero))))) h k = lit≤ tt
few-size (suc (suc (suc (suc (suc (suc n)))))) h k = absurd (omega arith)

pub record-bytes : (kind : ℕ) (body : List ℕ) → length body ≡ body_size kind → 1 ≤ kind → kind ≤ 5 → Below 256 body
    → Below 256 (record_of kind body)
unfolding record_of
record-bytes kind body l h k bytes zero = omega (arith, few-size kind h k)
record-bytes kind body l h k bytes (suc zero) = omega arith
record-bytes kind body l h k bytes (suc (suc zero)) = lit< tt
record-bytes kind body l h k bytes (suc (suc (suc zero))) = omega arith
record-bytes kind body l h k bytes (suc (suc (suc (suc n)))) = bytes n

-- ---- seen from further on

abbrev pub shifted : ℕ → Step → Step
shifted k (Record kind body) = Record kind (k + body)
shifted k End = End
shifted k More = More
shifted k Bad = Bad

ladder-shift : (k : ℕ) (none few good short : Bool) (kind body : ℕ)
    → ladder none few good short (Record kind (k + body)) ≡ shifted k (ladder none few good short (Record kind body))
ladder-shift k true few good short kind body = refl
ladder-shift k false true good short kind body = refl
ladder-shift k false false false short kind body = refl
ladder-shift k false false true true kind body = refl
ladder-shift k false false true false kind body = refl

pub step-shift : (k : ℕ) (s : List ℕ) (at : ℕ) → step_at s (k + at) ≡ shifted k (step_at (drop k s) at)
unfolding step_at
step-shift k s at =
    let d = drop k s in
    let byte : (j : ℕ) → get_or s (k + at + j) 0 ≡ get_or (drop k s) (at + j) 0 =
    λ j. ap (λ (n : ℕ). get_or s n 0) (add_assoc k at j) ∙ sym (get_or-drop k s (at + j) 0) in
    let left : length s - (k + at) ≡ length (drop k s) - at = omega (arith, length-drop k s) in
    let good = good-same s (drop k s) (k + at) at (λ j h. byte j) in
    (λ i. ladder (eqb (left i) 0) (ltb (left i) 4) (good i) (ltb (left i) (4 + body_size (byte 3 i))) (Record (byte 3 i) (add_assoc k at 4 i)))
    ∙ ladder-shift k (none d at) (few d at) (good_head d at) (short d at) (kind_at d at) (at + 4)

-- ---- where more bytes follow

module _ (xs ys : List ℕ) (at : ℕ) (h : at + 4 ≤ length xs) where
  front-byte : (j : ℕ) → j < 4 → get_or (xs ++ ys) (at + j) 0 ≡ get_or xs (at + j) 0
  front-byte j l = get_or-append xs ys 0 (at + j) (omega arith)

  front-good : good_head (xs ++ ys) at ≡ good_head xs at
  front-good = good-same (xs ++ ys) xs at at front-byte

  pub front-bad : good_head xs at ≡ false → step_at (xs ++ ys) at ≡ Bad
  front-bad g =
      let l = length-append xs ys in
      step-bad (xs ++ ys) at (omega (arith, l)) (omega (arith, l)) (front-good ∙ g)

  pub front-record : good_head xs at ≡ true → at + 4 + body_size (kind_at xs at) ≤ length xs → step_at (xs ++ ys) at ≡ Record (kind_at xs at) (at + 4)
  front-record g room =
      let l = length-append xs ys in
      let kind = front-byte 3 (lit< tt) in
      let size : 4 + body_size (kind_at (xs ++ ys) at) ≤ length (xs ++ ys) - at =
      subst (λ (n : ℕ). 4 + body_size n ≤ length (xs ++ ys) - at) (sym kind) (omega (arith, l)) in
      step-record (xs ++ ys) at (omega (arith, l)) (omega (arith, l)) (front-good ∙ g) size ∙ ap (λ (n : ℕ). Record n (at + 4)) kind
