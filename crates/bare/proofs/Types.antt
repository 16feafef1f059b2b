-- The type bytes: what is read, and what the four values have between them.
--
--   near-hit, near-miss, near-end   the first value within two flips
--   type-near, type-none      read as it, or 28; type-readable, type-unreadable: told by the number
--   among-types, type-known, type-unknown
--   types-apart               any two of the four differ in at least five bits
--   types-read                148 byte values read, 108 do not
--   type-within, type-flipped a byte within two flips of a type is read as it, with the number of flips
--   type-written, type-back   reading what was written gives it back
--
-- Assumes nothing.
use mathlib.Core.Path.{◌≡◌, refl, sym, ap, ◌∙◌, subst, subst₂}
use mathlib.Core.Bool.{Bool, true, false, cond, ◌||◌}
use mathlib.Core.List.{List, [], ◌∷◌}
use Prim.Native.Nat.{ℕ, zero, suc, ◌+◌, ◌*◌, ◌/◌, ◌%◌, ◌^◌, ◌≤◌, ◌<◌}
use borrow.Author.Tests.{le-leb, lt-leb, lt-ltb}
use lib.Dec.{T, leb, ltb, eqb, leb→le, ltb→lt, eqb→eq}
use native.Mathlib.Omega.{arith}
use native.Mathlib.Decide.{dec_lt}
use lib.Bits.{bit_xor, xor_lt, xor_zero_r}
use lib.Count.{ones, ones_in}
use lib.ListN.{get_or}
use Rattle.bits.proofs.Every.{every, every-at}
use Rattle.bits.proofs.Flips.{ones-in, flips-of, ones-zero}
use Rattle.bits.specs.Bits.{flips}
use Rattle.bits.specs.Rows.{row, refusal, given}
use Rattle.bits.proofs.Rows.{refusal-hit, refusal-miss}
use Rattle.bits.proofs.Search.{truth}
use Rattle.bare.specs.Bare.{types, type_near, type_read, type_as, among, type_written}
use Rattle.bare.specs.Bare.{TypeAnswer}
use Rattle.bare.specs.Bare.{Written}

pub near-hit : (t : ℕ) (ts : List ℕ) (b : ℕ) → flips t b ≤ 2 → type_near (t ∷ ts) b ≡ t
unfolding type_near
near-hit t ts b h = ap (λ (x : Bool). cond x t (type_near ts b)) (le-leb (flips t b) 2 h)

pub near-miss : (t : ℕ) (ts : List ℕ) (b : ℕ) → 2 < flips t b → type_near (t ∷ ts) b ≡ type_near ts b
unfolding type_near
near-miss t ts b h = ap (λ (x : Bool). cond x t (type_near ts b)) (lt-leb (flips t b) 2 h)

pub near-end : (b : ℕ) → type_near [] b ≡ 256
unfolding type_near
near-end b = refl

unread : ℕ → ℕ
unread t = refusal (row (leb 256 t) 28 ∷ [])

as_read : ℕ → ℕ → ℕ → TypeAnswer
as_read k t b = record { number = k; value = given k t; flips = given k (flips t b) }

type-answer : (b t k : ℕ) → type_near types b ≡ t → refusal (row (leb 256 t) 28 ∷ []) ≡ k → type_read b ≡ as_read k t b
unfolding type_read unread as_read
type-answer b t k p e = ap (λ (x : ℕ). as_read (unread x) x b) p ∙ ap (λ (x : ℕ). as_read x t b) e

pub type-near : (b t : ℕ) → type_near types b ≡ t → t < 256 → type_read b ≡ type_as t (flips t b)
unfolding as_read given refusal
type-near b t p h = type-answer b t 0 p (refusal-miss (leb 256 t) 28 [] (lt-leb 256 t h))

-- the same of what a reader has found
pub type-found : (b t f : ℕ) (r : TypeAnswer) → r ≡ type_as t f → f ≡ flips t b → type_near types b ≡ t → t < 256 → r ≡ type_read b
type-found b t f r e g p h = e ∙ ap (type_as t) g ∙ sym (type-near b t p h)

pub type-none : (b : ℕ) → 256 ≤ type_near types b → type_read b ≡ record { number = 28; value = 0; flips = 0 }
unfolding as_read given
type-none b h = type-answer b (type_near types b) 28 refl (refusal-hit (leb 256 (type_near types b)) 28 [] (le-leb 256 (type_near types b) h))

-- the two cases, told by the number
pub type-readable : (b : ℕ) → (type_read b).number ≡ 0 → (type_near types b < 256) × ((type_read b).value ≡ type_near types b)
type-readable b e = go (dec_lt (type_near types b) 256)
  where
    go : Dec (type_near types b < 256) → (type_near types b < 256) × ((type_read b).value ≡ type_near types b)
    go (yes h) = (h, ap (λ (r : TypeAnswer). r.value) (type-near b (type_near types b) refl h))
    go (no h) = absurd (omega (arith, e, ap (λ (r : TypeAnswer). r.number) (type-none b (omega arith))))

pub type-unreadable : (b : ℕ) → ((type_read b).number ≡ 0 → ⊥) → 256 ≤ type_near types b
type-unreadable b ne = go (dec_lt (type_near types b) 256)
  where
    go : Dec (type_near types b < 256) → 256 ≤ type_near types b
    go (yes h) = absurd (ne (ap (λ (r : TypeAnswer). r.number) (type-near b (type_near types b) refl h)))
    go (no h) = omega arith

-- one of four tests, as the definition asks them and as the code joins them
one-of-four : (p q r s : Bool) → cond p true (cond q true (cond r true (cond s true false))) ≡ (((p || q) || r) || s)
one-of-four true q r s = refl
one-of-four false true r s = refl
one-of-four false false true s = refl
one-of-four false false false true = refl
one-of-four false false false false = refl

pub among-types : (b : ℕ) → among types b ≡ (((eqb 0x00 b || eqb 0x3F b) || eqb 0xC7 b) || eqb 0xF8 b)
unfolding among
among-types b = one-of-four (eqb 0x00 b) (eqb 0x3F b) (eqb 0xC7 b) (eqb 0xF8 b)

pub type-known : (b : ℕ) → among types b ≡ true → type_written b ≡ record { number = 0; value = b }
unfolding type_written refusal given
type-known b e = rw e

pub type-unknown : (b : ℕ) → among types b ≡ false → type_written b ≡ record { number = 28; value = 0 }
unfolding type_written refusal given
type-unknown b e = rw e

-- ---- the four values, by tests that antt computes

-- the value at a place of the four
abbrev pub type_at : ℕ → ℕ
type_at k = get_or types k 0

-- flips of two bytes, in the form that computes
byte_flips : ℕ → ℕ → ℕ
byte_flips a b = ones_in 8 (bit_xor a b)

byte-flips : (a b : ℕ) → a < 2 ^ 8 → b < 2 ^ 8 → flips a b ≡ byte_flips a b
unfolding flips byte_flips
byte-flips a b ha hb = ones-in 8 (bit_xor a b) (xor_lt 8 a b ha hb)

all-bytes : T (every (λ (k : ℕ). ltb (type_at k) (2 ^ 8)) 2 0)
all-bytes = tt

pub type-lt : (k : ℕ) → k < 4 → type_at k < 2 ^ 8
type-lt k h = ltb→lt (type_at k) (2 ^ 8) (every-at (λ (j : ℕ). ltb (type_at j) (2 ^ 8)) 2 all-bytes k h)

apart_at : ℕ → Bool
apart_at p = cond (ltb (p / 4) (p % 4)) (leb 5 (byte_flips (type_at (p / 4)) (type_at (p % 4)))) true

all_apart : T (every apart_at 4 0)
unfolding apart_at byte_flips ones_in
all_apart = tt

-- document 01, section 2: "Any two differ in at least five bits."
pub types-apart : (j k : ℕ) → j < k → k < 4 → 5 ≤ flips (type_at j) (type_at k)
unfolding apart_at
types-apart j k l h =
    subst (λ (x : ℕ). 5 ≤ x) (sym (byte-flips (type_at j) (type_at k) (type-lt j (omega arith)) (type-lt k h)))
    (leb→le 5 _ (subst T (ap (λ (t : Bool). cond t (leb 5 (byte_flips (type_at j) (type_at k))) true) (lt-ltb j k l))
    (subst₂ (λ (x y : ℕ). T (cond (ltb x y) (leb 5 (byte_flips (type_at x) (type_at y))) true)) front back
    (every-at apart_at 4 all_apart (j * 4 + k) (omega arith)))))
  where
    front : (j * 4 + k) / 4 ≡ j
    front = omega arith

    back : (j * 4 + k) % 4 ≡ k
    back = omega arith

-- how many of the 2 ^ d numbers from i * 2 ^ d on pass a test
unfoldable pub count : (ℕ → Bool) → ℕ → ℕ → ℕ
count p zero i = cond (p i) 1 0
count p (suc d) i = count p d (2 * i) + count p d (2 * i + 1)

-- "148 byte values read and 108 do not."
pub types-read : (count (λ (b : ℕ). eqb (type_read b).number 0) 8 0 ≡ 148) × (count (λ (b : ℕ). eqb (type_read b).number 28) 8 0 ≡ 108)
unfolding count type_read type_near refusal flips ones ones_in
types-read = (refl, refl)

-- "a byte within two flips of one of them is read as it": of no two, so the order of the four does not matter
read_at : ℕ → Bool
read_at p = cond (leb (byte_flips (type_at (p / 256)) (p % 256)) 2) (eqb (type_near types (p % 256)) (type_at (p / 256))) true

all_read : T (every read_at 10 0)
unfolding read_at byte_flips type_near flips ones ones_in
all_read = tt

pub within-near : (k b : ℕ) → k < 4 → b < 2 ^ 8 → flips (type_at k) b ≤ 2 → type_near types b ≡ type_at k
unfolding read_at
within-near k b hk hb f =
    eqb→eq (type_near types b) (type_at k)
    (subst T (ap (λ (t : Bool). cond t (eqb (type_near types b) (type_at k)) true) (le-leb (byte_flips (type_at k) b) 2 (subst (λ (x : ℕ). x ≤ 2) (byte-flips (type_at k) b (type-lt k hk) hb) f)))
    (subst₂ (λ (x y : ℕ). T (cond (leb (byte_flips (type_at x) y) 2) (eqb (type_near types y) (type_at x)) true)) front back
    (every-at read_at 10 all_read (k * 256 + b) (omega arith))))
  where
    front : (k * 256 + b) / 256 ≡ k
    front = omega arith

    back : (k * 256 + b) % 256 ≡ b
    back = omega arith

pub type-within : (k b : ℕ) → k < 4 → b < 2 ^ 8 → flips (type_at k) b ≤ 2 → type_read b ≡ type_as (type_at k) (flips (type_at k) b)
type-within k b hk hb f = type-near b (type_at k) (within-near k b hk hb f) (type-lt k hk)

-- a written type with at most two flips is read as it was written, with the number of flips
pub type-flipped : (k e : ℕ) → k < 4 → e < 2 ^ 8 → ones e ≤ 2 → type_read (bit_xor (type_at k) e) ≡ type_as (type_at k) (ones e)
type-flipped k e hk he few =
    type-within k (bit_xor (type_at k) e) hk (xor_lt 8 (type_at k) e (type-lt k hk) he) (omega (arith, flips-of (type_at k) e))
    ∙ ap (type_as (type_at k)) (flips-of (type_at k) e)

-- writing gives back each of the four, and reading what was written gives it back
all-written : T (every (λ (k : ℕ). among types (type_at k)) 2 0)
unfolding among
all-written = tt

pub type-written : (k : ℕ) → k < 4 → type_written (type_at k) ≡ record { number = 0; value = type_at k }
type-written k h = type-known (type_at k) (truth (among types (type_at k)) (every-at (λ (j : ℕ). among types (type_at j)) 2 all-written k h))

pub type-back : (k : ℕ) → k < 4 → type_read (type_written (type_at k)).value ≡ type_as (type_at k) 0
type-back k h =
    ap (λ (w : Written). type_read w.value) (type-written k h)
    ∙ ap type_read (sym (xor_zero_r (type_at k))) ∙ type-flipped k 0 h (omega arith) (omega (arith, ones-zero))
    ∙ ap (type_as (type_at k)) ones-zero
