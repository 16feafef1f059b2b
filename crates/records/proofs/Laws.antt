-- Laws of the record format.
--
--   size_none, size-two-le, size-le    a body's length by its kind, at least, and at most; size-unknown: of no kind
--   step_end, step-short, step-bad, step_cut, step-record     what stands at a place, by the tests of its bytes
--   Stands, stands               the same as a choice of four, with what holds of each
--   Whole, record-whole          what holds of a record: where its body begins and ends
--
-- Assumes nothing.
use mathlib.Core.Path.{◌≡◌, refl, sym, ap, ap₂, ◌∙◌, subst}
use mathlib.Core.Bool.{Bool, true, false, cond, not, ◌||◌}
use mathlib.Core.List.{List}
use Prim.Native.Nat.{ℕ, ◌+◌, ◌-◌, ◌≤◌, ◌<◌}
use native.Mathlib.Omega.{arith}
use native.Mathlib.Decide.{dec_le}
use borrow.Author.Tests.{lt-ltb, le-ltb, eq-eqb, ne_eqb}
use lib.Dec.{ltb, eqb, lit≤}
use lib.ListN.{length, get_or}
use Rattle.records.specs.Kinds.{kind_number}
use Rattle.records.specs.declared.kind.Kind.{Kind}
use Rattle.records.specs.declared.kind.Kind.TheVariants.{Packet, SubframeEnd, Follow, Leave, Ask}
use Rattle.records.specs.declared.Step.{Step}
use Rattle.records.specs.declared.Step.TheVariants.{Record, End, More, Bad}
use Rattle.records.specs.Format.{body_size, good_head, step_at}

-- ---- a body's length

either : (a b : Bool) (m n : ℕ) → cond a m (cond b m n) ≡ cond (a || b) m n
either true b m n = refl
either false b m n = refl

two-le : (b : Bool) → 2 ≤ cond b 2 65536
two-le true = lit≤ tt
two-le false = lit≤ tt

module _ (kind : ℕ) (one : kind ≡ 1 → ⊥) (two : kind ≡ 2 → ⊥) (three : kind ≡ 3 → ⊥) where
  size-further : body_size kind ≡ cond (eqb kind 4 || eqb kind 5) 2 65536
  unfolding body_size
  size-further =
      (λ i. cond (ne_eqb kind 1 one i) 94 (cond (ne_eqb kind 2 two i) 0 (cond (ne_eqb kind 3 three i) 5
      (cond (eqb kind 4) 2 (cond (eqb kind 5) 2 65536)))))
      ∙ either (eqb kind 4) (eqb kind 5) 2 65536

  pub size_none : (eqb kind 4 || eqb kind 5) ≡ false → 65536 ≡ body_size kind
  size_none t = sym (size-further ∙ ap (λ (b : Bool). cond b 2 65536) t)

  pub size-two-le : 2 ≤ body_size kind
  size-two-le = subst (λ (n : ℕ). 2 ≤ n) (sym size-further) (two-le (eqb kind 4 || eqb kind 5))

-- of a byte that is no kind's
pub size-unknown : (n : ℕ) → ((kind : Kind) → n ≡ kind_number kind → ⊥) → 65536 ≡ body_size n
size-unknown n absent =
    size_none n (absent Packet) (absent SubframeEnd) (absent Follow) (ap₂ ◌||◌ (ne_eqb n 4 (absent Leave)) (ne_eqb n 5 (absent Ask)))

pub size-le : (kind n : ℕ) → n ≡ body_size kind → n ≤ 65536
unfolding body_size
size-le kind n q = subst (λ (x : ℕ). x ≤ 65536) (sym q) (go (eqb kind 1) (eqb kind 2) (eqb kind 3) (eqb kind 4) (eqb kind 5))
  where
    go : (a b c d e : Bool) → cond a 94 (cond b 0 (cond c 5 (cond d 2 (cond e 2 65536)))) ≤ 65536
    go true b c d e = lit≤ tt
    go false true c d e = lit≤ tt
    go false false true d e = lit≤ tt
    go false false false true e = lit≤ tt
    go false false false false true = lit≤ tt
    go false false false false false = lit≤ tt

-- ---- what stands at a place

abbrev pub ladder : Bool → Bool → Bool → Bool → Step → Step
ladder none few good short whole = cond none End (cond few More (cond (not good) Bad (cond short More whole)))

module _ (s : List ℕ) (at : ℕ) where
  abbrev left : ℕ
  left = length s - at

  abbrev pub kind_at : ℕ
  kind_at = get_or s (at + 3) 0

  abbrev pub none : Bool
  none = eqb left 0

  abbrev pub few : Bool
  few = ltb left 4

  abbrev pub short : Bool
  short = ltb left (4 + body_size kind_at)

  abbrev found : Step
  found = Record kind_at (at + 4)

  pub step_end : length s ≤ at → step_at s at ≡ End
  unfolding step_at
  step_end h = ap (λ (x : Bool). ladder x few (good_head s at) short found) (eq-eqb left 0 (omega arith))

  module _ (some : at < length s) where
    past_end : step_at s at ≡ ladder false few (good_head s at) short found
    unfolding step_at
    past_end = ap (λ (x : Bool). ladder x few (good_head s at) short found) (ne_eqb left 0 (λ q. omega (arith, q)))

    pub step-short : length s - at < 4 → step_at s at ≡ More
    step-short h = past_end ∙ ap (λ (x : Bool). ladder false x (good_head s at) short found) (lt-ltb left 4 h)

    module _ (head : 4 ≤ length s - at) where
      past-short : step_at s at ≡ ladder false false (good_head s at) short found
      past-short = past_end ∙ ap (λ (x : Bool). ladder false x (good_head s at) short found) (le-ltb left 4 head)

      pub step-bad : good_head s at ≡ false → step_at s at ≡ Bad
      step-bad g = past-short ∙ ap (λ (x : Bool). ladder false false x short found) g

      module _ (g : good_head s at ≡ true) where
        past-bad : step_at s at ≡ ladder false false true short found
        past-bad = past-short ∙ ap (λ (x : Bool). ladder false false x short found) g

        pub step_cut : length s - at < 4 + body_size kind_at → step_at s at ≡ More
        step_cut h = past-bad ∙ ap (λ (x : Bool). ladder false false true x found) (lt-ltb left (4 + body_size kind_at) h)

        pub step-record : 4 + body_size kind_at ≤ length s - at → step_at s at ≡ Record kind_at (at + 4)
        step-record h = past-bad ∙ ap (λ (x : Bool). ladder false false true x found) (le-ltb left (4 + body_size kind_at) h)

-- the choice of four
pub data Stands (s : List ℕ) (at : ℕ) : Type 0 where
  ended : length s ≤ at → step_at s at ≡ End → Stands s at
  waits : at < length s → step_at s at ≡ More → Stands s at
  bad : at + 4 ≤ length s → good_head s at ≡ false → step_at s at ≡ Bad → Stands s at
  whole : good_head s at ≡ true → at + 4 + body_size (kind_at s at) ≤ length s → step_at s at ≡ Record (kind_at s at) (at + 4) → Stands s at

pub stands : (s : List ℕ) (at : ℕ) → Stands s at
stands s at = go (dec_le (length s) at) (dec_le 4 (length s - at)) (good_head s at) refl (dec_le (4 + body_size (kind_at s at)) (length s - at))
  where
    go : Dec (length s ≤ at) → Dec (4 ≤ length s - at) → (g : Bool) → good_head s at ≡ g
        → Dec (4 + body_size (kind_at s at) ≤ length s - at) → Stands s at
    go (yes h) few g e short = ended h (step_end s at h)
    go (no h) (no few) g e short = waits (omega arith) (step-short s at (omega arith) (omega arith))
    go (no h) (yes few) false e short = bad (omega arith) e (step-bad s at (omega arith) few e)
    go (no h) (yes few) true e (no short) = waits (omega arith) (step_cut s at (omega arith) few e (omega arith))
    go (no h) (yes few) true e (yes short) = whole e (omega arith) (step-record s at (omega arith) few e short)

-- a record
abbrev kind-of : Step → ℕ
kind-of (Record kind body) = kind
kind-of End = 0
kind-of More = 0
kind-of Bad = 0

abbrev body_of : Step → ℕ
body_of (Record kind body) = body
body_of End = 0
body_of More = 0
body_of Bad = 0

abbrev Recorded : Step → Type 0
Recorded (Record kind body) = Unit
Recorded End = ⊥
Recorded More = ⊥
Recorded Bad = ⊥

pub record Whole (s : List ℕ) (at kind body : ℕ) : Type 0 where
  pub begins : body ≡ at + 4
  pub ends : body + body_size kind ≤ length s

pub record-whole : (s : List ℕ) (at kind body : ℕ) → step_at s at ≡ Record kind body → Whole s at kind body
record-whole s at kind body e = go (stands s at)
  where
    none : (x : Step) → step_at s at ≡ x → Recorded x
    none x q = subst Recorded (sym e ∙ q) tt

    go : Stands s at → Whole s at kind body
    go (ended h q) = absurd (none End q)
    go (waits h q) = absurd (none More q)
    go (bad h g q) = absurd (none Bad q)
    go (whole g h q) =
        let k : kind ≡ get_or s (at + 3) 0 = ap kind-of (sym e ∙ q) in
        let b : body ≡ at + 4 = ap body_of (sym e ∙ q) in
        record {
          begins = b;
          ends = subst (λ (n : ℕ). n ≤ length s) (ap₂ (λ (x y : ℕ). x + body_size y) (sym b) (sym k)) h;
        }
