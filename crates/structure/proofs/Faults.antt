-- A head tested as two numbers: the masks and the two sums are 0 exactly if it is good.
--
--   four-and       a mask over four bytes, byte by byte
--   or-test        an or is 0 exactly if both parts are
--   Right, good_right, right-good    a good head in sums, and back
--   faults-good    what `faults` makes of a head is 0 exactly if it is good
--
-- Assumes nothing.
use mathlib.Core.Path.{◌≡◌, sym, ap, ap₂, ◌∙◌}
use mathlib.Core.Bool.{Bool, true, ◌&&◌, ◌||◌}
use mathlib.Core.List.{List}
use Prim.Native.Nat.{ℕ, ◌+◌, ◌-◌, ◌*◌, ◌/◌, ◌%◌, ◌^◌, ◌≤◌, ◌<◌}
use native.Mathlib.Omega.{arith}
use native.Mathlib.Decide.{dec_lt, ℕ_discrete}
use native.Mathlib.Nat.{mod-eq_of_lt}
use borrow.Author.Tests.{eq-eqb, ne_eqb, eqb-true, leb-true, ltb-true, le-leb, lt-ltb}
use lib.Bits.{bit_and, bit_or, and_block, and_high, and_zero_r}
use lib.Dec.{leb, ltb, eqb, lit<}
use lib.ListN.{get_or}
use Rattle.bits.proofs.Flips.{or-none}
use Rattle.bits.proofs.Search.{and_left, and_right, or_right, same_truth}
use Rattle.runs.specs.Numbers.{four_at}
use Rattle.structure.specs.Structure.{most, head_of, good_head}
use Rattle.structure.specs.declared.Structure.{Structure}
use Rattle.structure.proofs.Kept.{Bounds, bounds-good, good-bounds, fits}

pub or-test : (a b : ℕ) → eqb (bit_or a b) 0 ≡ (eqb a 0 && eqb b 0)
or-test a b =
    same_truth (eqb (bit_or a b) 0) (eqb a 0 && eqb b 0)
    (λ e. let z = or-none a b (eqb-true (bit_or a b) 0 e) in ap₂ ◌&&◌ (eq-eqb a 0 z.0) (eq-eqb b 0 z.1))
    (λ e. eq-eqb (bit_or a b) 0 (ap₂ bit_or (eqb-true a 0 (and_left (eqb a 0) (eqb b 0) e)) (eqb-true b 0 (and_right (eqb a 0) (eqb b 0) e))))

-- ---- masks

four-and : (a b c d p q r t : ℕ) → a < 256 → b < 256 → c < 256 → p < 256 → q < 256 → r < 256
    → bit_and (a + 256 * b + 65536 * c + 16777216 * d) (p + 256 * q + 65536 * r + 16777216 * t)
    ≡ bit_and a p + 256 * bit_and b q + 65536 * bit_and c r + 16777216 * bit_and d t
four-and a b c d p q r t ha hb hc hp hq hr =
    let e : a + 256 * b + 65536 * c + 16777216 * d ≡ ((d * 2 ^ 8 + c) * 2 ^ 8 + b) * 2 ^ 8 + a = omega arith in
    let f : p + 256 * q + 65536 * r + 16777216 * t ≡ ((t * 2 ^ 8 + r) * 2 ^ 8 + q) * 2 ^ 8 + p = omega arith in
    let one = and_block 8 ((d * 2 ^ 8 + c) * 2 ^ 8 + b) ((t * 2 ^ 8 + r) * 2 ^ 8 + q) a p ha hp in
    let two = and_block 8 (d * 2 ^ 8 + c) (t * 2 ^ 8 + r) b q hb hq in
    let three = and_block 8 d t c r hc hr in
    ap₂ bit_and e f ∙ omega (arith, one, two, three)

-- ---- a good head in sums

pub record Right (h : Structure) : Type 0 where
  pub whole : h.whole ≤ 1
  pub links : h.links ≤ 1
  pub deleted : h.deleted ≤ 1
  pub late : h.late ≤ 1
  pub certain : h.certain ≤ 1
  pub many : h.fields + h.whole + 9 * h.deleted ≤ 9
  pub few : h.whole ≤ h.fields

pub right-good : (h : Structure) → Right h → good_head h ≡ true
right-good h r = bounds-good h record {
  fields = omega (arith, r.many);
  whole = r.whole;
  links = r.links;
  deleted = r.deleted;
  late = r.late;
  certain = r.certain;
  room = room (ℕ_discrete h.whole 0);
  none = none (ℕ_discrete h.deleted 0);
}
  where
    room : Dec (h.whole ≡ 0) → fits h.fields h.whole ≡ true
    room (yes z) = ap (λ (b : Bool). b || (ltb 0 h.fields && leb h.fields most)) (eq-eqb h.whole 0 z)
    room (no n) =
        ap₂ ◌||◌ (ne_eqb h.whole 0 n)
        (ap₂ ◌&&◌ (lt-ltb 0 h.fields (omega (arith, r.few))) (le-leb h.fields most (omega (arith, r.many))))

    none : Dec (h.deleted ≡ 0) → (eqb h.deleted 0 || eqb h.fields 0) ≡ true
    none (yes z) = ap (λ (b : Bool). b || eqb h.fields 0) (eq-eqb h.deleted 0 z)
    none (no n) = ap₂ ◌||◌ (ne_eqb h.deleted 0 n) (eq-eqb h.fields 0 (omega (arith, r.many)))

pub good_right : (h : Structure) → good_head h ≡ true → Right h
good_right h g =
    let b = good-bounds h g in record {
      whole = b.whole;
      links = b.links;
      deleted = b.deleted;
      late = b.late;
      certain = b.certain;
      many = many b (ℕ_discrete h.deleted 0) (ℕ_discrete h.whole 0);
      few = few b (ℕ_discrete h.whole 0);
    }
  where
    room : Bounds h → (h.whole ≡ 0 → ⊥) → (ltb 0 h.fields && leb h.fields most) ≡ true
    room b n = or_right (eqb h.whole 0) _ b.room (ne_eqb h.whole 0 n)

    some : Bounds h → (h.whole ≡ 0 → ⊥) → 0 < h.fields
    some b n = ltb-true 0 h.fields (and_left (ltb 0 h.fields) _ (room b n))

    few : Bounds h → Dec (h.whole ≡ 0) → h.whole ≤ h.fields
    few b (yes z) = omega (arith, z)
    few b (no n) = omega (arith, b.whole, some b n)

    many : Bounds h → Dec (h.deleted ≡ 0) → Dec (h.whole ≡ 0) → h.fields + h.whole + 9 * h.deleted ≤ 9
    many b (yes z) (yes w) = omega (arith, z, w, b.fields)
    many b (yes z) (no n) =
        omega (arith, z, b.whole, leb-true h.fields most (and_right (ltb 0 h.fields) _ (room b n)))
    many b (no d) (yes w) =
        omega (arith, w, b.deleted, eqb-true h.fields 0 (or_right (eqb h.deleted 0) _ b.none (ne_eqb h.deleted 0 d)))
    many b (no d) (no n) =
        absurd (omega (arith, some b n, eqb-true h.fields 0 (or_right (eqb h.deleted 0) _ b.none (ne_eqb h.deleted 0 d))))

-- ---- the numbers

upper-four : (b : ℕ) → bit_and b 240 ≡ b / 16 % 16 * 16
upper-four b = and_high b 4 4

all-but-lowest : (b : ℕ) → bit_and b 254 ≡ b / 2 % 128 * 2
all-but-lowest b = and_high b 7 1

bit-four : (n : ℕ) → bit_and n 16 ≡ n / 16 % 2 * 16
bit-four n = and_high n 1 4

module _ (f w l d : ℕ) (hf : f < 256) (hw : w < 256) (hl : l < 256) (hd : d < 256) where
  abbrev low : ℕ
  low = f + 256 * w + 65536 * l + 16777216 * d

  mask_low : bit_and low 4278124272 ≡ f / 16 % 16 * 16 + 256 * (w / 2 % 128 * 2) + 65536 * (l / 2 % 128 * 2) + 16777216 * (d / 2 % 128 * 2)
  mask_low =
      four-and f w l d 240 254 254 254 hf hw hl (lit< tt) (lit< tt) (lit< tt)
      ∙ omega (arith, upper-four f, all-but-lowest w, all-but-lowest l, all-but-lowest d)

  low-fields : low % 256 ≡ f
  low-fields = omega arith

  low-whole : low / 256 % 256 ≡ w
  low-whole = omega arith

  low-deleted : low / 16777216 ≡ d
  low-deleted = omega arith

mask-high : (t x c y : ℕ) → t < 256 → x < 256 → c < 256
    → bit_and (t + 256 * x + 65536 * c + 16777216 * y) 16646398 ≡ t / 2 % 128 * 2 + 65536 * (c / 2 % 128 * 2)
mask-high t x c y ht hx hc =
    four-and t x c y 254 0 254 0 ht hx hc (lit< tt) (lit< tt) (lit< tt)
    ∙ omega (arith, all-but-lowest t, all-but-lowest c, and_zero_r x, and_zero_r y)

-- what a masked sum of 0 says of its parts
none_of : (a b c d : ℕ) → a + 256 * b + 65536 * c + 16777216 * d ≡ 0 → (a ≡ 0) × (b ≡ 0) × (c ≡ 0) × (d ≡ 0)
none_of a b c d e = (omega arith, omega arith, omega arith, omega arith)

none_of_two : (a b : ℕ) → a + 65536 * b ≡ 0 → (a ≡ 0) × (b ≡ 0)
none_of_two a b e = (omega arith, omega arith)

lowest : (b : ℕ) → b < 256 → b / 2 % 128 * 2 ≡ 0 → b ≤ 1
lowest b h e =
    let q : b / 2 < 128 = omega arith in
    let m : b / 2 % 128 ≡ b / 2 = mod-eq_of_lt q in
    omega (arith, m, e)

below-sixteen : (b : ℕ) → b < 256 → b / 16 % 16 * 16 ≡ 0 → b < 16
below-sixteen b h e =
    let q : b / 16 < 16 = omega arith in
    let m : b / 16 % 16 ≡ b / 16 = mod-eq_of_lt q in
    omega (arith, m, e)

at_most : (n : ℕ) → n ≤ 25 → (n + 6) / 16 % 2 * 16 ≡ 0 → n ≤ 9
at_most n h e =
    let q : (n + 6) / 16 < 2 = omega arith in
    let m : (n + 6) / 16 % 2 ≡ (n + 6) / 16 = mod-eq_of_lt q in
    omega (arith, m, e)

at_least : (f w : ℕ) → w ≤ 1 → (256 + f - w) / 16 % 2 * 16 ≡ 0 → w ≤ f
at_least f w h e = go (dec_lt f w)
  where
    go : Dec (f < w) → w ≤ f
    go (no q) = omega arith
    go (yes q) =
        let z : f ≡ 0 = omega arith in
        let o : w ≡ 1 = omega arith in
        let wrong-one : ◌≡◌ {A = ℕ} 16 0 = sym (ap₂ (λ (x y : ℕ). (256 + x - y) / 16 % 2 * 16) z o) ∙ e in
        absurd (omega (arith, wrong-one))

-- ---- together

abbrev pub wrong : ℕ → ℕ → ℕ
wrong low high =
    bit_or (bit_or (bit_and low 4278124272) (bit_and high 16646398))
    (bit_or (bit_and (low % 256 + low / 256 % 256 + 9 * (low / 16777216) + 6) 16) (bit_and (256 + low % 256 - low / 256 % 256) 16))

module _ (h : Structure) (y : ℕ) (hf : h.fields < 256) (hw : h.whole < 256) (hl : h.links < 256) (hd : h.deleted < 256)
    (ht : h.late < 256) (hx : h.last < 256) (hc : h.certain < 256) where
  abbrev first : ℕ
  first = h.fields + 256 * h.whole + 65536 * h.links + 16777216 * h.deleted

  abbrev second : ℕ
  second = h.late + 256 * h.last + 65536 * h.certain + 16777216 * y

  one : bit_and first 4278124272 ≡ h.fields / 16 % 16 * 16 + 256 * (h.whole / 2 % 128 * 2) + 65536 * (h.links / 2 % 128 * 2) + 16777216 * (h.deleted / 2 % 128 * 2)
  one = mask_low h.fields h.whole h.links h.deleted hf hw hl hd

  two : bit_and second 16646398 ≡ h.late / 2 % 128 * 2 + 65536 * (h.certain / 2 % 128 * 2)
  two = mask-high h.late h.last h.certain y ht hx hc

  three : bit_and (first % 256 + first / 256 % 256 + 9 * (first / 16777216) + 6) 16 ≡ (h.fields + h.whole + 9 * h.deleted + 6) / 16 % 2 * 16
  three =
      bit-four (first % 256 + first / 256 % 256 + 9 * (first / 16777216) + 6)
      ∙ (λ i. (low-fields h.fields h.whole h.links h.deleted hf hw hl hd i + low-whole h.fields h.whole h.links h.deleted hf hw hl hd i
      + 9 * low-deleted h.fields h.whole h.links h.deleted hf hw hl hd i + 6) / 16 % 2 * 16)

  four : bit_and (256 + first % 256 - first / 256 % 256) 16 ≡ (256 + h.fields - h.whole) / 16 % 2 * 16
  four =
      bit-four (256 + first % 256 - first / 256 % 256)
      ∙ (λ i. (256 + low-fields h.fields h.whole h.links h.deleted hf hw hl hd i
      - low-whole h.fields h.whole h.links h.deleted hf hw hl hd i) / 16 % 2 * 16)

  to-right : wrong first second ≡ 0 → Right h
  to-right e =
      let a = or-none (bit_or (bit_and first 4278124272) (bit_and second 16646398)) _ e in
      let b = or-none (bit_and first 4278124272) (bit_and second 16646398) a.0 in
      let c = or-none (bit_and (first % 256 + first / 256 % 256 + 9 * (first / 16777216) + 6) 16) _ a.1 in
      let p = none_of (h.fields / 16 % 16 * 16) (h.whole / 2 % 128 * 2) (h.links / 2 % 128 * 2) (h.deleted / 2 % 128 * 2) (sym one ∙ b.0) in
      let q = none_of_two (h.late / 2 % 128 * 2) (h.certain / 2 % 128 * 2) (sym two ∙ b.1) in
      sums (lowest h.whole hw p.1) (lowest h.links hl p.2) (lowest h.deleted hd p.3) (lowest h.late ht q.0)
      (lowest h.certain hc q.1) (below-sixteen h.fields hf p.0) (sym three ∙ c.0) (sym four ∙ c.1)
    where
      sums : h.whole ≤ 1 → h.links ≤ 1 → h.deleted ≤ 1 → h.late ≤ 1 → h.certain ≤ 1 → h.fields < 16
          → (h.fields + h.whole + 9 * h.deleted + 6) / 16 % 2 * 16 ≡ 0 → (256 + h.fields - h.whole) / 16 % 2 * 16 ≡ 0 → Right h
      sums w l d t c f m n = record {
        whole = w;
        links = l;
        deleted = d;
        late = t;
        certain = c;
        many = at_most (h.fields + h.whole + 9 * h.deleted) (omega arith) m;
        few = at_least h.fields h.whole w n;
      }

  from-right : Right h → wrong first second ≡ 0
  from-right r =
      let a : bit_and first 4278124272 ≡ 0 = one ∙ omega (arith, r.whole, r.links, r.deleted, r.many) in
      let b : bit_and second 16646398 ≡ 0 = two ∙ omega (arith, r.late, r.certain) in
      let c : bit_and (first % 256 + first / 256 % 256 + 9 * (first / 16777216) + 6) 16 ≡ 0 = three ∙ omega (arith, r.many) in
      let d : bit_and (256 + first % 256 - first / 256 % 256) 16 ≡ 0 = four ∙ omega (arith, r.many, r.few) in
      ap₂ bit_or (ap₂ bit_or a b) (ap₂ bit_or c d)

  head-good : eqb (wrong first second) 0 ≡ good_head h
  head-good =
      same_truth (eqb (wrong first second) 0) (good_head h)
      (λ e. right-good h (to-right (eqb-true (wrong first second) 0 e)))
      (λ g. eq-eqb (wrong first second) 0 (from-right (good_right h g)))

pub faults-good : (s : List ℕ) → ((k : ℕ) → get_or s k 0 < 256) → (low high : ℕ) → low ≡ four_at 0 s → high ≡ four_at 4 s
    → eqb (wrong low high) 0 ≡ good_head (head_of s)
unfolding four_at head_of
faults-good s b low high p q =
    ap₂ (λ (x y : ℕ). eqb (wrong x y) 0) p q ∙ head-good (head_of s) (get_or s 7 0) (b 0) (b 1) (b 2) (b 3) (b 4) (b 5) (b 6)
