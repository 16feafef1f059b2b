-- Laws of a structure that is gathered.
--
--   head-stored, nth-head, head-nth, nth-same, nth-other    the head and the fields of a structure, after a change of one of them
--   Holds s n xs w l        a structure holds the first n fields of a list, with its marks
--   Empty s                 nothing is said
--   Alike s x               the same fields, with other marks
--   beginning-*             one field alone
--   begun, joined, completed      what one more field does: the first, the next, the first again; *-head: the head by then
--   kept-*, other-begins    of a whole structure: a field in turn leaves it, any other begins it anew
--   place_is, next-first, next-turn    the place of a field of a whole structure, and when it comes in turn
--
-- Assumes nothing.
use mathlib.Core.Path.{◌≡◌, refl, sym, ap, ap₂, ◌∙◌, subst}
use mathlib.Core.Bool.{Bool, true, false, cond, ◌&&◌}
use mathlib.Core.List.{List}
use Prim.Native.Nat.{ℕ, suc, ◌+◌, ◌-◌, ◌*◌, ◌^◌, ◌≤◌, ◌<◌}
use native.Mathlib.Omega.{arith}
use native.Mathlib.Decide.{dec_lt, ℕ_discrete}
use borrow.Author.Tests.{eq-eqb, ne_eqb, eqb-true, le-leb, lt-ltb, le-ltb}
use lib.Dec.{T, leb, ltb, eqb, lit<}
use lib.ListN.{length, get_or}
use Rattle.bits.specs.Bits.{blank}
use Rattle.bits.specs.Search.{first}
use Rattle.bits.proofs.Search.{first-least, first_holds, truth, and_no}
use Rattle.bits.proofs.Storing.{blank-length}
use Rattle.runs.specs.Part.{part, put}
use Rattle.runs.proofs.Parts.{put-length, part-put, part-put-before, part-put-after, get_or-put-in, get_or-put-before}
use Rattle.field.specs.Field.{key}
use Rattle.runs.specs.Numbers.{eight, eight_at}
use Rattle.runs.proofs.Numbers.{eight-length, eight_at-part, eight_at-eight}
use Rattle.structure.specs.Structure.{most, structure_size, head_of, head_bytes, with_head, nth, with_nth, stored, place_of, member, next_place, is_next, goes_on, turn_of, gathering_head, completed_head, marked_head, late_of, beginning, turned, gathered}
use Rattle.structure.specs.declared.Structure.{Structure}
use Rattle.structure.specs.declared.Turn.{Turn}
use Rattle.structure.specs.declared.Turn.TheVariants.{Begins, Joins, Overflows, Completes, Known}

-- ---- the head and the fields

pub nth-part : (k : ℕ) (s : List ℕ) → nth k s ≡ eight_at 0 (part (7 + 8 * k) 8 s)
unfolding nth
nth-part k s = eight_at-part (7 + 8 * k) s

module _ (s : List ℕ) (l : length s ≡ structure_size) where
  module _ (h : Structure) where
    pub with-head-length : length (with_head h s) ≡ structure_size
    unfolding with_head
    with-head-length = put-length 0 7 (head_bytes h) s (omega arith) refl ∙ l

    pub head-stored : head_of (with_head h s) ≡ h
    unfolding head_of with_head
    head-stored =
        let at : (k : ℕ) → k < 7 → get_or (put 0 7 (head_bytes h) s) (0 + k) 0 ≡ get_or (head_bytes h) k 0 =
        λ k hk. get_or-put-in 0 7 (head_bytes h) s k (omega arith) refl hk in
        λ i. record {
          fields = at 0 (lit< tt) i;
          whole = at 1 (lit< tt) i;
          links = at 2 (lit< tt) i;
          deleted = at 3 (lit< tt) i;
          late = at 4 (lit< tt) i;
          last = at 5 (lit< tt) i;
          certain = at 6 (lit< tt) i;
        }

    pub nth-head : (k : ℕ) → nth k (with_head h s) ≡ nth k s
    unfolding with_head
    nth-head k =
        nth-part k (with_head h s)
        ∙ ap (eight_at 0) (part-put-after 0 7 (head_bytes h) s (7 + 8 * k) 8 (omega arith) refl (omega arith))
        ∙ sym (nth-part k s)

  module _ (k t : ℕ) (hk : k < most) where
    pub with-nth-length : length (with_nth k t s) ≡ structure_size
    unfolding with_nth
    with-nth-length = put-length (7 + 8 * k) 8 (eight t) s (omega arith) (eight-length t) ∙ l

    pub head-nth : head_of (with_nth k t s) ≡ head_of s
    unfolding head_of with_nth
    head-nth =
        let kept : (i : ℕ) → i < 7 → get_or (put (7 + 8 * k) 8 (eight t) s) i 0 ≡ get_or s i 0 =
        λ i h. get_or-put-before (7 + 8 * k) 8 (eight t) s i (omega arith) (omega arith) in
        λ i. record {
          fields = kept 0 (lit< tt) i;
          whole = kept 1 (lit< tt) i;
          links = kept 2 (lit< tt) i;
          deleted = kept 3 (lit< tt) i;
          late = kept 4 (lit< tt) i;
          last = kept 5 (lit< tt) i;
          certain = kept 6 (lit< tt) i;
        }

    pub nth-same : t < 2 ^ 64 → nth k (with_nth k t s) ≡ t
    unfolding with_nth
    nth-same h =
        nth-part k (with_nth k t s) ∙ ap (eight_at 0) (part-put (7 + 8 * k) 8 (eight t) s (omega arith) (eight-length t))
        ∙ eight_at-eight t h

    pub nth-other : (j : ℕ) → (j ≡ k → ⊥) → nth j (with_nth k t s) ≡ nth j s
    unfolding with_nth
    nth-other j ne = nth-part j (with_nth k t s) ∙ ap (eight_at 0) (go (dec_lt j k)) ∙ sym (nth-part j s)
      where
        go : Dec (j < k) → part (7 + 8 * j) 8 (put (7 + 8 * k) 8 (eight t) s) ≡ part (7 + 8 * j) 8 s
        go (yes q) = part-put-before (7 + 8 * k) 8 (eight t) s (7 + 8 * j) 8 (omega arith) (omega arith)
        go (no q) = part-put-after (7 + 8 * k) 8 (eight t) s (7 + 8 * j) 8 (omega arith) (eight-length t) (omega arith)

-- ---- what a structure holds

pub record Holds (s : List ℕ) (n : ℕ) (xs : List ℕ) (w l : ℕ) : Type 0 where
  pub size : length s ≡ structure_size
  pub fields : (head_of s).fields ≡ n
  pub whole : (head_of s).whole ≡ w
  pub links : (head_of s).links ≡ l
  pub deleted : (head_of s).deleted ≡ 0
  pub each : (i : ℕ) → i < n → nth i s ≡ get_or xs i 0

pub record Empty (s : List ℕ) : Type 0 where
  pub size : length s ≡ structure_size
  pub fields : (head_of s).fields ≡ 0
  pub whole : (head_of s).whole ≡ 0
  pub deleted : (head_of s).deleted ≡ 0
  pub links : (head_of s).links ≤ 1

-- the same fields, with other marks
pub record Alike (s x : List ℕ) : Type 0 where
  pub size : length s ≡ structure_size → length x ≡ structure_size
  pub fields : (head_of x).fields ≡ (head_of s).fields
  pub whole : (head_of x).whole ≡ (head_of s).whole
  pub links : (head_of x).links ≡ (head_of s).links
  pub deleted : (head_of x).deleted ≡ (head_of s).deleted
  pub late : (head_of x).late ≡ (head_of s).late
  pub each : (i : ℕ) → nth i x ≡ nth i s

pub alike-holds : (s x : List ℕ) (n : ℕ) (xs : List ℕ) (w l : ℕ) → Alike s x → Holds s n xs w l → Holds x n xs w l
alike-holds s x n xs w l a h = record {
  size = a.size h.size;
  fields = a.fields ∙ h.fields;
  whole = a.whole ∙ h.whole;
  links = a.links ∙ h.links;
  deleted = a.deleted ∙ h.deleted;
  each = λ i hi. a.each i ∙ h.each i hi;
}

pub alike-empty : (s x : List ℕ) → Alike s x → Empty s → Empty x
alike-empty s x a e = record {
  size = a.size e.size;
  fields = a.fields ∙ e.fields;
  whole = a.whole ∙ e.whole;
  deleted = a.deleted ∙ e.deleted;
  links = omega (arith, a.links, e.links);
}

pub alike-also : (s x y : List ℕ) → Alike s x → Alike x y → Alike s y
alike-also s x y a b = record {
  size = λ l. b.size (a.size l);
  fields = b.fields ∙ a.fields;
  whole = b.whole ∙ a.whole;
  links = b.links ∙ a.links;
  deleted = b.deleted ∙ a.deleted;
  late = b.late ∙ a.late;
  each = λ i. b.each i ∙ a.each i;
}

pub marked-alike : (s : List ℕ) → length s ≡ structure_size → (last certain : ℕ) → Alike s (with_head (marked_head last certain (head_of s)) s)
unfolding marked_head
marked-alike s ls last certain =
    let h : Structure = marked_head last certain (head_of s) in
    let e : head_of (with_head h s) ≡ h = head-stored s ls h in
    record {
      size = λ _. with-head-length s ls h;
      fields = ap (λ (x : Structure). x.fields) e;
      whole = ap (λ (x : Structure). x.whole) e;
      links = ap (λ (x : Structure). x.links) e;
      deleted = ap (λ (x : Structure). x.deleted) e;
      late = ap (λ (x : Structure). x.late) e;
      each = nth-head s ls h;
    }

all_three : (a b c : Bool) → a ≡ true → b ≡ true → c ≡ true → (a && (b && c)) ≡ true
all_three a b c p q r = λ i. p i && (q i && r i)

-- fields that have room are all stored
pub stored-few : (h : Structure) (n : ℕ) → h.fields ≡ n → n ≤ most → stored h ≡ n
unfolding stored
stored-few h n e few = ap (λ (x : Bool). cond x most h.fields) (le-ltb most h.fields (omega arith)) ∙ e

-- ---- begun anew

module _ (late certain t l : ℕ) where
  abbrev first_head : Structure
  first_head = record { fields = 1; whole = 0; links = l; deleted = 0; late = late; last = 0; certain = certain }

  first-length : length (with_head first_head (blank structure_size)) ≡ structure_size
  first-length = with-head-length (blank structure_size) (blank-length structure_size) first_head

  pub beginning-head : head_of (beginning late certain t l) ≡ first_head
  unfolding beginning
  beginning-head =
      head-nth (with_head first_head (blank structure_size)) first-length 0 t (lit< tt)
      ∙ head-stored (blank structure_size) (blank-length structure_size) first_head

  pub beginning-length : length (beginning late certain t l) ≡ structure_size
  unfolding beginning
  beginning-length = with-nth-length (with_head first_head (blank structure_size)) first-length 0 t (lit< tt)

  pub beginning-first : t < 2 ^ 64 → nth 0 (beginning late certain t l) ≡ t
  unfolding beginning
  beginning-first small = nth-same (with_head first_head (blank structure_size)) first-length 0 t (lit< tt) small

  pub beginning-holds : (xs : List ℕ) → t < 2 ^ 64 → t ≡ get_or xs 0 0 → Holds (beginning late certain t l) 1 xs 0 l
  beginning-holds xs small is = record {
    size = beginning-length;
    fields = ap (λ (x : Structure). x.fields) beginning-head;
    whole = ap (λ (x : Structure). x.whole) beginning-head;
    links = ap (λ (x : Structure). x.links) beginning-head;
    deleted = ap (λ (x : Structure). x.deleted) beginning-head;
    each = λ i hi.
        let z : i ≡ 0 = omega arith in
        ap (λ (x : ℕ). nth x (beginning late certain t l)) z ∙ beginning-first small ∙ is ∙ ap (λ (x : ℕ). get_or xs x 0) (sym z);
  }

-- ---- the first field

module _ (s : List ℕ) (nothing : (head_of s).fields ≡ 0) (unfinished : (head_of s).whole ≡ 0) (t l : ℕ) (xs : List ℕ) (small : t < 2 ^ 64) (is : t ≡ get_or xs 0 0) where
  begins : turn_of s t l ≡ Begins
  unfolding turn_of goes_on
  begins =
      λ i. cond (eqb (unfinished i) 1) (cond (is_next s t) Known Begins)
      (cond (ltb 0 (nothing i) && (eqb (head_of s).links l && ltb (key (nth (stored (head_of s) - 1) s)) (key t)))
      (cond (ltb (head_of s).fields most) Joins Overflows)
      (cond (ltb 0 (nothing i) && (leb (head_of s).fields most && eqb (nth 0 s) t)) Completes Begins))

  abbrev one : Structure
  one = record { fields = 1; whole = 0; links = l; deleted = 0; late = late_of (head_of s); last = 0; certain = 1 }

  pub begun-is : gathered s t l ≡ beginning (late_of (head_of s)) 1 t l
  unfolding gathered turned
  begun-is = ap (λ (u : Turn). turned u s t l) begins

  pub begun : Holds (gathered s t l) 1 xs 0 l
  begun = subst (λ (x : List ℕ). Holds x 1 xs 0 l) (sym begun-is) (beginning-holds (late_of (head_of s)) 1 t l xs small is)

  -- in time
  pub begun-head : head_of (gathered s t l) ≡ record { fields = 1; whole = 0; links = l; deleted = 0; late = 0; last = 0; certain = 1 }
  unfolding late_of
  begun-head =
      ap head_of begun-is ∙ beginning-head (late_of (head_of s)) 1 t l
      ∙ (λ i. record { fields = 1; whole = 0; links = l; deleted = 0; late = cond (ltb 0 (nothing i)) 1 0; last = 0; certain = 1 })

-- ---- further fields

module _ (s xs : List ℕ) (n t l : ℕ) where
  last-key : (w k : ℕ) → Holds s n xs w k → 0 < n → n ≤ most → key (nth (stored (head_of s) - 1) s) ≡ key (get_or xs (n - 1) 0)
  last-key w k h pos few =
      ap (λ (x : ℕ). key (nth (x - 1) s)) (stored-few (head_of s) n h.fields few) ∙ ap key (h.each (n - 1) (omega arith))

  module _ (h : Holds s n xs 0 l) (pos : 0 < n) (few : n < most) (small : t < 2 ^ 64) (is : t ≡ get_or xs n 0)
      (rises : key (get_or xs (n - 1) 0) < key t) where
    joins : turn_of s t l ≡ Joins
    unfolding turn_of goes_on
    joins =
        let on : (ltb 0 (head_of s).fields && (eqb (head_of s).links l && ltb (key (nth (stored (head_of s) - 1) s)) (key t))) ≡ true =
        all_three _ _ _ (lt-ltb 0 (head_of s).fields (omega (arith, h.fields))) (eq-eqb (head_of s).links l h.links)
        (ap (λ (x : ℕ). ltb x (key t)) (last-key 0 l h pos (omega arith)) ∙ lt-ltb (key (get_or xs (n - 1) 0)) (key t) rises) in
        let room : ltb (head_of s).fields most ≡ true = lt-ltb (head_of s).fields most (omega (arith, h.fields)) in
        λ i. cond (eqb (h.whole i) 1) (cond (is_next s t) Known Begins)
        (cond (on i) (cond (room i) Joins Overflows)
        (cond (ltb 0 (head_of s).fields && (leb (head_of s).fields most && eqb (nth 0 s) t)) Completes Begins))

    g : ℕ → Structure
    g k = gathering_head (k + 1) l (head_of s)

    made_of : ℕ → List ℕ
    made_of k = with_nth k t (with_head (g k) s)

    l1 : length (with_head (g n) s) ≡ structure_size
    l1 = with-head-length s h.size (g n)

    joined_is : gathered s t l ≡ made_of n
    unfolding gathered turned g made_of
    joined_is = ap (λ (u : Turn). turned u s t l) joins ∙ ap made_of h.fields

    pub joined-head : head_of (gathered s t l) ≡ gathering_head (n + 1) l (head_of s)
    unfolding g made_of
    joined-head = ap head_of joined_is ∙ head-nth (with_head (g n) s) l1 n t few ∙ head-stored s h.size (g n)

    pub joined : Holds (gathered s t l) (n + 1) xs 0 l
    unfolding gathering_head g made_of
    joined = record {
      size = ap length joined_is ∙ with-nth-length (with_head (g n) s) l1 n t few;
      fields = ap (λ (x : Structure). x.fields) joined-head;
      whole = ap (λ (x : Structure). x.whole) joined-head;
      links = ap (λ (x : Structure). x.links) joined-head;
      deleted = ap (λ (x : Structure). x.deleted) joined-head;
      each = λ i hi. ap (nth i) joined_is ∙ at i hi (dec_lt i n);
    }
      where
        at : (i : ℕ) → i < n + 1 → Dec (i < n) → nth i (made_of n) ≡ get_or xs i 0
        at i hi (yes q) =
            nth-other (with_head (g n) s) l1 n t few i (λ z. omega (arith, z)) ∙ nth-head s h.size (g n) i ∙ h.each i q
        at i hi (no q) =
            let z : i ≡ n = omega arith in
            ap (λ (x : ℕ). nth x (made_of n)) z ∙ nth-same (with_head (g n) s) l1 n t few small ∙ is ∙ ap (λ (x : ℕ). get_or xs x 0) (sym z)

  -- the first again
  module _ (k : ℕ) (h : Holds s n xs 0 k) (pos : 0 < n) (few : n ≤ most) (is : t ≡ get_or xs 0 0)
      (falls : key t ≤ key (get_or xs (n - 1) 0)) where
    completes : turn_of s t l ≡ Completes
    unfolding turn_of goes_on
    completes =
        let off : (ltb 0 (head_of s).fields && (eqb (head_of s).links l && ltb (key (nth (stored (head_of s) - 1) s)) (key t))) ≡ false =
        and_no (ltb 0 (head_of s).fields) (and_no (eqb (head_of s).links l) (ap (λ (x : ℕ). ltb x (key t)) (last-key 0 k h pos few) ∙ le-ltb (key (get_or xs (n - 1) 0)) (key t) falls)) in
        let all : (ltb 0 (head_of s).fields && (leb (head_of s).fields most && eqb (nth 0 s) t)) ≡ true =
        all_three _ _ _ (lt-ltb 0 (head_of s).fields (omega (arith, h.fields)))
        (le-leb (head_of s).fields most (omega (arith, h.fields))) (eq-eqb (nth 0 s) t (h.each 0 pos ∙ sym is)) in
        λ i. cond (eqb (h.whole i) 1) (cond (is_next s t) Known Begins)
        (cond (off i) (cond (ltb (head_of s).fields most) Joins Overflows) (cond (all i) Completes Begins))

    completed-is : gathered s t l ≡ with_head (completed_head l (head_of s)) s
    unfolding gathered turned
    completed-is = ap (λ (u : Turn). turned u s t l) completes

    pub completed-head : head_of (gathered s t l) ≡ completed_head l (head_of s)
    completed-head = ap head_of completed-is ∙ head-stored s h.size (completed_head l (head_of s))

    pub completed : Holds (gathered s t l) n xs 1 l
    unfolding completed_head
    completed = record {
      size = ap length completed-is ∙ with-head-length s h.size (completed_head l (head_of s));
      fields = ap (λ (x : Structure). x.fields) completed-head ∙ h.fields;
      whole = ap (λ (x : Structure). x.whole) completed-head;
      links = ap (λ (x : Structure). x.links) completed-head;
      deleted = ap (λ (x : Structure). x.deleted) completed-head;
      each = λ i hi. ap (nth i) completed-is ∙ nth-head s h.size (completed_head l (head_of s)) i ∙ h.each i hi;
    }

-- ---- a whole structure

module _ (s : List ℕ) (t l : ℕ) (w : (head_of s).whole ≡ 1) where
  by_next : (b : Bool) → is_next s t ≡ b → turn_of s t l ≡ cond b Known Begins
  unfolding turn_of
  by_next b e =
      λ i. cond (eqb (w i) 1) (cond (e i) Known Begins) (cond (goes_on s t l) (cond (ltb (head_of s).fields most) Joins Overflows)
      (cond (ltb 0 (head_of s).fields && (leb (head_of s).fields most && eqb (nth 0 s) t)) Completes Begins))

  -- a field in turn leaves it
  pub kept-is : is_next s t ≡ true → gathered s t l ≡ with_head (marked_head (place_of s t + 1) 1 (head_of s)) s
  unfolding gathered turned
  kept-is e = ap (λ (u : Turn). turned u s t l) (by_next true e)

  pub kept-alike : length s ≡ structure_size → is_next s t ≡ true → Alike s (gathered s t l)
  kept-alike ls e = subst (Alike s) (sym (kept-is e)) (marked-alike s ls (place_of s t + 1) 1)

  pub kept-head : length s ≡ structure_size → is_next s t ≡ true → head_of (gathered s t l) ≡ marked_head (place_of s t + 1) 1 (head_of s)
  kept-head ls e = ap head_of (kept-is e) ∙ head-stored s ls (marked_head (place_of s t + 1) 1 (head_of s))

  -- any other begins it anew
  pub other-begins : is_next s t ≡ false → turn_of s t l ≡ Begins
  other-begins e = by_next false e

-- the fields of a whole structure, where no two are the same: each has its place
module _ (s xs : List ℕ) (n k i t : ℕ) (h : Holds s n xs 1 k) (few : n ≤ most) (hi : i < n) (is : t ≡ get_or xs i 0)
    (apart : (j : ℕ) → j < i → get_or xs j 0 ≡ get_or xs i 0 → ⊥) where
  count-is : stored (head_of s) ≡ n
  count-is = stored-few (head_of s) n h.fields few

  abbrev is-t : ℕ → Bool
  is-t j = eqb (nth j s) t

  pub place_is : place_of s t ≡ i
  unfolding place_of
  place_is =
      let has : T (is-t i) = subst T (sym (eq-eqb (nth i s) t (h.each i hi ∙ sym is))) tt in
      let least : first is-t n 0 ≤ i = first-least is-t n 0 i (omega arith) (omega arith) has in
      let found : T (is-t (first is-t n 0)) = first_holds is-t n 0 (omega (arith, least)) in
      ap (λ (x : ℕ). first is-t x 0) count-is ∙ same (first is-t n 0) least found
    where
      same : (j : ℕ) → j ≤ i → T (is-t j) → j ≡ i
      same j le f = go (dec_lt j i)
        where
          go : Dec (j < i) → j ≡ i
          go (yes q) = absurd (apart j q (sym (h.each j (omega arith)) ∙ eqb-true (nth j s) t (truth (is-t j) f) ∙ is))
          go (no q) = omega arith

  pub listed : member s t ≡ true
  unfolding member
  listed = ap₂ ltb place_is count-is ∙ lt-ltb i n hi

  -- it comes in turn, where none came before
  pub next-first : (head_of s).last ≡ 0 → is_next s t ≡ true
  unfolding is_next
  next-first z =
      ap (λ (x : ℕ). cond (eqb x 0) (member s t) (eqb (nth (next_place (head_of s)) s) t)) z ∙ listed

  -- it comes in turn behind the one before
  pub next-turn : (j : ℕ) → (head_of s).last ≡ suc j → i ≡ cond (eqb (suc j) n) 0 (suc j) → suc j ≤ n → is_next s t ≡ true
  unfolding is_next next_place
  next-turn j z e le =
      ap (λ (b : Bool). cond b (member s t) (eqb (nth (next_place (head_of s)) s) t)) (ne_eqb (head_of s).last 0 (λ q. omega (arith, z, q)))
      ∙ ap (λ (x : ℕ). eqb (nth x s) t) (next (ℕ_discrete (suc j) n)) ∙ eq-eqb (nth i s) t (h.each i hi ∙ sym is)
    where
      next : Dec (suc j ≡ n) → next_place (head_of s) ≡ i
      next (yes q) =
          ap (λ (b : Bool). cond b (head_of s).last 0) (le-ltb (head_of s).last (stored (head_of s)) (omega (arith, z, q, count-is)))
          ∙ sym (e ∙ ap (λ (b : Bool). cond b 0 (suc j)) (eq-eqb (suc j) n q))
      next (no q) =
          ap (λ (b : Bool). cond b (head_of s).last 0) (lt-ltb (head_of s).last (stored (head_of s)) (omega (arith, z, q, le, count-is)))
          ∙ z ∙ sym (e ∙ ap (λ (b : Bool). cond b 0 (suc j)) (ne_eqb (suc j) n q))
