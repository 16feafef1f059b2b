-- Every change of a structure keeps it good: its head within its bounds, its length, and not to be deleted where it was not.
--
--   Bounds, bounds-good, good-bounds    a good head as facts, and back
--   Kept                    what one more field keeps
--   marked-good, settled-good    a head with other marks, and as a change puts it in force
--   gathered-length, gathered-good, gathered-deleted
--   spoiled-length, spoiled-good, spoiled-deleted    a structure that may lack a field
--   spoiled-certain, spoiled-last    what is certain stays so, and no field is known to have come last
--   spoiled-some            it still has fields, exactly where it had
--   spoiled-head, spoiled-none    its head: one field, where it is being gathered; otherwise its fields stay as they were
--   spoiled-two             worked: of two fields none is kept
--   spoiled-open, spoiled-begins    where it is being gathered, whatever field comes next begins it anew: none completes it, and none joins on
--   deletion-*, absence-*, blank-good    structures of no field
--   good-deleted            a good head that is not to be deleted says so
--
-- Assumes nothing.
use mathlib.Core.Path.{◌≡◌, refl, sym, ap, ◌∙◌, subst}
use mathlib.Core.Bool.{Bool, true, false, true≢false, cond, ◌&&◌, ◌||◌, or-true}
use mathlib.Core.List.{List}
use Prim.Native.Nat.{ℕ, ◌+◌, ◌-◌, ◌%◌, ◌^◌, ◌≤◌, ◌<◌}
use native.Mathlib.Omega.{arith}
use borrow.Author.Tests.{ne_eqb, eqb-true, leb-true, ltb-true, le-leb, lt-ltb, le-ltb}
use lib.Dec.{leb, ltb, eqb, lit<, lit≤}
use lib.ListN.{length}
use Rattle.bits.specs.Bits.{blank}
use Rattle.bits.proofs.Search.{and_left, and_right}
use Rattle.bits.proofs.Storing.{blank-length}
use Rattle.runs.specs.Part.{put}
use Rattle.field.specs.Field.{fln1, fcp, deletes, key}
use Rattle.structure.specs.Structure.{most, structure_size, all_ones, head_of, with_head, nth, with_nth, stored, place_of, is_next, goes_on, turn_of, gathering_head, completed_head, marked_head, late_of, beginning, turned, gathered, spoiled, none_head, deletion, absence, good_head, complete, settled_head}
use Rattle.structure.specs.declared.Structure.{Structure}
use Rattle.structure.specs.declared.Turn.TheVariants.{Begins, Joins, Overflows, Completes, Known}
use Rattle.structure.proofs.Gathering.{Empty, Alike, head-stored, head-nth, with-head-length, with-nth-length, marked-alike, beginning-head, beginning-length, beginning-first}

-- ---- good heads

-- a whole structure has fields, and room for each
abbrev pub fits : ℕ → ℕ → Bool
fits n w = eqb w 0 || (ltb 0 n && leb n most)

pub record Bounds (h : Structure) : Type 0 where
  pub fields : h.fields ≤ most + 1
  pub whole : h.whole ≤ 1
  pub links : h.links ≤ 1
  pub deleted : h.deleted ≤ 1
  pub late : h.late ≤ 1
  pub certain : h.certain ≤ 1
  pub room : fits h.fields h.whole ≡ true
  pub none : (eqb h.deleted 0 || eqb h.fields 0) ≡ true

pub bounds-good : (h : Structure) → Bounds h → good_head h ≡ true
unfolding good_head
bounds-good h b =
    λ i. le-leb h.fields (most + 1) b.fields i && (le-leb h.whole 1 b.whole i && (le-leb h.links 1 b.links i
    && (le-leb h.deleted 1 b.deleted i && (le-leb h.late 1 b.late i && (le-leb h.certain 1 b.certain i && (b.room i && b.none i))))))

pub good-bounds : (h : Structure) → good_head h ≡ true → Bounds h
unfolding good_head
good-bounds h g =
    let w = and_right (leb h.fields (most + 1)) _ g in
    let l = and_right (leb h.whole 1) _ w in
    let d = and_right (leb h.links 1) _ l in
    let t = and_right (leb h.deleted 1) _ d in
    let c = and_right (leb h.late 1) _ t in
    let r = and_right (leb h.certain 1) _ c in
    record {
      fields = leb-true h.fields (most + 1) (and_left _ _ g);
      whole = leb-true h.whole 1 (and_left _ _ w);
      links = leb-true h.links 1 (and_left _ _ l);
      deleted = leb-true h.deleted 1 (and_left _ _ d);
      late = leb-true h.late 1 (and_left _ _ t);
      certain = leb-true h.certain 1 (and_left _ _ c);
      room = and_left _ _ r;
      none = and_right (fits h.fields h.whole) _ r;
    }

pub good-deleted : (h : Structure) → good_head h ≡ true → (h.deleted ≡ 1 → ⊥) → h.deleted ≡ 0
good-deleted h g ne = omega (arith, (good-bounds h g).deleted, ne)

-- other marks
pub marked-good : (last certain : ℕ) (h : Structure) → certain ≤ 1 → good_head h ≡ true → good_head (marked_head last certain h) ≡ true
unfolding marked_head
marked-good last certain h hc g =
    let b = good-bounds h g in
    bounds-good (marked_head last certain h) (record {
      fields = b.fields;
      whole = b.whole;
      links = b.links;
      deleted = b.deleted;
      late = b.late;
      certain = hc;
      room = b.room;
      none = b.none;
    })

pub settled-good : (sure : Bool) (h : Structure) → good_head h ≡ true → (good_head (settled_head sure h) ≡ true) × ((settled_head sure h).deleted ≡ 0)
unfolding settled_head complete
settled-good sure h g = (bounds-good (settled_head sure h) (go (good-bounds h g) sure (complete h) refl), refl)
  where
    go : Bounds h → (u c : Bool) → complete h ≡ c → Bounds (record {
      fields = h.fields;
      whole = cond (u && c) 1 h.whole;
      links = h.links;
      deleted = 0;
      late = h.late;
      last = 0;
      certain = cond u h.certain 0;
    })
    go k true true q = record {
      fields = k.fields;
      whole = lit≤ tt;
      links = k.links;
      deleted = lit≤ tt;
      late = k.late;
      certain = k.certain;
      room = and_right (eqb h.late 0) _ q;
      none = refl;
    }
    go k true false q = record {
      fields = k.fields;
      whole = k.whole;
      links = k.links;
      deleted = lit≤ tt;
      late = k.late;
      certain = k.certain;
      room = k.room;
      none = refl;
    }
    go k false c q = record {
      fields = k.fields;
      whole = k.whole;
      links = k.links;
      deleted = lit≤ tt;
      late = k.late;
      certain = lit≤ tt;
      room = k.room;
      none = refl;
    }

-- ---- one more field

late-to : (h : Structure) → late_of h ≤ 1
unfolding late_of
late-to h = go (ltb 0 h.fields)
  where
    go : (b : Bool) → cond b 1 0 ≤ 1
    go true = lit≤ tt
    go false = lit≤ tt

-- one field alone
one-good : (late certain t l : ℕ) → late ≤ 1 → certain ≤ 1 → l ≤ 1 → good_head (head_of (beginning late certain t l)) ≡ true
one-good late certain t l ht hc hl =
    ap good_head (beginning-head late certain t l)
    ∙ bounds-good _ (record {
      fields = lit≤ tt;
      whole = lit≤ tt;
      links = hl;
      deleted = lit≤ tt;
      late = ht;
      certain = hc;
      room = refl;
      none = refl;
    })

one-deleted : (late certain t l : ℕ) → (head_of (beginning late certain t l)).deleted ≡ 0
one-deleted late certain t l = ap (λ (h : Structure). h.deleted) (beginning-head late certain t l)

record Kept (s : List ℕ) (l : ℕ) (x : List ℕ) : Type 0 where
  pub size : length x ≡ structure_size
  pub good : good_head (head_of s) ≡ true → l ≤ 1 → good_head (head_of x) ≡ true
  pub deleted : (head_of s).deleted ≡ 0 → (head_of x).deleted ≡ 0

module _ (s : List ℕ) (t l : ℕ) (ls : length s ≡ structure_size) where
  by-head : (x : List ℕ) (h : Structure) → length x ≡ structure_size → head_of x ≡ h
      → (good_head (head_of s) ≡ true → l ≤ 1 → good_head h ≡ true) → ((head_of s).deleted ≡ 0 → h.deleted ≡ 0) → Kept s l x
  by-head x h lx e g d = record {
    size = lx;
    good = λ k hl. ap good_head e ∙ g k hl;
    deleted = λ k. ap (λ (y : Structure). y.deleted) e ∙ d k;
  }

  -- a head alone
  alone : (h : Structure) → (good_head (head_of s) ≡ true → l ≤ 1 → good_head h ≡ true) → ((head_of s).deleted ≡ 0 → h.deleted ≡ 0) → Kept s l (with_head h s)
  alone h g d = by-head (with_head h s) h (with-head-length s ls h) (head-stored s ls h) g d

  -- a head and a field stored
  both : (k : ℕ) (h : Structure) → k < most → (good_head (head_of s) ≡ true → l ≤ 1 → good_head h ≡ true) → ((head_of s).deleted ≡ 0 → h.deleted ≡ 0)
      → Kept s l (with_nth k t (with_head h s))
  both k h hk g d =
      by-head (with_nth k t (with_head h s)) h (with-nth-length (with_head h s) (with-head-length s ls h) k t hk)
      (head-nth (with_head h s) (with-head-length s ls h) k t hk ∙ head-stored s ls h) g d

  begun : Kept s l (turned Begins s t l)
  unfolding turned
  begun = record {
    size = beginning-length (late_of (head_of s)) 1 t l;
    good = λ g hl. one-good (late_of (head_of s)) 1 t l (late-to (head_of s)) (lit≤ tt) hl;
    deleted = λ d. one-deleted (late_of (head_of s)) 1 t l;
  }

  gathering-good : (n : ℕ) → n ≤ most + 1 → good_head (head_of s) ≡ true → l ≤ 1 → good_head (gathering_head n l (head_of s)) ≡ true
  unfolding gathering_head
  gathering-good n hn g hl =
      bounds-good (gathering_head n l (head_of s)) (record {
        fields = hn;
        whole = lit≤ tt;
        links = hl;
        deleted = lit≤ tt;
        late = (good-bounds (head_of s) g).late;
        certain = lit≤ tt;
        room = refl;
        none = refl;
      })

  completed-good : (ltb 0 (head_of s).fields && leb (head_of s).fields most) ≡ true → l ≤ 1 → good_head (completed_head l (head_of s)) ≡ true
  unfolding completed_head
  completed-good r hl =
      let n : (head_of s).fields ≤ most = leb-true (head_of s).fields most (and_right (ltb 0 (head_of s).fields) _ r) in
      bounds-good (completed_head l (head_of s)) (record {
        fields = omega arith;
        whole = lit≤ tt;
        links = hl;
        deleted = lit≤ tt;
        late = lit≤ tt;
        certain = lit≤ tt;
        room = r;
        none = refl;
      })

  kept : Kept s l (gathered s t l)
  unfolding gathered turned turn_of gathering_head completed_head marked_head
  kept =
      go (eqb (head_of s).whole 1) (is_next s t) (goes_on s t l) (ltb (head_of s).fields most)
      (ltb 0 (head_of s).fields && (leb (head_of s).fields most && eqb (nth 0 s) t)) refl refl
    where
      go : (w m g r f : Bool) → ltb (head_of s).fields most ≡ r
          → (ltb 0 (head_of s).fields && (leb (head_of s).fields most && eqb (nth 0 s) t)) ≡ f
          → Kept s l (turned (cond w (cond m Known Begins) (cond g (cond r Joins Overflows) (cond f Completes Begins))) s t l)
      go true true g r f er ef =
          alone (marked_head (place_of s t + 1) 1 (head_of s)) (λ k hl. marked-good (place_of s t + 1) 1 (head_of s) (lit≤ tt) k) (λ d. d)
      go true false g r f er ef = begun
      go false m true true f er ef =
          let n : (head_of s).fields < most = ltb-true (head_of s).fields most er in
          both (head_of s).fields (gathering_head ((head_of s).fields + 1) l (head_of s)) n
          (gathering-good ((head_of s).fields + 1) (omega arith)) (λ d. refl)
      go false m true false f er ef =
          alone (gathering_head (most + 1) l (head_of s)) (gathering-good (most + 1) (lit≤ tt)) (λ d. refl)
      go false m false r true er ef =
          let some = and_left (ltb 0 (head_of s).fields) _ ef in
          let room = and_left (leb (head_of s).fields most) _ (and_right (ltb 0 (head_of s).fields) _ ef) in
          alone (completed_head l (head_of s)) (λ k hl. completed-good (λ i. some i && room i) hl) (λ d. refl)
      go false m false r false er ef = begun

  pub gathered-length : length (gathered s t l) ≡ structure_size
  gathered-length = kept.size

  pub gathered-good : good_head (head_of s) ≡ true → l ≤ 1 → good_head (head_of (gathered s t l)) ≡ true
  gathered-good = kept.good

  pub gathered-deleted : (head_of s).deleted ≡ 0 → (head_of (gathered s t l)).deleted ≡ 0
  gathered-deleted = kept.deleted

-- ---- a structure that may lack a field

spoiled-two : head_of (spoiled (with_head (record { fields = 2; whole = 0; links = 1; deleted = 0; late = 0; last = 0; certain = 1 }) (blank structure_size)))
    ≡ record { fields = 1; whole = 0; links = 0; deleted = 0; late = 1; last = 0; certain = 1 }
unfolding spoiled beginning head_of with_head with_nth put blank
spoiled-two = refl

module _ (s : List ℕ) (l : length s ≡ structure_size) where
  abbrev ones : List ℕ
  ones = beginning 1 (head_of s).certain all_ones 0

  abbrev unmarked : List ℕ
  unmarked = with_head (marked_head 0 (head_of s).certain (head_of s)) s

  either : (P : List ℕ → Type 0) → P ones → P unmarked → P (spoiled s)
  unfolding spoiled
  either P p q = go (eqb (head_of s).whole 0 && ltb 0 (head_of s).fields)
    where
      go : (b : Bool) → P (cond b ones unmarked)
      go true = p
      go false = q

  pub spoiled-length : length (spoiled s) ≡ structure_size
  spoiled-length =
      either (λ (x : List ℕ). length x ≡ structure_size) (beginning-length 1 (head_of s).certain all_ones 0) (with-head-length s l (marked_head 0 (head_of s).certain (head_of s)))

  unmarked-head : head_of unmarked ≡ marked_head 0 (head_of s).certain (head_of s)
  unmarked-head = head-stored s l (marked_head 0 (head_of s).certain (head_of s))

  pub spoiled-good : good_head (head_of s) ≡ true → good_head (head_of (spoiled s)) ≡ true
  spoiled-good g =
      either (λ (x : List ℕ). good_head (head_of x) ≡ true) (one-good 1 (head_of s).certain all_ones 0 (lit≤ tt) (good-bounds (head_of s) g).certain (lit≤ tt))
      (ap good_head unmarked-head ∙ marked-good 0 (head_of s).certain (head_of s) (good-bounds (head_of s) g).certain g)

  pub spoiled-deleted : (head_of s).deleted ≡ 0 → (head_of (spoiled s)).deleted ≡ 0
  unfolding marked_head
  spoiled-deleted d =
      either (λ (x : List ℕ). (head_of x).deleted ≡ 0) (one-deleted 1 (head_of s).certain all_ones 0)
      (ap (λ (h : Structure). h.deleted) unmarked-head ∙ d)

  -- what is certain stays so
  pub spoiled-certain : (head_of (spoiled s)).certain ≡ (head_of s).certain
  unfolding marked_head
  spoiled-certain =
      either (λ (x : List ℕ). (head_of x).certain ≡ (head_of s).certain) (ap (λ (h : Structure). h.certain) (beginning-head 1 (head_of s).certain all_ones 0))
      (ap (λ (h : Structure). h.certain) unmarked-head)

  -- and no field is known to have come last
  pub spoiled-last : (head_of (spoiled s)).last ≡ 0
  unfolding marked_head
  spoiled-last =
      either (λ (x : List ℕ). (head_of x).last ≡ 0) (ap (λ (h : Structure). h.last) (beginning-head 1 (head_of s).certain all_ones 0))
      (ap (λ (h : Structure). h.last) unmarked-head)

  spoils-none : (eqb (head_of s).whole 0 && ltb 0 (head_of s).fields) ≡ false → spoiled s ≡ unmarked
  unfolding spoiled
  spoils-none e = ap (λ (b : Bool). cond b ones unmarked) e

  pub spoiled-none : (eqb (head_of s).whole 0 && ltb 0 (head_of s).fields) ≡ false → Alike s (spoiled s)
  spoiled-none e = subst (Alike s) (sym (spoils-none e)) (marked-alike s l 0 (head_of s).certain)

  module _ (gathers : (head_of s).whole ≡ 0) (some : 0 < (head_of s).fields) where
    spoils : spoiled s ≡ ones
    unfolding spoiled
    spoils = ap (λ (b : Bool). cond b ones unmarked) (λ i. eqb (gathers i) 0 && lt-ltb 0 (head_of s).fields some i)

    pub spoiled-head : head_of (spoiled s) ≡ record { fields = 1; whole = 0; links = 0; deleted = 0; late = 1; last = 0; certain = (head_of s).certain }
    spoiled-head = ap head_of spoils ∙ beginning-head 1 (head_of s).certain all_ones 0

    pub spoiled-first : nth 0 (spoiled s) ≡ all_ones
    spoiled-first = ap (nth 0) spoils ∙ beginning-first 1 (head_of s).certain all_ones 0 (lit< tt)

    still-some : ltb 0 (head_of (spoiled s)).fields ≡ true
    still-some = ap (λ (h : Structure). ltb 0 h.fields) spoiled-head

    -- no key is above that of all ones
    top_key : (t : ℕ) → key t ≤ key all_ones
    unfolding key fln1 fcp
    top_key t = omega arith

    pub spoiled-open : (t r : ℕ) → deletes t ≡ false → turn_of (spoiled s) t r ≡ Begins
    unfolding turn_of goes_on stored deletes
    spoiled-open t r d =
        (λ i. cond (eqb (spoiled-head i).whole 1) (cond (is_next (spoiled s) t) Known Begins)
        (cond (ltb 0 (spoiled-head i).fields && (eqb (spoiled-head i).links r && ltb (key (nth (stored (spoiled-head i) - 1) (spoiled s))) (key t)))
        (cond (ltb (spoiled-head i).fields most) Joins Overflows)
        (cond (ltb 0 (spoiled-head i).fields && (leb (spoiled-head i).fields most && eqb (nth 0 (spoiled s)) t)) Completes Begins)))
        ∙ (λ i. cond (eqb 0 r && below i) Joins (cond (other i) Completes Begins))
        ∙ none (eqb 0 r)
      where
        below : ltb (key (nth 0 (spoiled s))) (key t) ≡ false
        below = ap (λ (x : ℕ). ltb (key x) (key t)) spoiled-first ∙ le-ltb (key all_ones) (key t) (top_key t)

        other : eqb (nth 0 (spoiled s)) t ≡ false
        other =
            ap (λ (x : ℕ). eqb x t) spoiled-first
            ∙ ne_eqb all_ones t (λ e. true≢false (ap (λ (x : ℕ). eqb (x % 2 ^ 40) (2 ^ 40 - 1)) e ∙ d))

        none : (b : Bool) → cond (b && false) Joins Begins ≡ Begins
        none true = refl
        none false = refl

  pub spoiled-some : ltb 0 (head_of (spoiled s)).fields ≡ ltb 0 (head_of s).fields
  spoiled-some = go (eqb (head_of s).whole 0) (ltb 0 (head_of s).fields) refl refl
    where
      go : (w f : Bool) → eqb (head_of s).whole 0 ≡ w → ltb 0 (head_of s).fields ≡ f → ltb 0 (head_of (spoiled s)).fields ≡ ltb 0 (head_of s).fields
      go true true ew ef = still-some (eqb-true (head_of s).whole 0 ew) (ltb-true 0 (head_of s).fields ef) ∙ sym ef
      go true false ew ef = ap (ltb 0) (spoiled-none (λ i. ew i && ef i)).fields
      go false f ew ef = ap (ltb 0) (spoiled-none (λ i. ew i && ltb 0 (head_of s).fields)).fields

  -- whatever it was before: where it is not whole now, the next field begins it anew
  pub spoiled-begins : (head_of (spoiled s)).whole ≡ 0 → 0 < (head_of (spoiled s)).fields → (t r : ℕ) → deletes t ≡ false → turn_of (spoiled s) t r ≡ Begins
  spoiled-begins w f t r d = go (eqb (head_of s).whole 0 && ltb 0 (head_of s).fields) refl
    where
      go : (b : Bool) → (eqb (head_of s).whole 0 && ltb 0 (head_of s).fields) ≡ b → turn_of (spoiled s) t r ≡ Begins
      go true e =
          spoiled-open (eqb-true (head_of s).whole 0 (and_left _ _ e)) (ltb-true 0 (head_of s).fields (and_right (eqb (head_of s).whole 0) _ e)) t r d
      go false e =
          let same = spoiled-none e in
          let whole : (head_of s).whole ≡ 0 = sym same.whole ∙ w in
          let some : 0 < (head_of s).fields = omega (arith, f, same.fields) in
          absurd (true≢false (sym (λ i. eqb (whole i) 0 && lt-ltb 0 (head_of s).fields some i) ∙ e))

-- ---- no field, and 0 alone

module _ (d : ℕ) where
  abbrev none : List ℕ
  none = with_head (none_head d) (blank structure_size)

  pub none-length : length none ≡ structure_size
  none-length = with-head-length (blank structure_size) (blank-length structure_size) (none_head d)

  pub none-head : head_of none ≡ none_head d
  none-head = head-stored (blank structure_size) (blank-length structure_size) (none_head d)

  none-good : d ≤ 1 → good_head (head_of none) ≡ true
  unfolding none_head
  none-good h =
      ap good_head none-head
      ∙ bounds-good (none_head d) (record {
        fields = lit≤ tt;
        whole = lit≤ tt;
        links = lit≤ tt;
        deleted = h;
        late = lit≤ tt;
        certain = lit≤ tt;
        room = refl;
        none = or-true (eqb d 0);
      })

pub deletion-length : length deletion ≡ structure_size
unfolding deletion
deletion-length = none-length 1

pub deletion-good : good_head (head_of deletion) ≡ true
unfolding deletion
deletion-good = none-good 1 (lit≤ tt)

pub absence-length : length absence ≡ structure_size
unfolding absence
absence-length = none-length 0

pub absence-good : good_head (head_of absence) ≡ true
unfolding absence
absence-good = none-good 0 (lit≤ tt)

pub absence-deleted : (head_of absence).deleted ≡ 0
unfolding absence none_head
absence-deleted = ap (λ (h : Structure). h.deleted) (none-head 0)

pub absence-empty : Empty absence
unfolding absence none_head
absence-empty = record {
  size = none-length 0;
  fields = ap (λ (h : Structure). h.fields) (none-head 0);
  whole = ap (λ (h : Structure). h.whole) (none-head 0);
  deleted = ap (λ (h : Structure). h.deleted) (none-head 0);
  links = omega (arith, ap (λ (h : Structure). h.links) (none-head 0));
}

pub blank-good : good_head (head_of (blank structure_size)) ≡ true
unfolding head_of blank good_head
blank-good = refl
