-- What a structure that is being gathered can be, where the fields of its component come round in order and some of them were not heard.
--
--   Fields xs           fields that a structure has: few enough, rising, none of them all ones
--   Stuck s             one field of all ones: whatever comes begins anew
--   Part s xs due       nothing; such a field; or a run of the structure xs, up to the field before place `due`
--   spoiled-part        what spoils it leaves nothing to be completed; spoiled-whole: what is whole stays
--   Took s xs due       one more field was taken in: a part again, or all of xs
--   part-takes          the field that comes in turn
--   gathered-some       a field that is taken in leaves at least one
--   Stays s ys m t      all of ys is held on, and t is one of its fields
--   member-place        the place of a field that a structure has
--   whole_takes         a field of any structure, where another one is held as whole
--
-- Assumes nothing.
use mathlib.Core.Path.{◌≡◌, refl, sym, ap, ◌∙◌, subst}
use mathlib.Core.Bool.{Bool, true, false, true≢false, cond, ◌&&◌}
use mathlib.Core.List.{List, [], ◌∷◌}
use mathlib.Core.Logic.{◌⊎◌, inl, inr}
use Prim.Native.Nat.{ℕ, zero, suc, ◌+◌, ◌-◌, ◌%◌, ◌^◌, ◌≤◌, ◌<◌}
use native.Mathlib.Omega.{arith}
use native.Mathlib.Decide.{ℕ_discrete}
use borrow.Author.Tests.{eq-eqb, ne_eqb, eqb-true, le-ltb, ltb-true}
use lib.Dec.{leb, ltb, eqb, lit<}
use lib.ListN.{length, get_or, drop}
use lib.Seq.{get_or-drop}
use Rattle.bits.specs.Search.{first}
use Rattle.bits.proofs.Search.{and_left, first_holds, truth, and_no}
use Rattle.field.specs.Field.{key, fln1, fcp, deletes}
use Rattle.structure.specs.Structure.{most, structure_size, all_ones, head_of, with_head, nth, stored, place_of, member, next_place, is_next, goes_on, turn_of, gathering_head, completed_head, marked_head, late_of, turned, gathered, spoiled}
use Rattle.structure.specs.declared.Structure.{Structure}
use Rattle.structure.specs.declared.Turn.{Turn}
use Rattle.structure.specs.declared.Turn.TheVariants.{Begins, Joins, Overflows, Completes, Known}
use Rattle.structure.proofs.Gathering.{Holds, Empty, Alike, head-stored, head-nth, with-head-length, stored-few, alike-empty, alike-holds, beginning-holds, begun, joined, completed, completed-head, kept-alike, kept-head, other-begins, place_is, next-first, next-turn}
use Rattle.structure.proofs.Kept.{spoiled-length, spoiled-none, spoiled-head, spoiled-first}

pub record Fields (xs : List ℕ) : Type 0 where
  pub few : length xs ≤ most
  pub wide : (i : ℕ) → i < length xs → get_or xs i 0 < 2 ^ 62
  pub stays : (i : ℕ) → i < length xs → deletes (get_or xs i 0) ≡ false
  pub rising : (i : ℕ) → suc i < length xs → key (get_or xs i 0) < key (get_or xs (suc i) 0)

pub record Stuck (s : List ℕ) : Type 0 where
  pub size : length s ≡ structure_size
  pub fields : (head_of s).fields ≡ 1
  pub whole : (head_of s).whole ≡ 0
  pub deleted : (head_of s).deleted ≡ 0
  pub links : (head_of s).links ≤ 1
  pub first : nth 0 s ≡ all_ones

pub data Part (s xs : List ℕ) (due : ℕ) : Type 0 where
  empty : Empty s → Part s xs due
  stuck : Stuck s → Part s xs due
  run : (i k l : ℕ) → l ≤ 1 → 0 < k → i + k ≤ length xs → due ≡ i + k → Holds s k (drop i xs) 0 l → Part s xs due

-- which field came last, or of none is it known
abbrev pub Lasts : List ℕ → ℕ → Type 0
Lasts s due = ((head_of s).last ≡ 0) ⊎ ((head_of s).last ≡ due)

-- a field that a structure has
pub data Listed (s : List ℕ) (t : ℕ) : Type 0 where
  placed : (j : ℕ) → j < stored (head_of s) → nth j s ≡ t → Listed s t

pub next-listed : (s : List ℕ) (t : ℕ) → 0 < stored (head_of s) → is_next s t ≡ true → Listed s t
unfolding is_next member place_of next_place
next-listed s t pos e = go (eqb (head_of s).last 0) refl
  where
    is : ℕ → Bool
    is k = eqb (nth k s) t

    by : (b : Bool) → eqb (head_of s).last 0 ≡ b
        → cond b (ltb (first is (stored (head_of s)) 0) (stored (head_of s))) (is (cond (ltb (head_of s).last (stored (head_of s))) (head_of s).last 0)) ≡ true
    by b q =
        ap (λ (x : Bool). cond x (ltb (first is (stored (head_of s)) 0) (stored (head_of s))) (is (cond (ltb (head_of s).last (stored (head_of s))) (head_of s).last 0))) (sym q)
        ∙ e

    within : (b : Bool) → ltb (head_of s).last (stored (head_of s)) ≡ b → is (cond b (head_of s).last 0) ≡ true → Listed s t
    within true q h = placed (head_of s).last (ltb-true (head_of s).last (stored (head_of s)) q) (eqb-true (nth (head_of s).last s) t h)
    within false q h = placed 0 pos (eqb-true (nth 0 s) t h)

    go : (b : Bool) → eqb (head_of s).last 0 ≡ b → Listed s t
    go true q =
        let n : first is (stored (head_of s)) 0 < stored (head_of s) = ltb-true (first is (stored (head_of s)) 0) (stored (head_of s)) (by true q) in
        placed (first is (stored (head_of s)) 0) n (eqb-true _ t (truth _ (first_holds is (stored (head_of s)) 0 (omega (arith, n)))))
    go false q =
        within (ltb (head_of s).last (stored (head_of s))) refl (by false q)

-- ---- keys of a structure

module _ (xs : List ℕ) (f : Fields xs) where
  rises_by : (i d : ℕ) → i + suc d < length xs → key (get_or xs i 0) < key (get_or xs (i + suc d) 0)
  rises_by i zero h = subst (λ (j : ℕ). key (get_or xs i 0) < key (get_or xs j 0)) (one_on i) (f.rising i (omega arith))
    where
      one_on : (j : ℕ) → suc j ≡ j + 1
      one_on j = omega arith
  rises_by i (suc d) h =
      let before = rises_by i d (omega arith) in
      let step = f.rising (i + suc d) (omega arith) in
      let e : suc (i + suc d) ≡ i + suc (suc d) = omega arith in
      omega (arith, before, step, ap (λ (j : ℕ). key (get_or xs j 0)) e)

  pub rises-to : (i j : ℕ) → i < j → j < length xs → key (get_or xs i 0) < key (get_or xs j 0)
  rises-to i j h l =
      let e : i + suc (j - i - 1) ≡ j = omega arith in
      subst (λ (n : ℕ). key (get_or xs i 0) < key (get_or xs n 0)) e (rises_by i (j - i - 1) (omega arith))

  -- so no two of its fields are the same
  pub apart : (i j : ℕ) → i < j → j < length xs → get_or xs i 0 ≡ get_or xs j 0 → ⊥
  apart i j h l e = omega (arith, rises-to i j h l, ap key e)

-- no key is above that of all ones
ones-key : (t : ℕ) → ltb (key all_ones) (key t) ≡ false
unfolding key fln1 fcp
ones-key t = le-ltb (key all_ones) (key t) (most-key t)
  where
    most-key : (n : ℕ) → key n ≤ key all_ones
    most-key n = omega arith

-- ---- begun anew

-- whatever was there
anew : (s : List ℕ) (t l : ℕ) → turn_of s t l ≡ Begins → gathered s t l ≡ turned Begins s t l
unfolding gathered
anew s t l e = ap (λ (u : Turn). turned u s t l) e

begun-anew : (s : List ℕ) (t l : ℕ) (xs : List ℕ) → t < 2 ^ 64 → t ≡ get_or xs 0 0 → Holds (turned Begins s t l) 1 xs 0 l
unfolding turned
begun-anew s t l xs small is = beginning-holds (late_of (head_of s)) 1 t l xs small is

turn-begins : (s : List ℕ) (t l : ℕ) → (head_of s).whole ≡ 0 → goes_on s t l ≡ false → eqb (nth 0 s) t ≡ false → turn_of s t l ≡ Begins
unfolding turn_of
turn-begins s t l w g n =
    (λ i. cond (eqb (w i) 1) (cond (is_next s t) Known Begins)
    (cond (g i) (cond (ltb (head_of s).fields most) Joins Overflows)
    (cond (ltb 0 (head_of s).fields && (leb (head_of s).fields most && n i)) Completes Begins)))
    ∙ none (ltb 0 (head_of s).fields) (leb (head_of s).fields most)
  where
    none : (a b : Bool) → cond (a && (b && false)) Completes Begins ≡ Begins
    none true true = refl
    none true false = refl
    none false b = refl

-- where nothing is known to be whole, a field that is taken in leaves at least one
pub gathered-some : (s : List ℕ) (t l : ℕ) → length s ≡ structure_size → (head_of s).whole ≡ 0 → t < 2 ^ 64 → 0 < (head_of (gathered s t l)).fields
unfolding gathered turned turn_of gathering_head completed_head
gathered-some s t l ls w small =
    subst (λ (u : Turn). 0 < (head_of (turned u s t l)).fields)
    (sym (λ i. cond (eqb (w i) 1) (cond (is_next s t) Known Begins) (cond (goes_on s t l) (cond (ltb n most) Joins Overflows)
    (cond (ltb 0 n && (leb n most && eqb (nth 0 s) t)) Completes Begins))))
    (go (goes_on s t l) (ltb n most) (ltb 0 n && (leb n most && eqb (nth 0 s) t)) refl refl)
  where
    n : ℕ
    n = (head_of s).fields

    go : (g r f : Bool) → ltb n most ≡ r → (ltb 0 n && (leb n most && eqb (nth 0 s) t)) ≡ f
        → 0 < (head_of (turned (cond g (cond r Joins Overflows) (cond f Completes Begins)) s t l)).fields
    go true true f er ef =
        let k : Structure = gathering_head (n + 1) l (head_of s) in
        let h = head-nth (with_head k s) (with-head-length s ls k) n t (ltb-true n most er) ∙ head-stored s ls k in
        omega (arith, ap (λ (x : Structure). x.fields) h)
    go true false f er ef =
        omega (arith, ap (λ (x : Structure). x.fields) (head-stored s ls (gathering_head (most + 1) l (head_of s))))
    go false r true er ef =
        omega (arith, ap (λ (x : Structure). x.fields) (head-stored s ls (completed_head l (head_of s))), ltb-true 0 n (and_left (ltb 0 n) _ ef))
    go false r false er ef = omega (arith, (begun-anew s t l (t ∷ []) small refl).fields)

pub gathered-whole : (s : List ℕ) (t l : ℕ) → length s ≡ structure_size → (head_of s).whole ≡ 1 → 0 < (head_of s).fields → t < 2 ^ 64 → 0 < (head_of (gathered s t l)).fields
gathered-whole s t l ls w pos small = go (is_next s t) refl
  where
    go : (b : Bool) → is_next s t ≡ b → 0 < (head_of (gathered s t l)).fields
    go true e = omega (arith, pos, (kept-alike s t l w ls e).fields)
    go false e =
        subst (λ (x : List ℕ). 0 < (head_of x).fields) (sym (anew s t l (other-begins s t l w e)))
        (omega (arith, (begun-anew s t l (t ∷ []) small refl).fields))

-- ---- spoiled

pub spoils : (s : List ℕ) → length s ≡ structure_size → (head_of s).whole ≡ 0 → 0 < (head_of s).fields → Stuck (spoiled s)
spoils s ls w p =
    let h = spoiled-head s ls w p in
    record {
      size = spoiled-length s ls;
      fields = ap (λ (x : Structure). x.fields) h;
      whole = ap (λ (x : Structure). x.whole) h;
      deleted = ap (λ (x : Structure). x.deleted) h;
      links = omega (arith, ap (λ (x : Structure). x.links) h);
      first = spoiled-first s ls w p;
    }

pub spoiled-empty : (s : List ℕ) → Empty s → Empty (spoiled s)
spoiled-empty s e = alike-empty s (spoiled s) (spoiled-none s e.size (λ i. eqb (e.whole i) 0 && ltb 0 (e.fields i))) e

pub spoiled-part : (s xs ys : List ℕ) (due next : ℕ) → Part s xs due → Part (spoiled s) ys next
spoiled-part s xs ys due next (empty e) = empty (spoiled-empty s e)
spoiled-part s xs ys due next (stuck k) = stuck (spoils s k.size k.whole (omega (arith, k.fields)))
spoiled-part s xs ys due next (run i k l hl p q d h) = stuck (spoils s h.size h.whole (omega (arith, h.fields, p)))

pub spoiled-whole : (s : List ℕ) → length s ≡ structure_size → (head_of s).whole ≡ 1 → Alike s (spoiled s)
spoiled-whole s ls w = spoiled-none s ls (λ i. eqb (w i) 0 && ltb 0 (head_of s).fields)

-- ---- one more field

pub data Took (s xs : List ℕ) (due l : ℕ) : Type 0 where
  partly : (i k : ℕ) → 0 < k → i + k ≤ length xs → due ≡ i + k → Holds s k (drop i xs) 0 l → Took s xs due l
  wholly : Holds s (length xs) xs 1 l → Lasts s due → Took s xs due l

pub record Stays (s ys : List ℕ) (m t : ℕ) : Type 0 where
  pub holds : Holds s (length ys) ys 1 m
  pub place : ℕ
  pub within : place < length ys
  pub listed : get_or ys place 0 ≡ t

stored-most : (h : Structure) → stored h ≤ h.fields
unfolding stored
stored-most h = go (ltb most h.fields) refl
  where
    go : (b : Bool) → ltb most h.fields ≡ b → cond b most h.fields ≤ h.fields
    go true e = omega (arith, ltb-true most h.fields e)
    go false e = omega arith

stored-pos : (h : Structure) → 0 < h.fields → 0 < stored h
unfolding stored
stored-pos h p = go (ltb most h.fields)
  where
    go : (b : Bool) → 0 < cond b most h.fields
    go true = lit< tt
    go false = p

-- a field in turn is one of them
next-stays : (s ys : List ℕ) (m t l : ℕ) → 0 < length ys → Holds s (length ys) ys 1 m → is_next s t ≡ true → Stays (gathered s t l) ys m t
next-stays s ys m t l pos h e = go (next-listed s t (stored-pos (head_of s) (omega (arith, pos, h.fields))) e)
  where
    go : Listed s t → Stays (gathered s t l) ys m t
    go (placed j hj is) =
        let at : j < length ys = omega (arith, hj, stored-most (head_of s), h.fields) in
        record {
          holds = alike-holds s (gathered s t l) (length ys) ys 1 m (kept-alike s t l h.whole h.size e) h;
          place = j;
          within = at;
          listed = sym (h.each j at) ∙ is;
        }

module _ (xs : List ℕ) (f : Fields xs) (i : ℕ) (hi : i < length xs) (l : ℕ) (hl : l ≤ 1) where
  abbrev t : ℕ
  t = get_or xs i 0

  small : t < 2 ^ 64
  small = omega (arith, f.wide i hi)

  first_of : (j : ℕ) → get_or (drop j xs) 0 0 ≡ get_or xs j 0
  first_of j = get_or-drop j xs 0 0 ∙ ap (λ (n : ℕ). get_or xs n 0) (plus j)
    where
      plus : (n : ℕ) → n + 0 ≡ n
      plus n = omega arith

  -- begun anew with it
  pub begins-run : (s : List ℕ) → turn_of s t l ≡ Begins → Took (gathered s t l) xs (suc i) l
  begins-run s e =
      subst (λ (x : List ℕ). Took x xs (suc i) l) (sym (anew s t l e))
      (partly i 1 (lit< tt) (omega arith) (one_on i) (begun-anew s t l (drop i xs) small (sym (first_of i))))
    where
      one_on : (n : ℕ) → suc n ≡ n + 1
      one_on n = omega arith

  -- where nothing was there
  pub open-takes : (s : List ℕ) → (head_of s).fields ≡ 0 → (head_of s).whole ≡ 0 → Took (gathered s t l) xs (suc i) l
  open-takes s f w =
      partly i 1 (lit< tt) (omega arith) (one_on i) (begun s f w t l (drop i xs) small (sym (first_of i)))
    where
      one_on : (n : ℕ) → suc n ≡ n + 1
      one_on n = omega arith

  empty-takes : (s : List ℕ) → Empty s → Took (gathered s t l) xs (suc i) l
  empty-takes s e = open-takes s e.fields e.whole

  and-left-no : (a b c : Bool) → b ≡ false → (a && (b && c)) ≡ false
  and-left-no true b c h = ap (λ (x : Bool). x && c) h
  and-left-no false b c h = refl

  not-ones : all_ones ≡ t → ⊥
  unfolding deletes
  not-ones e = true≢false (ap (λ (x : ℕ). eqb (x % 2 ^ 40) (2 ^ 40 - 1)) e ∙ f.stays i hi)

  stuck-takes : (s : List ℕ) → Stuck s → Took (gathered s t l) xs (suc i) l
  unfolding goes_on
  stuck-takes s k =
      let last : nth (stored (head_of s) - 1) s ≡ all_ones = ap (λ (n : ℕ). nth (n - 1) s) (stored-few (head_of s) 1 k.fields (omega arith)) ∙ k.first in
      begins-run s (turn-begins s t l k.whole
      (and_no (ltb 0 (head_of s).fields) (and_no (eqb (head_of s).links l) (ap (λ (x : ℕ). ltb (key x) (key t)) last ∙ ones-key t)))
      (ap (λ (x : ℕ). eqb x t) k.first ∙ ne_eqb all_ones t not-ones))

  -- a run of places j to j + k - 1
  module _ (s : List ℕ) (j k m : ℕ) (hm : m ≤ 1) (pos : 0 < k) (fits : j + k ≤ length xs) (h : Holds s k (drop j xs) 0 m) where
    few : k ≤ most
    few = omega (arith, f.few, fits)

    at : (n : ℕ) → n < k → nth n s ≡ get_or xs (j + n) 0
    at n hn = h.each n hn ∙ get_or-drop j xs n 0

    first-place : nth 0 s ≡ get_or xs j 0
    first-place = h.each 0 pos ∙ first_of j

    last-place : nth (stored (head_of s) - 1) s ≡ get_or xs (j + k - 1) 0
    last-place =
        ap (λ (n : ℕ). nth (n - 1) s) (stored-few (head_of s) k h.fields few) ∙ at (k - 1) (omega arith)
        ∙ ap (λ (n : ℕ). get_or xs n 0) (minus j k pos)
      where
        minus : (a b : ℕ) → 0 < b → a + (b - 1) ≡ a + b - 1
        minus a b p = omega arith

    -- the next in its repetition
    goes_on_lem : i ≡ j + k → Took (gathered s t l) xs (suc i) l
    unfolding goes_on
    goes_on_lem e = go (ℕ_discrete m l)
      where
        go : Dec (m ≡ l) → Took (gathered s t l) xs (suc i) l
        go (yes q) =
            let is : t ≡ get_or (drop j xs) k 0 = ap (λ (n : ℕ). get_or xs n 0) e ∙ sym (get_or-drop j xs k 0) in
            let before : get_or (drop j xs) (k - 1) 0 ≡ get_or xs (j + (k - 1)) 0 = get_or-drop j xs (k - 1) 0 in
            let up = rises-to xs f (j + (k - 1)) i (omega (arith, e)) hi in
            partly j (k + 1) (omega arith) (omega (arith, e)) (next j k e)
            (joined s (drop j xs) k t l (subst (λ (n : ℕ). Holds s k (drop j xs) 0 n) q h) pos (omega (arith, f.few, fits, e, hi)) small is
            (omega (arith, up, ap key before)))
          where
            next : (a b : ℕ) → i ≡ a + b → suc i ≡ a + (b + 1)
            next a b p = omega (arith, p)
        go (no q) =
            begins-run s (turn-begins s t l h.whole
            (and-left-no (ltb 0 (head_of s).fields) _ _ (ne_eqb (head_of s).links l (λ z. q (sym h.links ∙ z))))
            (ap (λ (x : ℕ). eqb x t) first-place ∙ ne_eqb (get_or xs j 0) t (apart xs f j i (omega (arith, e, pos)) hi)))

    -- a repetition ends, and the next begins
    comes-round : i ≡ 0 → j + k ≡ length xs → Took (gathered s t l) xs (suc i) l
    unfolding goes_on completed_head
    comes-round z e = go (ℕ_discrete j 0)
      where
        falls : key t ≤ key (get_or xs (j + k - 1) 0)
        falls = down (ℕ_discrete (j + k - 1) 0)
          where
            down : Dec (j + k - 1 ≡ 0) → key t ≤ key (get_or xs (j + k - 1) 0)
            down (yes q) = omega (arith, ap (λ (n : ℕ). key (get_or xs n 0)) (z ∙ sym q))
            down (no q) = omega (arith, rises-to xs f i (j + k - 1) (omega (arith, z, q)) (omega (arith, e, pos)))

        go : Dec (j ≡ 0) → Took (gathered s t l) xs (suc i) l
        go (yes q) =
            let all : k ≡ length xs = omega (arith, e, q) in
            let is : t ≡ get_or (drop j xs) 0 0 = ap (λ (n : ℕ). get_or xs n 0) (z ∙ sym q) ∙ sym (first_of j) in
            let last : get_or (drop j xs) (k - 1) 0 ≡ get_or xs (j + k - 1) 0 = get_or-drop j xs (k - 1) 0 ∙ ap (λ (n : ℕ). get_or xs n 0) (minus j k pos) in
            let c = completed s (drop j xs) k t l m h pos few is (omega (arith, falls, ap key last)) in
            wholly
            (subst (λ (n : ℕ). Holds (gathered s t l) n xs 1 l) all
            (subst (λ (n : ℕ). Holds (gathered s t l) k (drop n xs) 1 l) q c))
            (inr (first-last (completed-head s (drop j xs) k t l m h pos few is (omega (arith, falls, ap key last)))))
          where
            first-last : head_of (gathered s t l) ≡ completed_head l (head_of s) → (head_of (gathered s t l)).last ≡ suc i
            first-last e = ap (λ (x : Structure). x.last) e ∙ ap suc (sym z)

            minus : (a b : ℕ) → 0 < b → a + (b - 1) ≡ a + b - 1
            minus a b p = omega arith
        go (no q) =
            begins-run s (turn-begins s t l h.whole
            (and_no (ltb 0 (head_of s).fields) (and_no (eqb (head_of s).links l) (ap (λ (x : ℕ). ltb (key x) (key t)) last-place ∙ le-ltb _ (key t) falls)))
            (ap (λ (x : ℕ). eqb x t) first-place
            ∙ ne_eqb (get_or xs j 0) t (λ p. apart xs f i j (omega (arith, z, q)) (omega (arith, e, pos)) (sym p))))

  -- the field that comes in turn: behind place `due`, where one was carried before
  pub part-takes : (s : List ℕ) (due : ℕ) → ((k : ℕ) → due ≡ suc k → i ≡ cond (eqb (suc k) (length xs)) 0 (suc k)) → Part s xs due → Took (gathered s t l) xs (suc i) l
  part-takes s due turn (empty e) = empty-takes s e
  part-takes s due turn (stuck k) = stuck-takes s k
  part-takes s due turn (run j k m hm pos fits d h) =
      let e : suc (j + k - 1) ≡ j + k = omega (arith, pos) in
      go (ℕ_discrete (j + k) (length xs)) (turn (j + k - 1) (d ∙ sym e) ∙ ap (λ (n : ℕ). cond (eqb n (length xs)) 0 n) e)
    where
      go : Dec (j + k ≡ length xs) → i ≡ cond (eqb (j + k) (length xs)) 0 (j + k) → Took (gathered s t l) xs (suc i) l
      go (yes q) at = comes-round s j k m hm pos fits h (at ∙ ap (λ (b : Bool). cond b 0 (j + k)) (eq-eqb (j + k) (length xs) q)) q
      go (no q) at = goes_on_lem s j k m hm pos fits h (at ∙ ap (λ (b : Bool). cond b 0 (j + k)) (ne_eqb (j + k) (length xs) q))

  -- where a structure is held as whole: it lists the field, which comes in turn, and is held on; or this is begun anew
  pub whole_takes : (s ys : List ℕ) (m : ℕ) → 0 < length ys → Holds s (length ys) ys 1 m → Stays (gathered s t l) ys m t ⊎ Took (gathered s t l) xs (suc i) l
  whole_takes s ys m pos h = go (is_next s t) refl
    where
      go : (b : Bool) → is_next s t ≡ b → Stays (gathered s t l) ys m t ⊎ Took (gathered s t l) xs (suc i) l
      go true e = inl (next-stays s ys m t l pos h e)
      go false e = inr (begins-run s (other-begins s t l h.whole e))

  -- where the structure itself is held as whole, and it is known which of its fields came last, or of none
  pub whole-next : (s : List ℕ) (due m : ℕ) → Holds s (length xs) xs 1 m → Lasts s due
      → ((k : ℕ) → due ≡ suc k → i ≡ cond (eqb (suc k) (length xs)) 0 (suc k))
      → Holds (gathered s t l) (length xs) xs 1 m × ((head_of (gathered s t l)).last ≡ suc i)
  unfolding marked_head
  whole-next s due m h last turn =
      let next = in-turn last in (
        alike-holds s (gathered s t l) (length xs) xs 1 m (kept-alike s t l h.whole h.size next) h,
        ap (λ (x : Structure). x.last) (kept-head s t l h.whole h.size next) ∙ ap (λ (n : ℕ). n + 1) place ∙ one_on i,
      )
    where
      one_on : (n : ℕ) → n + 1 ≡ suc n
      one_on n = omega arith

      place : place_of s t ≡ i
      place = place_is s xs (length xs) m i t h f.few hi refl (λ j hj. apart xs f j i hj hi)

      behind : (d : ℕ) → (head_of s).last ≡ d → ((k : ℕ) → d ≡ suc k → i ≡ cond (eqb (suc k) (length xs)) 0 (suc k)) → is_next s t ≡ true
      behind zero e turn = next-first s xs (length xs) m i t h f.few hi refl (λ j hj. apart xs f j i hj hi) e
      behind (suc k) e turn =
          next-turn s xs (length xs) m i t h f.few hi refl (λ j hj. apart xs f j i hj hi) k e (turn k refl) (within k (turn k refl) (ℕ_discrete (suc k) (length xs)))
        where
          within : (k : ℕ) → i ≡ cond (eqb (suc k) (length xs)) 0 (suc k) → Dec (suc k ≡ length xs) → suc k ≤ length xs
          within k e (yes q) = omega (arith, q)
          within k e (no q) = omega (arith, hi, e ∙ ap (λ (b : Bool). cond b 0 (suc k)) (ne_eqb (suc k) (length xs) q))

      in-turn : Lasts s due → is_next s t ≡ true
      in-turn (inl z) = next-first s xs (length xs) m i t h f.few hi refl (λ j hj. apart xs f j i hj hi) z
      in-turn (inr e) = behind due e turn
