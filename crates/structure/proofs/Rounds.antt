-- How a structure is found again, whatever was held before: by the beginnings of its repetitions.
--
--   first-joins, first-completes     a run from the first field on, of which nothing was missed
--   Wrong s xs due      another structure is held as whole, and the fields that came since a beginning agree with it
--   wrong-begins        at the first beginning
--   wrong-goes, wrong-ends      the next field of the repetition; the next beginning
--
-- Assumes nothing.
use mathlib.Core.Path.{◌≡◌, refl, sym, ap, ◌∙◌, subst}
use mathlib.Core.Bool.{Bool, true, false, cond}
use mathlib.Core.List.{List}
use mathlib.Core.Logic.{◌⊎◌, inl, inr}
use Prim.Native.Nat.{ℕ, suc, ◌+◌, ◌-◌, ◌^◌, ◌≤◌, ◌<◌}
use native.Mathlib.Omega.{arith}
use native.Mathlib.Decide.{dec_lt, ℕ_discrete}
use borrow.Author.Tests.{eq-eqb, ne_eqb, lt-ltb, le-ltb, eqb-true}
use lib.Dec.{eqb}
use lib.ListN.{length, get_or}
use Rattle.field.specs.Field.{key}
use Rattle.structure.specs.Structure.{most, head_of, nth, stored, member, next_place, is_next, gathering_head, completed_head, marked_head, gathered}
use Rattle.structure.specs.declared.Structure.{Structure}
use Rattle.structure.proofs.Gathering.{Holds, alike-holds, stored-few, joined, joined-head, completed, completed-head, kept-alike, kept-head, other-begins, place_is}
use Rattle.structure.proofs.Runs.{Fields, Took, rises-to, apart, begins-run}

module _ (xs : List ℕ) (f : Fields xs) (i : ℕ) (hi : i < length xs) (l : ℕ) where
  abbrev t : ℕ
  t = get_or xs i 0

  small : t < 2 ^ 64
  small = omega (arith, f.wide i hi)

  -- ---- a run from the first field on

  module _ (s : List ℕ) (c m : ℕ) (pos : 0 < c) (h : Holds s c xs 0 m) where
    module _ (z : i ≡ c) (same : l ≡ m) where
      up : key (get_or xs (c - 1) 0) < key t
      up = rises-to xs f (c - 1) i (omega (arith, z, pos)) hi

      h' : Holds s c xs 0 l
      h' = subst (λ (x : ℕ). Holds s c xs 0 x) (sym same) h

      room : c < most
      room = omega (arith, f.few, hi, z)

      one_on : (a b : ℕ) → a ≡ b → b + 1 ≡ suc a
      one_on a b e = omega (arith, e)

      pub first-joins : Holds (gathered s t l) (suc i) xs 0 l
      first-joins =
          subst (λ (x : ℕ). Holds (gathered s t l) x xs 0 l) (one_on i c z)
          (joined s xs c t l h' pos room small (ap (λ (j : ℕ). get_or xs j 0) z) up)

      pub joins-late : (head_of (gathered s t l)).late ≡ (head_of s).late
      unfolding gathering_head
      joins-late = ap (λ (x : Structure). x.late) (joined-head s xs c t l h' pos room small (ap (λ (j : ℕ). get_or xs j 0) z) up)

    module _ (q : c ≡ length xs) (z : i ≡ 0) where
      falls : Dec (c - 1 ≡ 0) → key t ≤ key (get_or xs (c - 1) 0)
      falls (yes r) = omega (arith, ap (λ (j : ℕ). key (get_or xs j 0)) (z ∙ sym r))
      falls (no r) = omega (arith, rises-to xs f i (c - 1) (omega (arith, z, r)) (omega (arith, q, pos)))

      fits : c ≤ most
      fits = omega (arith, f.few, q)

      pub first-completes : Holds (gathered s t l) (length xs) xs 1 l
      first-completes =
          subst (λ (x : ℕ). Holds (gathered s t l) x xs 1 l) q
          (completed s xs c t l m h pos fits (ap (λ (j : ℕ). get_or xs j 0) z) (falls (ℕ_discrete (c - 1) 0)))

      pub completes-last : (head_of (gathered s t l)).last ≡ suc i
      unfolding completed_head
      completes-last =
          ap (λ (x : Structure). x.last) (completed-head s xs c t l m h pos fits (ap (λ (j : ℕ). get_or xs j 0) z) (falls (ℕ_discrete (c - 1) 0)))
          ∙ ap suc (sym z)

-- ---- another structure is held as whole

pub record Wrong (s xs : List ℕ) (due : ℕ) : Type 0 where
  pub ys : List ℕ
  pub links : ℕ
  pub bit : links ≤ 1
  pub fields : Fields ys
  pub holds : Holds s (length ys) ys 1 links
  pub from : ℕ
  pub room : from + due ≤ length ys
  pub last : (head_of s).last ≡ from + due
  pub agree : (k : ℕ) → k < due → get_or ys (from + k) 0 ≡ get_or xs k 0

-- ys held as whole: a field of it that comes in turn has its place
module _ (s ys : List ℕ) (m : ℕ) (g : Fields ys) (h : Holds s (length ys) ys 1 m) where
  last-place : (p t l : ℕ) → p < length ys → t ≡ get_or ys p 0 → is_next s t ≡ true → (head_of (gathered s t l)).last ≡ suc p
  unfolding marked_head
  last-place p t l hp is next =
      ap (λ (x : Structure). x.last) (kept-head s t l h.whole h.size next)
      ∙ ap (λ (n : ℕ). n + 1) (place_is s ys (length ys) m p t h g.few hp is (λ j hj. apart ys g j p hj hp)) ∙ one_on p
    where
      one_on : (n : ℕ) → n + 1 ≡ suc n
      one_on n = omega arith

  held_on : (t l : ℕ) → is_next s t ≡ true → Holds (gathered s t l) (length ys) ys 1 m
  held_on t l next = alike-holds s (gathered s t l) (length ys) ys 1 m (kept-alike s t l h.whole h.size next) h

  -- which field comes next, where one came last
  next-at : (d : ℕ) → (head_of s).last ≡ suc d → suc d < length ys → (t : ℕ) → is_next s t ≡ eqb (get_or ys (suc d) 0) t
  unfolding is_next next_place
  next-at d e less t =
      ap (λ (b : Bool). cond b (member s t) (eqb (nth (next_place (head_of s)) s) t)) (ne_eqb (head_of s).last 0 (λ z. omega (arith, e, z)))
      ∙ ap (λ (n : ℕ). eqb (nth n s) t)
      (ap (λ (b : Bool). cond b (head_of s).last 0) (lt-ltb (head_of s).last (stored (head_of s)) (omega (arith, e, less, count))) ∙ e)
      ∙ ap (λ (n : ℕ). eqb n t) (h.each (suc d) less)
    where
      count : stored (head_of s) ≡ length ys
      count = stored-few (head_of s) (length ys) h.fields g.few

  next-round : (d : ℕ) → (head_of s).last ≡ suc d → suc d ≡ length ys → (t : ℕ) → is_next s t ≡ eqb (get_or ys 0 0) t
  unfolding is_next next_place
  next-round d e all t =
      ap (λ (b : Bool). cond b (member s t) (eqb (nth (next_place (head_of s)) s) t)) (ne_eqb (head_of s).last 0 (λ z. omega (arith, e, z)))
      ∙ ap (λ (n : ℕ). eqb (nth n s) t)
      (ap (λ (b : Bool). cond b (head_of s).last 0) (le-ltb (head_of s).last (stored (head_of s)) (omega (arith, e, all, count))))
      ∙ ap (λ (n : ℕ). eqb n t) (h.each 0 (omega (arith, all)))
    where
      count : stored (head_of s) ≡ length ys
      count = stored-few (head_of s) (length ys) h.fields g.few

module _ (xs : List ℕ) (f : Fields xs) (i : ℕ) (hi : i < length xs) (l : ℕ) (hl : l ≤ 1) where
  -- at the first beginning: the list agrees so far, or it is begun anew
  pub wrong-begins : (s ys : List ℕ) (m p : ℕ) → m ≤ 1 → Fields ys → Holds s (length ys) ys 1 m → i ≡ 0 → p < length ys → get_or ys p 0 ≡ get_or xs i 0
      → is_next s (get_or xs i 0) ≡ true → Wrong (gathered s (get_or xs i 0) l) xs (suc i)
  wrong-begins s ys m p hm g h z hp is next = record {
    ys = ys;
    links = m;
    bit = hm;
    fields = g;
    holds = held_on s ys m g h (get_or xs i 0) l next;
    from = p;
    room = omega (arith, hp, z);
    last = last-place s ys m g h p (get_or xs i 0) l hp (sym is) next ∙ plus p i z;
    agree = λ k hk.
        let k0 : k ≡ 0 = omega (arith, hk, z) in
        ap (λ (n : ℕ). get_or ys (p + n) 0) k0 ∙ ap (λ (n : ℕ). get_or ys n 0) (none p) ∙ is ∙ ap (λ (n : ℕ). get_or xs n 0) (z ∙ sym k0);
  }
    where
      plus : (a b : ℕ) → b ≡ 0 → suc a ≡ a + suc b
      plus a b e = omega (arith, e)

      none : (a : ℕ) → a + 0 ≡ a
      none a = omega arith

  module _ (s : List ℕ) (due : ℕ) (pos : 0 < due) (w : Wrong s xs due) where
    abbrev ys : List ℕ
    ys = w.ys

    abbrev p : ℕ
    p = w.from

    last-is : (head_of s).last ≡ suc (p + due - 1)
    last-is = w.last ∙ minus (p + due) (omega (arith, pos))
      where
        minus : (n : ℕ) → 0 < n → n ≡ suc (n - 1)
        minus n h = omega arith

    minus_one : suc (p + due - 1) ≡ p + due
    minus_one = omega (arith, pos)

    anew : is_next s (get_or xs i 0) ≡ false → Took (gathered s (get_or xs i 0) l) xs (suc i) l
    anew e = begins-run xs f i hi l hl s (other-begins s (get_or xs i 0) l w.holds.whole e)

    first-is : get_or ys p 0 ≡ get_or xs 0 0
    first-is = ap (λ (n : ℕ). get_or ys n 0) (sym (none p)) ∙ w.agree 0 pos
      where
        none : (n : ℕ) → n + 0 ≡ n
        none n = omega arith

    -- the next field of the repetition: the list agrees still, or it is begun anew
    pub wrong-goes : i ≡ due → Wrong (gathered s (get_or xs i 0) l) xs (suc i) ⊎ Took (gathered s (get_or xs i 0) l) xs (suc i) l
    wrong-goes z = go (dec_lt (p + due) (length ys))
      where
        agrees : p + due < length ys → get_or ys (p + due) 0 ≡ get_or xs i 0 → is_next s (get_or xs i 0) ≡ true → Wrong (gathered s (get_or xs i 0) l) xs (suc i)
        agrees less is next = record {
          ys = ys;
          links = w.links;
          bit = w.bit;
          fields = w.fields;
          holds = held_on s ys w.links w.fields w.holds (get_or xs i 0) l next;
          from = p;
          room = omega (arith, less, z);
          last = last-place s ys w.links w.fields w.holds (p + due) (get_or xs i 0) l less (sym is) next ∙ plus p due i z;
          agree = λ k hk. more k hk (dec_lt k due);
        }
          where
            plus : (a b c : ℕ) → c ≡ b → suc (a + b) ≡ a + suc c
            plus a b c e = omega (arith, e)

            more : (k : ℕ) → k < suc i → Dec (k < due) → get_or ys (p + k) 0 ≡ get_or xs k 0
            more k hk (yes q) = w.agree k q
            more k hk (no q) =
                let e : k ≡ due = omega (arith, hk, q, z) in
                ap (λ (n : ℕ). get_or ys (p + n) 0) e ∙ is ∙ ap (λ (n : ℕ). get_or xs n 0) (z ∙ sym e)

        at : p + due < length ys → (b : Bool) → eqb (get_or ys (p + due) 0) (get_or xs i 0) ≡ b
            → Wrong (gathered s (get_or xs i 0) l) xs (suc i) ⊎ Took (gathered s (get_or xs i 0) l) xs (suc i) l
        at less true e = inl (agrees less (eqb-true (get_or ys (p + due) 0) (get_or xs i 0) e) (by less ∙ e))
          where
            by : p + due < length ys → is_next s (get_or xs i 0) ≡ eqb (get_or ys (p + due) 0) (get_or xs i 0)
            by less =
                next-at s ys w.links w.fields w.holds (p + due - 1) last-is (omega (arith, less, minus_one)) (get_or xs i 0)
                ∙ ap (λ (n : ℕ). eqb (get_or ys n 0) (get_or xs i 0)) minus_one
        at less false e = inr (anew (by less ∙ e))
          where
            by : p + due < length ys → is_next s (get_or xs i 0) ≡ eqb (get_or ys (p + due) 0) (get_or xs i 0)
            by less =
                next-at s ys w.links w.fields w.holds (p + due - 1) last-is (omega (arith, less, minus_one)) (get_or xs i 0)
                ∙ ap (λ (n : ℕ). eqb (get_or ys n 0) (get_or xs i 0)) minus_one

        -- behind the last field comes the first, which is not above the one that the repetition began with
        low : Dec (p ≡ 0) → key (get_or ys 0 0) ≤ key (get_or xs 0 0)
        low (yes q) = omega (arith, ap (λ (n : ℕ). key (get_or ys n 0)) q, ap key first-is)
        low (no q) = omega (arith, rises-to ys w.fields 0 p (omega (arith, q)) (omega (arith, w.room, pos)), ap key first-is)

        go : Dec (p + due < length ys) → Wrong (gathered s (get_or xs i 0) l) xs (suc i) ⊎ Took (gathered s (get_or xs i 0) l) xs (suc i) l
        go (yes less) = at less (eqb (get_or ys (p + due) 0) (get_or xs i 0)) refl
        go (no more) =
            let full : suc (p + due - 1) ≡ length ys = omega (arith, more, w.room, minus_one) in
            let up = rises-to xs f 0 i (omega (arith, pos, z)) hi in
            inr (anew (next-round s ys w.links w.fields w.holds (p + due - 1) last-is full (get_or xs i 0)
            ∙ ne_eqb (get_or ys 0 0) (get_or xs i 0) (λ e. omega (arith, up, low (ℕ_discrete p 0), ap key e))))

    -- the next beginning: it was this structure all along, or it is begun anew
    pub wrong-ends : due ≡ length xs → i ≡ 0
        → (Holds (gathered s (get_or xs i 0) l) (length xs) xs 1 w.links × ((head_of (gathered s (get_or xs i 0) l)).last ≡ suc i))
        ⊎ Took (gathered s (get_or xs i 0) l) xs (suc i) l
    wrong-ends all z = go (dec_lt (p + due) (length ys)) (ℕ_discrete p 0)
      where
        is-first : get_or xs i 0 ≡ get_or ys p 0
        is-first = ap (λ (n : ℕ). get_or xs n 0) z ∙ sym first-is

        go : Dec (p + due < length ys) → Dec (p ≡ 0)
            → (Holds (gathered s (get_or xs i 0) l) (length xs) xs 1 w.links × ((head_of (gathered s (get_or xs i 0) l)).last ≡ suc i))
            ⊎ Took (gathered s (get_or xs i 0) l) xs (suc i) l
        go (yes less) q =
            inr (anew (next-at s ys w.links w.fields w.holds (p + due - 1) last-is (omega (arith, less, minus_one)) (get_or xs i 0)
            ∙ ap (λ (n : ℕ). eqb (get_or ys n 0) (get_or xs i 0)) minus_one
            ∙ ne_eqb (get_or ys (p + due) 0) (get_or xs i 0) (λ e. apart ys w.fields p (p + due) (omega (arith, pos)) less (sym (e ∙ is-first)))))
        go (no more) (no q) =
            let full : suc (p + due - 1) ≡ length ys = omega (arith, more, w.room, minus_one) in
            inr (anew (next-round s ys w.links w.fields w.holds (p + due - 1) last-is full (get_or xs i 0)
            ∙ ne_eqb (get_or ys 0 0) (get_or xs i 0) (λ e. apart ys w.fields 0 p (omega (arith, q)) (omega (arith, w.room, pos)) (e ∙ is-first))))
        go (no more) (yes q) =
            let full : suc (p + due - 1) ≡ length ys = omega (arith, more, w.room, minus_one) in
            let same : length ys ≡ length xs = omega (arith, full, minus_one, q, all) in
            let next = next-round s ys w.links w.fields w.holds (p + due - 1) last-is full (get_or xs i 0)
            ∙ eq-eqb (get_or ys 0 0) (get_or xs i 0) (ap (λ (n : ℕ). get_or ys n 0) (sym q) ∙ sym is-first) in
            inl (
              as-this same (held_on s ys w.links w.fields w.holds (get_or xs i 0) l next),
              last-place s ys w.links w.fields w.holds 0 (get_or xs i 0) l (omega (arith, same, hi)) (is-first ∙ ap (λ (n : ℕ). get_or ys n 0) q) next ∙ ap suc (sym z),
            )
          where
            as-this : length ys ≡ length xs → Holds (gathered s (get_or xs i 0) l) (length ys) ys 1 w.links → Holds (gathered s (get_or xs i 0) l) (length xs) xs 1 w.links
            as-this same h = record {
              size = h.size;
              fields = h.fields ∙ same;
              whole = h.whole;
              links = h.links;
              deleted = h.deleted;
              each = λ k hk.
                  h.each k (omega (arith, hk, same)) ∙ ap (λ (n : ℕ). get_or ys n 0) (plain k) ∙ w.agree k (omega (arith, hk, all));
            }
              where
                plain : (k : ℕ) → k ≡ p + k
                plain k = omega (arith, q)
