-- From when on a map is right: what it holds of one component, by how often its repetitions were heard to begin.
--
--   Right xs due F          the structure in force, rightly held
--   Round b xs due l F      by b beginnings: nothing is known; it is right; after one, something unfinished or another list that agrees so far; after
--                           two, a run from the first field on
--   Alone b xs due l F      the same where nothing was heard before this configuration: right exactly from the second beginning on
--   Turns                   all of it; turns-old: a present field; turns-plain: any other; third-right, second-right, second-open
--   Came c zs due l A       of the announced one, by c beginnings: after one a run from the first field on, or all of it; came-full, came-by
--   Sought c g zs due l A   the same exactly: not begun; a run from the first field on; or, once it came round (g), all of it
--   sought-new, sought-plain, sought-gap     a field of it; any other; frames are missed
--   sought-full, sought-open     it is whole exactly where it came round
--   right-gap               frames are missed
--   same-all, same-is       lists that are tested to be the same
--   right-sure, right-over  a change
--
-- Assumes nothing.
use mathlib.Core.Path.{◌≡◌, refl, sym, ap, ap₂, ◌∙◌, subst}
use mathlib.Core.Bool.{Bool, true, false, cond, not, ◌&&◌, ◌||◌, or-true}
use mathlib.Core.List.{List, [], ◌∷◌}
use mathlib.Core.Logic.{◌⊎◌, inl, inr}
use Prim.Native.Nat.{ℕ, zero, suc, ◌+◌, ◌≤◌, ◌<◌}
use native.Mathlib.Omega.{arith}
use native.Mathlib.Decide.{ℕ_discrete}
use borrow.Author.Tests.{eq-eqb, ne_eqb, eqb-true, leb-true, leb-false, le-leb, lt-leb}
use lib.Dec.{leb, ltb, eqb, lit<}
use lib.ListN.{length, get_or, drop}
use Rattle.bits.proofs.Search.{and_left, and_right, clash}
use Rattle.structure.specs.Structure.{structure_size, head_of, is_next, gathered, spoiled}
use Rattle.structure.proofs.Gathering.{Holds, Empty, alike-holds, alike-empty, other-begins}
use Rattle.structure.proofs.Kept.{spoiled-last}
use Rattle.structure.proofs.Runs.{Fields, Lasts, Part, spoiled-empty, Took, partly, wholly, part-takes, open-takes, whole-next, Listed, placed, next-listed, begins-run}
use Rattle.structure.proofs.Rounds.{first-joins, first-completes, completes-last, Wrong, wrong-begins, wrong-goes, wrong-ends}
use Rattle.structure.proofs.Firsts.{Open, open-spoiled, open-unwhole, open-goes}
use Rattle.map.specs.Map.{ids, map_size, structure_at, stayed, changed_from}
use Rattle.map.proofs.Places.{structure-length}
use Rattle.map.proofs.Changing.{stayed-alike, stayed-last, settled-empty, settled-holds, settled-last, stays, comes-in, goes-out}
use Rattle.multiplex.specs.Broadcast.{some, Linked}
use Rattle.multiplex.specs.Air.{Air, turn, same}
use Rattle.multiplex.specs.Finding.{first, found}
use Rattle.multiplex.proofs.Rounded.{rounded}
use Rattle.multiplex.proofs.Knowing.{linked-fields, Front, all, Next, none, delete, piece, sure, part-head, whole-kept, Settled, stays-so, told, ends}
use Rattle.multiplex.proofs.Knowing as knowing

pub data Right (xs : List ℕ) (due : ℕ) (F : List ℕ) : Type 0 where
  absent : xs ≡ [] → Empty F → Right xs due F
  present : (m : ℕ) → m ≤ 1 → 0 < length xs → Lasts F due → Holds F (length xs) xs 1 m → Right xs due F

pub data Round (b : ℕ) (xs : List ℕ) (due l : ℕ) (F : List ℕ) : Type 0 where
  unbegun : b ≡ 0 → Round b xs due l F
  right : Right xs due F → Round b xs due l F
  unfinished : b ≡ 1 → (head_of F).whole ≡ 0 → Round b xs due l F
  wrong : b ≡ 1 → 0 < due → due ≤ length xs → Wrong F xs due → Round b xs due l F
  again : b ≡ 2 → 0 < due → due ≤ length xs → Holds F due xs 0 l → Round b xs due l F

-- the same in the configuration of the start: no other list can be held
pub data Alone (b : ℕ) (xs : List ℕ) (due l : ℕ) (F : List ℕ) : Type 0 where
  open-yet : b ≡ 0 → Open xs F → Alone b xs due l F
  running : b ≡ 1 → 0 < due → due ≤ length xs → Holds F due xs 0 l → Alone b xs due l F
  rightly : leb 2 b ≡ true → Right xs due F → Alone b xs due l F
  nothing : xs ≡ [] → Empty F → Alone b xs due l F

pub record Turns (ready alone : Bool) (b : ℕ) (xs : List ℕ) (due l : ℕ) (F : List ℕ) : Type 0 where
  pub rightly : ready ≡ true → Right xs due F
  pub round : Round b xs due l F
  pub only : alone ≡ true → Alone b xs due l F

-- the third beginning
pub third-right : (b : ℕ) (xs : List ℕ) (due l : ℕ) (F : List ℕ) → Round b xs due l F → leb 3 b ≡ true → Right xs due F
third-right b xs due l F (unbegun z) e = absurd (omega (arith, z, leb-true 3 b e))
third-right b xs due l F (right r) e = r
third-right b xs due l F (unfinished z w) e = absurd (omega (arith, z, leb-true 3 b e))
third-right b xs due l F (wrong z p q w) e = absurd (omega (arith, z, leb-true 3 b e))
third-right b xs due l F (again z p q h) e = absurd (omega (arith, z, leb-true 3 b e))

-- the second, in the configuration of the start
pub second-right : (b : ℕ) (xs : List ℕ) (due l : ℕ) (F : List ℕ) → Alone b xs due l F → leb 2 b ≡ true → Right xs due F
second-right b xs due l F (open-yet z w) e = absurd (omega (arith, z, leb-true 2 b e))
second-right b xs due l F (running z p q h) e = absurd (omega (arith, z, leb-true 2 b e))
second-right b xs due l F (rightly g r) e = r
second-right b xs due l F (nothing z em) e = absent z em

pub second-open : (b : ℕ) (xs : List ℕ) (due l : ℕ) (F : List ℕ) → Alone b xs due l F → leb 2 b ≡ false → (head_of F).whole ≡ 0
second-open b xs due l F (open-yet z o) e = o.whole
second-open b xs due l F (running z p q h) e = h.whole
second-open b xs due l F (rightly g r) e = absurd (omega (arith, leb-true 2 b g, leb-false 2 b e))
second-open b xs due l F (nothing z em) e = em.whole

either : (ready alone : Bool) (b : ℕ) (xs : List ℕ) (due l : ℕ) (F : List ℕ) → (ready ≡ true → Right xs due F) → Round b xs due l F → (alone ≡ true → Alone b xs due l F)
    → Turns (ready || found alone b) alone b xs due l F
unfolding found
either true alone b xs due l F r o s = record { rightly = λ e. r refl; round = o; only = s }
either false alone b xs due l F r o s =
    record {
      rightly = go _ _ (λ z. third-right b xs due l F o (le-leb 3 b (omega (arith, leb-true _ b z))))
          (λ y. second-right b xs due l F (s (and_left alone _ y)) (and_right alone _ y));
      round = o;
      only = s;
    }
  where
    go : (x y : Bool) → (x ≡ true → Right xs due F) → (y ≡ true → Right xs due F) → (x || y) ≡ true → Right xs due F
    go true y f g e = f refl
    go false y f g e = g e

-- ---- a frame that carries none of its present fields

pub turns-plain : (ready alone : Bool) (b : ℕ) (xs : List ℕ) (due l : ℕ) (F : List ℕ) → Turns ready alone b xs due l F
    → Turns (ready || found alone (b + 0)) alone (b + 0) xs due l F
turns-plain ready alone b xs due l F w =
    either ready alone (b + 0) xs due l F w.rightly (subst (λ (n : ℕ). Round n xs due l F) (plain b) w.round)
    (λ e. subst (λ (n : ℕ). Alone n xs due l F) (plain b) (w.only e))
  where
    plain : (n : ℕ) → n ≡ n + 0
    plain n = omega arith

-- all ones: it is not there
pub turns-gone : (ready alone : Bool) (b : ℕ) (xs : List ℕ) (due l : ℕ) (F : List ℕ) → xs ≡ [] → Empty F → Turns (ready || found alone (b + 0)) alone (b + 0) xs due l F
turns-gone ready alone b xs due l F z e = record { rightly = λ _. absent z e; round = right (absent z e); only = λ _. nothing z e }

-- ---- a present field

first_one : (i : ℕ) → i ≡ 0 → first (suc i) ≡ 1
unfolding first
first_one i z = ap (λ (n : ℕ). cond (eqb (suc n) 1) 1 0) z

first-none : (i : ℕ) → (i ≡ 0 → ⊥) → first (suc i) ≡ 0
unfolding first
first-none i ne = ap (λ (b : Bool). cond b 1 0) (ne_eqb (suc i) 1 (λ e. ne (omega (arith, e))))

module _ (xs : List ℕ) (k : Linked xs) (i : ℕ) (hi : i < length xs) (l : ℕ) (hl : l ≤ 1) (due links : ℕ)
    (order : (j : ℕ) → due ≡ suc j → (i ≡ turn (length xs) j) × (i ≡ suc j → l ≡ links)) where
  abbrev t : ℕ
  t = get_or xs i 0

  f : Fields xs
  f = linked-fields xs k

  -- behind which field it comes
  follows : (j : ℕ) → due ≡ suc j → i ≡ cond (eqb (suc j) (length xs)) 0 (suc j)
  unfolding turn
  follows j e = (order j e).0

  by-due : 0 < due → i ≡ cond (eqb due (length xs)) 0 due
  by-due p = go due p follows
    where
      go : (d : ℕ) → 0 < d → ((j : ℕ) → d ≡ suc j → i ≡ cond (eqb (suc j) (length xs)) 0 (suc j)) → i ≡ cond (eqb d (length xs)) 0 d
      go zero p o = absurd (omega (arith, p))
      go (suc j) p o = o j refl

  ends_at : 0 < due → i ≡ 0 → due ≡ length xs
  ends_at p z = go (ℕ_discrete due (length xs))
    where
      go : Dec (due ≡ length xs) → due ≡ length xs
      go (yes q) = q
      go (no q) = absurd (omega (arith, p, z, by-due p ∙ ap (λ (b : Bool). cond b 0 due) (ne_eqb due (length xs) q)))

  goes_at : 0 < due → (i ≡ 0 → ⊥) → i ≡ due
  goes_at p ne = go (ℕ_discrete due (length xs))
    where
      go : Dec (due ≡ length xs) → i ≡ due
      go (yes q) = absurd (ne (by-due p ∙ ap (λ (b : Bool). cond b 0 due) (eq-eqb due (length xs) q)))
      go (no q) = by-due p ∙ ap (λ (b : Bool). cond b 0 due) (ne_eqb due (length xs) q)

  same-links : 0 < due → i ≡ due → l ≡ links
  same-links p z = go due p z (λ j e. (order j e).1)
    where
      go : (d : ℕ) → 0 < d → i ≡ d → ((j : ℕ) → d ≡ suc j → i ≡ suc j → l ≡ links) → l ≡ links
      go zero p z o = absurd (omega (arith, p))
      go (suc j) p z o = o j refl z

  right-old : (F : List ℕ) → Right xs due F → Right xs (suc i) (gathered F t l)
  right-old F (absent z e) = absurd (omega (arith, hi, ap length z))
  right-old F (present m hm pos la h) =
      let x = whole-next xs f i hi l hl F due m h la follows in
      present m hm pos (inr x.1) x.0

  -- one field alone, the first
  one-held : (s : List ℕ) (j n : ℕ) → i ≡ 0 → 0 < n → suc i ≡ j + n → Holds s n (drop j xs) 0 l → Holds s (suc i) xs 0 l
  one-held s j n z p e h = go j n p e h
    where
      go : (j n : ℕ) → 0 < n → suc i ≡ j + n → Holds s n (drop j xs) 0 l → Holds s (suc i) xs 0 l
      go zero n p e h = subst (λ (x : ℕ). Holds s x xs 0 l) (plain n e) h
        where
          plain : (n : ℕ) → suc i ≡ 0 + n → n ≡ suc i
          plain n e = omega (arith, e)
      go (suc j) n p e h = absurd (omega (arith, z, p, e))

  -- a field that was begun anew with, or went on: the first beginning leaves something unfinished, the second a run from the first field on
  took_one : (s : List ℕ) → Took s xs (suc i) l → Round 1 xs (suc i) l s
  took_one s (partly j n p q d h) = unfinished refl h.whole
  took_one s (wholly h la) = right (present l hl (omega (arith, hi)) la h)

  took-two : (s : List ℕ) → i ≡ 0 → Took s xs (suc i) l → Round 2 xs (suc i) l s
  took-two s z (partly j n p q d h) = again refl (omega arith) (omega (arith, hi)) (one-held s j n z p d h)
  took-two s z (wholly h la) = right (present l hl (omega (arith, hi)) la h)

  -- a list that is held as whole, at the first beginning
  whole-one : (F ys : List ℕ) (m : ℕ) → m ≤ 1 → 0 < length ys → Linked ys → Holds F (length ys) ys 1 m → i ≡ 0 → Round 1 xs (suc i) l (gathered F t l)
  whole-one F ys m hm pos ky h z = go (is_next F t) refl
    where
      at : is_next F t ≡ true → Listed F t → Round 1 xs (suc i) l (gathered F t l)
      at e (placed p hp is) =
          let hp' : p < length ys = omega (arith, hp, knowing.stored_at F (length ys) h.fields) in
          wrong refl (omega arith) (omega (arith, hi))
          (wrong-begins xs f i hi l hl F ys m p hm (linked-fields ys ky) h z hp' (sym (h.each p hp') ∙ is) e)

      go : (b : Bool) → is_next F t ≡ b → Round 1 xs (suc i) l (gathered F t l)
      go true e = at e (next-listed F t (knowing.stored_some F (omega (arith, pos, h.fields))) e)
      go false e = took_one (gathered F t l) (begins-run xs f i hi l hl F (other-begins F t l h.whole e))

  module _ (a : Air) (hears : ℕ → Bool) (n e id : ℕ) (is : a.config e id ≡ xs) (linked : (j : ℕ) → Linked (a.config j id)) where
    part_of : (F : List ℕ) → Front a hears n e id due F → (head_of F).whole ≡ 0 → Part F xs due
    part_of F (knowing.some p) w = subst (λ (x : List ℕ). Part F x due) is p
    part_of F (all j m hm hj pos h q) w = absurd (omega (arith, w, h.whole))

    -- the first beginning
    begins-one : (F : List ℕ) → i ≡ 0 → Front a hears n e id due F → Round 1 xs (suc i) l (gathered F t l)
    begins-one F z (knowing.some p) = took_one (gathered F t l) (part-takes xs f i hi l hl F due follows (subst (λ (x : List ℕ). Part F x due) is p))
    begins-one F z (all j m hm hj pos h q) = whole-one F (a.config j id) m hm pos (linked j) h z

    round-old : (b : ℕ) (F : List ℕ) → Front a hears n e id due F → Round b xs due links F → Dec (i ≡ 0) → Round (b + first (suc i)) xs (suc i) l (gathered F t l)
    round-old b F fr (unbegun z) (yes q) =
        subst (λ (x : ℕ). Round x xs (suc i) l (gathered F t l)) (sym (ap₂ ◌+◌ z (first_one i q))) (begins-one F q fr)
    round-old b F fr (unbegun z) (no q) = unbegun (ap₂ ◌+◌ z (first-none i q))
    round-old b F fr (right r) d = right (right-old F r)
    round-old b F fr (unfinished z w) (yes q) =
        subst (λ (x : ℕ). Round x xs (suc i) l (gathered F t l)) (sym (ap₂ ◌+◌ z (first_one i q)))
        (took-two (gathered F t l) q (part-takes xs f i hi l hl F due follows (part_of F fr w)))
    round-old b F fr (unfinished z w) (no q) =
        subst (λ (x : ℕ). Round x xs (suc i) l (gathered F t l)) (sym (ap₂ ◌+◌ z (first-none i q)))
        (took_one (gathered F t l) (part-takes xs f i hi l hl F due follows (part_of F fr w)))
    round-old b F fr (wrong z p r w) (yes q) =
        subst (λ (x : ℕ). Round x xs (suc i) l (gathered F t l)) (sym (ap₂ ◌+◌ z (first_one i q))) (go (wrong-ends xs f i hi l hl F due p w (ends_at p q) q))
      where
        go : (Holds (gathered F t l) (length xs) xs 1 w.links × ((head_of (gathered F t l)).last ≡ suc i)) ⊎ Took (gathered F t l) xs (suc i) l
            → Round 2 xs (suc i) l (gathered F t l)
        go (inl h) = right (present w.links w.bit (omega (arith, hi)) (inr h.1) h.0)
        go (inr x) = took-two (gathered F t l) q x
    round-old b F fr (wrong z p r w) (no q) =
        subst (λ (x : ℕ). Round x xs (suc i) l (gathered F t l)) (sym (ap₂ ◌+◌ z (first-none i q))) (go (wrong-goes xs f i hi l hl F due p w (goes_at p q)))
      where
        go : Wrong (gathered F t l) xs (suc i) ⊎ Took (gathered F t l) xs (suc i) l → Round 1 xs (suc i) l (gathered F t l)
        go (inl x) = wrong refl (omega arith) (omega (arith, hi)) x
        go (inr x) = took_one (gathered F t l) x
    round-old b F fr (again z p r h) (yes q) =
        right (present l hl (omega (arith, hi)) (inr (completes-last xs f i hi l F due links p h (ends_at p q) q)) (first-completes xs f i hi l F due links p h (ends_at p q) q))
    round-old b F fr (again z p r h) (no q) =
        again (ap₂ ◌+◌ z (first-none i q)) (omega arith) (omega (arith, hi))
        (first-joins xs f i hi l F due links p h (goes_at p q) (same-links p (goes_at p q)))

    -- in the configuration of the start
    alone-took : (F : List ℕ) → length F ≡ structure_size → Open xs F → Took (gathered F t l) xs (suc i) l → Dec (i ≡ 0)
        → Alone (0 + first (suc i)) xs (suc i) l (gathered F t l)
    alone-took F lf o (wholly h la) d = absurd (open-unwhole xs f i hi l F lf o l h)
    alone-took F lf o (partly j n p q d h) (yes z) =
        running (ap (λ (x : ℕ). 0 + x) (first_one i z)) (omega arith) (omega (arith, hi)) (one-held (gathered F t l) j n z p d h)
    alone-took F lf o (partly j n p q d h) (no z) = open-yet (ap (λ (x : ℕ). 0 + x) (first-none i z)) (open-goes xs f i hi l F lf o h.whole z)

    alone-old : (b : ℕ) (F : List ℕ) → Front a hears n e id due F → Alone b xs due links F → Dec (i ≡ 0) → Alone (b + first (suc i)) xs (suc i) l (gathered F t l)
    alone-old b F fr (open-yet z o) d =
        let p = part_of F fr o.whole in
        subst (λ (x : ℕ). Alone (x + first (suc i)) xs (suc i) l (gathered F t l)) (sym z)
        (alone-took F (part-head F xs due p).1.1 o (part-takes xs f i hi l hl F due follows p) d)
    alone-old b F fr (running z p r h) (yes q) =
        rightly (ap (leb 2) (ap₂ ◌+◌ z (first_one i q))) (present l hl (omega (arith, hi)) (inr (completes-last xs f i hi l F due links p h (ends_at p q) q)) (first-completes xs f i hi l F due links p h (ends_at p q) q))
    alone-old b F fr (running z p r h) (no q) =
        running (ap₂ ◌+◌ z (first-none i q)) (omega arith) (omega (arith, hi))
        (first-joins xs f i hi l F due links p h (goes_at p q) (same-links p (goes_at p q)))
    alone-old b F fr (rightly g r) d = rightly (le-leb 2 (b + first (suc i)) (omega (arith, leb-true 2 b g))) (right-old F r)
    alone-old b F fr (nothing z em) d = absurd (omega (arith, hi, ap length z))

    pub turns-old : (ready alone : Bool) (b : ℕ) (F : List ℕ) → Front a hears n e id due F → Turns ready alone b xs due links F
        → Turns (ready || found alone (b + first (suc i))) alone (b + first (suc i)) xs (suc i) l (gathered F t l)
    turns-old ready alone b F fr w =
        either ready alone (b + first (suc i)) xs (suc i) l (gathered F t l) (λ e. right-old F (w.rightly e)) (round-old b F fr w.round (ℕ_discrete i 0))
        (λ e. alone-old b F fr (w.only e) (ℕ_discrete i 0))

-- ---- the announced structure

pub data Came (c : ℕ) (zs : List ℕ) (due l : ℕ) (A : List ℕ) : Type 0 where
  unbegun : c ≡ 0 → Came c zs due l A
  again : c ≡ 1 → 0 < due → due ≤ length zs → Holds A due zs 0 l → Came c zs due l A
  full : (m : ℕ) → m ≤ 1 → 0 < length zs → Lasts A due → Holds A (length zs) zs 1 m → Came c zs due l A

-- two beginnings were heard
pub came-full : (c : ℕ) (zs : List ℕ) (due l : ℕ) (A : List ℕ) → Came c zs due l A → leb 2 c ≡ true
    → (0 < length zs) × ((m : ℕ) × ((m ≤ 1) × Holds A (length zs) zs 1 m))
came-full c zs due l A (unbegun z) e = absurd (omega (arith, z, leb-true 2 c e))
came-full c zs due l A (again z p q h) e = absurd (omega (arith, z, leb-true 2 c e))
came-full c zs due l A (full m hm pos la h) e = (pos, (m, (hm, h)))

-- g: it came round in this configuration
pub data Sought (c : ℕ) (g : Bool) (zs : List ℕ) (due l : ℕ) (A : List ℕ) : Type 0 where
  unbegun : c ≡ 0 → g ≡ false → Open zs A → Sought c g zs due l A
  again : c ≡ 1 → g ≡ false → 0 < due → due ≤ length zs → Holds A due zs 0 l → Sought c g zs due l A
  full : g ≡ true → (m : ℕ) → m ≤ 1 → 0 < length zs → Lasts A due → Holds A (length zs) zs 1 m → Sought c g zs due l A

pub came-by : {c : ℕ} {g : Bool} {zs : List ℕ} {due l : ℕ} {A : List ℕ} → Sought c g zs due l A → Came c zs due l A
came-by (unbegun z e o) = unbegun z
came-by (again z e p q h) = again z p q h
came-by (full e m hm pos la h) = full m hm pos la h

-- once it came round
stays-round : (g : Bool) (c : ℕ) → g ≡ true → rounded g c ≡ true
stays-round g c e = ap (λ (x : Bool). rounded x c) e

not_round : (g : Bool) (c : ℕ) → g ≡ false → c < 2 → rounded g c ≡ false
not_round g c e h = ap (λ (x : Bool). rounded x c) e ∙ lt-leb _ c (omega (arith, h))

pub sought-plain : (c : ℕ) (g : Bool) (zs : List ℕ) (due l : ℕ) (A : List ℕ) → Sought c g zs due l A → Sought (c + 0) (rounded g (c + 0)) zs due l A
sought-plain c g zs due l A (unbegun z e o) = unbegun (plain c ∙ z) (not_round g (c + 0) e (omega (arith, z))) o
  where
    plain : (n : ℕ) → n + 0 ≡ n
    plain n = omega arith
sought-plain c g zs due l A (again z e p q h) = again (plain c ∙ z) (not_round g (c + 0) e (omega (arith, z))) p q h
  where
    plain : (n : ℕ) → n + 0 ≡ n
    plain n = omega arith
sought-plain c g zs due l A (full e m hm pos la h) = full (stays-round g (c + 0) e) m hm pos la h

-- it is whole exactly where it came round
pub sought-full : (c : ℕ) (g : Bool) (zs : List ℕ) (due l : ℕ) (A : List ℕ) → Sought c g zs due l A → g ≡ true
    → (0 < length zs) × ((m : ℕ) × ((m ≤ 1) × Holds A (length zs) zs 1 m))
sought-full c g zs due l A (unbegun z f o) e = clash (sym e ∙ f)
sought-full c g zs due l A (again z f p q h) e = clash (sym e ∙ f)
sought-full c g zs due l A (full f m hm pos la h) e = (pos, (m, (hm, h)))

pub sought-open : (c : ℕ) (g : Bool) (zs : List ℕ) (due l : ℕ) (A : List ℕ) → Sought c g zs due l A → g ≡ false → (head_of A).whole ≡ 0
sought-open c g zs due l A (unbegun z f o) e = o.whole
sought-open c g zs due l A (again z f p q h) e = h.whole
sought-open c g zs due l A (full f m hm pos la h) e = clash (sym f ∙ e)

-- frames are missed
pub sought-gap : (c c' : ℕ) (g : Bool) (zs : List ℕ) (due l due' l' : ℕ) (A : List ℕ) → Linked zs → length A ≡ structure_size → c' ≡ 0 → Sought c g zs due l A
    → Sought c' g zs due' l' (spoiled A)
sought-gap c c' g zs due l due' l' A k la z (unbegun y e o) = unbegun z e (open-spoiled zs (linked-fields zs k) A la o.whole)
sought-gap c c' g zs due l due' l' A k la z (again y e p q h) = unbegun z e (open-spoiled zs (linked-fields zs k) A la h.whole)
sought-gap c c' g zs due l due' l' A k la z (full e m hm pos last h) = full e m hm pos (inl (spoiled-last A la)) (whole-kept A zs (length zs) m h)

module _ (zs : List ℕ) (k : Linked zs) (i : ℕ) (hi : i < length zs) (l : ℕ) (hl : l ≤ 1) (due links : ℕ)
    (order : (j : ℕ) → due ≡ suc j → (i ≡ turn (length zs) j) × (i ≡ suc j → l ≡ links)) where
  abbrev x : ℕ
  x = get_or zs i 0

  g : Fields zs
  g = linked-fields zs k

  -- the first field, or another, where the list was not begun
  first-took : (c : ℕ) (r : Bool) (A : List ℕ) → c ≡ 0 → r ≡ false → length A ≡ structure_size → Open zs A → Took (gathered A x l) zs (suc i) l → Dec (i ≡ 0)
      → Sought (c + first (suc i)) (rounded r (c + first (suc i))) zs (suc i) l (gathered A x l)
  first-took c r A z e la o (wholly h last) d = absurd (open-unwhole zs g i hi l A la o l h)
  first-took c r A z e la o (partly j n p q d h) (yes y) =
      let one : c + first (suc i) ≡ 1 = ap₂ ◌+◌ z (first_one i y) in
      again one (not_round r (c + first (suc i)) e (omega (arith, one))) (omega arith) (omega (arith, hi))
      (one-held zs k i hi l hl due links order (gathered A x l) j n y p d h)
  first-took c r A z e la o (partly j n p q d h) (no y) =
      let nil : c + first (suc i) ≡ 0 = ap₂ ◌+◌ z (first-none i y) in
      unbegun nil (not_round r (c + first (suc i)) e (omega (arith, nil))) (open-goes zs g i hi l A la o h.whole y)

  module _ (a : Air) (hears : ℕ → Bool) (n e id count : ℕ) (gone u : Bool) (is : a.config (suc e) id ≡ zs) where
    -- whatever is announced of it
    next-took : (A : List ℕ) → (head_of A).whole ≡ 0 → Next a hears n e id due count links gone u A → Took (gathered A x l) zs (suc i) l × (length A ≡ structure_size)
    next-took A w (none em c q) = (open-takes zs g i hi l hl A em.fields em.whole, em.size)
    next-took A w (delete d c) = (open-takes zs g i hi l hl A d.fields d.whole, d.size)
    next-took A w (piece v p q) = (
      part-takes zs g i hi l hl A due (follows zs k i hi l hl due links order) (subst (λ (y : List ℕ). Part A y due) is q),
      (part-head A (a.config (suc e) id) due q).1.1,
    )
    next-took A w (sure c pos le ec d hk la h) = (
      part-takes zs g i hi l hl A due (follows zs k i hi l hl due links order)
          (subst (λ (y : List ℕ). Part A y due) is (knowing.from_first A (a.config (suc e) id) c links due hk pos le d h)),
      h.size,
    )
    next-took A w (knowing.full m hm pos la h) = absurd (omega (arith, w, h.whole))

    sought-by : (c : ℕ) (r : Bool) (A : List ℕ) → Next a hears n e id due count links gone u A → Sought c r zs due links A → Dec (i ≡ 0)
        → Sought (c + first (suc i)) (rounded r (c + first (suc i))) zs (suc i) l (gathered A x l)
    sought-by c r A nx (unbegun z e o) d =
        let y = next-took A o.whole nx in
        first-took c r A z e y.1 o y.0 d
    sought-by c r A nx (again z e p le h) (yes q) =
        let at = ends_at zs k i hi l hl due links order p q in
        full (ap (rounded r) (ap₂ ◌+◌ z (first_one i q)) ∙ or-true r) l hl (omega (arith, hi))
        (inr (completes-last zs g i hi l A due links p h at q)) (first-completes zs g i hi l A due links p h at q)
    sought-by c r A nx (again z e p le h) (no q) =
        let at = goes_at zs k i hi l hl due links order p q in
        let one : c + first (suc i) ≡ 1 = ap₂ ◌+◌ z (first-none i q) in
        again one (not_round r (c + first (suc i)) e (omega (arith, one))) (omega arith) (omega (arith, hi))
        (first-joins zs g i hi l A due links p h at (same-links zs k i hi l hl due links order p at))
    sought-by c r A nx (full e m hm pos la h) d =
        let y = whole-next zs g i hi l hl A due m h la (follows zs k i hi l hl due links order) in
        full (stays-round r (c + first (suc i)) e) m hm pos (inr y.1) y.0

    pub sought-new : (c : ℕ) (r : Bool) (A : List ℕ) → Next a hears n e id due count links gone u A → Sought c r zs due links A
        → Sought (c + first (suc i)) (rounded r (c + first (suc i))) zs (suc i) l (gathered A x l)
    sought-new c r A nx w = sought-by c r A nx w (ℕ_discrete i 0)

-- ---- a change

pub same-all : (xs : List ℕ) → same xs xs ≡ true
unfolding same
same-all [] = refl
same-all (x ∷ xs) = ap₂ (λ (a b : Bool). a && b) (eq-eqb x x refl) (same-all xs)

pub same-is : (xs ys : List ℕ) → same xs ys ≡ true → xs ≡ ys
unfolding same
same-is [] [] e = refl
same-is [] (y ∷ ys) e = clash (sym e)
same-is (x ∷ xs) [] e = clash (sym e)
same-is (x ∷ xs) (y ∷ ys) e = ap₂ (λ (v : ℕ) (vs : List ℕ). v ∷ vs) (eqb-true x y (and_left (eqb x y) _ e)) (same-is xs ys (and_right (eqb x y) _ e))

-- frames are missed: what is right stays so
pub right-gap : (xs : List ℕ) (due next : ℕ) (F : List ℕ) → Right xs due F → Right xs next (spoiled F)
right-gap xs due next F (absent z em) = absent z (spoiled-empty F em)
right-gap xs due next F (present m hm pos last h) = present m hm pos (inl (spoiled-last F h.size)) (whole-kept F xs (length xs) m h)

pub none_is : (xs : List ℕ) → not (some xs) ≡ true → xs ≡ []
unfolding some
none_is [] e = refl
none_is (x ∷ xs) e = clash (sym e)

module _ (a : Air) (hears : ℕ → Bool) (n e id : ℕ) (hid : id < ids) (m : List ℕ) (lm : length m ≡ map_size) (k : Linked (a.config (suc e) id)) (next : ℕ) where
  abbrev F : List ℕ
  F = structure_at id 0 m

  abbrev A : List ℕ
  A = structure_at id 1 m

  abbrev zs : List ℕ
  zs = a.config (suc e) id

  lf : length F ≡ structure_size
  lf = structure-length m lm id 0 hid (lit< tt)

  la : length A ≡ structure_size
  la = structure-length m lm id 1 hid (lit< tt)

  abbrev then : Bool → List ℕ
  then b = structure_at id 0 (changed_from ids 0 b m)

  -- it stays as it is
  stays-right : (b : Bool) (due : ℕ) (xs : List ℕ) → (head_of A).fields ≡ 0 → (head_of A).deleted ≡ 0 → zs ≡ xs → Right xs due F → Right zs next (then b)
  stays-right b due xs f d z (absent q em) =
      absent (z ∙ q) (subst Empty (sym (stays b m lm id hid f d)) (alike-empty F (stayed b F) (stayed-alike F lf b (λ i. eqb (em.whole i) 0 && ltb 0 (em.fields i))) em))
  stays-right b due xs f d z (present v hv pos last h) =
      subst (λ (y : List ℕ). Right y next (then b)) (sym z)
      (present v hv pos (inl (ap (λ (s : List ℕ). (head_of s).last) (stays b m lm id hid f d) ∙ stayed-last F lf b))
      (subst (λ (s : List ℕ). Holds s (length xs) xs 1 v) (sym (stays b m lm id hid f d))
      (alike-holds F (stayed b F) (length xs) xs 1 v (stayed-alike F lf b (λ i. eqb (h.whole i) 0 && ltb 0 (head_of F).fields)) h)))

  -- what was announced is all there
  comes-right : (b : Bool) (v w : ℕ) → v ≤ 1 → 0 < length zs → Holds A (length zs) zs w v → (b ≡ true × (head_of A).late ≡ 0) ⊎ (w ≡ 1) → Right zs next (then b)
  comes-right b v w hv pos h why =
      let is = comes-in b m lm id hid (omega (arith, h.fields, pos)) in
      present v hv pos (inl (ap (λ (s : List ℕ). (head_of s).last) is ∙ settled-last b A la))
      (subst (λ (s : List ℕ). Holds s (length zs) zs 1 v) (sym is) (settled-holds b A la (length zs) zs w v h pos k.few why))

  goes-right : (b : Bool) → knowing.Deleting A → zs ≡ [] → Right zs next (then b)
  goes-right b d z = absent z (subst Empty (sym (goes-out b m lm id hid d.deleted)) (settled-empty b A la d.fields d.whole d.links))

  -- behind a configuration that was wholly heard
  pub right-sure : (due dn count links : ℕ) (gone ready : Bool) → Settled (a.config e id) zs count gone
      → Next a hears n e id dn count links gone true A → (ready ≡ true → Right (a.config e id) due F) → (ready || (ltb 0 count || gone)) ≡ true → Right zs next (then true)
  right-sure due dn count links gone ready (stays-so c0 g0 z) (none em c q) r ok =
      stays-right true due (a.config e id) em.fields em.deleted z (r (was ready (ap₂ (λ (x : ℕ) (y : Bool). ltb 0 x || y) c0 g0) ok))
    where
      was : {y : Bool} (x : Bool) → y ≡ false → (x || y) ≡ true → x ≡ true
      was true f e = refl
      was false f e = sym f ∙ e
  right-sure due dn count links gone ready (told p le) (none em c q) r ok = absurd (omega (arith, p, le, (c refl).0))
  right-sure due dn count links gone ready (ends z g1) (none em c q) r ok = clash (sym g1 ∙ (c refl).1.0)
  right-sure due dn count links gone ready (stays-so c0 g0 z) (delete d c) r ok = clash (sym (c refl).1.0 ∙ g0)
  right-sure due dn count links gone ready (told p le) (delete d c) r ok = absurd (omega (arith, p, le, (c refl).0))
  right-sure due dn count links gone ready (ends z g1) (delete d c) r ok = goes-right true d z
  right-sure due dn count links gone ready st (piece w h p) r ok = clash w
  right-sure due dn count links gone ready (stays-so c0 g0 z) (sure i pos le c d hl late h) r ok = absurd (omega (arith, pos, c, c0))
  right-sure due dn count links gone ready (told p le2) (sure i pos le c d hl late h) r ok =
      let z : i ≡ length zs = omega (arith, le, le2, c) in
      comes-right true links 0 hl p (subst (λ (x : ℕ). Holds A x zs 0 links) z h) (inl (refl, late))
  right-sure due dn count links gone ready (ends z g1) (sure i pos le c d hl late h) r ok = absurd (omega (arith, pos, le, ap length z))
  right-sure due dn count links gone ready st (knowing.full l hl pos last h) r ok = comes-right true l 1 hl pos h (inr refl)

  -- behind one of which frames were missed
  pub right_kept : (due : ℕ) (b : Bool) → (head_of A).fields ≡ 0 → (head_of A).deleted ≡ 0 → same (a.config e id) zs ≡ true → Right (a.config e id) due F → Right zs next (then b)
  right_kept due b f d s r = stays-right b due (a.config e id) f d (sym (same-is (a.config e id) zs s)) r

  pub right-gone : (b : Bool) (dn count links : ℕ) (gone u : Bool) → Next a hears n e id dn count links gone u A → (head_of A).fields ≡ 0 → (head_of A).deleted ≡ 1
      → not (some zs) ≡ true → Right zs next (then b)
  right-gone b dn count links gone u (none em c q) f d z = absurd (omega (arith, d, em.deleted))
  right-gone b dn count links gone u (delete x c) f d z = goes-right b x (none_is zs z)
  right-gone b dn count links gone u (piece w h p) f d z = absurd (omega (arith, h, f))
  right-gone b dn count links gone u (sure i pos le c x hl late h) f d z = absurd (omega (arith, pos, f, h.fields))
  right-gone b dn count links gone u (knowing.full l hl pos last h) f d z = absurd (omega (arith, pos, f, h.fields))

  pub right-round : (b : Bool) (c dn l : ℕ) → Came c zs dn l A → leb 2 c ≡ true → Right zs next (then b)
  right-round b c dn l w e =
      let y = came-full c zs dn l A w e in
      comes-right b y.1.0 1 y.1.1.0 y.0 y.1.1.1 (inr refl)
