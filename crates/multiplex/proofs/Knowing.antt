-- What a map that was started anywhere and missed frames can hold of one component, and how that goes on.
--
--   QuietTo n j e id    of the frames before n none that was heard has announced a change of the component, from configuration j on to e, and
--                       none in a later configuration than j has denied that its structure is configuration j's
--   Silent n e id       nor has one in configuration e
--   Front               the structure in force: a part of configuration e's, or the whole one of a configuration j since which all was quiet
--   Next                the announced one: nothing, a deletion, a part of configuration e + 1's, one of which nothing was missed, or a whole one
--   front-gap, next-gap       frames are missed
--   front-sure, front-unsure  a change
--   Past n e                  the frames before n are of configurations up to e
--   listed-undenied           a present field that the structure lists does not deny it
--   front-old, next-new       a field
--
-- Assumes nothing.
use mathlib.Core.Path.{◌≡◌, refl, sym, ap, ◌∙◌, subst}
use mathlib.Core.Bool.{Bool, true, false, cond, not, ◌&&◌, ◌||◌, or-true, and-false}
use mathlib.Core.List.{List, [], ◌∷◌}
use mathlib.Core.Logic.{◌⊎◌, inl, inr}
use Prim.Native.Nat.{ℕ, zero, suc, ◌+◌, ◌-◌, ◌^◌, ◌≤◌, ◌<◌}
use native.Mathlib.Omega.{arith}
use native.Mathlib.Decide.{ℕ_discrete, dec_lt}
use borrow.Author.Tests.{eq-eqb, ne_eqb, lt-ltb, le-ltb}
use lib.Dec.{ltb, eqb, lit<}
use lib.ListN.{length, get_or, drop}
use Rattle.bits.proofs.Search.{clash}
use Rattle.structure.specs.Structure.{most, structure_size, head_of, stored, gathered, spoiled, none_head, deletion}
use Rattle.structure.specs.declared.Structure.{Structure}
use Rattle.structure.proofs.Gathering.{Holds, Empty, alike-holds, alike-empty, begun, begun-head}
use Rattle.structure.proofs.Kept.{spoiled-none, spoiled-last, none-head, deletion-length}
use Rattle.structure.proofs.Runs.{Fields, Lasts, Part, empty, stuck, run, spoiled-empty, spoiled-part, spoiled-whole, spoils, Took, partly, wholly, gathered-some, part-takes, open-takes, whole-next, Stays, whole_takes}
use Rattle.structure.proofs.Rounds.{first-joins, joins-late, first-completes, completes-last}
use Rattle.map.specs.Map.{ids, map_size, structure_at, stayed, changed_from}
use Rattle.map.proofs.Places.{structure-length}
use Rattle.map.proofs.Changing.{stayed-sure, stayed-alike, stayed-spoils, settled-empty, settled-spoils, settled-holds, stays, comes-in, goes-out, emptied}
use Rattle.multiplex.specs.Broadcast.{epoch, Linked}
use Rattle.multiplex.specs.Air.{old, Air, timed, in_force, turn}
use Rattle.multiplex.specs.Sound.{announces, lists, denies}
use Rattle.multiplex.proofs.Distances.{epoch-mono}

pub linked-fields : (xs : List ℕ) → Linked xs → Fields xs
linked-fields xs k = record {
  few = k.few;
  wide = λ i h. (k.fit i h).width;
  stays = λ i h. (k.fit i h).stays;
  rising = k.rising;
}

pub record QuietTo (a : Air) (hears : ℕ → Bool) (n j e id : ℕ) : Type 0 where
  pub quiet : (v : ℕ) → v < n → hears v ≡ true → j ≤ epoch (timed a) v → epoch (timed a) v < e → announces id (a.carries v) ≡ false
  pub undenied : (v : ℕ) → v < n → hears v ≡ true → j < epoch (timed a) v → denies a v id (a.config j id) (a.carries v) ≡ false

abbrev pub Silent : Air → (ℕ → Bool) → ℕ → ℕ → ℕ → Type 0
Silent a hears n e id = (v : ℕ) → v < n → hears v ≡ true → epoch (timed a) v ≡ e → announces id (a.carries v) ≡ false

pub data Front (a : Air) (hears : ℕ → Bool) (n e id due : ℕ) (s : List ℕ) : Type 0 where
  some : Part s (a.config e id) due → Front a hears n e id due s
  all : (j l : ℕ) → l ≤ 1 → j ≤ e → 0 < length (a.config j id) → Holds s (length (a.config j id)) (a.config j id) 1 l
      → QuietTo a hears n j e id → Front a hears n e id due s

-- the component is to be deleted
pub record Deleting (s : List ℕ) : Type 0 where
  pub size : length s ≡ structure_size
  pub fields : (head_of s).fields ≡ 0
  pub whole : (head_of s).whole ≡ 0
  pub deleted : (head_of s).deleted ≡ 1
  pub links : (head_of s).links ≤ 1

pub data Next (a : Air) (hears : ℕ → Bool) (n e id due count links : ℕ) (gone u : Bool) (s : List ℕ) : Type 0 where
  none : Empty s → (u ≡ true → (count ≡ 0) × ((gone ≡ false) × (due ≡ 0))) → Silent a hears n e id → Next a hears n e id due count links gone u s
  delete : Deleting s → (u ≡ true → (count ≡ 0) × ((gone ≡ true) × (due ≡ 0))) → Next a hears n e id due count links gone u s
  piece : u ≡ false → 0 < (head_of s).fields → Part s (a.config (suc e) id) due → Next a hears n e id due count links gone u s
  sure : (k : ℕ) → 0 < k → k ≤ length (a.config (suc e) id) → count ≡ k → due ≡ k → links ≤ 1 → (head_of s).late ≡ 0 → Holds s k (a.config (suc e) id) 0 links
      → Next a hears n e id due count links gone u s
  full : (l : ℕ) → l ≤ 1 → 0 < length (a.config (suc e) id) → Lasts s due → Holds s (length (a.config (suc e) id)) (a.config (suc e) id) 1 l
      → Next a hears n e id due count links gone u s

-- ---- heads

pub part-head : (s xs : List ℕ) (due : ℕ) → Part s xs due → ((head_of s).whole ≡ 0) × (((head_of s).deleted ≡ 0) × (length s ≡ structure_size))
part-head s xs due (empty e) = (e.whole, (e.deleted, e.size))
part-head s xs due (stuck k) = (k.whole, (k.deleted, k.size))
part-head s xs due (run i k l hl p q d h) = (h.whole, (h.deleted, h.size))

-- a frame was missed, or a change came that nothing was announced of
deleting-kept : (s : List ℕ) → Deleting s → Deleting (spoiled s)
deleting-kept s d =
    let k = spoiled-none s d.size (λ i. eqb (d.whole i) 0 && ltb 0 (d.fields i)) in
    record {
      size = k.size d.size;
      fields = k.fields ∙ d.fields;
      whole = k.whole ∙ d.whole;
      deleted = k.deleted ∙ d.deleted;
      links = omega (arith, k.links, d.links);
    }

pub deletion-deleting : Deleting deletion
unfolding deletion none_head
deletion-deleting = record {
  size = deletion-length;
  fields = ap (λ (h : Structure). h.fields) (none-head 1);
  whole = ap (λ (h : Structure). h.whole) (none-head 1);
  deleted = ap (λ (h : Structure). h.deleted) (none-head 1);
  links = omega (arith, ap (λ (h : Structure). h.links) (none-head 1));
}

-- how many fields have room
pub stored_at : (s : List ℕ) (n : ℕ) → (head_of s).fields ≡ n → stored (head_of s) ≤ n
unfolding stored
stored_at s n e = go (dec_lt most (head_of s).fields)
  where
    go : Dec (most < (head_of s).fields) → cond (ltb most (head_of s).fields) most (head_of s).fields ≤ n
    go (yes q) = subst (λ (b : Bool). cond b most (head_of s).fields ≤ n) (sym (lt-ltb most (head_of s).fields q)) (omega (arith, q, e))
    go (no q) = subst (λ (b : Bool). cond b most (head_of s).fields ≤ n) (sym (le-ltb most (head_of s).fields (omega (arith, q)))) (omega (arith, e))

pub stored_some : (s : List ℕ) → 0 < (head_of s).fields → 0 < stored (head_of s)
unfolding stored
stored_some s p = go (ltb most (head_of s).fields)
  where
    go : (b : Bool) → 0 < cond b most (head_of s).fields
    go true = lit< tt
    go false = p

-- what is whole stays
pub whole-kept : (s xs : List ℕ) (k l : ℕ) → Holds s k xs 1 l → Holds (spoiled s) k xs 1 l
whole-kept s xs k l h = alike-holds s (spoiled s) k xs 1 l (spoiled-whole s h.size h.whole) h

-- a run from the first field on
pub from_first : (s xs : List ℕ) (k l due : ℕ) → l ≤ 1 → 0 < k → k ≤ length xs → due ≡ k → Holds s k xs 0 l → Part s xs due
from_first s xs k l due hl pos le d h = run 0 k l hl pos (omega (arith, le)) (d ∙ sym (plain k)) h
  where
    plain : (x : ℕ) → 0 + x ≡ x
    plain x = omega arith

-- ---- frames are missed

module _ (a : Air) (hears : ℕ → Bool) (n e id : ℕ) where
  pub front-gap : (due next : ℕ) (s : List ℕ) → Front a hears n e id due s → Front a hears n e id next (spoiled s)
  front-gap due next s (some p) = some (spoiled-part s _ _ due next p)
  front-gap due next s (all j l hl hj pos h q) = all j l hl hj pos (whole-kept s _ _ l h) q

  stuck-fields : (s xs : List ℕ) (due : ℕ) → Part s xs due → 0 < (head_of s).fields → 0 < (head_of (spoiled s)).fields
  stuck-fields s xs due p h = let k = part-head s xs due p in omega (arith, (spoils s k.1.1 k.0 h).fields)

  pub next-gap : (due count links : ℕ) (gone u : Bool) (s : List ℕ) → Next a hears n e id due count links gone u s
      → (due' count' links' : ℕ) (gone' : Bool) → Next a hears n e id due' count' links' gone' false (spoiled s)
  next-gap due count links gone u s (none em c q) due' count' links' gone' =
      none (spoiled-empty s em) (λ z. clash (sym z)) q
  next-gap due count links gone u s (delete d c) due' count' links' gone' = delete (deleting-kept s d) (λ z. clash (sym z))
  next-gap due count links gone u s (piece w h p) due' count' links' gone' =
      piece refl (stuck-fields s _ due p h) (spoiled-part s _ _ due due' p)
  next-gap due count links gone u s (sure k pos le c d hl la h) due' count' links' gone' =
      let p = from_first s _ k links due hl pos le d h in
      piece refl (stuck-fields s _ due p (omega (arith, h.fields, pos))) (spoiled-part s _ _ due due' p)
  next-gap due count links gone u s (full l hl pos la h) due' count' links' gone' =
      full l hl pos (inl (spoiled-last s h.size)) (whole-kept s _ _ l h)

-- ---- a change

-- nothing was announced of it, up to the change
pub quiet-over : (a : Air) (hears : ℕ → Bool) (n j e id : ℕ) → QuietTo a hears n j e id → Silent a hears n e id → QuietTo a hears n j (suc e) id
quiet-over a hears n j e id q z =
    record { quiet = λ v hv hh lo hi. go v hv hh lo hi (ℕ_discrete (epoch (timed a) v) e); undenied = q.undenied }
  where
    go : (v : ℕ) → v < n → hears v ≡ true → j ≤ epoch (timed a) v → epoch (timed a) v < suc e → Dec (epoch (timed a) v ≡ e) → announces id (a.carries v) ≡ false
    go v hv hh lo hi (yes s) = z v hv hh s
    go v hv hh lo hi (no s) = q.quiet v hv hh lo (omega (arith, hi, s))

-- what is known of the running configuration, or of the coming one, nobody can have denied yet
abbrev pub Past : Air → ℕ → ℕ → Type 0
Past a n e = (v : ℕ) → v < n → epoch (timed a) v ≤ e

quiet-yet : (a : Air) (hears : ℕ → Bool) (n e id : ℕ) → Past a n e → QuietTo a hears n e e id
quiet-yet a hears n e id past = record {
  quiet = λ v hv hh lo hi. absurd (omega (arith, lo, hi));
  undenied = λ v hv hh lo. absurd (omega (arith, lo, past v hv));
}

-- what the coming structure is by then, where the whole configuration was heard
pub data Settled (xs zs : List ℕ) (count : ℕ) (gone : Bool) : Type 0 where
  stays-so : count ≡ 0 → gone ≡ false → zs ≡ xs → Settled xs zs count gone
  told : 0 < length zs → length zs ≤ count → Settled xs zs count gone
  ends : zs ≡ [] → gone ≡ true → Settled xs zs count gone

module _ (a : Air) (hears : ℕ → Bool) (n e id : ℕ) (past : Past a n e) (hid : id < ids) (m : List ℕ) (lm : length m ≡ map_size) (k : Linked (a.config (suc e) id)) where
  abbrev pub F : List ℕ
  F = structure_at id 0 m

  abbrev pub A : List ℕ
  A = structure_at id 1 m

  abbrev pub after : Bool → List ℕ
  after b = changed_from ids 0 b m

  abbrev pub After : ℕ → Bool → Type 0
  After due b = Front a hears n (suc e) id due (structure_at id 0 (after b)) × Empty (structure_at id 1 (after b))

  la-size : length A ≡ structure_size
  la-size = structure-length m lm id 1 hid (lit< tt)

  -- nothing is announced behind a change
  none_left : (b : Bool) → Empty (structure_at id 1 (after b))
  none_left b = emptied b m lm id hid

  -- a structure that is whole comes in force so
  applied : (b : Bool) (next v l : ℕ) → l ≤ 1 → 0 < length (a.config (suc e) id) → Holds A (length (a.config (suc e) id)) (a.config (suc e) id) v l
      → (b ≡ true × (head_of A).late ≡ 0) ⊎ (v ≡ 1) → After next b
  applied b next v l hl pos h w = (
    subst (Front a hears n (suc e) id next) (sym (comes-in b m lm id hid (omega (arith, h.fields, pos))))
        (all (suc e) l hl (omega arith) pos (settled-holds b A la-size _ _ v l h pos k.few w)
        (quiet-yet a hears n (suc e) id (λ x hx. omega (arith, past x hx)))),
    none_left b,
  )

  dropped : (b : Bool) (next : ℕ) → Deleting A → After next b
  dropped b next d = (
    subst (Front a hears n (suc e) id next) (sym (goes-out b m lm id hid d.deleted))
        (some (empty (settled-empty b A la-size d.fields d.whole d.links))),
    none_left b,
  )

  -- nothing is announced
  unsaid : (b : Bool) (next : ℕ) → Empty A → Front a hears n (suc e) id next (stayed b F) → After next b
  unsaid b next em f = (
    subst (Front a hears n (suc e) id next) (sym (stays b m lm id hid em.fields em.deleted)) f,
    none_left b,
  )

  lf-size : length F ≡ structure_size
  lf-size = structure-length m lm id 0 hid (lit< tt)

  -- a part that comes in force by a change that is not sure
  spoilt : (next due : ℕ) → 0 < (head_of A).fields → Part A (a.config (suc e) id) due → After next false
  spoilt next due pos p = (
    subst (Front a hears n (suc e) id next) (sym (comes-in false m lm id hid pos))
        (some (stuck (settled-spoils false A la-size refl (part-head A _ due p).0 pos))),
    none_left false,
  )

  -- what is being gathered, behind such a change
  part_stays : (xs ys : List ℕ) (due next : ℕ) → Part F xs due → Part (stayed false F) ys next
  part_stays xs ys due next (empty em) = empty (alike-empty F (stayed false F) (stayed-alike F lf-size false (λ i. eqb (em.whole i) 0 && ltb 0 (em.fields i))) em)
  part_stays xs ys due next (stuck s) = stuck (stayed-spoils F lf-size s.whole (omega (arith, s.fields)))
  part_stays xs ys due next (run i k l hl p q d h) = stuck (stayed-spoils F lf-size h.whole (omega (arith, h.fields, p)))

  -- and behind one that is sure
  part-kept : (xs : List ℕ) (due : ℕ) → Part F xs due → Part (stayed true F) xs due
  part-kept xs due (empty em) = empty (alike-empty F (stayed true F) (stayed-sure F lf-size) em)
  part-kept xs due (stuck s) =
      let y = stayed-sure F lf-size in
      stuck (record {
        size = y.size s.size;
        fields = y.fields ∙ s.fields;
        whole = y.whole ∙ s.whole;
        deleted = y.deleted ∙ s.deleted;
        links = omega (arith, y.links, s.links);
        first = y.each 0 ∙ s.first;
      })
  part-kept xs due (run i k l hl p q d h) = run i k l hl p q d (alike-holds F (stayed true F) k (drop i xs) 0 l (stayed-sure F lf-size) h)

  whole-stays : (b : Bool) (k : ℕ) (xs : List ℕ) (l : ℕ) → Holds F k xs 1 l → Holds (stayed b F) k xs 1 l
  whole-stays b k xs l h =
      alike-holds F (stayed b F) k xs 1 l (stayed-alike F lf-size b (λ i. eqb (h.whole i) 0 && ltb 0 (head_of F).fields)) h

  pub front-unsure : (due next dn count links : ℕ) (gone u : Bool) → Front a hears n e id due F → Next a hears n e id dn count links gone u A → After next false
  front-unsure due next dn count links gone u (some p) (none em c q) = unsaid false next em (some (part_stays _ _ due next p))
  front-unsure due next dn count links gone u (all j l hl hj pos h z) (none em c q) =
      unsaid false next em
      (all j l hl (omega arith) pos (whole-stays false _ _ l h) (quiet-over a hears n j e id z q))
  front-unsure due next dn count links gone u f (delete d c) = dropped false next d
  front-unsure due next dn count links gone u f (piece w h p) = spoilt next dn h p
  front-unsure due next dn count links gone u f (sure i pos le c d hl la h) =
      spoilt next dn (omega (arith, h.fields, pos)) (from_first A _ i links dn hl pos le d h)
  front-unsure due next dn count links gone u f (full l hl pos la h) = applied false next 1 l hl pos h (inr refl)

  pub front-sure : (due next dn count links : ℕ) (gone : Bool) → (a.config (suc e) id ≡ a.config e id → next ≡ due)
      → Settled (a.config e id) (a.config (suc e) id) count gone
      → Front a hears n e id due F → Next a hears n e id dn count links gone true A → After next true
  front-sure due next dn count links gone on (stays-so c0 g0 z) (some p) (none em c q) =
      unsaid true next em (some (subst (λ (x : List ℕ). Part (stayed true F) x next) (sym z) (subst (Part (stayed true F) (a.config e id)) (sym (on z)) (part-kept _ due p))))
  front-sure due next dn count links gone on (stays-so c0 g0 z) (all j l hl hj pos h y) (none em c q) =
      unsaid true next em (all j l hl (omega arith) pos (whole-stays true _ _ l h) (quiet-over a hears n j e id y q))
  front-sure due next dn count links gone on (told p le) f (none em c q) = absurd (omega (arith, p, le, (c refl).0))
  front-sure due next dn count links gone on (ends z g1) f (none em c q) = clash (sym g1 ∙ (c refl).1.0)
  front-sure due next dn count links gone on st f (delete d c) = dropped true next d
  front-sure due next dn count links gone on st f (piece w h p) = clash w
  front-sure due next dn count links gone on (stays-so c0 g0 z) f (sure i pos le c d hl la h) = absurd (omega (arith, pos, c, c0))
  front-sure due next dn count links gone on (told p le2) f (sure i pos le c d hl la h) =
      let z : i ≡ length (a.config (suc e) id) = omega (arith, le, le2, c) in
      applied true next 0 links hl p (subst (λ (x : ℕ). Holds A x (a.config (suc e) id) 0 links) z h) (inl (refl, la))
  front-sure due next dn count links gone on (ends z g1) f (sure i pos le c d hl la h) = absurd (omega (arith, pos, le, ap length z))
  front-sure due next dn count links gone on st f (full l hl pos la h) = applied true next 1 l hl pos h (inr refl)

-- ---- a field

-- a field of a list is listed
listed : (xs : List ℕ) (i t : ℕ) → i < length xs → get_or xs i 0 ≡ t → lists xs t ≡ true
unfolding lists
listed [] i t h e = absurd (omega arith)
listed (x ∷ xs) zero t h e = ap (λ (b : Bool). b || lists xs t) (eq-eqb x t e)
listed (x ∷ xs) (suc i) t h e = ap (λ (b : Bool). eqb x t || b) (listed xs i t (omega arith) e) ∙ or-true (eqb x t)

listed-undenied : (a : Air) (n id i l : ℕ) (xs : List ℕ) → lists xs (get_or (in_force a n id) i 0) ≡ true → denies a n id xs (old id i l) ≡ false
unfolding denies
listed-undenied a n id i l xs e = ap (λ (b : Bool). eqb id id && not b) e ∙ and-false (eqb id id)

module _ (a : Air) (hears : ℕ → Bool) (n e id : ℕ) (now : epoch (timed a) n ≡ e) where
  past-now : Past a (suc n) e
  past-now v hv = omega (arith, epoch-mono (timed a) v n (omega (arith, hv)), now)

  same_place : (x y : ℕ) → (x < y → ⊥) → x < suc y → x ≡ y
  same_place x y p r = omega (arith, p, r)

  -- the field does not deny it
  quiet-on : (j : ℕ) → denies a n id (a.config j id) (a.carries n) ≡ false → QuietTo a hears n j e id → QuietTo a hears (suc n) j e id
  quiet-on j here q = record {
    quiet = λ v hv hh lo hi. still v hv hh lo hi (dec_lt v n);
    undenied = λ v hv hh lo. none v hv hh lo (dec_lt v n);
  }
    where
      still : (v : ℕ) → v < suc n → hears v ≡ true → j ≤ epoch (timed a) v → epoch (timed a) v < e → Dec (v < n) → announces id (a.carries v) ≡ false
      still v hv hh lo hi (yes h) = q.quiet v h hh lo hi
      still v hv hh lo hi (no h) = absurd (omega (arith, hi, ap (epoch (timed a)) (same_place v n h hv) ∙ now))

      none : (v : ℕ) → v < suc n → hears v ≡ true → j < epoch (timed a) v → Dec (v < n) → denies a v id (a.config j id) (a.carries v) ≡ false
      none v hv hh lo (yes h) = q.undenied v h hh lo
      none v hv hh lo (no h) = ap (λ (i : ℕ). denies a i id (a.config j id) (a.carries i)) (same_place v n h hv) ∙ here

  pub silent-on : announces id (a.carries n) ≡ false → Silent a hears n e id → Silent a hears (suc n) e id
  silent-on here q v hv hh z = go (dec_lt v n)
    where
      go : Dec (v < n) → announces id (a.carries v) ≡ false
      go (yes h) = q v h hh z
      go (no h) = ap (λ (i : ℕ). announces id (a.carries i)) (same_place v n h hv) ∙ here

  -- nothing was carried of its present structure, nor that it is not there
  pub front-on : (due : ℕ) (s : List ℕ) → ((xs : List ℕ) → denies a n id xs (a.carries n) ≡ false)
      → Front a hears n e id due s → Front a hears (suc n) e id due s
  front-on due s here (some p) = some p
  front-on due s here (all j l hl hj pos h q) = all j l hl hj pos h (quiet-on j (here (a.config j id)) q)

  took-front : (due l : ℕ) (s : List ℕ) → l ≤ 1 → 0 < length (a.config e id) → Took s (a.config e id) due l → Front a hears (suc n) e id due s
  took-front due l s hl pos (partly i k p q d h) = some (run i k l hl p q d h)
  took-front due l s hl pos (wholly h la) = all e l hl (omega arith) pos h (quiet-yet a hears (suc n) e id past-now)

  -- a present field: a list that is whole is held on only where it lists the field
  pub front-old : Linked (a.config e id) → (i l due : ℕ) (s : List ℕ) → a.carries n ≡ old id i l → i < length (a.config e id) → l ≤ 1
      → ((k : ℕ) → due ≡ suc k → i ≡ turn (length (a.config e id)) k)
      → Front a hears n e id due s → Front a hears (suc n) e id (suc i) (gathered s (get_or (a.config e id) i 0) l)
  unfolding turn
  front-old k i l due s is hi hl order (some p) =
      took-front (suc i) l _ hl (omega arith) (part-takes _ (linked-fields _ k) i hi l hl s due order p)
  front-old k i l due s is hi hl order (all j m hm hj pos h q) =
      go (whole_takes _ (linked-fields _ k) i hi l hl s (a.config j id) m pos h)
    where
      here : Stays (gathered s (get_or (a.config e id) i 0) l) (a.config j id) m (get_or (a.config e id) i 0)
          → denies a n id (a.config j id) (a.carries n) ≡ false
      here z =
          ap (denies a n id (a.config j id)) is
          ∙ listed-undenied a n id i l (a.config j id)
          (ap (λ (x : ℕ). lists (a.config j id) (get_or (a.config x id) i 0)) now ∙ listed (a.config j id) z.place _ z.within z.listed)

      go : Stays (gathered s (get_or (a.config e id) i 0) l) (a.config j id) m (get_or (a.config e id) i 0)
          ⊎ Took (gathered s (get_or (a.config e id) i 0) l) (a.config e id) (suc i) l
          → Front a hears (suc n) e id (suc i) (gathered s (get_or (a.config e id) i 0) l)
      go (inl z) = all j m hm hj pos z.holds (quiet-on j (here z) q)
      go (inr t) = took-front (suc i) l _ hl (omega arith) t

  -- nothing was said of what comes
  pub next-on : (due count links : ℕ) (gone u : Bool) (s : List ℕ) → announces id (a.carries n) ≡ false
      → Next a hears n e id due count links gone u s → Next a hears (suc n) e id due count links gone u s
  next-on due count links gone u s here (none em c q) = none em c (silent-on here q)
  next-on due count links gone u s here (delete d c) = delete d c
  next-on due count links gone u s here (piece w h p) = piece w h p
  next-on due count links gone u s here (sure k pos le c d hl la h) = sure k pos le c d hl la h
  next-on due count links gone u s here (full l hl pos la h) = full l hl pos la h

  took-next : (due count links l : ℕ) (gone u : Bool) (s : List ℕ) → l ≤ 1 → u ≡ false → 0 < length (a.config (suc e) id) → 0 < (head_of s).fields
      → Took s (a.config (suc e) id) due l → Next a hears (suc n) e id due count links gone u s
  took-next due count links l gone u s hl w pos f (partly i k p q d h) = piece w f (run i k l hl p q d h)
  took-next due count links l gone u s hl w pos f (wholly h la) = full l hl pos la h

  module _ (k : Linked (a.config (suc e) id)) (i l : ℕ) (hi : i < length (a.config (suc e) id)) (hl : l ≤ 1) where
    abbrev zs : List ℕ
    zs = a.config (suc e) id

    abbrev t : ℕ
    t = get_or zs i 0

    small : t < 2 ^ 64
    small = omega (arith, (k.fit i hi).width)

    -- the next of a run of which nothing was missed
    sure-takes : (c links : ℕ) (s : List ℕ) → 0 < c → c ≤ length zs → i ≡ cond (eqb c (length zs)) 0 c → (i ≡ c → l ≡ links)
        → (head_of s).late ≡ 0 → Holds s c zs 0 links → (count : ℕ) (gone u : Bool) → count ≡ c
        → Next a hears (suc n) e id (suc i) (count + 1) l gone u (gathered s t l)
    sure-takes c links s pos le at linked la h count gone u ec = go (ℕ_discrete c (length zs))
      where
        f : Fields zs
        f = linked-fields zs k

        go : Dec (c ≡ length zs) → Next a hears (suc n) e id (suc i) (count + 1) l gone u (gathered s t l)
        go (yes q) =
            let z : i ≡ 0 = at ∙ ap (λ (b : Bool). cond b 0 c) (eq-eqb c (length zs) q) in
            full l hl (omega arith) (inr (completes-last zs f i hi l s c links pos h q z)) (first-completes zs f i hi l s c links pos h q z)
        go (no q) =
            let z : i ≡ c = at ∙ ap (λ (b : Bool). cond b 0 c) (ne_eqb c (length zs) q) in
            sure (suc i) (omega arith) (omega (arith, hi)) (ap (λ (x : ℕ). x + 1) ec ∙ one_on z) refl hl
            (joins-late zs f i hi l s c links pos h z (linked z) ∙ la) (first-joins zs f i hi l s c links pos h z (linked z))
          where
            one_on : i ≡ c → c + 1 ≡ suc i
            one_on z = omega (arith, z)

    -- the first of which nothing was missed
    sure-first : (count due : ℕ) (s : List ℕ) (gone : Bool) → (head_of s).fields ≡ 0 → (head_of s).whole ≡ 0 → count ≡ 0 → due ≡ 0 → (due ≡ 0 → i ≡ 0)
        → Next a hears (suc n) e id (suc i) (count + 1) l gone true (gathered s t l)
    sure-first count due s gone f w c d first =
        let z : i ≡ 0 = first d in
        let is : t ≡ get_or zs 0 0 = ap (λ (j : ℕ). get_or zs j 0) z in
        sure 1 (lit< tt) (omega arith) (ap (λ (x : ℕ). x + 1) c) (ap suc z) hl
        (ap (λ (x : Structure). x.late) (begun-head s f w t l zs small is)) (begun s f w t l zs small is)

    pub next-new : (due count links : ℕ) (gone u : Bool) (s : List ℕ)
        → ((j : ℕ) → due ≡ suc j → (i ≡ turn (length zs) j) × (i ≡ suc j → l ≡ links)) → (u ≡ true → due ≡ 0 → i ≡ 0)
        → Next a hears n e id due count links gone u s → Next a hears (suc n) e id (suc i) (count + 1) l gone u (gathered s t l)
    unfolding turn
    next-new due count links gone true s order first (none em c q) =
        let y = c refl in
        sure-first count due s gone em.fields em.whole y.0 y.1.1 (first refl)
    next-new due count links gone false s order first (none em c q) =
        took-next (suc i) (count + 1) l l gone false _ hl refl (omega arith) (gathered-some s t l em.size em.whole small)
        (open-takes zs (linked-fields zs k) i hi l hl s em.fields em.whole)
    next-new due count links gone true s order first (delete d c) =
        let y = c refl in
        sure-first count due s gone d.fields d.whole y.0 y.1.1 (first refl)
    next-new due count links gone false s order first (delete d c) =
        took-next (suc i) (count + 1) l l gone false _ hl refl (omega arith) (gathered-some s t l d.size d.whole small)
        (open-takes zs (linked-fields zs k) i hi l hl s d.fields d.whole)
    next-new due count links gone u s order first (piece w h p) =
        let x = part-head s zs due p in
        took-next (suc i) (count + 1) l l gone u _ hl w (omega arith) (gathered-some s t l x.1.1 x.0 small)
        (part-takes zs (linked-fields zs k) i hi l hl s due (λ j e. (order j e).0) p)
    next-new due count links gone u s order first (sure c pos le ec d hk la h) =
        let z : suc (c - 1) ≡ c = omega (arith, pos) in
        let o = order (c - 1) (d ∙ sym z) in
        sure-takes c links s pos le (o.0 ∙ ap (λ (x : ℕ). cond (eqb x (length zs)) 0 x) z) (λ q. o.1 (q ∙ sym z)) la h count gone u ec
    next-new due count links gone u s order first (full m hm pos la h) =
        let x = whole-next zs (linked-fields zs k) i hi l hl s due m h la (λ j e. (order j e).0) in
        full m hm pos (inr x.1) x.0
