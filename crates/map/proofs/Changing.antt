-- What a change does: every announced structure is put in force, once.
--
--   stayed-*              a structure in force that nothing was announced of
--   settled-*             an announced structure as it comes into force
--   anew-*                worked: a change that is not sure, and one field announced or in force, not known to be whole; and an
--                         announcement that was begun over another
--   changed-length, both-length     a component's block keeps its length
--   each-*, from-*        the loop over all components, by any rule and by a change's: each block is changed, and nothing else
--   both-*, gap-*         a missed frame: each structure is spoiled, and nothing else
--   stays, comes-in, goes-out    what is in force behind a change, by what was announced; cleared, emptied: nothing is announced
--
-- Assumes nothing.
use mathlib.Core.Path.{◌≡◌, refl, sym, ap, ap₂, ◌∙◌, subst}
use mathlib.Core.Bool.{Bool, true, false, cond, ◌&&◌, ◌||◌, or-true}
use mathlib.Core.List.{List, ◌∷◌, ◌++◌}
use mathlib.Core.Logic.{◌⊎◌, inl, inr}
use Prim.Native.Nat.{ℕ, zero, suc, ◌+◌, ◌*◌, ◌≤◌, ◌<◌}
use native.Mathlib.Omega.{arith}
use native.Mathlib.Decide.{ℕ_discrete}
use borrow.Author.Tests.{le-leb, lt-ltb, le-ltb}
use lib.Dec.{leb, ltb, eqb, lit<, lit≤}
use lib.ListN.{length, take, length-append}
use lib.Seq.{take_all, take_at, drop_at}
use Rattle.bits.specs.Bits.{blank}
use Rattle.bits.proofs.Storing.{blank-length}
use Rattle.runs.specs.Part.{part, put}
use Rattle.runs.proofs.Parts.{part_length, blank-at}
use Rattle.runs.specs.Numbers.{four, four_at, eight, eight_at}
use Rattle.field.specs.Field.{deletes}
use Rattle.structure.specs.Structure.{most, structure_size, all_ones, head_of, with_head, nth, with_nth, marked_head, beginning, turn_of, spoiled, said, complete, settled_head}
use Rattle.map.specs.Map.{ids, map_size, block_size, frames_of, block_at, with_block, structure_at, stayed, settled, forced, changed, each_from, changed_from, spoiled_both}
use Rattle.structure.specs.declared.Structure.{Structure}
use Rattle.structure.specs.declared.Turn.TheVariants.{Begins}
use Rattle.map.proofs.Places.{block-length, block-structure, block_same, block-other, block-frames, with-block-length}
use Rattle.structure.proofs.Gathering.{Holds, Empty, Alike, alike-also, alike-holds, marked-alike, head-stored, nth-head, with-head-length}
use Rattle.structure.proofs.Kept.{spoiled-length, spoiled-none, spoiled-some, spoiled-certain, spoiled-last, spoiled-begins}
use Rattle.structure.proofs.Runs.{Stuck, spoils, spoiled-empty}

-- ---- blank structures

pub blank-empty : (s : List ℕ) → s ≡ blank structure_size → Empty s
unfolding head_of
blank-empty s e =
    subst Empty (sym e) (record {
      size = blank-length structure_size;
      fields = blank-at structure_size 0;
      whole = blank-at structure_size 1;
      deleted = blank-at structure_size 3;
      links = omega (arith, blank-at structure_size 2);
    })

take-blank : (n m : ℕ) → n ≤ m → take n (blank m) ≡ blank n
unfolding blank
take-blank zero m h = refl
take-blank (suc n) zero h = absurd (omega arith)
take-blank (suc n) (suc m) h = ap (λ (x : List ℕ). 0 ∷ x) (take-blank n m (omega arith))

-- ---- one structure at a change

module _ (f : List ℕ) (lf : length f ≡ structure_size) where
  abbrev unmarked : List ℕ
  unmarked = with_head (marked_head 0 0 (head_of f)) f

  unmarked-length : length unmarked ≡ structure_size
  unmarked-length = with-head-length f lf (marked_head 0 0 (head_of f))

  unmarked-alike : Alike f unmarked
  unmarked-alike = marked-alike f lf 0 0

  pub stayed-length : (sure : Bool) → length (stayed sure f) ≡ structure_size
  unfolding stayed
  stayed-length true = unmarked-length
  stayed-length false = spoiled-length unmarked unmarked-length

  -- a sure change leaves its fields
  pub stayed-sure : Alike f (stayed true f)
  unfolding stayed
  stayed-sure = unmarked-alike

  -- and so does any change, where nothing is being gathered
  pub stayed-alike : (sure : Bool) → (eqb (head_of f).whole 0 && ltb 0 (head_of f).fields) ≡ false → Alike f (stayed sure f)
  unfolding stayed
  stayed-alike true e = unmarked-alike
  stayed-alike false e =
      alike-also f unmarked (spoiled unmarked) unmarked-alike
      (spoiled-none unmarked unmarked-length ((λ i. eqb (unmarked-alike.whole i) 0 && ltb 0 (unmarked-alike.fields i)) ∙ e))

  -- what is being gathered may lack a field behind a change that is not sure
  pub stayed-spoils : (head_of f).whole ≡ 0 → 0 < (head_of f).fields → Stuck (stayed false f)
  unfolding stayed
  stayed-spoils w p = spoils unmarked unmarked-length (unmarked-alike.whole ∙ w) (omega (arith, p, unmarked-alike.fields))

  -- a component is there exactly where it was
  pub stayed-some : (sure : Bool) → ltb 0 (head_of (stayed sure f)).fields ≡ ltb 0 (head_of f).fields
  unfolding stayed
  stayed-some true = ap (ltb 0) unmarked-alike.fields
  stayed-some false = spoiled-some unmarked unmarked-length ∙ ap (ltb 0) unmarked-alike.fields

  -- nothing was heard of it in the configuration that begins
  pub stayed-certain : (sure : Bool) → (head_of (stayed sure f)).certain ≡ 0
  unfolding stayed marked_head
  stayed-certain true = ap (λ (h : Structure). h.certain) (head-stored f lf (marked_head 0 0 (head_of f)))
  stayed-certain false =
      spoiled-certain unmarked unmarked-length ∙ ap (λ (h : Structure). h.certain) (head-stored f lf (marked_head 0 0 (head_of f)))

  pub stayed-last : (sure : Bool) → (head_of (stayed sure f)).last ≡ 0
  unfolding stayed marked_head
  stayed-last true = ap (λ (h : Structure). h.last) (head-stored f lf (marked_head 0 0 (head_of f)))
  stayed-last false = spoiled-last unmarked unmarked-length

module _ (sure : Bool) (c : List ℕ) (lc : length c ≡ structure_size) where
  abbrev marked : List ℕ
  marked = with_head (settled_head sure (head_of c)) c

  marked-length : length marked ≡ structure_size
  marked-length = with-head-length c lc (settled_head sure (head_of c))

  marked-head : head_of marked ≡ settled_head sure (head_of c)
  marked-head = head-stored c lc (settled_head sure (head_of c))

  pub settled-length : length (settled sure c) ≡ structure_size
  unfolding settled
  settled-length = spoiled-length marked marked-length

  pub settled-some : ltb 0 (head_of (settled sure c)).fields ≡ ltb 0 (head_of c).fields
  unfolding settled settled_head
  settled-some = spoiled-some marked marked-length ∙ ap (λ (h : Structure). ltb 0 h.fields) marked-head

  pub settled-certain : (head_of (settled sure c)).certain ≡ cond sure (head_of c).certain 0
  unfolding settled settled_head
  settled-certain = spoiled-certain marked marked-length ∙ ap (λ (h : Structure). h.certain) marked-head

  pub settled-last : (head_of (settled sure c)).last ≡ 0
  unfolding settled
  settled-last = spoiled-last marked marked-length

  -- it was to be deleted, or nothing was announced
  pub settled-empty : (head_of c).fields ≡ 0 → (head_of c).whole ≡ 0 → (head_of c).links ≤ 1 → Empty (settled sure c)
  unfolding settled settled_head complete
  settled-empty f w l =
      let none : (head_of marked).whole ≡ 0 = ap (λ (h : Structure). h.whole) marked-head ∙ unfinished sure (eqb (head_of c).late 0) in
      spoiled-empty marked (record {
        size = marked-length;
        fields = ap (λ (h : Structure). h.fields) marked-head ∙ f;
        whole = none;
        deleted = ap (λ (h : Structure). h.deleted) marked-head;
        links = omega (arith, ap (λ (h : Structure). h.links) marked-head, l);
      })
    where
      unfinished : (q t : Bool) → cond (q && (t && (ltb 0 (head_of c).fields && leb (head_of c).fields most))) 1 (head_of c).whole ≡ 0
      unfinished q t =
          ap (λ (b : Bool). cond (q && (t && (b && leb (head_of c).fields most))) 1 (head_of c).whole) (le-ltb 0 (head_of c).fields (omega (arith, f)))
          ∙ never q t ∙ w
        where
          never : (q t : Bool) → cond (q && (t && false)) 1 (head_of c).whole ≡ (head_of c).whole
          never true true = refl
          never true false = refl
          never false t = refl

  -- what is not whole then is begun anew by whatever field comes
  pub settled-begins : (head_of (settled sure c)).whole ≡ 0 → 0 < (head_of (settled sure c)).fields → (t r : ℕ) → deletes t ≡ false → turn_of (settled sure c) t r ≡ Begins
  unfolding settled
  settled-begins w f t r d = spoiled-begins marked marked-length w f t r d

  -- announced in part, and the rest was not heard
  pub settled-spoils : sure ≡ false → (head_of c).whole ≡ 0 → 0 < (head_of c).fields → Stuck (settled sure c)
  unfolding settled settled_head
  settled-spoils q w f =
      spoils marked marked-length
      (ap (λ (h : Structure). h.whole) marked-head ∙ ap (λ (b : Bool). cond (b && complete (head_of c)) 1 (head_of c).whole) q ∙ w)
      (omega (arith, f, ap (λ (h : Structure). h.fields) marked-head))

  -- nothing of it is missing, or it was known to be whole
  pub settled-holds : (n : ℕ) (xs : List ℕ) (v r : ℕ) → Holds c n xs v r → 0 < n → n ≤ most → (sure ≡ true × (head_of c).late ≡ 0) ⊎ (v ≡ 1)
      → Holds (settled sure c) n xs 1 r
  unfolding settled settled_head complete
  settled-holds n xs v r h pos few why =
      alike-holds marked (spoiled marked) n xs 1 r (spoiled-none marked marked-length (λ i. eqb (made.whole i) 0 && ltb 0 (head_of marked).fields)) made
    where
      fits : (ltb 0 (head_of c).fields && leb (head_of c).fields most) ≡ true
      fits = λ i. lt-ltb 0 (head_of c).fields (omega (arith, h.fields)) i && le-leb (head_of c).fields most (omega (arith, h.fields)) i

      mark : (sure ≡ true × (head_of c).late ≡ 0) ⊎ (v ≡ 1) → cond (sure && (eqb (head_of c).late 0 && (ltb 0 (head_of c).fields && leb (head_of c).fields most))) 1 (head_of c).whole ≡ 1
      mark (inl q) = λ i. cond (q.0 i && (eqb (q.1 i) 0 && fits i)) 1 (head_of c).whole
      mark (inr e) = either (sure && (eqb (head_of c).late 0 && (ltb 0 (head_of c).fields && leb (head_of c).fields most)))
        where
          either : (b : Bool) → cond b 1 (head_of c).whole ≡ 1
          either true = refl
          either false = h.whole ∙ e

      made : Holds marked n xs 1 r
      made = record {
        size = marked-length;
        fields = ap (λ (x : Structure). x.fields) marked-head ∙ h.fields;
        whole = ap (λ (x : Structure). x.whole) marked-head ∙ mark why;
        links = ap (λ (x : Structure). x.links) marked-head ∙ h.links;
        deleted = ap (λ (x : Structure). x.deleted) marked-head;
        each = λ i hi. nth-head c lc (settled_head sure (head_of c)) i ∙ h.each i hi;
      }

-- ---- a change that is not sure, worked: a structure of which one field is known, announced or in force

abbrev known : List ℕ
known = beginning 0 1 11 0

anew-moved : nth 0 (part 0 structure_size (changed false (blank structure_size ++ known))) ≡ all_ones
unfolding changed forced settled stayed said spoiled settled_head complete marked_head beginning head_of with_head with_nth nth eight_at eight four four_at part put blank
anew-moved = refl

anew-stayed : nth 0 (part 0 structure_size (changed false (known ++ blank structure_size))) ≡ all_ones
unfolding changed forced settled stayed said spoiled settled_head complete marked_head beginning head_of with_head with_nth nth eight_at eight four four_at part put blank
anew-stayed = refl

-- an announcement that was begun over another is not the whole, though the change is sure
anew-late : (head_of (part 0 structure_size (changed true (blank structure_size ++ beginning 1 1 11 0)))).whole ≡ 0
unfolding changed forced settled stayed said spoiled settled_head complete marked_head beginning head_of with_head with_nth nth eight_at eight four four_at part put blank
anew-late = refl

-- ---- a block

module _ (sure : Bool) (b : List ℕ) (lb : length b ≡ block_size) where
  abbrev force : List ℕ
  force = part 0 structure_size b

  abbrev coming : List ℕ
  coming = part structure_size structure_size b

  force-length : length force ≡ structure_size
  force-length = part_length 0 structure_size b (omega arith)

  coming-length : length coming ≡ structure_size
  coming-length = part_length structure_size structure_size b (omega arith)

  forced-length : length (forced sure force coming) ≡ structure_size
  unfolding forced
  forced-length = go (said (head_of coming))
    where
      go : (x : Bool) → length (cond x (settled sure coming) (stayed sure force)) ≡ structure_size
      go true = settled-length sure coming coming-length
      go false = stayed-length force force-length sure

  pub changed-length : length (changed sure b) ≡ block_size
  unfolding changed
  changed-length = length-append (forced sure force coming) (blank structure_size) ∙ ap₂ ◌+◌ forced-length (blank-length structure_size)

  changed-force : part 0 structure_size (changed sure b) ≡ forced sure force coming
  unfolding changed part
  changed-force = take_at (forced sure force coming) (blank structure_size) structure_size forced-length

  changed-coming : part structure_size structure_size (changed sure b) ≡ blank structure_size
  unfolding changed part
  changed-coming =
      ap (take structure_size) (drop_at (forced sure force coming) (blank structure_size) structure_size forced-length)
      ∙ take-blank structure_size structure_size (lit≤ tt)

-- ---- all blocks

-- a rule for one block that keeps its length
module _ (f : List ℕ → List ℕ) (keeps : (b : List ℕ) → length b ≡ block_size → length (f b) ≡ block_size) where
  module _ (k : ℕ) (hk : k < ids) (m : List ℕ) (l : length m ≡ map_size) where
    lc : length (f (block_at k m)) ≡ block_size
    lc = keeps (block_at k m) (block-length m l k hk)

    step-length : length (with_block k (f (block_at k m)) m) ≡ map_size
    step-length = with-block-length m l k (f (block_at k m)) hk lc

  pub each-length : (n k : ℕ) (m : List ℕ) → k + n ≤ ids → length m ≡ map_size → length (each_from n k f m) ≡ map_size
  unfolding each_from
  each-length zero k m h l = l
  each-length (suc n) k m h l = each-length n (suc k) _ (omega arith) (step-length k (omega arith) m l)

  pub each-frames : (n k : ℕ) (m : List ℕ) → k + n ≤ ids → length m ≡ map_size → frames_of (each_from n k f m) ≡ frames_of m
  unfolding each_from
  each-frames zero k m h l = refl
  each-frames (suc n) k m h l =
      each-frames n (suc k) _ (omega arith) (step-length k (omega arith) m l)
      ∙ block-frames m l k (f (block_at k m)) (omega arith) (lc k (omega arith) m l)

  each-before : (n k : ℕ) (m : List ℕ) → k + n ≤ ids → length m ≡ map_size → (j : ℕ) → j < k → block_at j (each_from n k f m) ≡ block_at j m
  unfolding each_from
  each-before zero k m h l j hj = refl
  each-before (suc n) k m h l j hj =
      each-before n (suc k) _ (omega arith) (step-length k (omega arith) m l) j (omega arith)
      ∙ block-other m l k (f (block_at k m)) (omega arith) (lc k (omega arith) m l) j (λ z. omega (arith, z))

  pub each_at : (n k : ℕ) (m : List ℕ) → k + n ≤ ids → length m ≡ map_size → (j : ℕ) → k ≤ j → j < k + n
      → block_at j (each_from n k f m) ≡ f (block_at j m)
  unfolding each_from
  each_at zero k m h l j hk hj = absurd (omega arith)
  each_at (suc n) k m h l j hk hj =
      go (ℕ_discrete j k)
      (λ lo. each_at n (suc k) (with_block k (f (block_at k m)) m) (omega arith) (step-length k (omega arith) m l) j lo (omega arith))
    where
      lk : length (f (block_at k m)) ≡ block_size
      lk = lc k (omega arith) m l

      next : List ℕ
      next = with_block k (f (block_at k m)) m

      go : Dec (j ≡ k) → (suc k ≤ j → block_at j (each_from n (suc k) f next) ≡ f (block_at j next))
          → block_at j (each_from n (suc k) f next) ≡ f (block_at j m)
      go (yes e) rest =
          each-before n (suc k) next (omega arith) (step-length k (omega arith) m l) j (omega arith)
          ∙ subst (λ (x : ℕ). block_at x next ≡ f (block_at x m)) (sym e)
          (block_same m l k (f (block_at k m)) (omega arith) lk)
      go (no e) rest =
          rest (omega arith) ∙ ap f (block-other m l k (f (block_at k m)) (omega arith) lk j e)

module _ (sure : Bool) where
  pub from-length : (n k : ℕ) (m : List ℕ) → k + n ≤ ids → length m ≡ map_size → length (changed_from n k sure m) ≡ map_size
  from-length = each-length (changed sure) (λ b lb. changed-length sure b lb)

  pub from-frames : (n k : ℕ) (m : List ℕ) → k + n ≤ ids → length m ≡ map_size → frames_of (changed_from n k sure m) ≡ frames_of m
  from-frames = each-frames (changed sure) (λ b lb. changed-length sure b lb)

-- ---- a missed frame

module _ (b : List ℕ) (lb : length b ≡ block_size) where
  abbrev one : List ℕ
  one = spoiled (part 0 structure_size b)

  abbrev two : List ℕ
  two = spoiled (part structure_size structure_size b)

  one-length : length one ≡ structure_size
  one-length = spoiled-length (part 0 structure_size b) (part_length 0 structure_size b (omega arith))

  two-length : length two ≡ structure_size
  two-length = spoiled-length (part structure_size structure_size b) (part_length structure_size structure_size b (omega arith))

  pub both-length : length (spoiled_both b) ≡ block_size
  unfolding spoiled_both
  both-length = length-append one two ∙ ap₂ (λ (x y : ℕ). x + y) one-length two-length

  both-part : (w : ℕ) → w < 2 → part (w * structure_size) structure_size (spoiled_both b) ≡ spoiled (part (w * structure_size) structure_size b)
  unfolding spoiled_both part
  both-part zero hw = take_at one two structure_size one-length
  both-part (suc zero) hw = ap (take structure_size) (drop_at one two structure_size one-length) ∙ take_all structure_size two (omega (arith, two-length))
  both-part (suc (suc w)) hw = absurd (omega arith)

module _ (m : List ℕ) (l : length m ≡ map_size) where
  pub gap_length : length (each_from ids 0 spoiled_both m) ≡ map_size
  gap_length = each-length spoiled_both both-length ids 0 m (lit≤ tt) l

  pub gap-frames : frames_of (each_from ids 0 spoiled_both m) ≡ frames_of m
  gap-frames = each-frames spoiled_both both-length ids 0 m (lit≤ tt) l

  pub gap-structure : (k w : ℕ) → k < ids → w < 2 → structure_at k w (each_from ids 0 spoiled_both m) ≡ spoiled (structure_at k w m)
  gap-structure k w hk hw =
      sym (block-structure (each_from ids 0 spoiled_both m) gap_length k hk w hw)
      ∙ ap (part (w * structure_size) structure_size) (each_at spoiled_both both-length ids 0 m (lit≤ tt) l k (omega arith) hk)
      ∙ both-part (block_at k m) (block-length m l k hk) w hw ∙ ap spoiled (block-structure m l k hk w hw)

-- ---- a component behind a change

module _ (sure : Bool) (m : List ℕ) (l : length m ≡ map_size) (k : ℕ) (hk : k < ids) where
  lb : length (block_at k m) ≡ block_size
  lb = block-length m l k hk

  behind : (w : ℕ) → w < 2 → structure_at k w (changed_from ids 0 sure m) ≡ part (w * structure_size) structure_size (changed sure (block_at k m))
  behind w hw =
      sym (block-structure (changed_from ids 0 sure m) (from-length sure ids 0 m (lit≤ tt) l) k hk w hw)
      ∙ ap (part (w * structure_size) structure_size) (each_at (changed sure) (λ b lb. changed-length sure b lb) ids 0 m (lit≤ tt) l k (omega arith) hk)

  pub force-behind : structure_at k 0 (changed_from ids 0 sure m) ≡ forced sure (structure_at k 0 m) (structure_at k 1 m)
  force-behind =
      behind 0 (lit< tt) ∙ changed-force sure (block_at k m) lb
      ∙ ap₂ (forced sure) (block-structure m l k hk 0 (lit< tt)) (block-structure m l k hk 1 (lit< tt))

  pub cleared : structure_at k 1 (changed_from ids 0 sure m) ≡ blank structure_size
  cleared = behind 1 (lit< tt) ∙ changed-coming sure (block_at k m) lb

  pub emptied : Empty (structure_at k 1 (changed_from ids 0 sure m))
  emptied = blank-empty _ cleared

  by_said : (b : Bool) → said (head_of (structure_at k 1 m)) ≡ b
      → structure_at k 0 (changed_from ids 0 sure m) ≡ cond b (settled sure (structure_at k 1 m)) (stayed sure (structure_at k 0 m))
  unfolding forced
  by_said b e = force-behind ∙ ap (λ (x : Bool). cond x (settled sure (structure_at k 1 m)) (stayed sure (structure_at k 0 m))) e

  -- nothing was announced
  pub stays : (head_of (structure_at k 1 m)).fields ≡ 0 → (head_of (structure_at k 1 m)).deleted ≡ 0 → structure_at k 0 (changed_from ids 0 sure m) ≡ stayed sure (structure_at k 0 m)
  unfolding said
  stays f d = by_said false (λ i. ltb 0 (f i) || eqb (d i) 1)

  -- a structure was announced
  pub comes-in : 0 < (head_of (structure_at k 1 m)).fields → structure_at k 0 (changed_from ids 0 sure m) ≡ settled sure (structure_at k 1 m)
  unfolding said
  comes-in f = by_said true (λ i. lt-ltb 0 (head_of (structure_at k 1 m)).fields f i || eqb (head_of (structure_at k 1 m)).deleted 1)

  -- or that the component is to be deleted
  pub goes-out : (head_of (structure_at k 1 m)).deleted ≡ 1 → structure_at k 0 (changed_from ids 0 sure m) ≡ settled sure (structure_at k 1 m)
  unfolding said
  goes-out d = by_said true ((λ i. ltb 0 (head_of (structure_at k 1 m)).fields || eqb (d i) 1) ∙ or-true (ltb 0 (head_of (structure_at k 1 m)).fields))
