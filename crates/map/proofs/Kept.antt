-- Every call keeps the map good and of its length, whatever it answers; and a refused field changes nothing.
--
--   Fine w s       a good structure; one in force (w = 0) is not to be deleted
--   Good m         a good map: the frames, and every structure fine; good-each, each-good: what is tested is this
--   take-length, take-good, start-good, refused-same
--   then-whole     of a good map, the mark of the head that is in force in a frame is 0 or 1
--
-- Assumes nothing.
use mathlib.Core.Path.{◌≡◌, refl, sym, ap, ◌∙◌, subst}
use mathlib.Core.Bool.{Bool, true, false, cond, ◌&&◌}
use mathlib.Core.List.{List}
use Prim.Native.Nat.{ℕ, zero, suc, ◌+◌, ◌*◌, ◌≤◌, ◌<◌}
use native.Mathlib.Omega.{arith}
use native.Mathlib.Decide.{ℕ_discrete}
use borrow.Author.Tests.{eq-eqb, eqb-true, eqb-false}
use lib.Dec.{leb, eqb, lit<, lit≤}
use lib.ListN.{length}
use Rattle.bits.specs.Bits.{blank}
use Rattle.bits.proofs.Rows.{done_refused, done-passed, done-either}
use Rattle.bits.proofs.Search.{and_left, and_right, all-at, all-each}
use Rattle.runs.proofs.Parts.{blank-at, part-blank}
use Rattle.field.specs.Field.{field_of, deletes, panning}
use Rattle.field.specs.declared.Field.{Field}
use Rattle.field.proofs.Bytes.{Within}
use Rattle.field.proofs.RoundTrip.{field-bounds}
use Rattle.structure.specs.Structure.{structure_size, head_of, with_head, marked_head, gathered, spoiled, deletion, absence, said, good_head, settled_head}
use Rattle.structure.specs.declared.Structure.{Structure}
use Rattle.structure.proofs.Gathering.{head-stored, with-head-length}
use Rattle.structure.proofs.Kept.{good-bounds, gathered-length, gathered-good, gathered-deleted, deletion-length, deletion-good, absence-length, absence-good, absence-deleted, blank-good, marked-good, settled-good, spoiled-good, spoiled-deleted}
use Rattle.frames.specs.Counts.{good_frames, changing, again, skips, frames_after, all_heard}
use Rattle.map.specs.Map.{ids, map_size, block_size, frames_of, with_frames, structure_at, with_structure, in_force, announced, good_at, good, stayed, settled, forced, each_from, changed_from, spoiled_both}
use Rattle.map.specs.Calls.{start_after, start_answer, take_answer, changed_to, up_to, put_in, taken_in, frame_taken, take_after, then_which, then_head}
use Rattle.frames.proofs.Distances.{after-good}
use Rattle.map.proofs.Places.{structure-length, with-structure-length, structure-same, structure-other, frames-kept, with-frames-length, structures-kept, frames-stored}
use Rattle.map.proofs.Changing.{blank-empty, from-frames, gap-frames, gap-structure, force-behind, cleared}
use Rattle.map.proofs.Doing.{start-passed, fits, changed-to-length, up-to-length}

pub refused-same : (m f : List ℕ) → (take_answer m f ≡ 0 → ⊥) → take_after m f ≡ m
unfolding take_after
refused-same m f = done_refused (take_answer m f) (frame_taken m (field_of f)) m

-- ---- a good map

pub record Fine (w : ℕ) (s : List ℕ) : Type 0 where
  pub head : good_head (head_of s) ≡ true
  pub deleted : w ≡ 0 → (head_of s).deleted ≡ 0

pub record Good (m : List ℕ) : Type 0 where
  pub frames : good_frames (frames_of m) ≡ true
  pub structures : (k w : ℕ) → k < ids → w < 2 → Fine w (structure_at k w m)

pub good-each : (m : List ℕ) → good m ≡ true → Good m
unfolding good good_at in_force announced
good-each m g = record {
  frames = and_left (good_frames (frames_of m)) _ g;
  structures = λ k w hk. one k w (all-at (good_at m) ids 0 (and_right (good_frames (frames_of m)) _ g) k (omega arith) hk);
}
  where
    one : (k w : ℕ) → good_at m k ≡ true → w < 2 → Fine w (structure_at k w m)
    one k zero e h =
        let rest = and_right (good_head (head_of (structure_at k 0 m))) _ e in
        record { head = and_left _ _ e; deleted = λ z. eqb-true (head_of (structure_at k 0 m)).deleted 0 (and_left _ _ rest) }
    one k (suc zero) e h =
        let rest = and_right (good_head (head_of (structure_at k 0 m))) _ e in
        record { head = and_right (eqb (head_of (structure_at k 0 m)).deleted 0) _ rest; deleted = λ z. absurd (omega (arith, z)) }
    one k (suc (suc w)) e h = absurd (omega arith)

pub each-good : (m : List ℕ) → Good m → good m ≡ true
unfolding good good_at in_force announced
each-good m g =
    λ i. g.frames i && all-each (good_at m) ids 0 (λ k l h. one k (g.structures k 0 h (lit< tt)) (g.structures k 1 h (lit< tt))) i
  where
    one : (k : ℕ) → Fine 0 (structure_at k 0 m) → Fine 1 (structure_at k 1 m) → good_at m k ≡ true
    one k a b =
        let d : eqb (head_of (structure_at k 0 m)).deleted 0 ≡ true = eq-eqb (head_of (structure_at k 0 m)).deleted 0 (a.deleted refl) in
        λ i. a.head i && (d i && b.head i)

blank-fine : (w : ℕ) (s : List ℕ) → s ≡ blank structure_size → Fine w s
blank-fine w s e = record { head = ap (λ (x : List ℕ). good_head (head_of x)) e ∙ blank-good; deleted = λ z. (blank-empty s e).deleted }

-- ---- start

pub start-good : (m : List ℕ) → length m ≡ map_size → good (start_after m) ≡ true
unfolding start_after good_frames frames_of structure_at
start-good m l =
    ap good (done-passed (start_answer m) (blank map_size) m (sym (start-passed m l)))
    ∙ each-good (blank map_size) (record {
      frames = λ i. leb (blank-at map_size 36353 i) 1 && leb (blank-at map_size 36354 i) 1;
      structures = λ k w hk hw. blank-fine w _ (part-blank (k * block_size + w * structure_size) structure_size map_size (omega arith));
    })

-- ---- a change

spoiled-fine : (w : ℕ) (s : List ℕ) → length s ≡ structure_size → Fine w s → Fine w (spoiled s)
spoiled-fine w s ls f = record { head = spoiled-good s ls f.head; deleted = λ z. spoiled-deleted s ls (f.deleted z) }

stored-fine : (w : ℕ) (s : List ℕ) (h : Structure) → length s ≡ structure_size → good_head h ≡ true → h.deleted ≡ 0 → Fine w (with_head h s)
stored-fine w s h ls g d =
    let e = head-stored s ls h in
    record { head = ap good_head e ∙ g; deleted = λ z. ap (λ (x : Structure). x.deleted) e ∙ d }

stayed-fine : (sure : Bool) (s : List ℕ) → length s ≡ structure_size → Fine 0 s → Fine 0 (stayed sure s)
unfolding stayed marked_head
stayed-fine sure s ls f = go sure
  where
    unmarked : Fine 0 (with_head (marked_head 0 0 (head_of s)) s)
    unmarked = stored-fine 0 s (marked_head 0 0 (head_of s)) ls (marked-good 0 0 (head_of s) (lit≤ tt) f.head) (f.deleted refl)

    go : (b : Bool) → Fine 0 (cond b (with_head (marked_head 0 0 (head_of s)) s) (spoiled (with_head (marked_head 0 0 (head_of s)) s)))
    go true = unmarked
    go false = spoiled-fine 0 _ (with-head-length s ls (marked_head 0 0 (head_of s))) unmarked

settled-fine : (sure : Bool) (c : List ℕ) → length c ≡ structure_size → Fine 1 c → Fine 0 (settled sure c)
unfolding settled
settled-fine sure c lc f =
    let q = settled-good sure (head_of c) f.head in
    spoiled-fine 0 _ (with-head-length c lc (settled_head sure (head_of c))) (stored-fine 0 c (settled_head sure (head_of c)) lc q.0 q.1)

forced-fine : (sure : Bool) (f c : List ℕ) → length f ≡ structure_size → length c ≡ structure_size → Fine 0 f → Fine 1 c → Fine 0 (forced sure f c)
unfolding forced
forced-fine sure f c lf lc ff fc = go (said (head_of c))
  where
    go : (b : Bool) → Fine 0 (cond b (settled sure c) (stayed sure f))
    go true = settled-fine sure c lc fc
    go false = stayed-fine sure f lf ff

module _ (sure : Bool) (m : List ℕ) (l : length m ≡ map_size) (g : Good m) where
  changed-good : Good (changed_from ids 0 sure m)
  changed-good = record {
    frames = ap good_frames (from-frames sure ids 0 m (lit≤ tt) l) ∙ g.frames;
    structures = go;
  }
    where
      go : (k w : ℕ) → k < ids → w < 2 → Fine w (structure_at k w (changed_from ids 0 sure m))
      go k zero hk hw =
          subst (Fine 0) (sym (force-behind sure m l k hk))
          (forced-fine sure (structure_at k 0 m) (structure_at k 1 m) (structure-length m l k 0 hk (lit< tt)) (structure-length m l k 1 hk (lit< tt))
          (g.structures k 0 hk (lit< tt)) (g.structures k 1 hk (lit< tt)))
      go k (suc zero) hk hw = blank-fine 1 _ (cleared sure m l k hk)
      go k (suc (suc w)) hk hw = absurd (omega arith)

changed-to-good : (m : List ℕ) (n : ℕ) → length m ≡ map_size → Good m → Good (changed_to m n)
unfolding changed_to
changed-to-good m n l g = go (changing (frames_of m) n)
  where
    go : (b : Bool) → Good (cond b (changed_from ids 0 (all_heard (frames_of m)) m) m)
    go true = changed-good (all_heard (frames_of m)) m l g
    go false = g

-- a missed frame
gap-good : (m : List ℕ) → length m ≡ map_size → Good m → Good (each_from ids 0 spoiled_both m)
gap-good m l g = record {
  frames = ap good_frames (gap-frames m l) ∙ g.frames;
  structures = λ k w hk hw. subst (Fine w) (sym (gap-structure m l k w hk hw))
      (spoiled-fine w (structure_at k w m) (structure-length m l k w hk hw) (g.structures k w hk hw));
}

up-to-good : (m : List ℕ) (n : ℕ) → length m ≡ map_size → Good m → Good (up_to m n)
unfolding up_to
up-to-good m n l g = go (skips (frames_of m) n)
  where
    go : (b : Bool) → Good (cond b (each_from ids 0 spoiled_both (changed_to m n)) (changed_to m n))
    go true = gap-good (changed_to m n) (changed-to-length m n l) (changed-to-good m n l g)
    go false = changed-to-good m n l g

-- ---- a field taken in

module _ (r : Field) (hr : Within r) where
  module _ (s : List ℕ) (l : length s ≡ structure_size) where
    put-length : length (put_in r s) ≡ structure_size
    unfolding put_in
    put-length = go (deletes r.tdms) (eqb r.flag 0)
      where
        go : (d f : Bool) → length (cond d (cond f absence deletion) (gathered s r.tdms r.links)) ≡ structure_size
        go true true = absence-length
        go true false = deletion-length
        go false f = gathered-length s r.tdms r.links l

    put-fine : Fine r.flag s → Fine r.flag (put_in r s)
    unfolding put_in
    put-fine g = go (deletes r.tdms) (eqb r.flag 0) refl
      where
        go : (d f : Bool) → eqb r.flag 0 ≡ f → Fine r.flag (cond d (cond f absence deletion) (gathered s r.tdms r.links))
        go true true e = record { head = absence-good; deleted = λ z. absence-deleted }
        go true false e = record { head = deletion-good; deleted = λ z. absurd (eqb-false r.flag 0 e z) }
        go false f e = record {
          head = gathered-good s r.tdms r.links l g.head (omega (arith, hr.links));
          deleted = λ z. gathered-deleted s r.tdms r.links l (g.deleted z);
        }

  module _ (m : List ℕ) (l : length m ≡ map_size) where
    abbrev old : List ℕ
    old = structure_at r.id r.flag m

    lo : length old ≡ structure_size
    lo = structure-length m l r.id r.flag hr.id hr.flag

    taken-length : length (taken_in r m) ≡ map_size
    unfolding taken_in
    taken-length = go (eqb r.id panning)
      where
        go : (b : Bool) → length (cond b m (with_structure r.id r.flag (put_in r old) m)) ≡ map_size
        go true = l
        go false = with-structure-length m l r.id r.flag (put_in r old) hr.id hr.flag (put-length old lo)

    taken-good : Good m → Good (taken_in r m)
    unfolding taken_in
    taken-good g = go (eqb r.id panning)
      where
        new : List ℕ
        new = with_structure r.id r.flag (put_in r old) m

        other : (k w : ℕ) → k < ids → w < 2 → (k ≡ r.id → w ≡ r.flag → ⊥) → Fine w (structure_at k w new)
        other k w hk hw ne =
            subst (Fine w) (sym (structure-other m l r.id r.flag (put_in r old) hr.id hr.flag (put-length old lo) k w hw ne))
            (g.structures k w hk hw)

        at : (k w : ℕ) → k < ids → w < 2 → Dec (k ≡ r.id) → Dec (w ≡ r.flag) → Fine w (structure_at k w new)
        at k w hk hw (yes e) (yes q) =
            let same = structure-same m l r.id r.flag (put_in r old) hr.id hr.flag (put-length old lo) in
            subst (λ (x : ℕ). Fine x (structure_at k x new)) (sym q)
            (subst (λ (x : ℕ). Fine r.flag (structure_at x r.flag new)) (sym e)
            (subst (Fine r.flag) (sym same) (put-fine old lo (g.structures r.id r.flag hr.id hr.flag))))
        at k w hk hw (yes e) (no q) = other k w hk hw (λ _. q)
        at k w hk hw (no e) d = other k w hk hw (λ z _. e z)

        go : (b : Bool) → Good (cond b m new)
        go true = g
        go false = record {
          frames = ap good_frames (frames-kept m l r.id r.flag (put_in r old) hr.id hr.flag (put-length old lo)) ∙ g.frames;
          structures = λ k w hk hw. at k w hk hw (ℕ_discrete k r.id) (ℕ_discrete w r.flag);
        }

  -- the frames behind it
  module _ (m : List ℕ) (l : length m ≡ map_size) where
    abbrev through : List ℕ
    through = taken_in r (up_to m r.count)

    lt : length through ≡ map_size
    lt = taken-length (up_to m r.count) (up-to-length m r.count l)

    frame-length : length (frame_taken m r) ≡ map_size
    unfolding frame_taken
    frame-length = go (again (frames_of m) r.count)
      where
        go : (b : Bool) → length (cond b m (with_frames (frames_after (frames_of m) r.count) through)) ≡ map_size
        go true = l
        go false = with-frames-length through lt (frames_after (frames_of m) r.count)

    frame-good : Good m → Good (frame_taken m r)
    unfolding frame_taken
    frame-good g = go (again (frames_of m) r.count)
      where
        gt : Good through
        gt = taken-good (up_to m r.count) (up-to-length m r.count l) (up-to-good m r.count l g)

        go : (b : Bool) → Good (cond b m (with_frames (frames_after (frames_of m) r.count) through))
        go true = g
        go false = record {
          frames = ap good_frames (frames-stored through lt (frames_after (frames_of m) r.count)) ∙ after-good (frames_of m) r.count g.frames;
          structures = λ k w hk hw. subst (Fine w) (sym (structures-kept through lt (frames_after (frames_of m) r.count) k w hk hw)) (gt.structures k w hk hw);
        }

module _ (m f : List ℕ) where
  size : take_answer m f ≡ 0 → length m ≡ map_size
  size e = (fits m f (take_answer m f) refl e).size

  pub take-length : length (take_after m f) ≡ length m
  unfolding take_after
  take-length =
      done-either (λ (x : List ℕ). length x ≡ length m) (take_answer m f) (frame_taken m (field_of f)) m
      (λ e. frame-length (field_of f) (field-bounds f) m (size e) ∙ sym (size e)) refl

  pub take-good : good m ≡ true → good (take_after m f) ≡ true
  unfolding take_after
  take-good g =
      done-either (λ (x : List ℕ). good x ≡ true) (take_answer m f) (frame_taken m (field_of f)) m
      (λ e. each-good _ (frame-good (field_of f) (field-bounds f) m (size e) (good-each m g))) g

-- ---- of a good map

-- the mark of the head that is in force in a frame is one
pub then-whole : (m : List ℕ) (id count : ℕ) → good m ≡ true → id < ids → (then_head m id count).whole ≤ 1
unfolding then_head then_which in_force announced
then-whole m id count g h = go (changing (frames_of m) count && said (announced id m))
  where
    head : (w : ℕ) → w < 2 → good_head (head_of (structure_at id w m)) ≡ true
    head w hw = ((good-each m g).structures id w h hw).head

    go : (b : Bool) → (cond (eqb (cond b 1 0) 1) (settled_head (all_heard (frames_of m)) (head_of (structure_at id 1 m))) (head_of (structure_at id 0 m))).whole ≤ 1
    go true = (good-bounds _ (settled-good (all_heard (frames_of m)) (head_of (structure_at id 1 m)) (head 1 (lit< tt))).0).whole
    go false = (good-bounds _ (head 0 (lit< tt))).whole
