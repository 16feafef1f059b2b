-- What the functions that put structures in force, and fields into them, rest on.
--
--   change-said, change-unsaid             one component at a change
--   span                                   the part of the map that is lent of one component
--   each_turn, each-end                    a turn and the end of the loop over all components
--   both-spoiled                           one component where frames were missed
--   structure-given                        the part of the map that is lent for a field
--
-- Assumes nothing.
use mathlib.Core.Path.{◌≡◌, sym, ap, ap₂, ◌∙◌}
use mathlib.Core.Bool.{Bool, true, false, cond}
use mathlib.Core.List.{List, [], ◌++◌, append-nil}
use Prim.Native.Nat.{ℕ, suc, ◌+◌, ◌-◌, ◌*◌, ◌≤◌, ◌<◌}
use native.Mathlib.Omega.{arith}
use native.Mathlib.Numerals.{add-one}
use borrow.Author.Tests.{ne_eqb}
use lib.ListN.{length, take, drop, length-drop}
use lib.Seq.{drop-length, take_all, take_at, drop_at}
use Rattle.bits.specs.Bits.{blank}
use Rattle.runs.specs.Part.{part, put}
use Rattle.runs.proofs.Parts.{part_length, put-length, part-put}
use Rattle.field.specs.Field.{panning}
use Rattle.field.specs.declared.Field.{Field}
use Rattle.structure.specs.Structure.{structure_size, head_of, spoiled, said}
use Rattle.structure.proofs.Kept.{spoiled-length}
use Rattle.map.specs.Map.{ids, map_size, block_size, block_at, with_block, structure_at, with_structure, stayed, settled, forced, changed, each_from, spoiled_both}
use Rattle.map.specs.Calls.{put_in, taken_in}
use Rattle.structure.specs.declared.Structure.{Structure}
use Rattle.map.proofs.Places.{block-length}
use Rattle.map.proofs.Looking.{structure-lent}
use Rattle.map.proofs.Changing.{stayed-length, settled-length}

-- ---- one component at a change

-- what is in force is lent and comes back changed; what was announced is lent and comes back as 0
module _ (sure : Bool) (b : List ℕ) (l : length b ≡ block_size) where
  abbrev force : List ℕ
  force = part 0 structure_size b

  abbrev coming : List ℕ
  coming = part structure_size structure_size b

  by_said : (t : Bool) → said (head_of coming) ≡ t → (cond t (settled sure coming) (stayed sure force) ++ blank structure_size) ≡ changed sure b
  unfolding changed forced
  by_said t q = ap (λ (x : Bool). cond x (settled sure coming) (stayed sure force) ++ blank structure_size) (sym q)

  -- the two halves
  halves : (x y t z : List ℕ) → length x ≡ structure_size → y ≡ (x ++ drop structure_size t) → length t ≡ block_size → z ≡ blank (length (take structure_size (drop structure_size y)))
      → (take structure_size y ++ (z ++ drop structure_size (drop structure_size y))) ≡ (x ++ blank structure_size)
  halves x y t z lx ey lt ez =
      let far : length (drop structure_size t) ≡ structure_size = omega (arith, length-drop structure_size t) in
      let back : drop structure_size y ≡ drop structure_size t = ap (drop structure_size) ey ∙ drop_at x (drop structure_size t) structure_size lx in
      let end : drop structure_size (drop structure_size y) ≡ [] =
      ap (drop structure_size) back ∙ ap (λ (n : ℕ). drop n (drop structure_size t)) (sym far) ∙ drop-length (drop structure_size t) in
      let size : length (take structure_size (drop structure_size y)) ≡ structure_size =
      ap length (ap (take structure_size) back ∙ take_all structure_size (drop structure_size t) (omega (arith, far))) ∙ far in
      (λ i. (ap (take structure_size) ey ∙ take_at x (drop structure_size t) structure_size lx) i ++ ((ez ∙ ap blank size) i ++ end i))
      ∙ ap (λ (v : List ℕ). x ++ v) (append-nil (blank structure_size))

  module _ (h : Structure) (eh : h ≡ head_of coming) (s : Bool) (es : s ≡ said h) where
    pub change-said : s ≡ true → (d x y z : List ℕ) → d ≡ put 0 structure_size coming b → x ≡ settled sure (take structure_size d) → y ≡ (x ++ drop structure_size d)
        → z ≡ blank (length (take structure_size (drop structure_size y)))
        → (take structure_size y ++ (z ++ drop structure_size (drop structure_size y))) ≡ changed sure b
    unfolding part
    change-said q d x y z ed ex ey ez =
        let lc : length coming ≡ structure_size = part_length structure_size structure_size b (omega arith) in
        let ld : length d ≡ block_size = ap length ed ∙ put-length 0 structure_size coming b (omega arith) lc ∙ l in
        let front : take structure_size d ≡ coming = ap (take structure_size) ed ∙ part-put 0 structure_size coming b (omega arith) lc in
        let is : x ≡ settled sure coming = ex ∙ ap (settled sure) front in
        halves x y d z (ap length is ∙ settled-length sure coming lc) ey ld ez ∙ ap (λ (v : List ℕ). v ++ blank structure_size) is
        ∙ by_said true (sym (es ∙ ap said eh) ∙ q)

    pub change-unsaid : s ≡ false → (x y z : List ℕ) → x ≡ stayed sure (take structure_size b) → y ≡ (x ++ drop structure_size b)
        → z ≡ blank (length (take structure_size (drop structure_size y)))
        → (take structure_size y ++ (z ++ drop structure_size (drop structure_size y))) ≡ changed sure b
    unfolding part
    change-unsaid q x y z ex ey ez =
        let lf : length force ≡ structure_size = part_length 0 structure_size b (omega arith) in
        halves x y b z (ap length ex ∙ stayed-length force lf sure) ey l ez ∙ ap (λ (v : List ℕ). v ++ blank structure_size) ex
        ∙ by_said false (sym (es ∙ ap said eh) ∙ q)

-- ---- the loop over all components: those from k on are still to be changed

abbrev pub span : ℕ → ℕ → ℕ
span at n = at + n - at

block-is : (k : ℕ) (m : List ℕ) → take (span (k * block_size) block_size) (drop (k * block_size) m) ≡ block_at k m
unfolding block_at part
block-is k m =
    let e : span (k * block_size) block_size ≡ block_size = omega arith in
    ap (λ (n : ℕ). take n (drop (k * block_size) m)) e

pub block-span : (k : ℕ) (m : List ℕ) → length m ≡ map_size → k < ids → length (take (span (k * block_size) block_size) (drop (k * block_size) m)) ≡ block_size
block-span k m l h = ap length (block-is k m) ∙ block-length m l k h

-- one block changed to what f makes of it
module _ (f : List ℕ → List ℕ) (k : ℕ) (m : List ℕ) (h : k < ids) (b : List ℕ)
    (e : b ≡ f (take (span (k * block_size) block_size) (drop (k * block_size) m))) where
  pub each_turn : each_from (ids - (k + 1)) (k + 1) f (take (k * block_size) m ++ (b ++ drop (span (k * block_size) block_size) (drop (k * block_size) m)))
      ≡ each_from (ids - k) k f m
  unfolding each_from with_block put
  each_turn =
      let n : ids - k ≡ suc (ids - (k + 1)) = omega arith in
      let w : span (k * block_size) block_size ≡ block_size = omega arith in
      let given : (take (k * block_size) m ++ (b ++ drop (span (k * block_size) block_size) (drop (k * block_size) m))) ≡ with_block k (f (block_at k m)) m =
      ap₂ (λ (x : List ℕ) (j : ℕ). take (k * block_size) m ++ (x ++ drop j (drop (k * block_size) m))) (e ∙ ap f (block-is k m)) w in
      ap₂ (λ (x : ℕ) (y : List ℕ). each_from (ids - (k + 1)) x f y) (add-one k) given ∙ ap (λ (j : ℕ). each_from j k f m) (sym n)

pub each-end : (f : List ℕ → List ℕ) (k : ℕ) (m t : List ℕ) → ids ≤ k → each_from (ids - k) k f m ≡ t → m ≡ t
unfolding each_from
each-end f k m t h e =
    let n : 0 ≡ ids - k = omega arith in
    ap (λ (j : ℕ). each_from j k f m) n ∙ e

-- ---- a missed frame

-- the two structures of a block, spoiled one after the other
pub both-spoiled : (b x y : List ℕ) → length b ≡ block_size → x ≡ spoiled (take 71 b)
    → y ≡ spoiled (take 71 (drop 71 (x ++ drop 71 b))) → (take 71 (x ++ drop 71 b) ++ (y ++ drop 71 (drop 71 (x ++ drop 71 b)))) ≡ spoiled_both b
unfolding spoiled_both part
both-spoiled b x y l ex ey =
    let lx : length x ≡ structure_size = ap length ex ∙ spoiled-length (take 71 b) (part_length 0 71 b (omega arith)) in
    let back : drop 71 (x ++ drop 71 b) ≡ drop 71 b = drop_at x (drop 71 b) 71 lx in
    let far : length (drop 71 b) ≡ 71 = omega (arith, length-drop 71 b) in
    let rest : drop 71 (drop 71 b) ≡ [] = ap (λ (n : ℕ). drop n (drop 71 b)) (sym far) ∙ drop-length (drop 71 b) in
    ap₂ (λ (u v : List ℕ). u ++ v) (take_at x (drop 71 b) 71 lx ∙ ex)
    (ap₂ (λ (u v : List ℕ). u ++ v) (ey ∙ ap (λ (z : List ℕ). spoiled (take 71 z)) back) (ap (drop 71) back ∙ rest) ∙ append-nil _)

-- ---- a field into its structure

module _ (r : Field) (m : List ℕ) where
  abbrev at : ℕ
  at = r.id * block_size + r.flag * structure_size

  structure-is : take (span at structure_size) (drop at m) ≡ structure_at r.id r.flag m
  structure-is = structure-lent r.id r.flag m

  pub structure-given : (r.id ≡ panning → ⊥) → (b : List ℕ) → b ≡ put_in r (take (span at structure_size) (drop at m))
      → (take at m ++ (b ++ drop (span at structure_size) (drop at m))) ≡ taken_in r m
  unfolding taken_in with_structure put
  structure-given ne b e =
      let n : span at structure_size ≡ structure_size = omega arith in
      ap₂ (λ (x : List ℕ) (j : ℕ). take at m ++ (x ++ drop j (drop at m))) (e ∙ ap (put_in r) structure-is) n
      ∙ sym (ap (λ (x : Bool). cond x m (with_structure r.id r.flag (put_in r (structure_at r.id r.flag m)) m)) (ne_eqb r.id panning ne))
