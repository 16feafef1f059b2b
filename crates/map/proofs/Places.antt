-- Laws of the map's places: a structure, the frames, and the map with one of them replaced.
--
--   structure-length, structure-same, structure-other    a structure, after a change of it or of another
--   with-structure-length                                the map keeps its length
--   frames-kept, structures-kept, frames-stored          the frames and the structures do not touch each other
--   block-structure                                      a component's block is its two structures
--
-- Assumes nothing.
use mathlib.Core.Path.{◌≡◌, refl, ◌∙◌}
use mathlib.Core.List.{List}
use Prim.Native.Nat.{ℕ, ◌+◌, ◌*◌, ◌≤◌, ◌<◌}
use native.Mathlib.Omega.{arith}
use native.Mathlib.Decide.{dec_lt}
use lib.Dec.{lit<}
use lib.ListN.{length, get_or}
use Rattle.runs.specs.Part.{part, put}
use Rattle.runs.proofs.Parts.{part_length, part-part, put-length, part-put, part-put-before, part-put-after, get_or-put-in, get_or-put-after}
use Rattle.structure.specs.Structure.{structure_size}
use Rattle.map.specs.Map.{ids, map_size, block_size, frames_at, frames_of, frames_bytes, with_frames, block_at, with_block, structure_at, with_structure}
use Rattle.frames.specs.declared.Frames.{Frames}

module _ (m : List ℕ) (l : length m ≡ map_size) where
  pub structure-length : (k w : ℕ) → k < ids → w < 2 → length (structure_at k w m) ≡ structure_size
  unfolding structure_at
  structure-length k w hk hw = part_length (k * block_size + w * structure_size) structure_size m (omega arith)

  -- ---- a structure replaced

  module _ (k w : ℕ) (s : List ℕ) (hk : k < ids) (hw : w < 2) (ls : length s ≡ structure_size) where
    pub with-structure-length : length (with_structure k w s m) ≡ map_size
    unfolding with_structure
    with-structure-length = put-length (k * block_size + w * structure_size) structure_size s m (omega arith) ls ∙ l

    pub structure-same : structure_at k w (with_structure k w s m) ≡ s
    unfolding structure_at with_structure
    structure-same = part-put (k * block_size + w * structure_size) structure_size s m (omega arith) ls

    pub structure-other : (j v : ℕ) → v < 2 → (j ≡ k → v ≡ w → ⊥) → structure_at j v (with_structure k w s m) ≡ structure_at j v m
    unfolding structure_at with_structure
    structure-other j v hv ne = go (dec_lt (2 * j + v) (2 * k + w)) (dec_lt (2 * k + w) (2 * j + v))
      where
        from : ℕ
        from = k * block_size + w * structure_size

        at : ℕ
        at = j * block_size + v * structure_size

        go : Dec (2 * j + v < 2 * k + w) → Dec (2 * k + w < 2 * j + v)
            → part at structure_size (put from structure_size s m) ≡ part at structure_size m
        go (yes q) r = part-put-before from structure_size s m at structure_size (omega arith) (omega arith)
        go (no q) (yes r) = part-put-after from structure_size s m at structure_size (omega arith) ls (omega arith)
        go (no q) (no r) =
            let e : j ≡ k = omega arith in
            absurd (ne e (omega arith))

    pub frames-kept : frames_of (with_structure k w s m) ≡ frames_of m
    unfolding frames_of with_structure
    frames-kept =
        let kept : (i : ℕ) → frames_at ≤ i → get_or (put (k * block_size + w * structure_size) structure_size s m) i 0 ≡ get_or m i 0 =
        λ i h. get_or-put-after (k * block_size + w * structure_size) structure_size s m i (omega arith) ls (omega arith) in
        λ i. record {
          last = kept 36352 (omega arith) i;
          heard = kept 36353 (omega arith) i;
          unbroken = kept 36354 (omega arith) i;
          row = kept 36355 (omega arith) i;
        }

  -- ---- the frames replaced

  module _ (h : Frames) where
    pub with-frames-length : length (with_frames h m) ≡ map_size
    unfolding with_frames
    with-frames-length = put-length frames_at 4 (frames_bytes h) m (omega arith) refl ∙ l

    pub structures-kept : (j v : ℕ) → j < ids → v < 2 → structure_at j v (with_frames h m) ≡ structure_at j v m
    unfolding structure_at with_frames
    structures-kept j v hj hv =
        part-put-before frames_at 4 (frames_bytes h) m (j * block_size + v * structure_size) structure_size (omega arith)
        (omega arith)

    pub frames-stored : frames_of (with_frames h m) ≡ h
    unfolding frames_of with_frames
    frames-stored =
        let b : List ℕ = frames_bytes h in
        λ i. record {
          last = get_or-put-in frames_at 4 b m 0 (omega arith) refl (lit< tt) i;
          heard = get_or-put-in frames_at 4 b m 1 (omega arith) refl (lit< tt) i;
          unbroken = get_or-put-in frames_at 4 b m 2 (omega arith) refl (lit< tt) i;
          row = get_or-put-in frames_at 4 b m 3 (omega arith) refl (lit< tt) i;
        }

  -- ---- a component's block

  module _ (k : ℕ) (hk : k < ids) where
    pub block-length : length (block_at k m) ≡ block_size
    unfolding block_at
    block-length = part_length (k * block_size) block_size m (omega arith)

    pub block-structure : (w : ℕ) → w < 2 → part (w * structure_size) structure_size (block_at k m) ≡ structure_at k w m
    unfolding block_at structure_at
    block-structure w hw = part-part (w * structure_size) structure_size (k * block_size) block_size m (omega arith)

  module _ (k : ℕ) (b : List ℕ) (hk : k < ids) (lb : length b ≡ block_size) where
    pub with-block-length : length (with_block k b m) ≡ map_size
    unfolding with_block
    with-block-length = put-length (k * block_size) block_size b m (omega arith) lb ∙ l

    pub block_same : block_at k (with_block k b m) ≡ b
    unfolding block_at with_block
    block_same = part-put (k * block_size) block_size b m (omega arith) lb

    pub block-other : (j : ℕ) → (j ≡ k → ⊥) → block_at j (with_block k b m) ≡ block_at j m
    unfolding block_at with_block
    block-other j ne = go (dec_lt j k)
      where
        go : Dec (j < k) → part (j * block_size) block_size (put (k * block_size) block_size b m) ≡ part (j * block_size) block_size m
        go (yes q) = part-put-before (k * block_size) block_size b m (j * block_size) block_size (omega arith) (omega arith)
        go (no q) = part-put-after (k * block_size) block_size b m (j * block_size) block_size (omega arith) lb (omega arith)

    pub block-frames : frames_of (with_block k b m) ≡ frames_of m
    unfolding frames_of with_block
    block-frames =
        let kept : (i : ℕ) → frames_at ≤ i → get_or (put (k * block_size) block_size b m) i 0 ≡ get_or m i 0 =
        λ i h. get_or-put-after (k * block_size) block_size b m i (omega arith) lb (omega arith) in
        λ i. record {
          last = kept 36352 (omega arith) i;
          heard = kept 36353 (omega arith) i;
          unbroken = kept 36354 (omega arith) i;
          row = kept 36355 (omega arith) i;
        }
