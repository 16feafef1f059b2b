-- The map: for each of 256 components the structure in force and the one announced, and the frames that were heard; 36,356 bytes.
--
--   142 k           component k: in force
--   142 k + 71      component k: announced
--   36,352          the frame count of the last field taken in
--   36,353          1 where a field was taken in
--   36,354          1 where every frame of the running configuration was heard so far
--   36,355          how many frames were heard in a row since the start or the last missed one, up to 255
--
--   in_force, announced      a component's structures
--   forced, changed         a component at a change
--   spoiled_both b   a component's structures, where a frame was missed
--   each_from        every component by either
--   good m          the condition of a good map
--   present, components     which components a set has for certain, and how many
use Rattle.std.specs.Prelude.{Bool, cond, not, ◌&&◌, List, [], ◌∷◌, ◌++◌, ℕ, zero, suc, ◌+◌, ◌*◌, ltb, eqb, get_or}
use Rattle.bits.specs.Bits.{blank}
use Rattle.bits.specs.Search.{all}
use Rattle.runs.specs.Part.{part, put}
use Rattle.frames.specs.Counts.{good_frames}
use Rattle.structure.specs.Structure.{structure_size, head_of, with_head, marked_head, spoiled, good_head, said, certainly, settled_head}
use Rattle.structure.specs.declared.Structure.{Structure}
use Rattle.frames.specs.declared.Frames.{Frames}

abbrev pub ids : ℕ
ids = 256

abbrev pub block_size : ℕ
block_size = 142

abbrev pub frames_at : ℕ
frames_at = 36352

abbrev pub map_size : ℕ
map_size = 36356

-- ---- places

unfoldable pub frames_of : List ℕ → Frames
frames_of m = record {
  last = get_or m frames_at 0;
  heard = get_or m (frames_at + 1) 0;
  unbroken = get_or m (frames_at + 2) 0;
  row = get_or m (frames_at + 3) 0;
}

abbrev pub frames_bytes : Frames → List ℕ
frames_bytes h = h.last ∷ h.heard ∷ h.unbroken ∷ h.row ∷ []

unfoldable pub with_frames : Frames → List ℕ → List ℕ
with_frames h m = put frames_at 4 (frames_bytes h) m

unfoldable pub block_at : ℕ → List ℕ → List ℕ
block_at k m = part (k * block_size) block_size m

unfoldable pub with_block : ℕ → List ℕ → List ℕ → List ℕ
with_block k b m = put (k * block_size) block_size b m

-- which: 0 in force, 1 announced
unfoldable pub structure_at : ℕ → ℕ → List ℕ → List ℕ
structure_at k which m = part (k * block_size + which * structure_size) structure_size m

unfoldable pub with_structure : ℕ → ℕ → List ℕ → List ℕ → List ℕ
with_structure k which s m = put (k * block_size + which * structure_size) structure_size s m

unfoldable pub in_force : ℕ → List ℕ → Structure
in_force k m = head_of (structure_at k 0 m)

unfoldable pub announced : ℕ → List ℕ → Structure
announced k m = head_of (structure_at k 1 m)

-- ---- good

unfoldable pub good_at : List ℕ → ℕ → Bool
good_at m k = good_head (in_force k m) && (eqb (in_force k m).deleted 0 && good_head (announced k m))

unfoldable pub good : List ℕ → Bool
good m = good_frames (frames_of m) && all (good_at m) ids 0

-- ---- a change

-- nothing was announced: the structure stays, and nothing was heard of it in the configuration that begins. A change that is not sure may
-- have cut its repetition off.
unfoldable pub stayed : Bool → List ℕ → List ℕ
stayed sure f = let u = with_head (marked_head 0 0 (head_of f)) f in cond sure u (spoiled u)

-- what was announced comes into force with its marks; what is not whole is begun anew
unfoldable pub settled : Bool → List ℕ → List ℕ
settled sure c = spoiled (with_head (settled_head sure (head_of c)) c)

-- what is in force behind a change, of a structure in force and an announced one
unfoldable pub forced : Bool → List ℕ → List ℕ → List ℕ
forced sure f c = cond (said (head_of c)) (settled sure c) (stayed sure f)

-- a change leaves nothing announced
unfoldable pub changed : Bool → List ℕ → List ℕ
changed sure b =
    forced sure (part 0 structure_size b) (part structure_size structure_size b) ++ blank structure_size

-- n components from k on
unfoldable pub each_from : ℕ → ℕ → (List ℕ → List ℕ) → List ℕ → List ℕ
each_from zero k f m = m
each_from (suc n) k f m = each_from n (suc k) f (with_block k (f (block_at k m)) m)

abbrev pub changed_from : ℕ → ℕ → Bool → List ℕ → List ℕ
changed_from n k sure m = each_from n k (changed sure) m

-- ---- a missed frame

unfoldable pub spoiled_both : List ℕ → List ℕ
spoiled_both b = spoiled (part 0 structure_size b) ++ spoiled (part structure_size structure_size b)

-- ---- the components of a set, before or behind a change

-- in force for certain: behind a change only what a sure one put there
unfoldable pub stands : Bool → Bool → List ℕ → ℕ → Bool
stands change sure m k = cond change (sure && certainly (announced k m)) (certainly (in_force k m))

-- announced, and not to be deleted; a change leaves nothing announced
unfoldable pub comes : Bool → List ℕ → ℕ → Bool
comes change m k = not change && ltb 0 (announced k m).fields

unfoldable pub present : ℕ → Bool → Bool → List ℕ → ℕ → Bool
present which change sure m k = cond (eqb which 0) (stands change sure m k) (comes change m k)

unfoldable pub counted : (ℕ → Bool) → ℕ → ℕ → ℕ
counted p zero k = 0
counted p (suc n) k = cond (p k) 1 0 + counted p n (suc k)

unfoldable pub components : ℕ → Bool → Bool → List ℕ → ℕ
components which change sure m = counted (present which change sure m) ids 0
