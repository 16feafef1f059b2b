-- The frames of a broadcast with their counts (ETS 300 352, 4.5.4), and what is asked of a component's structure.
--
--   Broadcast             the count of frame 0
--   count_at b t           "gives a cumulative frame count, modulo 256"
--   change b t            a configuration begins with frame t: "from the beginning of line 1 of the second frame following the frame in
--                         which FCNT code 0 (modulo 128) is sent"
--   epoch b t             how many have begun by then
--   begun b t             whether the running one did so in frame 0 or later
--   Linked xs             a structure, in order
use Rattle.std.specs.Prelude.{Bool, true, false, cond, ◌||◌, ◌≡◌, List, [], ◌∷◌, ℕ, zero, suc, ◌+◌, ◌%◌, ◌<◌, ◌≤◌, ◌^◌, eqb, length, get_or}
use Rattle.field.specs.Field.{bad_tdms, deletes, key}
use Rattle.structure.specs.Structure.{most}

pub record Broadcast : Type 0 where
  pub origin : ℕ

-- ---- frames

unfoldable pub count_at : Broadcast → ℕ → ℕ
count_at b t = (b.origin + t) % 256

unfoldable pub change : Broadcast → ℕ → Bool
change b t = eqb (count_at b t % 128) 2

-- frame 0 is taken to belong to configuration 0
unfoldable pub epoch : Broadcast → ℕ → ℕ
epoch b zero = 0
epoch b (suc t) = cond (change b (suc t)) (suc (epoch b t)) (epoch b t)

unfoldable pub begun : Broadcast → ℕ → Bool
begun b zero = change b zero
begun b (suc t) = change b (suc t) || begun b t

-- ---- a structure

pub record Fit (t : ℕ) : Type 0 where
  pub width : t < 2 ^ 62
  pub pairs : bad_tdms t ≡ false
  pub stays : deletes t ≡ false

-- "Linked structures shall be described in increasing order of FLN1 ..., of FCP"; eight fields are the house's bound
pub record Linked (xs : List ℕ) : Type 0 where
  pub few : length xs ≤ most
  pub fit : (i : ℕ) → i < length xs → Fit (get_or xs i 0)
  pub rising : (i : ℕ) → suc i < length xs → key (get_or xs i 0) < key (get_or xs (suc i) 0)

unfoldable pub some : List ℕ → Bool
some [] = false
some (x ∷ xs) = true

-- TDMS, LINKS and flag are within their widths
pub record Bits (flag tdms l : ℕ) : Type 0 where
  pub flags : flag < 2
  pub width : tdms < 2 ^ 62
  pub links : l < 2
