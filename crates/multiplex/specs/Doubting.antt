-- When a map says 46 (document 02, Ask 4: "46 structure unfinished"), exactly: of any machine, started anywhere in a broadcast and missing
-- frames.
--
--   came_before, came_to     a component's coming structure came round in the running configuration: two beginnings of its repetitions were heard,
--                          and every frame between them
--   Doubts M               46 exactly where a field was heard last and the structure is not known to be whole
--
-- Of what is in force in a configuration behind the start's there is no such equation: a structure whose change was not heard is held on as whole
-- until a field denies it (`NeverWrong`), and how long that is depends on which fields the two structures share. There the number is 0 or 46,
-- with 0 the fields are those of `NeverWrong`, and it is 0 wherever it must be (`Finds`).
use Rattle.std.specs.Prelude.{◌≡◌, Bool, true, false, cond, ◌&&◌, ◌||◌, ◌⊎◌, ℕ, zero, suc, ◌+◌, ◌≤◌, ◌<◌, leb}
use Rattle.map.specs.Map.{ids}
use Rattle.multiplex.specs.Broadcast.{count_at, change, epoch}
use Rattle.multiplex.specs.Heard.{Machine}
use Rattle.multiplex.specs.Air.{Air, timed, Orderly}
use Rattle.multiplex.specs.Sound.{kept, there, coming_to, present_to}
use Rattle.multiplex.specs.Finding.{Near, rounds_to, new_rounds_before, new_rounds_to, wholly_before, alone_before}

-- a missed frame takes nothing away of what came round before it; a change leaves nothing announced
unfoldable pub came_before : Air → (ℕ → Bool) → ℕ → ℕ → Bool
came_before a hears id zero = false
came_before a hears id (suc t) =
    cond (change (timed a) (suc t)) false (came_before a hears id t || leb 2 (new_rounds_before a hears id (suc t)))

abbrev pub came_to : Air → (ℕ → Bool) → ℕ → ℕ → Bool
came_to a hears id t = came_before a hears id t || leb 2 (new_rounds_to a hears id t)

-- t is the last frame that was heard, u the frame that is asked for
pub record Doubts (M : Machine) : Type 0 where
  pub either : (a : Air) → Orderly a → (hears : ℕ → Bool) → Near hears → (t u id : ℕ) → hears t ≡ true → t ≤ u → u ≤ t + 128 → id < ids
      → (M.number (kept M a hears (suc t)) id (count_at (timed a) u) ≡ 0) ⊎ (M.number (kept M a hears (suc t)) id (count_at (timed a) u) ≡ 46)
  -- behind the next change, of an announced structure: until it came round, or the last frame of a configuration came of which every frame was
  -- heard
  pub coming : (a : Air) → Orderly a → (hears : ℕ → Bool) → Near hears → (t u id : ℕ) → hears t ≡ true → t ≤ u → u ≤ t + 128 → id < ids
      → epoch (timed a) t < epoch (timed a) u → coming_to a hears id t ≡ there
      → M.number (kept M a hears (suc t)) id (count_at (timed a) u)
      ≡ cond (came_to a hears id t || (wholly_before a hears t && change (timed a) (suc t))) 0 46
  -- before the next change, in the configuration of the start, where no frame was missed: until a repetition was heard to begin twice
  pub begins : (a : Air) → Orderly a → (hears : ℕ → Bool) → Near hears → (t u id : ℕ) → hears t ≡ true → t ≤ u → u ≤ t + 128 → id < ids
      → epoch (timed a) u ≡ epoch (timed a) t → alone_before a hears t ≡ true → present_to a hears id t ≡ there
      → M.number (kept M a hears (suc t)) id (count_at (timed a) u) ≡ cond (leb 2 (rounds_to a hears id t)) 0 46
