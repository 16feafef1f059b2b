-- From when on a map is right (document 02, Ask 4: "at each frame the map shown is the one in force"): of any machine, started anywhere in a
-- broadcast and missing frames.
--
--   Near hears             up to 127 frames are missed in a row
--   rounds_of, rounds_before, rounds_to       how often a repetition of a component's present structure was heard to begin in the running
--                          configuration, with no frame missed since
--   new_rounds_before, new_rounds_to    the same of its coming structure
--   wholly_before           every frame of the running configuration was heard so far
--   alone_before            every frame that was heard is of the running configuration, and none was missed since the first of them
--   found alone n          so many beginnings are enough
--   news                   something was said of the component's change in the running configuration
--   ready_before, ready_to   it must be shown rightly
--   Rightly M, Finds M     the fields in force are shown, with number 0, wherever they must be; and every frame is taken
--   Followed a, ShowsInForce M      the request's own case: no frame is missed, from before there was a component
use Rattle.std.specs.Prelude.{◌≡◌, Bool, true, false, cond, not, ◌&&◌, ◌||◌, [], ℕ, zero, suc, ◌+◌, ◌≤◌, ◌<◌, leb, ltb, eqb}
use Rattle.field.specs.Field.{field_bytes}
use Rattle.map.specs.Map.{ids}
use Rattle.multiplex.specs.Broadcast.{count_at, change, begun, some}
use Rattle.multiplex.specs.Heard.{Machine}
use Rattle.multiplex.specs.Air.{Carries, Air, timed, field_on, new_in, old_in, in_force, coming, same, new_to, gone_to, Orderly}
use Rattle.multiplex.specs.Sound.{kept, missed_before, any_before, Word, unheard, absent, there, coming_to}

abbrev pub Near : (ℕ → Bool) → Type 0
Near hears = (t : ℕ) → hears t ≡ true → any_before hears t ≡ true → missed_before hears t ≤ 127

-- ---- beginnings of a repetition

unfoldable pub first : ℕ → ℕ
first n = cond (eqb n 1) 1 0

-- of the structure that a field is counted for (`old_in`, `new_in`), in the running configuration, with no frame missed since
unfoldable pub rounds_of : (ℕ → Carries → ℕ) → Air → (ℕ → Bool) → ℕ → ℕ → ℕ
rounds_of place a hears id zero = 0
rounds_of place a hears id (suc t) =
    cond (hears t) (cond (change (timed a) (suc t)) 0 (rounds_of place a hears id t + first (place id (a.carries t)))) 0

abbrev pub rounds_before : Air → (ℕ → Bool) → ℕ → ℕ → ℕ
rounds_before = rounds_of old_in

abbrev pub rounds_to : Air → (ℕ → Bool) → ℕ → ℕ → ℕ
rounds_to a hears id t = rounds_before a hears id t + first (old_in id (a.carries t))

abbrev pub new_rounds_before : Air → (ℕ → Bool) → ℕ → ℕ → ℕ
new_rounds_before = rounds_of new_in

abbrev pub new_rounds_to : Air → (ℕ → Bool) → ℕ → ℕ → ℕ
new_rounds_to a hears id t = new_rounds_before a hears id t + first (new_in id (a.carries t))

-- ---- the running configuration

unfoldable pub wholly_before : Air → (ℕ → Bool) → ℕ → Bool
wholly_before a hears zero = change (timed a) zero
wholly_before a hears (suc t) = change (timed a) (suc t) || (hears t && wholly_before a hears t)

unfoldable pub alone_before : Air → (ℕ → Bool) → ℕ → Bool
alone_before a hears zero = true
alone_before a hears (suc t) = cond (hears t) (not (change (timed a) (suc t)) && alone_before a hears t) (not (any_before hears t))

unfoldable pub found : Bool → ℕ → Bool
found alone n = leb 3 n || (alone && leb 2 n)

unfoldable pub news : Air → ℕ → ℕ → Bool
news a id t = ltb 0 (new_to a id t) || gone_to a id t

-- ---- from when on

-- over a change at the end of a configuration of which frames were missed: where nothing was heard of the component's change, it must be
-- right before and stay as it is; where all ones were, it must be gone; where fields were, they must have come round
unfoldable pub over_change : Word → Bool → Air → (ℕ → Bool) → ℕ → ℕ → Bool
over_change unheard ready a hears id t = ready && same (in_force a t id) (coming a t id)
over_change absent ready a hears id t = not (some (coming a t id))
over_change there ready a hears id t = leb 2 (new_rounds_to a hears id t)

-- A start finds nothing, which is right of a component that there is not. From then on: it stays right from frame to frame, heard or missed, up to
-- the next change; at a change behind a configuration that was wholly heard, it is right if it was so before or the change was announced,
-- though frames behind the change are missed; and from the third beginning of a repetition within one configuration on, whatever was heard
-- or missed before, or from the second in the configuration of the start. What a change does whose last frame before was missed nobody knows.
unfoldable pub ready_before : Air → (ℕ → Bool) → ℕ → ℕ → Bool
ready_before a hears id zero = not (some (in_force a zero id))
ready_before a hears id (suc t) =
    let ready = ready_before a hears id t || found (alone_before a hears t) (rounds_to a hears id t) in
    cond (hears t)
    (cond (change (timed a) (suc t)) (cond (wholly_before a hears t) (ready || news a id t) (over_change (coming_to a hears id t) ready a hears id t)) ready)
    (cond (any_before hears t) (not (change (timed a) (suc t)) && ready_before a hears id t) (not (some (in_force a (suc t) id))))

abbrev pub ready_to : Air → (ℕ → Bool) → ℕ → ℕ → Bool
ready_to a hears id t = ready_before a hears id t || found (alone_before a hears t) (rounds_to a hears id t)

pub record Rightly (M : Machine) (a : Air) (hears : ℕ → Bool) (t u id : ℕ) : Type 0 where
  pub number : M.number (kept M a hears (suc t)) id (count_at (timed a) u) ≡ 0
  pub fields : M.fields (kept M a hears (suc t)) id (count_at (timed a) u) ≡ in_force a u id

-- t is the last frame that was heard: in the frame that has ended, and in the one that runs
pub record Finds (M : Machine) : Type 0 where
  -- "45 more than 128 components" is no answer to a lawful broadcast, whatever was missed
  pub taken : (a : Air) → Orderly a → (hears : ℕ → Bool) → Near hears → (t : ℕ) → hears t ≡ true
      → M.answer (kept M a hears t) (field_bytes (field_on a t)) ≡ 0
  pub ended : (a : Air) → Orderly a → (hears : ℕ → Bool) → Near hears → (t id : ℕ) → hears t ≡ true → id < ids
      → ready_to a hears id t ≡ true → Rightly M a hears t t id
  pub runs : (a : Air) → Orderly a → (hears : ℕ → Bool) → Near hears → (t id : ℕ) → hears t ≡ true → id < ids
      → ready_before a hears id (suc t) ≡ true → Rightly M a hears t (suc t) id

-- ---- the request's own case

abbrev pub every : ℕ → Bool
every t = true

-- "where no frame is missed and every field arrives undamaged before its change"; of a configuration that began before frame 0 what it sent
-- before is not known, so that its announcements must come round
pub record Followed (a : Air) : Type 0 where
  pub orderly : Orderly a
  pub empty : (id : ℕ) → a.config 0 id ≡ []
  pub round : (t id : ℕ) → id < ids → change (timed a) (suc t) ≡ true → begun (timed a) t ≡ false
      → over_change (coming_to a every id t) true a every id t ≡ true

pub record ShowsInForce (M : Machine) : Type 0 where
  pub taken : (a : Air) → Followed a → (t : ℕ) → M.answer (kept M a every t) (field_bytes (field_on a t)) ≡ 0
  pub ended : (a : Air) → Followed a → (t id : ℕ) → id < ids → Rightly M a every t t id
  pub runs : (a : Air) → Followed a → (t id : ℕ) → id < ids → Rightly M a every t (suc t) id
