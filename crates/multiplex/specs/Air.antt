-- A broadcast as anybody may come upon it (ETS 300 352, 4.5.4): frames that carry fields from long before the first one that is heard on, in a
-- multiplex that has components already. Counts, changes and configurations are those of `Broadcast`.
--
--   Carries               what line 625 of a frame carries: which field of a component's coming structure (flagged), or of its present one;
--                         all ones for a component that there is not, coming or present; panning vectors
--   Air                   the count of frame 0; the structure of each component in each configuration; what each frame carries
--   field_on a t           the field of frame t
--   turn n i              which field of a structure of n comes behind field i, again and again
--   last_old, last_new      which field of a component's present structure, or of its coming one, was carried last before a frame; 0 for none,
--                         otherwise one more than its place
--   links_old, links_new    LINKS of the last field of a component's present structure, or of its coming one, before a frame
--   new_to, gone_to         how many fields of its coming structure the running configuration has carried up to a frame, and whether it said
--                         that the component is to be deleted
--   Orderly a             what 4.5.4 asks
use Rattle.std.specs.Prelude.{◌≡◌, Bool, true, false, cond, ◌&&◌, ◌||◌, List, [], ◌∷◌, ℕ, zero, suc, ◌+◌, ◌<◌, ◌≤◌, eqb, length, get_or}
use Rattle.field.specs.Field.{bad_tdms, deletes, panning}
use Rattle.field.specs.declared.Field.{Field}
use Rattle.map.specs.Map.{ids, counted}
use Rattle.multiplex.specs.Broadcast.{Broadcast, count_at, change, epoch, begun, some, Linked, Bits}

pub data Carries : Type 0 where
  -- component, which field, LINKS
  new : ℕ → ℕ → ℕ → Carries
  old : ℕ → ℕ → ℕ → Carries
  -- flag, component, all ones, LINKS
  gone : ℕ → ℕ → ℕ → ℕ → Carries
  vectors : ℕ → ℕ → ℕ → Carries

pub record Air : Type 0 where
  pub origin : ℕ
  pub config : ℕ → ℕ → List ℕ
  pub carries : ℕ → Carries

-- its frames, counts and configurations
abbrev pub timed : Air → Broadcast
timed a = record { origin = a.origin }

abbrev pub in_force : Air → ℕ → ℕ → List ℕ
in_force a t id = a.config (epoch (timed a) t) id

abbrev pub coming : Air → ℕ → ℕ → List ℕ
coming a t id = a.config (suc (epoch (timed a) t)) id

-- ---- the field of a frame

unfoldable pub carried_as : Air → ℕ → Carries → Field
carried_as a t (new id i l) = record { count = count_at (timed a) t; flag = 1; id = id; tdms = get_or (coming a t id) i 0; links = l }
carried_as a t (old id i l) = record { count = count_at (timed a) t; flag = 0; id = id; tdms = get_or (in_force a t id) i 0; links = l }
carried_as a t (gone flag id tdms l) = record { count = count_at (timed a) t; flag = flag; id = id; tdms = tdms; links = l }
carried_as a t (vectors flag tdms l) = record { count = count_at (timed a) t; flag = flag; id = panning; tdms = tdms; links = l }

unfoldable pub field_on : Air → ℕ → Field
field_on a t = carried_as a t (a.carries t)

-- ---- the order of fields

unfoldable pub turn : ℕ → ℕ → ℕ
turn n i = cond (eqb (suc i) n) 0 (suc i)

-- one more than the place of the field, 0 where it is none of the component's
unfoldable pub new_in : ℕ → Carries → ℕ
new_in id (new k i l) = cond (eqb k id) (suc i) 0
new_in id (old k i l) = 0
new_in id (gone flag k t l) = 0
new_in id (vectors flag t l) = 0

unfoldable pub old_in : ℕ → Carries → ℕ
old_in id (new k i l) = 0
old_in id (old k i l) = cond (eqb k id) (suc i) 0
old_in id (gone flag k t l) = 0
old_in id (vectors flag t l) = 0

unfoldable pub gone_in : ℕ → Carries → Bool
gone_in id (new k i l) = false
gone_in id (old k i l) = false
gone_in id (gone flag k t l) = eqb flag 1 && eqb k id
gone_in id (vectors flag t l) = false

unfoldable pub later : ℕ → ℕ → ℕ
later zero before = before
later (suc n) before = suc n

unfoldable pub same : List ℕ → List ℕ → Bool
same [] [] = true
same [] (y ∷ ys) = false
same (x ∷ xs) [] = false
same (x ∷ xs) (y ∷ ys) = eqb x y && same xs ys

-- a repetition goes on over a change, where the structure stays as it is
unfoldable pub last_old : Air → ℕ → ℕ → ℕ
last_old a id zero = 0
last_old a id (suc t) = cond (same (in_force a t id) (in_force a (suc t) id)) (later (old_in id (a.carries t)) (last_old a id t)) 0

unfoldable pub last_new : Air → ℕ → ℕ → ℕ
last_new a id zero = 0
last_new a id (suc t) = cond (change (timed a) (suc t)) 0 (later (new_in id (a.carries t)) (last_new a id t))

unfoldable pub link_of : Carries → ℕ
link_of (new k i l) = l
link_of (old k i l) = l
link_of (gone flag k t l) = l
link_of (vectors flag t l) = l

unfoldable pub links_old : Air → ℕ → ℕ → ℕ
links_old a id zero = 0
links_old a id (suc t) = cond (eqb (old_in id (a.carries t)) 0) (links_old a id t) (link_of (a.carries t))

unfoldable pub links_new : Air → ℕ → ℕ → ℕ
links_new a id zero = 0
links_new a id (suc t) = cond (eqb (new_in id (a.carries t)) 0) (links_new a id t) (link_of (a.carries t))

abbrev pub one : ℕ → ℕ
one n = cond (eqb n 0) 0 1

unfoldable pub new_before : Air → ℕ → ℕ → ℕ
new_before a id zero = 0
new_before a id (suc t) = cond (change (timed a) (suc t)) 0 (new_before a id t + one (new_in id (a.carries t)))

abbrev pub new_to : Air → ℕ → ℕ → ℕ
new_to a id t = new_before a id t + one (new_in id (a.carries t))

unfoldable pub gone_before : Air → ℕ → ℕ → Bool
gone_before a id zero = false
gone_before a id (suc t) = cond (change (timed a) (suc t)) false (gone_before a id t || gone_in id (a.carries t))

abbrev pub gone_to : Air → ℕ → ℕ → Bool
gone_to a id t = gone_before a id t || gone_in id (a.carries t)

-- ---- the law

-- Fields of one component come round in order, and LINKS is the same in all of a repetition. A repetition of a coming structure begins with its
-- first field (where the running configuration began before frame 0, nobody knows which was carried before). "this bit shall change on
-- each repetition of the linked TDMS field(s)" is read so that a repetition of a structure that does not change is sent whole, over a change
-- too: a reading of the house. Flagged all ones come before the first field of the coming structure, never behind one: a component may be
-- deleted and created in one configuration.
unfoldable pub InTurn : Air → ℕ → Carries → Type 0
InTurn a t (new id i l) =
    (id < ids) × ((i < length (coming a t id)) × ((l < 2)
    × (((k : ℕ) → last_new a id t ≡ suc k → (i ≡ turn (length (coming a t id)) k) × (i ≡ suc k → l ≡ links_new a id t))
    × (last_new a id t ≡ 0 → begun (timed a) t ≡ true → i ≡ 0))))
InTurn a t (old id i l) =
    (id < ids) × ((i < length (in_force a t id)) × ((l < 2)
    × ((k : ℕ) → last_old a id t ≡ suc k → (i ≡ turn (length (in_force a t id)) k) × (i ≡ suc k → l ≡ links_old a id t))))
InTurn a t (gone flag id tdms l) =
    (id < ids) × ((id ≡ panning → ⊥) × ((flag ≡ 0 → in_force a t id ≡ []) × ((flag ≡ 1 → new_before a id t ≡ 0)
    × ((deletes tdms ≡ true) × ((bad_tdms tdms ≡ false) × Bits flag tdms l)))))
InTurn a t (vectors flag tdms l) = Bits flag tdms l

-- of the change behind frame t, at the end of a configuration that began in frame 0 or later: nothing was said of the component, and it stays as
-- it is; or all of its fields were carried; or that it is to be deleted
pub data Said (a : Air) (t id : ℕ) : Type 0 where
  nothing : new_to a id t ≡ 0 → gone_to a id t ≡ false → coming a t id ≡ in_force a t id → Said a t id
  described : 0 < length (coming a t id) → length (coming a t id) ≤ new_to a id t → Said a t id
  deleted : coming a t id ≡ [] → gone_to a id t ≡ true → Said a t id

pub record Orderly (a : Air) : Type 0 where
  pub linked : (j id : ℕ) → id < ids → Linked (a.config j id)
  -- "The number of different TDM components ... shall never exceed 128."
  pub few : (j : ℕ) → counted (λ (id : ℕ). some (a.config j id)) ids 0 ≤ 128
  pub vectors : (j : ℕ) → a.config j panning ≡ []
  pub turns : (t : ℕ) → InTurn a t (a.carries t)
  pub said : (t id : ℕ) → id < ids → change (timed a) (suc t) ≡ true → begun (timed a) t ≡ true → Said a t id
