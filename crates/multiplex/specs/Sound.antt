-- "Never sure without reason": of any machine that takes in the fields of a broadcast, started anywhere in it and missing frames.
--
--   kept M a hears t       what the machine keeps before frame t, of the frames that it hears
--   missed_before, any_before     how many frames were missed since the last that was heard, and whether one was
--   Listener M a hears     the frames that are heard are those that the machine takes in; up to 127 are missed in a row
--   Quiet a hears t j e id      no frame that was heard up to t has announced a change of the component, from configuration j on to e
--   lists xs t             t is one of the fields xs
--   denies a v id xs c     what frame v carries says that the component's structure is not xs, or no longer
--   Undenied a hears t j id xs     no frame that was heard up to t has done so, in a configuration after j
--   Word               what was heard of a component last: nothing, that it is not there, or a field
--   present_in, coming_in     what a frame says of its present structure, and of the coming one
--   present_to, coming_to     what was heard last up to a frame; what was heard of the coming one counts from its change on
--   word_for            the same, for the frame that is asked for
--   NeverWrong M
use Rattle.std.specs.Prelude.{◌≡◌, Bool, true, false, cond, not, ◌&&◌, ◌||◌, List, [], ◌∷◌, ℕ, zero, suc, ◌+◌, ◌≤◌, ◌<◌, ltb, eqb, get_or}
use Rattle.field.specs.Field.{field_bytes}
use Rattle.map.specs.Map.{ids}
use Rattle.multiplex.specs.Broadcast.{count_at, change, epoch}
use Rattle.multiplex.specs.Heard.{Machine}
use Rattle.multiplex.specs.Air.{Carries, new, old, gone, vectors, Air, timed, in_force, field_on, new_in, gone_in, Orderly}

unfoldable pub kept : Machine → Air → (ℕ → Bool) → ℕ → List ℕ
kept M a hears zero = M.start
kept M a hears (suc t) =
    let m = kept M a hears t in
    cond (hears t) (M.after m (field_bytes (field_on a t))) m

unfoldable pub missed_before : (ℕ → Bool) → ℕ → ℕ
missed_before hears zero = 0
missed_before hears (suc t) = cond (hears t) 0 (suc (missed_before hears t))

unfoldable pub any_before : (ℕ → Bool) → ℕ → Bool
any_before hears zero = false
any_before hears (suc t) = hears t || any_before hears t

-- frames heard in a row, up to a frame and with it
unfoldable pub in_row : (ℕ → Bool) → ℕ → ℕ
in_row hears zero = cond (hears zero) 1 0
in_row hears (suc t) = cond (hears (suc t)) (suc (in_row hears t)) 0

pub record Listener (M : Machine) (a : Air) (hears : ℕ → Bool) : Type 0 where
  -- a field that is refused counts as missed
  pub taken : (t : ℕ) → hears t ≡ true → M.answer (kept M a hears t) (field_bytes (field_on a t)) ≡ 0
  pub near : (t : ℕ) → hears t ≡ true → any_before hears t ≡ true → missed_before hears t ≤ 127

-- the frame says something new of the component: a field of its coming structure, or that it is to be deleted
unfoldable pub announces : ℕ → Carries → Bool
announces id c = gone_in id c || (cond (eqb (new_in id c) 0) false true)

abbrev pub Quiet : Air → (ℕ → Bool) → ℕ → ℕ → ℕ → ℕ → Type 0
Quiet a hears t j e id =
    (v : ℕ) → v ≤ t → hears v ≡ true → j ≤ epoch (timed a) v → epoch (timed a) v < e → announces id (a.carries v) ≡ false

-- ---- what denies a structure

-- the structure lists the field
unfoldable pub lists : List ℕ → ℕ → Bool
lists [] t = false
lists (x ∷ xs) t = eqb x t || lists xs t

-- the frame says that a structure is not, or no longer, in force: a present field that it does not list, or all ones
unfoldable pub denies : Air → ℕ → ℕ → List ℕ → Carries → Bool
denies a v id xs (new k i l) = false
denies a v id xs (old k i l) = eqb k id && not (lists xs (get_or (in_force a v id) i 0))
denies a v id xs (gone flag k t l) = eqb flag 0 && eqb k id
denies a v id xs (vectors flag t l) = false

-- no frame that was heard up to t, in a configuration after j, has denied it
abbrev pub Undenied : Air → (ℕ → Bool) → ℕ → ℕ → ℕ → List ℕ → Type 0
Undenied a hears t j id xs = (v : ℕ) → v ≤ t → hears v ≡ true → j < epoch (timed a) v → denies a v id xs (a.carries v) ≡ false

-- ---- what was heard last (4.5.4: a field without the update flag speaks of the present configuration, one with it of the coming one, from the
-- next change on; all ones delete the component)

pub data Word : Type 0 where
  unheard : Word
  absent : Word
  there : Word

-- the later word, where there is one
unfoldable pub over : Word → Word → Word
over unheard before = before
over absent before = absent
over there before = there

unfoldable pub present_in : ℕ → Carries → Word
present_in id (new k i l) = unheard
present_in id (old k i l) = cond (eqb k id) there unheard
present_in id (gone flag k t l) = cond (eqb flag 0 && eqb k id) absent unheard
present_in id (vectors flag t l) = unheard

unfoldable pub coming_in : ℕ → Carries → Word
coming_in id (new k i l) = cond (eqb k id) there unheard
coming_in id (old k i l) = unheard
coming_in id (gone flag k t l) = cond (eqb flag 1 && eqb k id) absent unheard
coming_in id (vectors flag t l) = unheard

-- before frame t: a change leaves nothing announced
unfoldable pub coming_before : Air → (ℕ → Bool) → ℕ → ℕ → Word
coming_before a hears id zero = unheard
coming_before a hears id (suc t) =
    cond (change (timed a) (suc t)) unheard (over (cond (hears t) (coming_in id (a.carries t)) unheard) (coming_before a hears id t))

abbrev pub coming_to : Air → (ℕ → Bool) → ℕ → ℕ → Word
coming_to a hears id t = over (cond (hears t) (coming_in id (a.carries t)) unheard) (coming_before a hears id t)

-- before frame t: at a change what was announced becomes the last word
unfoldable pub present_before : Air → (ℕ → Bool) → ℕ → ℕ → Word
present_before a hears id zero = unheard
present_before a hears id (suc t) =
    let w = over (cond (hears t) (present_in id (a.carries t)) unheard) (present_before a hears id t) in
    cond (change (timed a) (suc t)) (over (coming_to a hears id t) w) w

abbrev pub present_to : Air → (ℕ → Bool) → ℕ → ℕ → Word
present_to a hears id t = over (cond (hears t) (present_in id (a.carries t)) unheard) (present_before a hears id t)

-- asked behind frame t for frame u
unfoldable pub word_for : Air → (ℕ → Bool) → ℕ → ℕ → ℕ → Word
word_for a hears id t u =
    cond (ltb (epoch (timed a) t) (epoch (timed a) u)) (over (coming_to a hears id t) (present_to a hears id t)) (present_to a hears id t)

-- What is shown of a component, where anything is, is its whole structure in some configuration j; and of every change since none was announced in any
-- frame that was heard. So it is what is in force, unless a change was announced in no frame that was heard; and no part of a structure
-- is ever shown as the whole. A structure whose change was announced in no frame that was heard is shown on until a field that it does not list comes, or all
-- ones, and no longer: in no configuration after j has a frame that was heard carried a present field that is not one of those shown, or all ones.
pub record Whole (M : Machine) (a : Air) (hears : ℕ → Bool) (t u id : ℕ) : Type 0 where
  pub from : ℕ
  pub past : from ≤ epoch (timed a) u
  pub fields : M.fields (kept M a hears (suc t)) id (count_at (timed a) u) ≡ a.config from id
  pub quiet : Quiet a hears t from (epoch (timed a) u) id
  pub undenied : Undenied a hears t from id (a.config from id)

-- t is the last frame that was heard, u the frame that is asked for
pub record NeverWrong (M : Machine) : Type 0 where
  pub sound : (a : Air) → Orderly a → (hears : ℕ → Bool) → Listener M a hears → (t u id : ℕ) → hears t ≡ true → t ≤ u → u ≤ t + 128 → id < ids
      → M.number (kept M a hears (suc t)) id (count_at (timed a) u) ≡ 0 → (M.fields (kept M a hears (suc t)) id (count_at (timed a) u) ≡ [] → ⊥)
      → Whole M a hears t u id
  -- 0 without fields only where nothing was heard of the component since the start, or what was heard of it last was all ones
  pub blank : (a : Air) → Orderly a → (hears : ℕ → Bool) → Listener M a hears → (t u id : ℕ) → hears t ≡ true → t ≤ u → u ≤ t + 128 → id < ids
      → M.number (kept M a hears (suc t)) id (count_at (timed a) u) ≡ 0 → M.fields (kept M a hears (suc t)) id (count_at (timed a) u) ≡ []
      → word_for a hears id t u ≡ there → ⊥
