-- Nothing heard is not "no such component": of any machine, started anywhere in a broadcast and missing frames.
--
--   is_absent, absent_by     what was heard last says that it is not there; or leaves it as it was said before
--   absent_before, absent_to, absent_for    that there is no such component was heard for certain
--   Reason                 why it may be held that there is none
--   Admits M               it says that it does not know where it does not
use Rattle.std.specs.Prelude.{◌≡◌, Bool, true, false, cond, ◌&&◌, [], ℕ, zero, suc, ◌+◌, ◌≤◌, ◌<◌, ltb}
use Rattle.map.specs.Map.{ids}
use Rattle.multiplex.specs.Broadcast.{count_at, change, epoch}
use Rattle.multiplex.specs.Heard.{Machine}
use Rattle.multiplex.specs.Air.{Air, timed, Orderly}
use Rattle.multiplex.specs.Sound.{kept, in_row, Word, unheard, absent, there, present_in, coming_to, word_for}
use Rattle.multiplex.specs.Finding.{Near, wholly_before}

unfoldable pub is_absent : Word → Bool
is_absent unheard = false
is_absent absent = true
is_absent there = false

unfoldable pub absent_by : Word → Bool → Bool
absent_by unheard before = before
absent_by absent before = true
absent_by there before = false

-- that there is no such component was heard in the running configuration: all ones without the flag, or with it at the end of the one before,
-- which was wholly heard
unfoldable pub absent_before : Air → (ℕ → Bool) → ℕ → ℕ → Bool
absent_before a hears id zero = false
absent_before a hears id (suc t) =
    cond (change (timed a) (suc t)) (hears t && (wholly_before a hears t && is_absent (coming_to a hears id t)))
    (absent_by (cond (hears t) (present_in id (a.carries t)) unheard) (absent_before a hears id t))

abbrev pub absent_to : Air → (ℕ → Bool) → ℕ → ℕ → Bool
absent_to a hears id t = absent_by (cond (hears t) (present_in id (a.carries t)) unheard) (absent_before a hears id t)

-- behind the next change, by what was heard of it: all ones in the last frame of a configuration that was wholly heard
unfoldable pub absent_behind : Word → Air → (ℕ → Bool) → ℕ → ℕ → Bool
absent_behind unheard a hears id t = absent_to a hears id t
absent_behind absent a hears id t = wholly_before a hears t && change (timed a) (suc t)
absent_behind there a hears id t = false

unfoldable pub absent_for : Air → (ℕ → Bool) → ℕ → ℕ → ℕ → Bool
absent_for a hears id t u =
    cond (ltb (epoch (timed a) t) (epoch (timed a) u)) (absent_behind (coming_to a hears id t) a hears id t) (absent_to a hears id t)

pub data Reason (a : Air) (hears : ℕ → Bool) (id t u : ℕ) : Type 0 where
  gone : absent_for a hears id t u ≡ true → Reason a hears id t u
  long : 255 ≤ in_row hears t → Reason a hears id t u

-- where it shows nothing and does not say that it does not know, that was heard for certain, or 255 frames in a row were; and it does not say so
-- where that many were. It says 46 only where a field of the component was heard last.
pub record Admits (M : Machine) : Type 0 where
  pub known : (a : Air) → Orderly a → (hears : ℕ → Bool) → Near hears → (t u id : ℕ) → hears t ≡ true → t ≤ u → u ≤ t + 128 → id < ids
      → M.number (kept M a hears (suc t)) id (count_at (timed a) u) ≡ 0 → M.fields (kept M a hears (suc t)) id (count_at (timed a) u) ≡ []
      → M.unknown (kept M a hears (suc t)) id (count_at (timed a) u) ≡ 0 → Reason a hears id t u
  pub enough : (a : Air) → Orderly a → (hears : ℕ → Bool) → Near hears → (t id count : ℕ) → hears t ≡ true → id < ids
      → 255 ≤ in_row hears t → M.unknown (kept M a hears (suc t)) id count ≡ 0
  pub doubts : (a : Air) → Orderly a → (hears : ℕ → Bool) → Near hears → (t u id : ℕ) → hears t ≡ true → t ≤ u → u ≤ t + 128 → id < ids
      → M.number (kept M a hears (suc t)) id (count_at (timed a) u) ≡ 46 → word_for a hears id t u ≡ there
