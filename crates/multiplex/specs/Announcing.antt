-- What is announced is told (document 02, Ask 4): of any machine, started anywhere in a broadcast and missing frames.
--
--   NextChange a t n       the next change behind frame t comes in n frames
--   heard_news              something was heard of what comes
--   Announces M            it is told exactly when, and in how many frames it comes
use Rattle.std.specs.Prelude.{◌≡◌, Bool, true, false, cond, ℕ, suc, ◌+◌, ◌<◌}
use Rattle.map.specs.Map.{ids}
use Rattle.multiplex.specs.Broadcast.{change}
use Rattle.multiplex.specs.Heard.{Machine}
use Rattle.multiplex.specs.Air.{Air, timed, Orderly}
use Rattle.multiplex.specs.Sound.{kept, Word, unheard, absent, there, coming_to}
use Rattle.multiplex.specs.Finding.{Near}

pub record NextChange (a : Air) (t n : ℕ) : Type 0 where
  pub comes : change (timed a) (t + n) ≡ true
  pub first : (u : ℕ) → 0 < u → u < n → change (timed a) (t + u) ≡ false

unfoldable pub heard_news : Word → Bool
heard_news unheard = false
heard_news absent = true
heard_news there = true

-- it says that a change is announced exactly where a frame that was heard in the running configuration said so, and in how many frames it comes;
-- whatever count it is asked for
pub record Announces (M : Machine) : Type 0 where
  pub said : (a : Air) → Orderly a → (hears : ℕ → Bool) → Near hears → (t id count : ℕ) → hears t ≡ true → id < ids
      → M.announced (kept M a hears (suc t)) id count ≡ cond (heard_news (coming_to a hears id t)) 1 0
  pub when : (a : Air) → Orderly a → (hears : ℕ → Bool) → Near hears → (t id count : ℕ) → hears t ≡ true → id < ids
      → heard_news (coming_to a hears id t) ≡ true → NextChange a t (M.frames (kept M a hears (suc t)) id count)
