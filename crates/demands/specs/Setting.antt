-- The setting by the calls alone (document 02, Ask 7): "A call puts this setting in the state for packet calls; start puts 3, and a good
-- state holds 0 to 3." Every other call keeps it, and so does the setting's own where it is refused.
--
--   setting_now x k      the setting after a call, where it was k before
--   setting_after h k    and after a list of calls
use Rattle.std.specs.Prelude.{cond, List, [], ◌∷◌, ℕ, leb}
use Rattle.demands.specs.Machine.{Call, start, follow, leave, packet, subframe_end, set_flips, asks}

unfoldable pub setting_now : Call → ℕ → ℕ
setting_now start k = 3
setting_now (follow w) k = k
setting_now (leave a) k = k
setting_now (packet image) k = k
setting_now subframe_end k = k
setting_now (set_flips most) k = cond (leb most 3) most k
setting_now (asks q) k = k

unfoldable pub setting_after : List Call → ℕ → ℕ
setting_after [] k = k
setting_after (x ∷ h) k = setting_after h (setting_now x k)
