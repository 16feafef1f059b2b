-- An announced structure came round: two beginnings of its repetitions were heard.
use mathlib.Core.Bool.{Bool, ◌||◌}
use Prim.Native.Nat.{ℕ}
use lib.Dec.{leb}

-- it came round before, or does so now
abbrev pub rounded : Bool → ℕ → Bool
rounded g c = g || leb 2 c
