-- The state: 16 slots in a row, and behind them a setting, 11,777 bytes (document 01, section 3; document 02, Ask 7).
--
--   tail_at, tail_size               the tail behind the slots: the setting
--   setting s, with_setting k s     the greatest number of flips to correct in a packet's header, and the state with another one
--   started_state                   as start leaves it
--   slot_at k s, with_slot k b s     slot k, and the state with other bytes there
--   address_at s k                  its address
--   find s a                       the lowest slot with that address, 16 where there is none; of 0: the lowest free one
--   place_of answer                 the slot that was found, 16 where none was
--   good s                         "each slot is free (all 736 bytes 0) or [within the bounds], and no two used slots share
--                                  an address"; "a good state holds 0 to 3"
use Rattle.std.specs.Prelude.{Bool, ◌&&◌, ◌||◌, List, [], ◌∷◌, ℕ, ◌+◌, ◌*◌, leb, eqb, get_or, Option, Some, None}
use Rattle.bits.specs.Bits.{blank}
use Rattle.bits.specs.Search.{first, all}
use Rattle.bare.specs.Bare.{most_flips}
use Rattle.runs.specs.Part.{part, put}
use Rattle.slot.specs.Slot.{slot_size, head_of, free, good_slot}

abbrev pub slots : ℕ
slots = 16

-- 11,777: the slots, and behind them the tail, of one byte
abbrev pub tail_at : ℕ
tail_at = slots * slot_size

abbrev pub tail_size : ℕ
tail_size = 1

abbrev pub state_size : ℕ
state_size = tail_at + tail_size

-- "A call puts this setting in the state for packet calls."
unfoldable pub setting : List ℕ → ℕ
setting s = get_or s tail_at 0

unfoldable pub with_setting : ℕ → List ℕ → List ℕ
with_setting most s = put tail_at tail_size (most ∷ []) s

-- "Starting sets every byte to 0", amended: "start puts 3"
abbrev pub started_state : List ℕ
started_state = with_setting most_flips (blank state_size)

unfoldable pub slot_at : ℕ → List ℕ → List ℕ
slot_at k s = part (k * slot_size) slot_size s

unfoldable pub with_slot : ℕ → List ℕ → List ℕ → List ℕ
with_slot k b s = put (k * slot_size) slot_size b s

unfoldable pub address_at : List ℕ → ℕ → ℕ
address_at s k = (head_of (slot_at k s)).wish.address

unfoldable pub find : List ℕ → ℕ → ℕ
find s a = first (λ (k : ℕ). eqb (address_at s k) a) slots 0

abbrev pub place_of : Option ℕ → ℕ
place_of None = slots
place_of (Some k) = k

-- Each slot is good, and a used one is the first of its address: so no two used slots share one.
unfoldable pub good_at : List ℕ → ℕ → Bool
good_at s k = good_slot (slot_at k s) && (free (slot_at k s) || eqb (find s (address_at s k)) k)

unfoldable pub good : List ℕ → Bool
good s = all (good_at s) slots 0 && leb (setting s) most_flips
