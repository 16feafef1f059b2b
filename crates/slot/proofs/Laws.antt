-- The two rooms of a slot, each replaced: what it holds then, and what stays. `Below 256 s` says that each of s is a byte.
--
--   unfinished-room, stored-room      their lengths
--   unfinished-*, stored-*            a room replaced
--
-- Assumes nothing.
use mathlib.Core.Path.{◌≡◌}
use mathlib.Core.List.{List}
use Prim.Native.Nat.{ℕ}
use native.Mathlib.Omega.{arith}
use lib.Dec.{lit≤}
use lib.ListN.{length}
use Rattle.bits.proofs.Runs.{Below}
use Rattle.runs.proofs.Parts.{part_length, put-length, part-put, part-put-before, part-put-after, put-below}
use Rattle.slot.specs.Slot.{head_at, head_size, room_size, slot_size, whole_at, head_of, unfinished, stored, with_unfinished, with_stored}
use Rattle.slot.proofs.Heads.{head-same}

pub unfinished-room : (s : List ℕ) → length s ≡ slot_size → length (unfinished s) ≡ room_size
unfolding unfinished
unfinished-room s l = part_length 0 room_size s (omega arith)

pub stored-room : (s : List ℕ) → length s ≡ slot_size → length (stored s) ≡ room_size
unfolding stored
stored-room s l = part_length whole_at room_size s (omega arith)

pub unfinished-below : (r s : List ℕ) → Below 256 r → Below 256 s → Below 256 (with_unfinished r s)
unfolding with_unfinished
unfinished-below r s hr hs = put-below 0 room_size r s hr hs

pub stored-below : (r s : List ℕ) → Below 256 r → Below 256 s → Below 256 (with_stored r s)
unfolding with_stored
stored-below r s hr hs = put-below whole_at room_size r s hr hs

module _ (r s : List ℕ) (l : length s ≡ slot_size) (k : length r ≡ room_size) where
  pub unfinished-put : unfinished (with_unfinished r s) ≡ r
  unfolding unfinished with_unfinished
  unfinished-put = part-put 0 room_size r s (omega arith) k

  pub unfinished-stored : stored (with_unfinished r s) ≡ stored s
  unfolding stored with_unfinished
  unfinished-stored = part-put-after 0 room_size r s whole_at room_size (omega arith) k (lit≤ tt)

  pub unfinished-head : head_of (with_unfinished r s) ≡ head_of s
  unfolding with_unfinished
  unfinished-head = head-same (with_unfinished r s) s (part-put-after 0 room_size r s head_at head_size (omega arith) k (lit≤ tt))

  pub unfinished-length : length (with_unfinished r s) ≡ length s
  unfolding with_unfinished
  unfinished-length = put-length 0 room_size r s (omega arith) k

  pub stored-put : stored (with_stored r s) ≡ r
  unfolding stored with_stored
  stored-put = part-put whole_at room_size r s (omega arith) k

  pub stored-unfinished : unfinished (with_stored r s) ≡ unfinished s
  unfolding unfinished with_stored
  stored-unfinished = part-put-before whole_at room_size r s 0 room_size (omega arith) (lit≤ tt)

  pub stored-head : head_of (with_stored r s) ≡ head_of s
  unfolding with_stored
  stored-head = head-same (with_stored r s) s (part-put-after whole_at room_size r s head_at head_size (omega arith) k (lit≤ tt))

  pub stored-length : length (with_stored r s) ≡ length s
  unfolding with_stored
  stored-length = put-length whole_at room_size r s (omega arith) k
