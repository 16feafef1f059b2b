-- Frame counts, and what is known of the frames that were heard (ETS 300 352, 4.5.4).
--
--   ahead a b       the distance from frame count a to frame count b, "across the wrap from 127 to 0"
--   since a b       how many frames from one that was heard to one that comes, or is asked for: 0 for the same frame, otherwise 1 to 128
--   changes a b     a change falls behind the frame with count a, up to that with count b: "from the beginning of line 1 of the second
--                   frame following the frame in which FCNT code 0 (modulo 128) is sent", the frame with count 2
--   until a         in how many frames after that with count a the next change comes
--   changing h n, again h n, skips h n     of the last frame heard and that with count n: a change falls between them; they are the
--                   same; a frame was missed on the way
--   frames_after h n what is known when the frame with count n is heard
--   enough h        so many frames were heard in a row that a component of which nothing came is held to be absent
--   all_heard h      nothing more can come of what is announced before the next change
use Rattle.std.specs.Prelude.{ℕ, ◌+◌, ◌-◌, ◌%◌, Bool, cond, ◌&&◌, ◌==◌, nat_le, nat_lt}
use Rattle.frames.specs.declared.Frames.{Frames}

unfoldable pub ahead : ℕ → ℕ → ℕ
ahead a b = (b + 256 - a) % 128

-- FCNT has eight bits: the same frame is told by all eight, and different counts that are 0 apart modulo 128 are 128 frames apart
unfoldable pub since : ℕ → ℕ → ℕ
since a b = cond (a == b) 0 (cond (ahead a b == 0) 128 (ahead a b))

unfoldable pub changes : ℕ → ℕ → Bool
changes a b = nat_lt (ahead 2 b) (since a b)

unfoldable pub until : ℕ → ℕ
until a = ahead a 1 + 1

unfoldable pub good_frames : Frames → Bool
good_frames h = nat_le h.heard 1 && nat_le h.unbroken 1

-- a change falls between the last field's frame and this one's
unfoldable pub changing : Frames → ℕ → Bool
changing h n = h.heard == 1 && changes h.last n

-- one of the same frame's five identical blocks
unfoldable pub again : Frames → ℕ → Bool
again h n = h.heard == 1 && h.last == n

-- a frame was missed on the way
unfoldable pub skips : Frames → ℕ → Bool
skips h n = h.heard == 1 && nat_lt 1 (since h.last n)

-- the frame that a configuration begins with
unfoldable pub begins : ℕ → Bool
begins n = ahead 2 n == 0

-- frames in a row: from 1 on behind a missed one, and no further than the byte goes
unfoldable pub row_after : Bool → ℕ → ℕ
row_after missed row = cond missed 1 (cond (nat_lt row 255) (row + 1) 255)

-- a configuration's first frame is the beginning of all of it, whatever was missed before
unfoldable pub frames_after : Frames → ℕ → Frames
frames_after h n = record {
  last = n;
  heard = 1;
  unbroken = cond (begins n) 1 (cond (skips h n) 0 h.unbroken);
  row = row_after (skips h n) h.row;
}

-- The standard bounds no repetition ("retransmitted cyclically. Cycles may be different", annex C): the number is the house's.
abbrev pub enough_frames : ℕ
enough_frames = 255

unfoldable pub enough : Frames → Bool
enough h = nat_le enough_frames h.row

-- every frame since the change before is heard, to the last before the next
unfoldable pub all_heard : Frames → Bool
all_heard h = h.unbroken == 1 && until h.last == 1
