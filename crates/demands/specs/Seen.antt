-- What calls are to one followed address: which images reach it and what they are received as, and what its slot's own marks say. Nothing
-- here looks at a machine's answers. A call that only reads is no event.
--
--   arrives_at a k image   the image has 94 bytes, its spare bit is 0, and it is read as the address with no more flips than the setting k
--   event_of p image       what it is there: a readable data packet, or refused with 28, 29, 47, 30 or 31
--   events_of a p k h      the events that a list of calls means at the address, from a setting on: those images, and the subframe ends
--   seen_in x              the address that a slot's bytes follow: its head, the bytes of the packets it holds, the group it shows
--   marks_of h             the transcript that a slot's marks stand for: group and age, gap, awaited index; marks_by: by these
--   latest g out          the last group handed out; g where there is none
use Rattle.std.specs.Prelude.{Bool, cond, not, ◌&&◌, List, [], ◌∷◌, ◌++◌, ℕ, zero, suc, ◌*◌, leb, ltb, eqb, length, take, replicate}
use Rattle.image.specs.Image.{spare_of}
use Rattle.packet.specs.Received.{received}
use Rattle.packet.specs.Damage.{data_size}
use Rattle.runs.specs.Part.{part}
use Rattle.slot.specs.Slot.{head_of, unfinished, stored}
use Rattle.head.specs.Move.{per_of, needs_of}
use Rattle.head.specs.declared.Head.{Head}
use Rattle.asking.specs.Asking.{group_length}
use Rattle.group.specs.Group.{block_of}
use Rattle.faults.specs.Faults.{fault_of}
use Rattle.history.specs.Followed.{Followed, Event, ended}
use Rattle.history.specs.Followed as one
use Rattle.history.specs.Transcript.{Entry, answered, subframe}
use Rattle.adapter.specs.Calls.{address_of, flips_of}
use Rattle.demands.specs.Machine.{Call, start, follow, leave, packet, subframe_end, set_flips, asks}
use Rattle.demands.specs.Setting.{setting_now}

-- ---- what a call is at an address

unfoldable pub arrives_at : ℕ → ℕ → List ℕ → Bool
arrives_at a k image = eqb (length image) 94 && (not (eqb (spare_of image) 1) && (leb (flips_of image) k && eqb (address_of image) a))

-- by the number, index and bytes of what was received
unfoldable pub event_by : ℕ → ℕ → List ℕ → Event
event_by zero c b = one.packet c b
event_by (suc n) c b = one.refused (fault_of (suc n))

unfoldable pub event_of : Bool → List ℕ → Event
event_of p image = event_by (received p image).number (received p image).index (take (data_size p) (received p image).bytes)

unfoldable pub events_at : ℕ → Bool → ℕ → Call → List Event
events_at a p k start = []
events_at a p k (follow w) = []
events_at a p k (leave b) = []
events_at a p k (packet image) = cond (arrives_at a k image) (event_of p image ∷ []) []
events_at a p k subframe_end = ended ∷ []
events_at a p k (set_flips most) = []
events_at a p k (asks q) = []

unfoldable pub events_of : ℕ → Bool → ℕ → List Call → List Event
events_of a p k [] = []
events_of a p k (x ∷ h) = events_at a p k x ++ events_of a p (setting_now x k) h

-- the protection that an address is followed with
abbrev pub by : Followed → Bool
by f = eqb f.head.wish.protection 1

-- ---- what a slot's bytes say

-- the group that a slot shows: none before the first
unfoldable pub last_in : Head → List ℕ → List ℕ
last_in h room = cond (eqb h.group 0) [] (part 0 (group_length h) room)

-- the packets that it holds
unfoldable pub held_in : Head → List ℕ → List ℕ
held_in h room = part 0 (h.awaited * block_of h) room

unfoldable pub seen_in : List ℕ → Followed
seen_in x =
    let h = head_of x in
    record { per = per_of h; needs = needs_of h; head = h; unfinished = held_in h (unfinished x); last = last_in h (stored x) }

-- the newest first: a packet held where an index above 0 is awaited, a refusal where the gap is marked, as many subframe ends as its
-- age, and the 3 that handed its group out, unless there is none
unfoldable pub marks_by : Bool → Bool → Bool → ℕ → List Entry
marks_by awaits gap none age =
    cond awaits (answered 1 ∷ []) []
    ++ (cond gap (answered 32 ∷ []) []
    ++ cond none [] (replicate age subframe ++ (answered 3 ∷ [])))

unfoldable pub marks_of : Head → List Entry
marks_of h = marks_by (ltb 0 h.awaited) (eqb h.gap 1) (eqb h.group 0) h.age

-- ---- what is shown

unfoldable pub latest : List ℕ → List (List ℕ) → List ℕ
latest g [] = g
latest g (x ∷ out) = latest x out
