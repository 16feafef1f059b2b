-- What a packet leaves of the slot of its address, for those above who need not know how.
--
--   Fits mv c b x          a good slot, a packet's bytes, and the place that the row says
--   row_fits               the row of section 4's table fits what is awaited and what came
--   moved-size, moved-good, moved-head          the slot stays a good slot; its head
--   started-room, held-room, whole-group        what the room begins with after each row: the group's bytes so far, or all of them
--   whole_room, whole-stored                    after a whole group one room is 0 again, and the other keeps what was in it
--   started-stored, held-stored                 before it, the stored group stays as it was
--   dropped-size, dropped-head, dropped-room, dropped-stored    the same of a drop
--
-- Assumes nothing.
use mathlib.Core.Path.{◌≡◌, refl, ap, ap₂, ◌∙◌}
use mathlib.Core.Bool.{true}
use mathlib.Core.List.{List, ◌++◌}
use Prim.Native.Nat.{ℕ, ◌+◌, ◌-◌, ◌*◌, ◌≤◌}
use native.Mathlib.Omega.{arith}
use native.Mathlib.Nat.{mul-le-mul_right, add-mul, one-mul, zero-add}
use lib.ListN.{length, length-append}
use Rattle.bits.specs.Bits.{blank}
use Rattle.bits.proofs.Storing.{blank-length}
use Rattle.runs.specs.Part.{part, put}
use Rattle.slot.specs.Slot.{room_size, slot_size, head_of, unfinished, stored, with_unfinished, with_stored, kept_room}
use Rattle.head.specs.Head.{dropped_head, good_head}
use Rattle.head.specs.Move.{Move, started, held, whole, out_of_step, needs_of, moved_head, row_at, place_at}
use Rattle.head.specs.declared.Head.{Head}
use Rattle.runs.proofs.Parts.{part_length, part-cat, part-front, part-part, part-put, part-put-before}
use Rattle.slot.proofs.Laws.{unfinished-room, unfinished-put, unfinished-stored, unfinished-length, stored-put, stored-length}
use Rattle.slot.proofs.Heads.{store-unfinished, store_stored, with_head-length}
use Rattle.slot.proofs.Goods.{good-load}
use Rattle.head.proofs.Bounds.{good-started, good-held, good-whole, good-dropped}
use Rattle.head.proofs.Moves.{Row, row-at, place-below, per-bounds, needs-bounds}
use Rattle.group.specs.Group.{block_of, placed, begun_room, slot_joined, rooms_kept, rooms_moved, slot_moved, slot_dropped}
use Rattle.group.proofs.Doing.{begun-length, room-length, joined_length, dropped-long, block-le}

pub record Fits (mv : Move) (c : ℕ) (b x : List ℕ) : Type 0 where
  pub size : length x ≡ slot_size
  pub good : good_head (head_of x) ≡ true
  pub block : length b ≡ block_of (head_of x)
  pub place : c ≤ 3
  pub row : Row (needs_of (head_of x)) (head_of x).awaited c mv

-- the row of section 4's table
pub row_fits : (i : ℕ) (b x : List ℕ) → length x ≡ slot_size → good_head (head_of x) ≡ true → length b ≡ block_of (head_of x)
    → Fits (row_at (head_of x) i) (place_at (head_of x) i) b x
row_fits i b x l g e =
    let h = head_of x in
    let below = place-below h i in
    record {
      size = l;
      good = g;
      block = e;
      place = omega (arith, per-bounds h);
      row = row-at h i;
    }

-- a room in which c packets and one more stand begins with them
placed-begins : (c m : ℕ) (b r : List ℕ) → length r ≡ room_size → c ≤ 3 → length b ≤ 90 → m ≡ c * length b + length b
    → part 0 m (placed c b r) ≡ part 0 (c * length b) r ++ b
unfolding placed
placed-begins c m b r l h lb e =
    let n = length b in
    let fits : c * n + n ≤ room_size = omega (arith, mul-le-mul_right n h) in
    let there : part (0 + c * n) n (put (c * n) n b r) ≡ b =
    ap (λ (k : ℕ). part k n (put (c * n) n b r)) (zero-add (c * n)) ∙ part-put (c * n) n b r (omega arith) refl in
    ap (λ (k : ℕ). part 0 k (put (c * n) n b r)) e
    ∙ part-cat 0 (c * n) n (put (c * n) n b r)
    ∙ ap₂ (λ (u v : List ℕ). u ++ v) (part-put-before (c * n) n b r 0 (c * n) (omega arith) (omega arith)) there

kept-length : (n : ℕ) (r : List ℕ) → n ≤ room_size → length r ≡ room_size → length (kept_room n r) ≡ room_size
unfolding kept_room
kept-length n r h l =
    length-append (part 0 n r) (blank (room_size - n)) ∙ omega (arith, part_length 0 n r (omega arith), blank-length (room_size - n))

kept-begins : (n : ℕ) (r : List ℕ) → n ≤ room_size → length r ≡ room_size → part 0 n (kept_room n r) ≡ part 0 n r
unfolding kept_room
kept-begins n r h l =
    let ln = part_length 0 n r (omega arith) in
    part-front 0 n (part 0 n r) (blank (room_size - n)) (omega arith) ∙ part-part 0 n 0 n r (omega arith) ∙ refl

-- ---- the slot after a row

module _ (n : ℕ) (t : List ℕ) (l : length t ≡ slot_size) (h : n ≤ room_size) where
  -- the room that is kept, and the slot with it
  kept-room : length (kept_room n (unfinished t)) ≡ room_size
  kept-room = kept-length n (unfinished t) h (unfinished-room t l)

  stored-long : length (with_stored (kept_room n (unfinished t)) t) ≡ slot_size
  stored-long = stored-length (kept_room n (unfinished t)) t l kept-room ∙ l

  keeps-size : length (rooms_kept n t) ≡ slot_size
  unfolding rooms_kept
  keeps-size = unfinished-length (blank room_size) _ stored-long (blank-length room_size) ∙ stored-long

  keeps-room : unfinished (rooms_kept n t) ≡ blank room_size
  unfolding rooms_kept
  keeps-room = unfinished-put (blank room_size) _ stored-long (blank-length room_size)

  keeps-stored : stored (rooms_kept n t) ≡ kept_room n (unfinished t)
  unfolding rooms_kept
  keeps-stored = unfinished-stored (blank room_size) _ stored-long (blank-length room_size) ∙ stored-put (kept_room n (unfinished t)) t l kept-room

-- c packets and one more
packets : (c : ℕ) (b : List ℕ) → (c + 1) * length b ≡ c * length b + length b
packets c b = add-mul c 1 (length b) ∙ ap (λ (k : ℕ). c * length b + k) (one-mul (length b))

within : (c : ℕ) (b : List ℕ) → c ≤ 3 → length b ≤ 90 → (c + 1) * length b ≤ room_size
within c b h lb = omega (arith, packets c b, mul-le-mul_right (length b) h)

rooms-size : (mv : Move) (c : ℕ) (b x : List ℕ) → length x ≡ slot_size → c ≤ 3 → length b ≤ 90 → length (rooms_moved mv c b x) ≡ slot_size
unfolding rooms_moved
rooms-size started c b x l h lb = joined_length c x b l h lb
rooms-size held c b x l h lb = joined_length c x b l h lb
rooms-size whole c b x l h lb = keeps-size ((c + 1) * length b) (slot_joined c b x) (joined_length c x b l h lb) (within c b h lb)
rooms-size out_of_step c b x l h lb = unfinished-length (blank room_size) x l (blank-length room_size) ∙ l

moved_head-good : (mv : Move) (c : ℕ) (h : Head) → good_head h ≡ true → c ≤ 3 → Row (needs_of h) h.awaited c mv → good_head (moved_head mv h) ≡ true
unfolding moved_head
moved_head-good started c h g k w = good-started h g
moved_head-good held c h g k w = good-held h g (omega (arith, w.0, w.2, needs-bounds h, per-bounds h))
moved_head-good whole c h g k w = good-whole h g
moved_head-good out_of_step c h g k w = good-dropped h g

short : (mv : Move) (c : ℕ) (b x : List ℕ) → Fits mv c b x → length b ≤ 90
short mv c b x f = omega (arith, f.block, block-le (head_of x))

module _ (mv : Move) (c : ℕ) (b x : List ℕ) (f : Fits mv c b x) where
  rooms : length (rooms_moved mv c b x) ≡ slot_size
  rooms = rooms-size mv c b x f.size f.place (short mv c b x f)

  pub moved-size : length (slot_moved mv c b x) ≡ slot_size
  unfolding slot_moved
  moved-size = with_head-length (moved_head mv (head_of x)) (rooms_moved mv c b x) rooms ∙ rooms

  pub moved-good : good_head (moved_head mv (head_of x)) ≡ true
  moved-good = moved_head-good mv c (head_of x) f.good f.place f.row

  pub moved-head : head_of (slot_moved mv c b x) ≡ moved_head mv (head_of x)
  unfolding slot_moved
  moved-head = good-load (moved_head mv (head_of x)) moved-good (rooms_moved mv c b x) rooms

  moved-unfinished : unfinished (slot_moved mv c b x) ≡ unfinished (rooms_moved mv c b x)
  unfolding slot_moved
  moved-unfinished = store-unfinished (moved_head mv (head_of x)) (rooms_moved mv c b x) rooms

  moved-stored : stored (slot_moved mv c b x) ≡ stored (rooms_moved mv c b x)
  unfolding slot_moved
  moved-stored = store_stored (moved_head mv (head_of x)) (rooms_moved mv c b x) rooms

-- ---- what the rooms begin with

module _ (mv : Move) (c : ℕ) (b x : List ℕ) (f : Fits mv c b x) where
  abbrev lb : length b ≤ 90
  lb = short mv c b x f

  joined-room : unfinished (slot_joined c b x) ≡ placed c b (begun_room c (unfinished x))
  unfolding slot_joined
  joined-room = unfinished-put (placed c b (begun_room c (unfinished x))) x f.size (room-length c x b f.size f.place lb)

  joined-begins : (m : ℕ) → m ≡ (c + 1) * length b
      → part 0 m (unfinished (slot_joined c b x)) ≡ part 0 (c * length b) (begun_room c (unfinished x)) ++ b
  joined-begins m e =
      ap (part 0 m) joined-room
      ∙ placed-begins c m b (begun_room c (unfinished x)) (begun-length c (unfinished x) (unfinished-room x f.size)) f.place lb (e ∙ packets c b)

  joined-stored : stored (slot_joined c b x) ≡ stored x
  unfolding slot_joined
  joined-stored = unfinished-stored (placed c b (begun_room c (unfinished x))) x f.size (room-length c x b f.size f.place lb)

  joined-size : length (slot_joined c b x) ≡ slot_size
  joined-size = joined_length c x b f.size f.place lb

module _ (c : ℕ) (b x : List ℕ) where
  pub started-room : Fits started c b x → (m : ℕ) → m ≡ (c + 1) * length b
      → part 0 m (unfinished (slot_moved started c b x)) ≡ part 0 (c * length b) (begun_room c (unfinished x)) ++ b
  unfolding rooms_moved
  started-room f m e = ap (part 0 m) (moved-unfinished started c b x f) ∙ joined-begins started c b x f m e

  pub started-stored : Fits started c b x → stored (slot_moved started c b x) ≡ stored x
  unfolding rooms_moved
  started-stored f = moved-stored started c b x f ∙ joined-stored started c b x f

  pub held-room : Fits held c b x → (m : ℕ) → m ≡ (c + 1) * length b
      → part 0 m (unfinished (slot_moved held c b x)) ≡ part 0 (c * length b) (begun_room c (unfinished x)) ++ b
  unfolding rooms_moved
  held-room f m e = ap (part 0 m) (moved-unfinished held c b x f) ∙ joined-begins held c b x f m e

  pub held-stored : Fits held c b x → stored (slot_moved held c b x) ≡ stored x
  unfolding rooms_moved
  held-stored f = moved-stored held c b x f ∙ joined-stored held c b x f

  pub whole_room : Fits whole c b x → unfinished (slot_moved whole c b x) ≡ blank room_size
  unfolding rooms_moved
  whole_room f =
      moved-unfinished whole c b x f
      ∙ keeps-room ((c + 1) * length b) (slot_joined c b x) (joined-size whole c b x f) (within c b f.place (short whole c b x f))

  pub whole-stored : Fits whole c b x → stored (slot_moved whole c b x) ≡ kept_room ((c + 1) * length b) (unfinished (slot_joined c b x))
  unfolding rooms_moved
  whole-stored f =
      moved-stored whole c b x f
      ∙ keeps-stored ((c + 1) * length b) (slot_joined c b x) (joined-size whole c b x f) (within c b f.place (short whole c b x f))

  pub whole-group : Fits whole c b x → (m : ℕ) → m ≡ (c + 1) * length b
      → part 0 m (stored (slot_moved whole c b x)) ≡ part 0 (c * length b) (begun_room c (unfinished x)) ++ b
  whole-group f m e =
      let n = (c + 1) * length b in
      let size = joined-size whole c b x f in
      ap₂ (λ (k : ℕ) (y : List ℕ). part 0 k y) e (whole-stored f)
      ∙ kept-begins n (unfinished (slot_joined c b x)) (within c b f.place (short whole c b x f)) (unfinished-room (slot_joined c b x) size)
      ∙ joined-begins whole c b x f n refl

-- ---- a drop

module _ (x : List ℕ) (l : length x ≡ slot_size) (g : good_head (head_of x) ≡ true) where
  emptied : length (with_unfinished (blank room_size) x) ≡ slot_size
  emptied = unfinished-length (blank room_size) x l (blank-length room_size) ∙ l

  pub dropped-size : length (slot_dropped x) ≡ slot_size
  dropped-size = dropped-long x l

  pub dropped-head : head_of (slot_dropped x) ≡ dropped_head (head_of x)
  unfolding slot_dropped
  dropped-head = good-load (dropped_head (head_of x)) (good-dropped (head_of x) g) (with_unfinished (blank room_size) x) emptied

  pub dropped-room : unfinished (slot_dropped x) ≡ blank room_size
  unfolding slot_dropped
  dropped-room = store-unfinished (dropped_head (head_of x)) (with_unfinished (blank room_size) x) emptied ∙ unfinished-put (blank room_size) x l (blank-length room_size)

  pub dropped-stored : stored (slot_dropped x) ≡ stored x
  unfolding slot_dropped
  dropped-stored = store_stored (dropped_head (head_of x)) (with_unfinished (blank room_size) x) emptied ∙ unfinished-stored (blank room_size) x l (blank-length room_size)
