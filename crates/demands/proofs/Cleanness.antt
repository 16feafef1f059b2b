-- Room that holds no group is 0: a start makes it so, and every call keeps it so.
--
--   moved-clean, dropped-clean, taken-clean     what a packet leaves of a clean slot
--   headed-clean, aged-clean                    what a follow leaves of a free one, and a subframe's end of a clean one
--   change-clean                                a state of which one slot is changed
--   stays                                       every call on any state, good or not: a refused one changes nothing
--   stays-clean
--
-- Assumes nothing.
use mathlib.Core.Path.{◌≡◌, refl, sym, ap, ap₂, ◌∙◌, subst}
use mathlib.Core.Bool.{Bool, true, false, cond}
use mathlib.Core.List.{List, ◌++◌}
use mathlib.Core.Logic.{◌⊎◌, inl, inr}
use Prim.Native.Nat.{ℕ, zero, suc, ◌+◌, ◌-◌, ◌*◌, ◌≤◌, ◌<◌}
use native.Mathlib.Omega.{arith}
use native.Mathlib.Nat.{one-mul, add-mul, mul-le-mul_right}
use native.Mathlib.Decide.{ℕ_discrete}
use lib.Dec.{eqb}
use lib.ListN.{length, take, drop}
use lib.Seq.{drop_at, drop-drop, length-take-le}
use Rattle.bits.specs.Bits.{blank}
use Rattle.bits.proofs.Rows.{done-passed, done_refused, done-either}
use Rattle.bits.proofs.Storing.{blank-length, drop-blank}
use Rattle.packet.specs.Received.{ReadingAnswer}
use Rattle.packet.proofs.Answers.{received-length}
use Rattle.runs.specs.Part.{part, put}
use Rattle.slot.specs.Slot.{room_size, slot_size, head_of, with_head, unfinished, stored, with_unfinished, kept_room, free, good_slot}
use Rattle.head.specs.Head.{new_head, aged_head, good_head}
use Rattle.head.specs.Move.{Move, started, held, whole, out_of_step, moved_head, row_at, place_at}
use Rattle.head.specs.declared.Head.{Head}
use Rattle.head.specs.declared.Wish.{Wish}
use Rattle.runs.proofs.Parts.{part_length, part-blank}
use Rattle.slot.proofs.Laws.{unfinished-room, unfinished-put, unfinished-length}
use Rattle.slot.proofs.Heads.{store-unfinished, store_stored, with_head-length}
use Rattle.slot.proofs.Goods.{good-load, good-cases, free-blank}
use Rattle.head.proofs.Bounds.{good-aged}
use Rattle.table.specs.State.{state_size, with_setting, started_state, slots, slot_at, with_slot, find}
use Rattle.table.specs.Calls.{start_answer, start_after, follow_answer, follow_after, leave_answer, leave_after, end_answer, ages, end_after, set_answer, set_after}
use Rattle.table.proofs.States.{good-each, slot-length, slot_same, slot-other, slot_kept, address_is, find-has, zero-free}
use Rattle.table.proofs.Looking.{Passed, state-passed, set-passed}
use Rattle.table.proofs.Kept.{Followed, follow-passed, leave-passed, slot-started}
use Rattle.table.proofs.Doing.{start-passed}
use Rattle.asking.specs.Asking.{group_length}
use Rattle.faults.specs.Faults.{number_drops}
use Rattle.group.specs.Group.{refused_after, block_of, placed, begun_room, slot_joined, rooms_moved, slot_moved, slot_dropped, taken_after}
use Rattle.group.proofs.Laws.{Fits, row_fits, moved-head, started-stored, held-stored, whole_room, whole-stored, dropped-room, dropped-stored, dropped-head}
use Rattle.group.proofs.Doing.{begun-length, room-length, joined_length, out-drops, block-le}
use Rattle.adapter.specs.Calls.{address_of, reading_at, packet_after}
use Rattle.adapter.proofs.Laws.{packet-refused}
use Rattle.demands.specs.Machine.{Call, start, follow, leave, packet, subframe_end, set_flips, asks, ours, our_after}
use Rattle.demands.specs.Clean.{held_length, shown_length, CleanSlot, Clean, StaysClean}
use Rattle.demands.proofs.View.{group-four, needs-four}
use Rattle.demands.proofs.Serving.{here-size, here-good, older, ages-at}
use Rattle.demands.proofs.Parts.{by_place, placed-serves, placed-here, placed-others}

-- ---- rooms of which all but the first n bytes are 0

abbrev Clear : ℕ → List ℕ → Type 0
Clear n room = drop n room ≡ blank (room_size - n)

clear-by : (n m : ℕ) (u v : List ℕ) → n ≡ m → u ≡ v → Clear m v → Clear n u
clear-by n m u v e q c = ap₂ (λ (k : ℕ) (y : List ℕ). drop k y) e q ∙ c ∙ ap (λ (k : ℕ). blank (room_size - k)) (sym e)

blank-clear : (n : ℕ) → Clear n (blank room_size)
blank-clear n = drop-blank n room_size

-- a room that holds c packets, once the next is placed
placed-clear : (c : ℕ) (b room : List ℕ) → length room ≡ room_size → c ≤ 3 → length b ≤ 90 → Clear (c * length b) room
    → Clear (c * length b + length b) (placed c b room)
unfolding placed put
placed-clear c b room l h lb e =
    let n = length b in
    let m = c * n in
    let fits : m ≤ length room = omega (arith, mul-le-mul_right n h) in
    let less : room_size - m - n ≡ room_size - (m + n) = omega arith in
    sym (drop-drop n m (put m n b room)) ∙ ap (drop n) (drop_at (take m room) (b ++ drop n (drop m room)) m (length-take-le m room fits))
    ∙ drop_at b (drop n (drop m room)) n refl ∙ ap (drop n) e ∙ drop-blank n (room_size - m) ∙ ap blank less

kept-clear : (n : ℕ) (room : List ℕ) → n ≤ length room → Clear n (kept_room n room)
unfolding kept_room
kept-clear n room h = drop_at (part 0 n room) (blank (room_size - n)) n (part_length 0 n room (omega arith))

-- ---- a slot by its rooms

clean-by : (x : List ℕ) (n m : ℕ) (u v : List ℕ) → held_length (head_of x) ≡ n → shown_length (head_of x) ≡ m → unfinished x ≡ u → stored x ≡ v
    → Clear n u → Clear m v → CleanSlot x
clean-by x n m u v en em eu ev cu cv = record {
  unfinished = clear-by _ n (unfinished x) u en eu cu;
  whole = clear-by _ m (stored x) v em ev cv;
}

-- both rooms are 0, whatever the head
empty-clean : (x : List ℕ) → unfinished x ≡ blank room_size → stored x ≡ blank room_size → CleanSlot x
empty-clean x eu ev = clean-by x _ _ _ _ refl refl eu ev (blank-clear (held_length (head_of x))) (blank-clear (shown_length (head_of x)))

-- as much is shown by a head with the same mark and protection
shown-same : (g h : Head) → g.group ≡ h.group → g.wish.protection ≡ h.wish.protection → shown_length g ≡ shown_length h
unfolding shown_length group_length
shown-same g h eg ep = λ i. cond (eqb (eg i) 0) 0 (cond (eqb (ep i) 1) 180 360)

-- ---- a packet

room-now : (h : Head) (room x : List ℕ) → length x ≡ slot_size → length room ≡ room_size → unfinished (with_head h (with_unfinished room x)) ≡ room
room-now h room x l k = store-unfinished h (with_unfinished room x) (unfinished-length room x l k ∙ l) ∙ unfinished-put room x l k

dropped-clean : (x : List ℕ) → length x ≡ slot_size → good_head (head_of x) ≡ true → CleanSlot x → CleanSlot (slot_dropped x)
dropped-clean x l g k =
    clean-by (slot_dropped x) _ _ _ _ refl (ap shown_length (dropped-head x l g) ∙ shown-same _ (head_of x) refl refl)
    (dropped-room x l g) (dropped-stored x l g) (blank-clear _) k.whole

-- one packet more is held
held_next : (h g : Head) (c : ℕ) (b : List ℕ) → length b ≡ block_of h → g.wish.protection ≡ h.wish.protection → g.awaited ≡ c + 1
    → held_length g ≡ c * length b + length b
unfolding held_length block_of
held_next h g c b lb ep ea =
    ap₂ (λ (i j : ℕ). i * j) ea (ap (λ (p : ℕ). cond (eqb p 1) 45 90) ep ∙ sym lb) ∙ add-mul c 1 (length b)
    ∙ ap (λ (n : ℕ). c * length b + n) (one-mul (length b))

-- what a packet is joined on to is clear behind the packets before it
begun-clear : (c : ℕ) (b x : List ℕ) → CleanSlot x → (c ≡ 0) ⊎ (c ≡ (head_of x).awaited) → length b ≡ block_of (head_of x)
    → Clear (c * length b) (begun_room c (unfinished x))
unfolding begun_room held_length
begun-clear zero b x k at e = blank-clear (0 * length b)
begun-clear (suc c) b x k (inl z) e = absurd (omega arith)
begun-clear (suc c) b x k (inr p) e = clear-by _ _ _ _ (ap₂ (λ (i j : ℕ). i * j) p e) refl k.unfinished

module _ (c : ℕ) (b x : List ℕ) (k : CleanSlot x) where
  abbrev room : List ℕ
  room = placed c b (begun_room c (unfinished x))

  -- c packets are held and one more
  joined-clean : (mv : Move) → Fits mv c b x → (c ≡ 0) ⊎ (c ≡ (head_of x).awaited) → (moved_head mv (head_of x)).awaited ≡ c + 1
      → (moved_head mv (head_of x)).wish.protection ≡ (head_of x).wish.protection → (moved_head mv (head_of x)).group ≡ (head_of x).group
      → slot_moved mv c b x ≡ with_head (moved_head mv (head_of x)) (with_unfinished room x) → stored (slot_moved mv c b x) ≡ stored x
      → CleanSlot (slot_moved mv c b x)
  joined-clean mv f at ea ep eg es et =
      let h = head_of x in
      let lb : length b ≤ 90 = omega (arith, f.block, block-le h) in
      let head = moved-head mv c b x f in
      clean-by (slot_moved mv c b x) _ _ room (stored x) (ap held_length head ∙ held_next h _ c b f.block ep ea)
      (ap shown_length head ∙ shown-same _ h eg ep)
      (ap unfinished es ∙ room-now _ room x f.size (room-length c x b f.size f.place lb)) et
      (placed-clear c b (begun_room c (unfinished x)) (begun-length c (unfinished x) (unfinished-room x f.size)) f.place lb
      (begun-clear c b x k at f.block)) k.whole

  started-clean : Fits started c b x → CleanSlot (slot_moved started c b x)
  unfolding slot_moved rooms_moved slot_joined moved_head
  started-clean f =
      joined-clean started f (inl f.row.0) (ap (λ (i : ℕ). i + 1) (sym f.row.0)) refl refl refl (started-stored c b x f)

  held-clean : Fits held c b x → CleanSlot (slot_moved held c b x)
  unfolding slot_moved rooms_moved slot_joined moved_head
  held-clean f = joined-clean held f (inr f.row.0) (ap (λ (i : ℕ). i + 1) (sym f.row.0)) refl refl refl (held-stored c b x f)

  whole-clean : Fits whole c b x → CleanSlot (slot_moved whole c b x)
  unfolding moved_head shown_length block_of
  whole-clean f =
      let h = head_of x in
      let lb : length b ≤ 90 = omega (arith, f.block, block-le h) in
      let n = (c + 1) * length b in
      let four : 4 ≡ c + 1 = omega (arith, f.place, f.row.1, needs-four h) in
      let size : n ≡ 4 * length b = ap (λ (i : ℕ). i * length b) (sym four) in
      let long = unfinished-room (slot_joined c b x) (joined_length c x b f.size f.place lb) in
      clean-by (slot_moved whole c b x) _ n _ _ refl
      (ap shown_length (moved-head whole c b x f) ∙ group-four (moved_head whole h) ∙ ap₂ (λ (i j : ℕ). i * j) four (sym f.block))
      (whole_room c b x f) (whole-stored c b x f) (blank-clear _) (kept-clear n (unfinished (slot_joined c b x)) (omega arith))

moved-clean : (mv : Move) (c : ℕ) (b x : List ℕ) → Fits mv c b x → CleanSlot x → CleanSlot (slot_moved mv c b x)
moved-clean started c b x f k = started-clean c b x k f
moved-clean held c b x f k = held-clean c b x k f
moved-clean whole c b x f k = whole-clean c b x k f
moved-clean out_of_step c b x f k = subst CleanSlot (out-drops c b x) (dropped-clean x f.size f.good k)

refused-clean : (n : ℕ) (x : List ℕ) → length x ≡ slot_size → good_head (head_of x) ≡ true → CleanSlot x → CleanSlot (refused_after n x)
unfolding refused_after
refused-clean n x l g k = go (number_drops n)
  where
    go : (b : Bool) → CleanSlot (cond b (slot_dropped x) x)
    go true = dropped-clean x l g k
    go false = k

taken-clean : (x image : List ℕ) → length x ≡ slot_size → good_head (head_of x) ≡ true → CleanSlot x → CleanSlot (taken_after (reading_at x image) x)
unfolding taken_after reading_at
taken-clean x image l g k = go (ℕ_discrete r.number 0)
  where
    r : ReadingAnswer
    r = reading_at x image

    fits : Fits (row_at (head_of x) r.index) (place_at (head_of x) r.index) (take (block_of (head_of x)) r.bytes) x
    fits =
        row_fits r.index (take (block_of (head_of x)) r.bytes) x l g
        (length-take-le (block_of (head_of x)) r.bytes (omega (arith, received-length (eqb (head_of x).wish.protection 1) image, block-le (head_of x))))

    go : Dec (r.number ≡ 0) → CleanSlot (taken_after r x)
    go (yes z) = subst CleanSlot (sym (done-passed r.number _ (refused_after r.number x) z)) (moved-clean _ _ _ x fits k)
    go (no ne) = subst CleanSlot (sym (done_refused r.number _ (refused_after r.number x) ne)) (refused-clean r.number x l g k)

-- ---- a free slot, and a slot that is aged

blank-clean : CleanSlot (blank slot_size)
unfolding unfinished stored
blank-clean = empty-clean (blank slot_size) (part-blank 0 room_size slot_size (omega arith)) (part-blank room_size room_size slot_size (omega arith))

headed-clean : (h : Head) (x : List ℕ) → length x ≡ slot_size → x ≡ blank (length x) → CleanSlot (with_head h x)
unfolding unfinished stored
headed-clean h x l e =
    let is : x ≡ blank slot_size = e ∙ ap blank l in
    empty-clean (with_head h x)
    (store-unfinished h x l ∙ ap unfinished is ∙ part-blank 0 room_size slot_size (omega arith))
    (store_stored h x l ∙ ap stored is ∙ part-blank room_size room_size slot_size (omega arith))

aged-clean : (x : List ℕ) → length x ≡ slot_size → good_slot x ≡ true → CleanSlot x → CleanSlot (older x)
unfolding held_length block_of
aged-clean x l g k = go (good-cases x g)
  where
    go : (x ≡ blank (length x)) ⊎ (good_head (head_of x) ≡ true) → CleanSlot (older x)
    go (inl e) = headed-clean (aged_head (head_of x)) x l e
    go (inr e) =
        let h = aged_head (head_of x) in
        let head = good-load h (good-aged (head_of x) e) x l in
        clean-by (older x) _ _ (unfinished x) (stored x) (ap held_length head) (ap shown_length head ∙ shown-same h (head_of x) refl refl)
        (store-unfinished h x l) (store_stored h x l) k.unfinished k.whole

-- ---- the calls

-- one slot is changed
change-clean : (s t : List ℕ) (k : ℕ) → CleanSlot (slot_at k t) → ((j : ℕ) → (j ≡ k → ⊥) → slot_at j t ≡ slot_at j s) → Clean s → Clean t
change-clean s t k b others c j h = go (ℕ_discrete j k)
  where
    go : Dec (j ≡ k) → CleanSlot (slot_at j t)
    go (yes e) = subst (λ (i : ℕ). CleanSlot (slot_at i t)) (sym e) b
    go (no ne) = subst CleanSlot (sym (others j ne)) (c j h)

with-clean : (s : List ℕ) (k : ℕ) (b : List ℕ) → length s ≡ state_size → k < slots → length b ≡ slot_size → CleanSlot b → Clean s
    → Clean (with_slot k b s)
with-clean s k b l h lb cb =
    change-clean s (with_slot k b s) k (subst CleanSlot (sym (slot_same s l k b h lb)) cb) (slot-other s l k b h lb)

state-clean : Clean started_state
state-clean k h = subst CleanSlot (sym (slot-started k h)) blank-clean

begins : (s : List ℕ) → length s ≡ state_size → Clean (start_after s)
unfolding start_after
begins s l = subst Clean (sym (done-passed (start_answer s) started_state s (sym (start-passed s l)))) state-clean

-- a call that is refused changes nothing, so nothing need be known of the state
module _ (s : List ℕ) (c : Clean s) where
  start-clean : Clean (start_after s)
  unfolding start_after
  start-clean = done-either Clean (start_answer s) started_state s (λ e. state-clean) c

  follow-clean : (w : Wish) → Clean (follow_after s w)
  unfolding follow_after
  follow-clean w = done-either Clean (follow_answer s w) _ s (λ e. go (follow-passed s w e)) c
    where
      go : Followed s w → Clean (with_slot (find s 0) (with_head (new_head w) (slot_at (find s 0) s)) s)
      go f =
          let k = find s 0 in
          let x = slot_at k s in
          let l = f.state.size in
          let lx = slot-length s l k f.room in
          let is_free : free x ≡ true = zero-free x ((good-each s f.state.all-good).slot k f.room) (address_is s k ∙ find-has s 0 f.room) in
          with-clean s k (with_head (new_head w) x) l f.room (with_head-length (new_head w) x lx ∙ lx)
          (headed-clean (new_head w) x lx (free-blank x is_free)) c

  leave-clean : (a : ℕ) → Clean (leave_after s a)
  unfolding leave_after
  leave-clean a =
      done-either Clean (leave_answer s a) _ s
      (λ e. let q = leave-passed s a e in with-clean s (find s a) (blank slot_size) q.0.size q.2 (blank-length slot_size) blank-clean c) c

  end_clean : Clean (end_after s)
  unfolding end_after
  end_clean = done-either Clean (end_answer s) (ages slots 0 s) s (λ e. go (state-passed s e)) c
    where
      go : Passed s → Clean (ages slots 0 s)
      go p j h =
          subst CleanSlot (sym (ages-at slots 0 s (omega arith) p.size j (omega arith) h))
          (aged-clean (slot_at j s) (slot-length s p.size j h) ((good-each s p.all-good).slot j h) (c j h))

  set-clean : (most : ℕ) → Clean (set_after s most)
  unfolding set_after
  set-clean most =
      done-either Clean (set_answer s most) (with_setting most s) s
      (λ e k h. subst CleanSlot (sym (slot_kept s (set-passed s most e).0.size most k h)) (c k h)) c

  packet-clean : (image : List ℕ) → Clean (packet_after s image)
  packet-clean image =
      by_place s image (λ ne. subst Clean (sym (packet-refused s image ne).1) c)
      (λ p. let v = placed-serves s image p in
      let k = find s (address_of image) in
      change-clean s (packet_after s image) k
      (subst CleanSlot (sym (placed-here s image p))
      (taken-clean (slot_at k s) image (here-size s (address_of image) v) (here-good s (address_of image) v) (c k v.found)))
      (placed-others s image p) c)

stays : (x : Call) (s : List ℕ) → Clean s → Clean (our_after x s)
unfolding our_after
stays start s c = start-clean s c
stays (follow w) s c = follow-clean s c w
stays (leave a) s c = leave-clean s c a
stays (packet image) s c = packet-clean s c image
stays subframe_end s c = end_clean s c
stays (set_flips most) s c = set-clean s c most
stays (asks q) s c = c

pub stays-clean : StaysClean ours
unfolding our_after
stays-clean = record { begins = begins; stays = stays }
