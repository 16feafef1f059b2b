-- Worked histories of our calls, on the bytes of a state.
--
--   arrived-fresh, silent-fresh, silent-stale     the story that this work is for: a group arrives, the address falls silent,
--                                                 its limit of two subframes passes; ask says stale, and the board shows the notice
--   second-follow     a second address can be followed
--   interleaved       two addresses, their packets in turn: each is handed out what was sent to it
--
-- The crate history has more of them, without bytes: damage and recovery, a follow in mid-stream, an early start. Assumes nothing.
use mathlib.Core.Path.{◌≡◌, refl, sym, ap, ap₂, ◌∙◌}
use mathlib.Core.Bool.{Bool, false, cond}
use mathlib.Core.List.{List, [], ◌∷◌, ◌++◌}
use Prim.Native.Nat.{ℕ, ◌≤◌, ◌<◌}
use native.Mathlib.Omega.{arith}
use native.Mathlib.Decide.{dec_lt, ℕ_discrete}
use borrow.Author.Tests.{eq-eqb, ne_eqb}
use lib.Dec.{lit≤, lit<}
use Rattle.bits.specs.Bits.{blank}
use Rattle.bits.proofs.Rows.{done-passed}
use Rattle.bits.proofs.Storing.{blank-length}
use Rattle.head.specs.Head.{ask_number, new_head, wish_of, good_wish}
use Rattle.head.specs.Move.{per_of, needs_of, row_of, move_of, moved_head}
use Rattle.head.proofs.Wishes.{wish-passes}
use Rattle.slot.specs.Slot.{with_head}
use Rattle.head.specs.declared.Head.{Head}
use Rattle.head.proofs.Bounds.{good_new}
use Rattle.slot.proofs.Goods.{good-load}
use Rattle.slot.proofs.Heads.{with_head-length}
use Rattle.table.specs.State.{slots, slot_at, with_slot, address_at, find}
use Rattle.table.specs.Calls.{follow_answer, follow_after}
use Rattle.table.proofs.Looking.{follow-0}
use Rattle.table.proofs.States.{slot-length, address_same, address-other, find-has, find_none}
use Rattle.table.proofs.Kept.{follow-passed}
use Rattle.asking.specs.Asking.{asked, ask_part, board_text}
use Rattle.history.specs.Followed as one
use Rattle.history.specs.Sent.{group, Exactly}
use Rattle.packet.specs.Damage.{sent_image}
use Rattle.demands.specs.Machine.{Call, follow, packet, subframe_end, ours, our_after, run}
use Rattle.demands.specs.Setting.{setting_now}
use Rattle.demands.specs.Demand3.{Happening, arrives, call, call_of, calls, Apart, Comes, Channel, ReadableIn, Arrived, hands_out, handed_out}
use Rattle.demands.proofs.Serving.{Kept}
use Rattle.demands.proofs.Calling.{passed, follow-serves}
use Rattle.demands.proofs.Parts.{ask-here, shown-here}
use Rattle.demands.proofs.Examples.{empty-state, empty-address, zeros, zeros-carried, bytes-zero, clean, comes-at, end_step, yes-2}
use Rattle.demands.proofs.Channels.{sent-apart}
use Rattle.demands.proofs.Third.{demand-3}
use Rattle.demands.proofs.Turns.{view-4, whole}

-- ---- an address falls silent

-- a follow with limit 2, the four packets of a group, and then subframes end
abbrev pub story : List Call
story = follow (wish_of 17 0 2) ∷ packet (clean 0) ∷ packet (clean 1) ∷ packet (clean 2) ∷ packet (clean 3) ∷ []

abbrev pub told-story : List Call → List ℕ
told-story rest = run ours (story ++ rest) empty-state

abbrev as-arrived : one.Followed
as-arrived = view-4 2 yes-2 (λ s. s) (λ f. f) (λ s f k. k) (λ f. refl)

kept : Kept (told-story []) 17 as-arrived
unfolding run our_after
kept = whole 2 yes-2 (λ s. s) (λ f. f) (λ s f k. k) (λ f. refl)

kept-1 : Kept (told-story (subframe_end ∷ [])) 17 (one.aged as-arrived)
unfolding run our_after
kept-1 = end_step (told-story []) as-arrived kept

kept-2 : Kept (told-story (subframe_end ∷ subframe_end ∷ [])) 17 (one.aged (one.aged as-arrived))
unfolding run our_after
kept-2 = end_step (told-story (subframe_end ∷ [])) (one.aged as-arrived) kept-1

-- what ask says, and what the board shows with it
module _ (s : List ℕ) (f : one.Followed) (k : Kept s 17 f) (notice : List ℕ) where
  says : (asked s 17).number ≡ ask_number f.head
  says = ask-here s 17 k.serves ∙ ap (λ (g : one.Followed). ask_number g.head) k.seen

  board-fresh : ask_number f.head ≡ 5 → board_text s 17 notice ≡ f.last
  unfolding board_text
  board-fresh e =
      ap (λ (b : Bool). cond b (ask_part s 17) notice) (eq-eqb (asked s 17).number 5 (says ∙ e))
      ∙ shown-here s 17 k.serves ∙ ap (λ (g : one.Followed). g.last) k.seen

  board-silent : (ask_number f.head ≡ 5 → ⊥) → board_text s 17 notice ≡ notice
  unfolding board_text
  board-silent ne =
      ap (λ (b : Bool). cond b (ask_part s 17) notice) (ne_eqb (asked s 17).number 5 (λ q. ne (sym says ∙ q)))

four-zeros : (((blank 90 ++ blank 90) ++ blank 90) ++ blank 90) ≡ group 4 zeros 0
unfolding group
four-zeros = refl

-- the board shows the group, and a subframe later it still does; at two it is stale, and the board shows the notice
abbrev Shows : List ℕ → ℕ → List ℕ → List ℕ → Type 0
Shows s n notice text = ((asked s 17).number ≡ n) × (board_text s 17 notice ≡ text)

pub arrived-fresh : (notice : List ℕ) → Shows (told-story []) 5 notice (group 4 zeros 0)
unfolding ask_number one.followed one.after one.moved one.begun one.joined one.last_of per_of needs_of row_of move_of moved_head
arrived-fresh notice = (says _ as-arrived kept notice, board-fresh _ as-arrived kept notice refl ∙ four-zeros)

pub silent-fresh : (notice : List ℕ) → Shows (told-story (subframe_end ∷ [])) 5 notice (group 4 zeros 0)
unfolding ask_number one.followed one.after one.moved one.begun one.joined one.last_of one.aged per_of needs_of row_of move_of moved_head
silent-fresh notice = (says _ _ kept-1 notice, board-fresh _ _ kept-1 notice refl ∙ four-zeros)

pub silent-stale : (notice : List ℕ) → Shows (told-story (subframe_end ∷ subframe_end ∷ [])) 7 notice notice
unfolding ask_number one.followed one.after one.moved one.begun one.joined one.last_of one.aged per_of needs_of row_of move_of moved_head
silent-stale notice = (says _ _ kept-2 notice, board-silent _ _ kept-2 notice (λ q. stale q))
  where
    stale : ◌≡◌ {A = ℕ} 7 5 → ⊥
    stale q = omega arith

-- ---- two addresses in turn

abbrev pub sent-to : ℕ → ℕ → List ℕ
sent-to a c = sent_image false a c (blank 90)

-- the packets of 17 and 18 in turn, as they are seen at 17, and at 18
abbrev pub at-17 : List Happening
at-17 =
    arrives 0 0 (sent-to 17 0) ∷ call (packet (sent-to 18 0)) ∷ arrives 0 1 (sent-to 17 1) ∷ call (packet (sent-to 18 1))
    ∷ arrives 0 2 (sent-to 17 2) ∷ call (packet (sent-to 18 2)) ∷ arrives 0 3 (sent-to 17 3) ∷ call (packet (sent-to 18 3)) ∷ []

abbrev pub at-18 : List Happening
at-18 =
    call (packet (sent-to 17 0)) ∷ arrives 0 0 (sent-to 18 0) ∷ call (packet (sent-to 17 1)) ∷ arrives 0 1 (sent-to 18 1)
    ∷ call (packet (sent-to 17 2)) ∷ arrives 0 2 (sent-to 18 2) ∷ call (packet (sent-to 17 3)) ∷ arrives 0 3 (sent-to 18 3) ∷ []

away : (a k b c : ℕ) → b ≤ 1023 → c < 4 → (b ≡ a → ⊥) → Apart a k (packet (sent-to b c))
away a k b c hb h ne =
    sent-apart false a k b c (blank 90) (sent-to b c) hb h (blank-length 90) (bytes-zero 90) (comes-at b 3 hb c h).came.header ne

pub channel-17 : (k : ℕ) → Channel false 17 zeros k 0 at-17
unfolding Channel setting_now
channel-17 k = (
  here 0 (lit< tt),
  (
    there 0 (lit< tt),
    (
      here 1 (lit< tt),
      (
        there 1 (lit< tt),
        (
          here 2 (lit< tt),
          (
            there 2 (lit< tt),
            (
              here 3 (lit< tt),
              (there 3 (lit< tt), tt),
            ),
          ),
        ),
      ),
    ),
  ),
)
  where
    here : (c : ℕ) → c < 4 → Comes false 17 zeros k c 0 c (sent-to 17 c)
    here c h = comes-at 17 k (lit≤ tt) c h

    there : (c : ℕ) → c < 4 → Apart 17 k (packet (sent-to 18 c))
    there c h = away 17 k 18 c (lit≤ tt) h (λ q. omega (arith, q))

pub channel-18 : (k : ℕ) → Channel false 18 zeros k 0 at-18
unfolding Channel setting_now
channel-18 k = (
  there 0 (lit< tt),
  (
    here 0 (lit< tt),
    (
      there 1 (lit< tt),
      (
        here 1 (lit< tt),
        (
          there 2 (lit< tt),
          (
            here 2 (lit< tt),
            (
              there 3 (lit< tt),
              (here 3 (lit< tt), tt),
            ),
          ),
        ),
      ),
    ),
  ),
)
  where
    here : (c : ℕ) → c < 4 → Comes false 18 zeros k c 0 c (sent-to 18 c)
    here c h = comes-at 18 k (lit≤ tt) c h

    there : (c : ℕ) → c < 4 → Apart 18 k (packet (sent-to 17 c))
    there c h = away 18 k 17 c (lit≤ tt) h (λ q. omega (arith, q))

abbrev pub both-followed : List ℕ
both-followed = follow_after (follow_after empty-state (wish_of 17 0 2)) (wish_of 18 0 2)

-- slots of the state in which 17 is followed: one has it, the others are free
after-17 : (j : ℕ) → j < slots → let k = find empty-state 0 in
    (j ≡ k → address_at (follow_after empty-state (wish_of 17 0 2)) j ≡ 17) × ((j ≡ k → ⊥) → address_at (follow_after empty-state (wish_of 17 0 2)) j ≡ 0)
unfolding follow_after
after-17 j hj =
    let f = follow-passed empty-state (wish_of 17 0 2) yes-2 in
    let k = find empty-state 0 in
    let l = f.state.size in
    let lk = slot-length empty-state l k f.room in
    let gh = good_new (wish_of 17 0 2) f.wish in
    let new = with_head (new_head (wish_of 17 0 2)) (slot_at k empty-state) in
    let ln = with_head-length (new_head (wish_of 17 0 2)) (slot_at k empty-state) lk ∙ lk in
    let same = done-passed (follow_answer empty-state (wish_of 17 0 2)) (with_slot k new empty-state) empty-state yes-2 in (
      λ e. ap₂ address_at same e ∙ address_same empty-state l k new f.room ln ∙ ap (λ (h : Head). h.wish.address) (good-load (new_head (wish_of 17 0 2)) gh (slot_at k empty-state) lk),
      λ ne. ap (λ (s : List ℕ). address_at s j) same ∙ address-other empty-state l k new f.room ln j ne ∙ empty-address j hj,
    )

pub second-follow : follow_answer (follow_after empty-state (wish_of 17 0 2)) (wish_of 18 0 2) ≡ 0
unfolding good_wish
second-follow =
    let k = follow-serves empty-state (wish_of 17 0 2) yes-2 in
    follow-0 t (wish_of 18 0 2) (passed t 17 k.serves) (wish-passes (wish_of 18 0 2) refl) (find t 18) refl (absent (dec_lt (find t 18) slots)) (find t 0) refl (room (dec_lt (find t 0) slots))
  where
    t : List ℕ
    t = follow_after empty-state (wish_of 17 0 2)

    none : (j : ℕ) → j < slots → address_at t j ≡ 18 → Dec (j ≡ find empty-state 0) → ⊥
    none j h q (yes e) = omega (arith, sym q ∙ (after-17 j h).0 e)
    none j h q (no e) = omega (arith, sym q ∙ (after-17 j h).1 e)

    absent : Dec (find t 18 < slots) → slots ≤ find t 18
    absent (yes h) = absurd (none (find t 18) h (find-has t 18 h) (ℕ_discrete (find t 18) (find empty-state 0)))
    absent (no h) = omega arith

    free : Dec (0 ≡ find empty-state 0) → slots ≤ find t 0 → ⊥
    free (no e) n = find_none t 0 n 0 (lit< tt) ((after-17 0 (lit< tt)).1 e)
    free (yes e) n = find_none t 0 n 1 (lit< tt) ((after-17 1 (lit< tt)).1 (λ q. omega (arith, e, q)))

    room : Dec (find t 0 < slots) → find t 0 < slots
    room (yes h) = h
    room (no h) = absurd (free (ℕ_discrete 0 (find empty-state 0)) (omega arith))

-- the calls are the same, and each address is handed out what was sent to it
pub interleaved : (calls at-17 ≡ calls at-18)
    × Exactly 4 zeros (Arrived false at-17) (handed_out ours 17 (calls at-17) both-followed)
    × Exactly 4 zeros (Arrived false at-18) (handed_out ours 18 (calls at-18) both-followed)
unfolding calls call_of our_after Channel Apart setting_now Arrived ReadableIn handed_out hands_out
interleaved = (
  refl,
  demand-3.exactly empty-state (wish_of 17 0 2) yes-2 zeros zeros-carried 0 (call (follow (wish_of 18 0 2)) ∷ at-17) (tt, channel-17 _),
  demand-3.exactly (follow_after empty-state (wish_of 17 0 2)) (wish_of 18 0 2) second-follow zeros zeros-carried 0 at-18 (channel-18 _),
)
