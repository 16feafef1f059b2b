-- Machines that show or call fresh what they must not, refuted by demand 3.
--
--   ones, one-image c, one-event     a group of ones, sent to address 17
--   held-then                        the four packets of a group and the first of the next: the address then
--   torn-fails, silent-fails, bold-fails
--   made                             a good state made by hand: a group, its gap marked, dirt in the room of the unfinished one
--   trusting-fails, hasty-fails      right only from a follow on
--
-- Assumes nothing.
use mathlib.Core.Path.{◌≡◌, refl, sym, ap, ap₂, ◌∙◌, subst}
use mathlib.Core.Bool.{Bool, true, false, cond, ◌&&◌, ◌||◌}
use mathlib.Core.List.{List, [], ◌∷◌, ◌++◌}
use Prim.Native.Nat.{ℕ, zero, suc, ◌-◌, ◌≤◌, ◌<◌}
use native.Mathlib.Omega.{arith}
use native.Mathlib.Decide.{ℕ_discrete}
use lib.Dec.{ltb, eqb, lit≤, lit<}
use lib.ListN.{length, get_or, replicate}
use Rattle.bits.specs.Bits.{blank}
use Rattle.bits.proofs.Storing.{blank-length}
use Rattle.packet.specs.Damage.{sent_image}
use Rattle.packet.specs.Received.{ReadingAnswer}
use Rattle.packet.proofs.Damages.{sent-corrected, corrected-came, sent-spare, received-sent}
use Rattle.runs.specs.Part.{put}
use Rattle.slot.specs.Slot.{slot_size, head_of, with_head}
use Rattle.head.specs.Head.{ask_number, good_head, wish_of, good_wish}
use Rattle.head.specs.Move.{per_of, needs_of, row_of, move_of, move_number, moved_head}
use Rattle.head.specs.declared.Head.{Head}
use Rattle.slot.proofs.Goods.{good-load, good-store}
use Rattle.slot.proofs.Heads.{with_head-length}
use Rattle.table.specs.State.{state_size, setting, slots, slot_at, with_slot, address_at, find}
use Rattle.table.specs.Calls.{follow_after}
use Rattle.table.proofs.States.{each-good, slot_same, with-length, address_same, address-other, find-only, good-followed}
use Rattle.table.proofs.Kept.{started-length, started-good, setting-started}
use Rattle.asking.specs.Asking.{asked, ask_part}
use Rattle.history.specs.Followed as one
use Rattle.faults.specs.Faults.{number_drops}
use Rattle.history.specs.Transcript.{told, is_whole, any_whole, since_whole, ends, before, marks, marked, called}
use Rattle.adapter.specs.Calls.{address_of, packet_answer}
use Rattle.adapter.proofs.Laws.{both-followed}
use Rattle.demands.specs.Machine.{Call, follow, packet, ours, our_answer, our_after, Bytes, run, question_answer}
use Rattle.demands.specs.Rows.{index_of}
use Rattle.demands.specs.Setting.{setting_now}
use Rattle.demands.proofs.Settings.{setting-next}
use Rattle.demands.specs.Seen.{event_of, events_at, events_of, by, seen_in, marks_by, marks_of, latest}
use Rattle.demands.specs.Demand2.{Follows}
use Rattle.demands.specs.Demand3.{AllStay, Stays, Demand3}
use Rattle.demands.specs.Harmful.{by_call, torn, silent, bold, dirty, trusting, hasty, asking}
use Rattle.demands.proofs.Serving.{view, Kept}
use Rattle.demands.proofs.Calling.{Arrives, is-arrives, follow-serves}
use Rattle.demands.proofs.Parts.{ask-here, shown-here}
use Rattle.demands.proofs.Telling.{run-acts, answer-by}
use Rattle.demands.proofs.Channels.{came-arrives, came-event}
use Rattle.demands.proofs.Examples.{empty-state, empty-address, empty-absent, clean, clean-arrives, clean-index, clean-read-event, yes-2}

-- ---- a group of ones

abbrev ones : List ℕ
ones = replicate 90 1

ones-length : length ones ≡ 90
ones-length = refl

ones-bytes : Bytes ones
ones-bytes k = go 90 k
  where
    go : (n j : ℕ) → get_or (replicate n 1) j 0 < 256
    go zero j = lit< tt
    go (suc n) zero = lit< tt
    go (suc n) (suc j) = go n j

abbrev one-image : ℕ → List ℕ
one-image c = sent_image false 17 c ones

one-arrives : (c : ℕ) → c < 4 → Arrives 17 3 (one-image c)
one-arrives c h =
    came-arrives false 3 17 c ones (one-image c) (lit≤ tt) (lit≤ tt) h ones-length ones-bytes (corrected-came false 3 _ _ (sent-corrected false 3 17 c ones))
    (sent-spare false 17 c ones (lit≤ tt) (omega arith) ones-length ones-bytes)

one-event : (c : ℕ) (h : List Call) (es : List one.Event) → c < 4 → events_of 17 false 3 h ≡ es
    → events_of 17 false 3 (packet (one-image c) ∷ h) ≡ one.packet c ones ∷ es
unfolding events_of events_at setting_now
one-event c h es l e =
    ap₂ (λ (xs ys : List one.Event). xs ++ ys)
    (ap (λ (b : Bool). cond b (event_of false (one-image c) ∷ []) []) (is-arrives 17 3 (one-image c) (one-arrives c l))
    ∙ ap (λ (x : one.Event). x ∷ []) (came-event false 3 17 c ones (one-image c) (lit≤ tt) (lit≤ tt) l ones-length ones-bytes
    (corrected-came false 3 _ _ (sent-corrected false 3 17 c ones))
    (ap (λ (r : ReadingAnswer). r.number) (received-sent false 17 c ones (lit≤ tt) (omega arith) ones-length ones-bytes)))) e

-- the four packets of a group, and one more
abbrev then : ℕ → List Call
then c =
    packet (one-image 0) ∷ packet (one-image 1) ∷ packet (one-image 2) ∷ packet (one-image 3) ∷ packet (one-image c) ∷ []

abbrev then-events : ℕ → List one.Event
then-events c = one.packet 0 ones ∷ one.packet 1 ones ∷ one.packet 2 ones ∷ one.packet 3 ones ∷ one.packet c ones ∷ []

no-event : events_of 17 false 3 [] ≡ []
unfolding events_of
no-event = refl

then_is : (c : ℕ) → c < 4 → events_of 17 false (setting empty-state) (then c) ≡ then-events c
then_is c h =
    ap (λ (n : ℕ). events_of 17 false n (then c)) setting-started
    ∙ one-event 0 _ _ (lit< tt) (one-event 1 _ _ (lit< tt) (one-event 2 _ _ (lit< tt) (one-event 3 _ _ (lit< tt) (one-event c [] [] h no-event))))

then-stays : (c : ℕ) → AllStay 17 (then c)
unfolding AllStay Stays
then-stays c = (tt, (tt, (tt, (tt, (tt, tt)))))

abbrev begun : List ℕ
begun = follow_after empty-state (wish_of 17 0 2)

begun-setting : setting begun ≡ setting empty-state
unfolding our_after setting_now
begun-setting = setting-next (follow (wish_of 17 0 2)) empty-state started-length started-good

then-kept : (c : ℕ) → c < 4 → Kept (run ours (then c) begun) 17 (one.run (then-events c) (one.followed (wish_of 17 0 2)))
unfolding one.followed
then-kept c h =
    let k = follow-serves empty-state (wish_of 17 0 2) yes-2 in
    let r = run-acts (then c) begun 17 k.serves (then-stays c) in
    record {
      serves = r.serves;
      seen = r.seen ∙ (λ i. one.run (events_of 17 (by (k.seen i)) (begun-setting i) (then c)) (k.seen i))
          ∙ ap (λ (es : List one.Event). one.run es (one.followed (wish_of 17 0 2))) (then_is c h);
    }

-- ---- torn

-- the group is fresh, and the next is begun
torn-here : cond (ltb 0 (head_of (slot_at (find (run ours (then 0) begun) 17) (run ours (then 0) begun))).awaited
    && eqb (asked (run ours (then 0) begun) 17).number 5) (blank 360) (ask_part (run ours (then 0) begun) 17) ≡ blank 360
unfolding view seen_in one.run one.followed one.after one.moved one.begun per_of needs_of row_of move_of moved_head ask_number
torn-here =
    let k = then-kept 0 (lit< tt) in
    let s = run ours (then 0) begun in
    ap₂ (λ (h : Head) (n : ℕ). cond (ltb 0 h.awaited && eqb n 5) (blank 360) (ask_part s 17)) (ap (λ (f : one.Followed). f.head) k.seen)
    (ask-here s 17 k.serves ∙ ap (λ (f : one.Followed). ask_number f.head) k.seen)

pub torn-fails : Demand3 torn → ⊥
unfolding run our_after one.followed one.handed_out one.answer one.after one.moved one.begun one.joined one.last_of per_of needs_of row_of move_of move_number moved_head latest blank
torn-fails d =
    let e = (d.follows empty-state (wish_of 17 0 2) yes-2).shows (then 0) (then-stays 0)
    ∙ ap (λ (es : List one.Event). latest [] (one.handed_out es (one.followed (wish_of 17 0 2)))) (then_is 0 (lit< tt)) in
    let z : ◌≡◌ {A = ℕ} 0 1 = ap (λ (l : List ℕ). get_or l 0 0) (sym torn-here ∙ e) in
    omega arith

-- ---- silent about damage

pub silent-fails : Demand3 silent → ⊥
unfolding by_call run AllStay events_of one.run one.followed one.answer per_of needs_of row_of move_of move_number number_drops
silent-fails d =
    let arrives = is-arrives 17 _ (clean 1) (clean-arrives _ 1 (lit< tt)) in
    let k = follow-serves empty-state (wish_of 17 0 2) yes-2 in
    let due : packet_answer begun (clean 1) ≡ 32 =
    answer-by begun 17 k.serves (clean 1) (clean-arrives _ 1 (lit< tt)) ∙ ap (λ (f : one.Followed). one.answer (event_of (by f) (clean 1)) f) k.seen
    ∙ ap (λ (e : one.Event). one.answer e (one.followed (wish_of 17 0 2))) (clean-read-event 1 (lit< tt)) in
    let said = (d.follows empty-state (wish_of 17 0 2) yes-2).answers [] tt (clean 1) arrives
    ∙ ap (λ (e : one.Event). one.answer e (one.followed (wish_of 17 0 2))) (clean-read-event 1 (lit< tt)) in
    let z : ◌≡◌ {A = ℕ} 0 32 = sym (ap (λ (n : ℕ). cond (number_drops n) 0 n) due) ∙ said in
    omega arith

-- ---- a board that shows a doubtful group

pub bold-fails : Demand3 bold → ⊥
unfolding question_answer our_answer run one.run one.followed one.after one.moved one.begun one.dropped one.joined one.last_of per_of needs_of row_of move_of moved_head ask_number
bold-fails d =
    let k = then-kept 2 (lit< tt) in
    let s = run ours (then 2) begun in
    let six : (asked s 17).number ≡ 6 = ask-here s 17 k.serves ∙ ap (λ (f : one.Followed). ask_number f.head) k.seen in
    let group : ask_part s 17 ≡ (one.run (then-events 2) (one.followed (wish_of 17 0 2))).last = shown-here s 17 k.serves ∙ ap (λ (f : one.Followed). f.last) k.seen in
    let text : ask_part s 17 ≡ [] =
    sym (ap (λ (n : ℕ). cond (eqb n 5 || eqb n 6) (ask_part s 17) []) six) ∙ d.texts 17 [] s ∙ ap (λ (n : ℕ). cond (eqb n 5) (ask_part s 17) []) six in
    let z : ◌≡◌ {A = ℕ} 1 0 = ap (λ (l : List ℕ). get_or l 0 0) (sym group ∙ text) in
    omega arith

-- ---- a good state made by hand

abbrev hand : Head
hand = record { wish = wish_of 17 0 1; age = 0; awaited = 0; group = 1; gap = 1 }

abbrev bytes : List ℕ
bytes = 1 ∷ blank (slot_size - 1)

abbrev slot : List ℕ
slot = with_head hand bytes

abbrev made : List ℕ
made = with_slot 0 slot empty-state

hand-good : good_head hand ≡ true
unfolding good_wish good_head
hand-good = refl

bytes-length : length bytes ≡ slot_size
bytes-length = ap suc (blank-length (slot_size - 1))

slot-head : head_of slot ≡ hand
slot-head = good-load hand hand-good bytes bytes-length

slot-size : length slot ≡ slot_size
slot-size = with_head-length hand bytes bytes-length ∙ bytes-length

slot-address : (head_of slot).wish.address ≡ 17
slot-address = ap (λ (h : Head). h.wish.address) slot-head

state-size : length empty-state ≡ state_size
state-size = started-length

made-address : address_at made 0 ≡ 17
made-address = address_same empty-state state-size 0 slot (lit< tt) slot-size ∙ slot-address

made-find : find made 17 ≡ 0
made-find = find-only made 17 0 (lit< tt) made-address (λ j h e. only j h e (ℕ_discrete j 0))
  where
    only : (j : ℕ) → j < slots → address_at made j ≡ 17 → Dec (j ≡ 0) → j ≡ 0
    only j h e (yes q) = q
    only j h e (no q) =
        absurd (omega (arith, empty-address j h, sym (address-other empty-state state-size 0 slot (lit< tt) slot-size j q) ∙ e))

made-slot : slot_at (find made 17) made ≡ slot
made-slot = ap (λ (k : ℕ). slot_at k made) made-find ∙ slot_same empty-state state-size 0 slot (lit< tt) slot-size

made-follows : Follows made 17 0
made-follows = record {
  size = with-length empty-state state-size 0 slot (lit< tt) slot-size;
  good = each-good made (good-followed empty-state state-size started-good 0 slot (lit< tt) slot-size (good-store hand hand-good bytes bytes-length)
      (empty-address 0 (lit< tt)) (subst (λ (n : ℕ). 0 < n) (sym slot-address) (lit< tt))
      (subst (λ (n : ℕ). slots ≤ find empty-state n) (sym slot-address) (empty-absent 17 (lit< tt))));
  found = both-followed made 17 (lit< tt) (subst (λ (n : ℕ). n < slots) (sym made-find) (lit< tt));
  protection = ap (λ (x : List ℕ). (head_of x).wish.protection) made-slot ∙ ap (λ (h : Head). h.wish.protection) slot-head;
}

slot-dirty : dirty slot ≡ true
unfolding with_head put
slot-dirty = ap (λ (h : Head). true && eqb h.awaited 0) slot-head

made-dirty : dirty (slot_at (find made 17) made) ≡ true
made-dirty = ap dirty made-slot ∙ slot-dirty

pub trusting-fails : Demand3 trusting → ⊥
unfolding asking by_call run AllStay events_of told called any_whole is_whole since_whole ends before number_drops marks marked marks_by marks_of seen_in
trusting-fails d =
    let said = (d.holds made 17 0 made-follows).asks [] tt in
    let six : called (head_of slot).wish.limit (marks_of (head_of slot)) ≡ 6 = ap (λ (h : Head). called h.wish.limit (marks_of h)) slot-head in
    let z : ◌≡◌ {A = ℕ} 5 6 =
    sym (ap (λ (b : Bool). cond b 5 (asked made 17).number) made-dirty) ∙ said
    ∙ ap (λ (x : List ℕ). called (head_of x).wish.limit (marks_of (head_of x))) made-slot ∙ six in
    omega arith

pub hasty-fails : Demand3 hasty → ⊥
unfolding by_call run AllStay events_of one.run one.answer per_of needs_of row_of move_of move_number seen_in
hasty-fails d =
    let arrives = is-arrives 17 _ (clean 1) (clean-arrives _ 1 (lit< tt)) in
    let at : address_of (clean 1) ≡ 17 = (clean-arrives 0 1 (lit< tt)).address in
    let x = slot_at (find made 17) made in
    let head : head_of x ≡ hand = ap head_of made-slot ∙ slot-head in
    let said : hasty.answer (packet (clean 1)) made ≡ 32 = (d.holds made 17 0 made-follows).answers [] tt (clean 1) arrives
    ∙ ap (λ (h : Head). one.answer (event_of (eqb h.wish.protection 1) (clean 1)) (record { per = per_of h; needs = needs_of h; head = h; unfinished = (seen_in x).unfinished; last = (seen_in x).last })) head
    ∙ ap (λ (e : one.Event). one.answer e (record { per = per_of hand; needs = needs_of hand; head = hand; unfinished = (seen_in x).unfinished; last = (seen_in x).last })) (clean-read-event 1 (lit< tt)) in
    let three : cond (dirty (slot_at (find made (address_of (clean 1))) made) && eqb (index_of (clean 1)) 1) 3 (packet_answer made (clean 1)) ≡ 3 =
    ap (λ (a : ℕ). cond (dirty (slot_at (find made a) made) && eqb (index_of (clean 1)) 1) 3 (packet_answer made (clean 1))) at
    ∙ ap₂ (λ (b : Bool) (c : ℕ). cond (b && eqb c 1) 3 (packet_answer made (clean 1))) made-dirty (clean-index 1 (lit< tt)) in
    let z : ◌≡◌ {A = ℕ} 3 32 = sym three ∙ said in
    omega arith
