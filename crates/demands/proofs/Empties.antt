-- The empty versions are refuted by demand 3 itself.
--
--   fixed-fails          one fixed answer, and so refusing everything; fixed-unread: by demand 2
--   deaf-fails           every packet refused
--   untouching-fails     nothing touched
--   nodding-fails        the first packet truly, and nods at the rest
--   still-fails, aging-fails     an age that stands still, and one that is invented
--
-- Assumes nothing.
use mathlib.Core.Path.{◌≡◌, refl, sym, ap, ap₂, ◌∙◌, subst}
use mathlib.Core.Bool.{Bool, true, false, cond, ◌&&◌}
use mathlib.Core.List.{List, [], ◌∷◌, ◌++◌}
use Prim.Native.Nat.{ℕ, zero, suc, ◌<◌}
use native.Mathlib.Omega.{arith}
use native.Mathlib.Decide.{ℕ_discrete}
use borrow.Author.Tests.{eq-eqb, ne_eqb}
use lib.Dec.{T, eqb, lit≤, lit<}
use lib.ListN.{get_or}
use Rattle.bits.specs.Bits.{blank}
use Rattle.bits.proofs.Storing.{blank-length}
use Rattle.head.specs.Head.{ask_number, wish_of}
use Rattle.head.specs.Move.{per_of, needs_of, row_of, move_of, move_number, moved_head}
use Rattle.table.specs.State.{setting, find}
use Rattle.table.specs.Calls.{follow_answer, follow_after, end_after}
use Rattle.table.proofs.Looking.{leave-27}
use Rattle.table.proofs.States.{each-good}
use Rattle.asking.specs.Asking.{Asked, asked, ask_part}
use Rattle.asking.proofs.Laws.{asked-refused}
use Rattle.history.specs.Followed as one
use Rattle.history.specs.Sent.{group, groups, In, Exactly}
use Rattle.history.specs.Transcript.{entry, told, is_whole, any_whole, since_whole, ends, marked, called}
use Rattle.adapter.specs.Calls.{address_of, packet_answer, packet_after, write_after}
use Rattle.adapter.proofs.Laws.{both-followed}
use Rattle.demands.specs.Machine.{Call, follow, packet, subframe_end, asks, ask, Machine, ours, our_answer, run, question_answer}
use Rattle.demands.specs.Demand2.{Follows, Writable, image_at, Sound, answers_to, packets, Demand2}
use Rattle.demands.specs.Demand3.{AllStay, Stays, Arrived, calls, call_of, hands_out, handed_out, Demand3}
use Rattle.demands.specs.Empty.{fixed, answer_to, leaving, deaf, untouching, nods, leaves, index_in, nodding, still, aging}
use Rattle.demands.specs.Seen.{events_at, events_of, seen_in}
use Rattle.demands.proofs.Serving.{view}
use Rattle.demands.proofs.Calling.{follow-serves}
use Rattle.demands.proofs.Second.{sent-sound, sound_more}
use Rattle.demands.proofs.Parts.{shown-here}
use Rattle.demands.proofs.Examples.{bytes-zero, empty-state, empty-passed, empty-absent, accepted, zeros, zeros-carried, clean, whole-group, whole-channel, whole-arrived, clean-arrives, clean-index, end_step, yes-2}
use Rattle.demands.proofs.Turns.{begun-at, first_step, four, four-events, four-then, says}

-- ---- what any machine that meets the demand hands out of the group of zeros

module _ (out : List (List ℕ)) (x : Exactly 4 zeros (Arrived false whole-group) out) where
  -- something
  something : out ≡ [] → ⊥
  unfolding groups In
  something e = go x.which (x.those 0 whole-arrived) (sym x.bytes ∙ e)
    where
      is_some : List (List ℕ) → Bool
      is_some [] = false
      is_some (y ∷ ys) = true

      go : (which : List ℕ) → In 0 which → groups 4 zeros which ≡ [] → ⊥
      go [] i q = i
      go (j ∷ which) i q = subst T (ap is_some q) tt

  -- and no empty group
  no-empty : (rest : List (List ℕ)) → out ≡ [] ∷ rest → ⊥
  unfolding groups In group blank
  no-empty rest e = go x.which (sym x.bytes ∙ e)
    where
      first : List (List ℕ) → Bool
      first [] = false
      first ([] ∷ ys) = false
      first ((n ∷ y) ∷ ys) = true

      is_some : List (List ℕ) → Bool
      is_some [] = false
      is_some (y ∷ ys) = true

      go : (which : List ℕ) → groups 4 zeros which ≡ [] ∷ rest → ⊥
      go [] q = subst T (sym (ap is_some q)) tt
      go (j ∷ which) q = subst T (ap first q) tt

yes-1 : follow_answer empty-state (wish_of 17 0 1) ≡ 0
yes-1 = accepted 1 refl

module _ (m : Machine) (d : Demand3 m) where
  abbrev begun : List ℕ
  begun = m.after (follow (wish_of 17 0 2)) empty-state

  handed : Exactly 4 zeros (Arrived false whole-group) (handed_out m 17 (calls whole-group) begun)
  handed = d.exactly empty-state (wish_of 17 0 2) yes-2 zeros zeros-carried 0 whole-group (whole-channel _)

-- ---- one fixed answer

pub fixed-fails : (n : ℕ) (m : Machine) → Demand3 (fixed n m) → ⊥
unfolding called any_whole told run AllStay events_of
fixed-fails n m d =
    let done : n ≡ 0 = d.accepted empty-state (wish_of 17 0 2) yes-2 in
    let nothing_yet : n ≡ 4 = (d.follows empty-state (wish_of 17 0 2) yes-2).asks [] tt in
    omega arith

-- by demand 2 too: it must write, and the packets of what it wrote are answered 1, 2, 2 and 3
pub fixed-unread : (n : ℕ) → Demand2 (fixed n ours) → ⊥
unfolding answers_to one.followed view seen_in
fixed-unread n d =
    let k = follow-serves empty-state (wish_of 17 0 2) yes-2 in
    let t = follow_after empty-state (wish_of 17 0 2) in
    let follows : Follows t 17 0 = record {
      size = k.serves.size;
      good = each-good t k.serves.all;
      found = both-followed t 17 k.serves.pos k.serves.found;
      protection = ap (λ (f : one.Followed). f.head.wish.protection) k.seen;
    } in
    let writable : Writable 17 0 (blank 360) (blank 376) = record {
      address-from = lit≤ tt;
      address-to = lit≤ tt;
      protection = lit≤ tt;
      message = blank-length 360;
      output = blank-length 376;
    } in
    let sound : (i : ℕ) → i < 4 → Sound false (setting t) (write_after 17 0 (blank 360) (blank 376)) i (image_at (write_after 17 0 (blank 360) (blank 376)) i) =
    λ i h. sound_more false (setting t) _ i _ (sent-sound 17 0 (blank 360) (blank 376) writable (bytes-zero 360) i h) in
    let back = d.back t 17 0 (blank 360) (blank 376) _ _ _ _ follows (blank-length 360) (bytes-zero 360) (blank-length 376)
    (sound 0 (lit< tt)) (sound 1 (lit< tt)) (sound 2 (lit< tt)) (sound 3 (lit< tt)) in
    let done : n ≡ 0 = d.writes 17 0 (blank 360) (blank 376) writable in
    let started : n ≡ 1 = ap (λ (ns : List ℕ). get_or ns 0 0) back.answers in
    omega arith

-- ---- every packet answered alike, and nothing done

-- another number than 3 hands out nothing
silent : (n : ℕ) → eqb n 3 ≡ false → (ts : List (List ℕ)) (s : List ℕ) → handed_out (deaf n) 17 (packets ts) s ≡ []
unfolding packets handed_out hands_out leaving answer_to
silent n e [] s = refl
silent n e (i ∷ ts) s =
    ap (λ (b : Bool). cond (eqb (address_of i) 17 && b) (ask_part s 17 ∷ handed_out (deaf n) 17 (packets ts) s) (handed_out (deaf n) 17 (packets ts) s)) e
    ∙ never (eqb (address_of i) 17) ∙ silent n e ts s
  where
    never : (b : Bool)
        → cond (b && false) (ask_part s 17 ∷ handed_out (deaf n) 17 (packets ts) s) (handed_out (deaf n) 17 (packets ts) s)
        ≡ handed_out (deaf n) 17 (packets ts) s
    never true = refl
    never false = refl

-- an address that was just followed shows nothing
new-shows : (l : ℕ) → follow_answer empty-state (wish_of 17 0 l) ≡ 0 → ask_part (follow_after empty-state (wish_of 17 0 l)) 17 ≡ []
unfolding one.followed
new-shows l e =
    let k = follow-serves empty-state (wish_of 17 0 l) e in
    shown-here (follow_after empty-state (wish_of 17 0 l)) 17 k.serves ∙ ap (λ (f : one.Followed). f.last) k.seen

pub deaf-fails : (n : ℕ) → Demand3 (deaf n) → ⊥
unfolding calls call_of packets handed_out hands_out leaving answer_to
deaf-fails n d = go (ℕ_discrete n 3)
  where
    go : Dec (n ≡ 3) → ⊥
    go (no ne) =
        something _ (handed (deaf n) d) (silent n (ne_eqb n 3 ne) (clean 0 ∷ clean 1 ∷ clean 2 ∷ clean 3 ∷ []) (follow_after empty-state (wish_of 17 0 2)))
    go (yes e) =
        let s = follow_after empty-state (wish_of 17 0 2) in
        let rest = handed_out (deaf n) 17 (packets (clean 1 ∷ clean 2 ∷ clean 3 ∷ [])) s in
        no-empty _ (handed (deaf n) d) rest
        (ap₂ (λ (b c : Bool). cond (b && c) (ask_part s 17 ∷ rest) rest) (eq-eqb (address_of (clean 0)) 17 (clean-arrives 0 0 (lit< tt)).address) (eq-eqb n 3 e)
        ∙ ap (λ (l : List ℕ). l ∷ rest) (new-shows 2 yes-2))

-- ---- nothing touched

pub untouching-fails : Demand3 untouching → ⊥
unfolding called any_whole told run AllStay question_answer our_answer events_of
untouching-fails d =
    let q : 27 ≡ (asked empty-state 17).number =
    ap (λ (x : Asked). x.number) (asked-refused empty-state 17 27
    (sym (leave-27 empty-state 17 empty-passed refl (find empty-state 17) refl (empty-absent 17 (lit< tt)))) (λ z. omega (arith, z))) in
    let nothing_yet : (asked empty-state 17).number ≡ 4 = (d.follows empty-state (wish_of 17 0 2) yes-2).asks [] tt in
    omega arith

-- ---- the first packet truly, and nods at the rest

nods-same : (c n : ℕ) → nods (suc c) n ≡ nods (suc c) 0
unfolding nods
nods-same zero n = refl
nods-same (suc zero) n = refl
nods-same (suc (suc c)) n = refl

-- a packet with another index than 0 is answered by its index, and changes nothing
nod-step : (c : ℕ) (image : List ℕ) (h : List Call) (s : List ℕ) → index_in image ≡ suc c → address_of image ≡ 17
    → handed_out nodding 17 (packet image ∷ h) s
    ≡ cond (eqb (nods (suc c) 0) 3) (ask_part s 17 ∷ handed_out nodding 17 h s) (handed_out nodding 17 h s)
unfolding handed_out hands_out leaving answer_to leaves
nod-step c image h s ei ea =
    ap₂ (λ (b : Bool) (i : ℕ). cond (b && eqb (nods i (packet_answer s image)) 3)
    (ask_part (leaves i (packet_after s image) s) 17 ∷ handed_out nodding 17 h (leaves i (packet_after s image) s)) (handed_out nodding 17 h (leaves i (packet_after s image) s)))
    (eq-eqb (address_of image) 17 ea) ei
    ∙ ap (λ (n : ℕ). cond (eqb n 3) (ask_part s 17 ∷ handed_out nodding 17 h s) (handed_out nodding 17 h s)) (nods-same c (packet_answer s image))

pub nodding-fails : Demand3 nodding → ⊥
unfolding calls call_of handed_out hands_out leaving answer_to leaves nods one.followed one.after one.answer one.moved one.begun one.last_of per_of needs_of row_of move_of move_number
nodding-fails d =
    let t = begun-at 2 in
    let one-step = first_step 2 yes-2 in
    let s = packet_after t (clean 0) in
    let at : (c : ℕ) → c < 4 → address_of (clean c) ≡ 17 = λ c h. (clean-arrives 0 c h).address in
    let h1 = packet (clean 1) ∷ packet (clean 2) ∷ packet (clean 3) ∷ [] in
    let shows : ask_part s 17 ≡ [] = shown-here s 17 one-step.next.serves ∙ ap (λ (f : one.Followed). f.last) one-step.next.seen in
    let begins : handed_out nodding 17 (packet (clean 0) ∷ h1) t ≡ handed_out nodding 17 h1 s =
    ap₂ (λ (b : Bool) (i : ℕ). cond (b && eqb (nods i (packet_answer t (clean 0))) 3)
    (ask_part (leaves i s t) 17 ∷ handed_out nodding 17 h1 (leaves i s t)) (handed_out nodding 17 h1 (leaves i s t)))
    (eq-eqb (address_of (clean 0)) 17 (at 0 (lit< tt))) (clean-index 0 (lit< tt))
    ∙ ap (λ (n : ℕ). cond (eqb n 3) (ask_part s 17 ∷ handed_out nodding 17 h1 s) (handed_out nodding 17 h1 s)) one-step.answer in
    no-empty _ (handed nodding d) []
    (begins ∙ nod-step 0 (clean 1) (packet (clean 2) ∷ packet (clean 3) ∷ []) s (clean-index 1 (lit< tt)) (at 1 (lit< tt)) ∙ nod-step 1 (clean 2) (packet (clean 3) ∷ []) s (clean-index 2 (lit< tt)) (at 2 (lit< tt))
    ∙ nod-step 2 (clean 3) [] s (clean-index 3 (lit< tt)) (at 3 (lit< tt)) ∙ ap (λ (l : List ℕ). l ∷ []) shows)

-- ---- an age that stands still, and one that is invented

-- ask after the four packets and calls behind them, by the demand
module _ (m : Machine) (d : Demand3 m) (h : List Call) (st : AllStay 17 (four ++ h)) where
  after-four : m.answer (asks (ask 17)) (run m (four ++ h) (m.after (follow (wish_of 17 0 1)) empty-state))
      ≡ called 1 (told (four-events ++ events_of 17 false (setting empty-state) h) (one.followed (wish_of 17 0 1)) [])
  unfolding one.followed
  after-four =
      (d.follows empty-state (wish_of 17 0 1) yes-1).asks (four ++ h) st
      ∙ ap (λ (es : List one.Event). called 1 (told es (one.followed (wish_of 17 0 1)) [])) (four-then (setting empty-state) h)

pub still-fails : Demand3 still → ⊥
unfolding question_answer told entry run leaving AllStay Stays our_answer events_of events_at one.followed one.after one.answer one.moved one.begun one.joined one.last_of one.aged per_of needs_of row_of move_of move_number moved_head ask_number called any_whole is_whole since_whole ends marked
still-fails d =
    let same : (f : one.Followed) → f.head.wish.protection ≡ f.head.wish.protection = λ f. refl in
    let fresh : (asked _ 17).number ≡ 5 = says 1 yes-1 (λ s. s) (λ f. f) (λ s f k. k) same in
    let stale = after-four still d (subframe_end ∷ []) (tt, (tt, (tt, (tt, (tt, tt))))) in
    let clash : ◌≡◌ {A = ℕ} 5 7 = sym fresh ∙ stale in
    omega arith

pub aging-fails : Demand3 aging → ⊥
unfolding question_answer told entry run leaving AllStay Stays our_answer events_of one.followed one.after one.answer one.moved one.begun one.joined one.last_of one.aged per_of needs_of row_of move_of move_number moved_head ask_number called any_whole is_whole since_whole ends marked
aging-fails d =
    let same : (f : one.Followed) → (one.aged f).head.wish.protection ≡ f.head.wish.protection = λ f. refl in
    let stale : (asked _ 17).number ≡ 7 = says 1 yes-1 end_after one.aged end_step same in
    let fresh = after-four aging d [] (tt, (tt, (tt, (tt, tt)))) in
    let clash : ◌≡◌ {A = ℕ} 7 5 = sym stale ∙ fresh in
    omega arith
