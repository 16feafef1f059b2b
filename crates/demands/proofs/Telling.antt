-- A list of our calls, as the list of events that it means at a followed address: what is left and what is handed out.
--
--   run-acts             the address after the calls is the address after their events; run-setting: the setting then
--   lost-answer, answer-by     what a packet at the address is answered that does not arrive, and one that does
--   readable-answered, unreadable-answered     readable: 1, 2, 3 or 32; otherwise 28, 29, 47, 30 or 31
--   handed-same          what is handed out is what the events hand out
--
-- Assumes nothing.
use mathlib.Core.Path.{◌≡◌, refl, sym, ap, ap₂, ◌∙◌, subst}
use mathlib.Core.Bool.{Bool, true, false, cond, ◌&&◌}
use mathlib.Core.List.{List, [], ◌∷◌, ◌++◌}
use mathlib.Core.Logic.{inl, inr}
use Prim.Native.Nat.{ℕ, ◌%◌, ◌<◌}
use native.Mathlib.Omega.{arith}
use native.Mathlib.Decide.{ℕ_discrete, dec_lt}
use borrow.Author.Tests.{eq-eqb, ne_eqb}
use lib.Dec.{T, eqb}
use lib.ListN.{length}
use Rattle.image.specs.Image.{spare_of}
use Rattle.packet.specs.Received.{received}
use Rattle.packet.specs.Damage.{Refused}
use Rattle.packet.specs.Received.{ReadingAnswer}
use Rattle.head.specs.Move.{Move, started, held, whole, out_of_step, move_of, move_number}
use Rattle.table.specs.State.{setting}
use Rattle.asking.specs.Asking.{ask_part}
use Rattle.history.specs.Followed as one
use Rattle.history.proofs.Laws.{run-app, refused-either}
use Rattle.history.specs.Sent.{In}
use Rattle.adapter.specs.Calls.{address_of, flips_of, unplaced, packet_answer}
use Rattle.adapter.proofs.Laws.{size-refused, spare-refused, beyond-refused, packet-refused}
use Rattle.demands.specs.Machine.{Call, start, follow, leave, packet, subframe_end, set_flips, asks, ours, our_answer, our_after, run}
use Rattle.demands.specs.Demand3.{Stays, AllStay, hands_out, handed_out}
use Rattle.demands.specs.Setting.{setting_now, setting_after}
use Rattle.demands.specs.Seen.{arrives_at, event_of, events_at, events_of, by, seen_in}
use Rattle.demands.proofs.Serving.{Serves, view, Kept}
use Rattle.demands.proofs.Acting.{protected_at, event-read, event-refused, refused-not-zero, fault-answered}
use Rattle.demands.proofs.Calling.{Arrives, arrives-is, is-arrives, passed, answer-here, acts}
use Rattle.demands.proofs.Parts.{shown-here}
use Rattle.demands.proofs.Settings.{setting-next}
use Rattle.head.specs.declared.Wish.{Wish}
use Rattle.head.proofs.Moves.{moved-wish}

-- ---- the protection stays

pub after-protection : (e : one.Event) (f : one.Followed) → (one.after e f).head.wish.protection ≡ f.head.wish.protection
unfolding one.after one.moved one.dropped one.aged
after-protection (one.packet c b) f = ap (λ (w : Wish). w.protection) (moved-wish (move_of f.per f.needs f.head.awaited c) f.head)
after-protection (one.refused r) f = refused-either (λ (g : one.Followed). g.head.wish.protection ≡ f.head.wish.protection) r f refl refl
after-protection one.ended f = refl

pub run-protection : (es : List one.Event) (f : one.Followed) → (one.run es f).head.wish.protection ≡ f.head.wish.protection
unfolding one.run
run-protection [] f = refl
run-protection (e ∷ es) f = run-protection es (one.after e f) ∙ after-protection e f

-- no event but one that is answered 3 changes the group that is shown
pub last-kept : (e : one.Event) (f : one.Followed) → eqb (one.answer e f) 3 ≡ false → (one.after e f).last ≡ f.last
unfolding one.after one.answer one.moved one.dropped one.aged one.last_of move_number
last-kept (one.packet c b) f q = go (move_of f.per f.needs f.head.awaited c) q
  where
    go : (mv : Move) → eqb (move_number mv) 3 ≡ false → one.last_of mv (c % f.per) f.unfinished b f.last ≡ f.last
    go started z = refl
    go held z = refl
    go whole z = absurd (subst T z tt)
    go out_of_step z = refl
last-kept (one.refused r) f q = refused-either (λ (g : one.Followed). g.last ≡ f.last) r f refl refl
last-kept one.ended f q = refl

view-protected : (s : List ℕ) (a : ℕ) → by (view s a) ≡ protected_at s a
unfolding view seen_in
view-protected s a = refl

module _ (s : List ℕ) (a : ℕ) (v : Serves s a) (x : Call) (st : Stays a x) where
  pub next : Kept (our_after x s) a (one.run (events_at a (by (view s a)) (setting s) x) (view s a))
  next = subst (λ (p : Bool). Kept (our_after x s) a (one.run (events_at a p (setting s) x) (view s a))) (sym (view-protected s a)) (acts s a v x st)

  pub next-by : by (view (our_after x s) a) ≡ by (view s a)
  next-by = ap by next.seen ∙ ap (λ (n : ℕ). eqb n 1) (run-protection (events_at a (by (view s a)) (setting s) x) (view s a))

  pub next-setting : setting (our_after x s) ≡ setting_now x (setting s)
  next-setting = setting-next x s v.size v.all

pub run-acts : (h : List Call) (s : List ℕ) (a : ℕ) → Serves s a → AllStay a h
    → Kept (run ours h s) a (one.run (events_of a (by (view s a)) (setting s) h) (view s a))
unfolding run events_of AllStay one.run
run-acts [] s a v st = record { serves = v; seen = refl }
run-acts (x ∷ h) s a v st =
    let n = next s a v x st.0 in
    let r = run-acts h (our_after x s) a n.serves st.1 in
    record {
      serves = r.serves;
      seen = r.seen
          ∙ (λ i. one.run (events_of a (next-by s a v x st.0 i) (next-setting s a v x st.0 i) h) (n.seen i))
          ∙ sym (run-app (events_at a (by (view s a)) (setting s) x) (events_of a (by (view s a)) (setting_now x (setting s)) h) (view s a));
    }

pub run-setting : (h : List Call) (s : List ℕ) (a : ℕ) → Serves s a → AllStay a h → setting (run ours h s) ≡ setting_after h (setting s)
unfolding run setting_after AllStay
run-setting [] s a v st = refl
run-setting (x ∷ h) s a v st =
    run-setting h (our_after x s) a (next s a v x st.0).serves st.1 ∙ ap (setting_after h) (next-setting s a v x st.0)

-- ---- what a packet that does not arrive is answered

-- read as the address, and yet refused with 20, 21 or 49
abbrev pub lost_number : List ℕ → ℕ
lost_number image = cond (eqb (length image) 94) (cond (eqb (spare_of image) 1) 21 49) 20

pub lost-answer : (s : List ℕ) (a : ℕ) → Serves s a → (image : List ℕ) → arrives_at a (setting s) image ≡ false → address_of image ≡ a
    → packet_answer s image ≡ lost_number image
lost-answer s a v image e at = go (ℕ_discrete (length image) 94) (ℕ_discrete (spare_of image) 1) (dec_lt (setting s) (flips_of image))
  where
    answered-by : (n : ℕ) → unplaced s image ≡ n → 0 < n → packet_answer s image ≡ n
    answered-by n q h = (packet-refused s image (λ z. omega (arith, q, z))).0 ∙ q

    lost : Bool → Bool → ℕ
    lost l q = cond l (cond q 21 49) 20

    go : Dec (length image ≡ 94) → Dec (spare_of image ≡ 1) → Dec (setting s < flips_of image) → packet_answer s image ≡ lost_number image
    go (no l) q f =
        answered-by 20 (size-refused s image l) (omega arith) ∙ sym (ap (λ (b : Bool). lost b (eqb (spare_of image) 1)) (ne_eqb (length image) 94 l))
    go (yes l) (yes q) f =
        answered-by 21 (spare-refused s image l (passed s a v) q) (omega arith)
        ∙ sym (ap₂ lost (eq-eqb (length image) 94 l) (eq-eqb (spare_of image) 1 q))
    go (yes l) (no q) (yes f) =
        answered-by 49 (beyond-refused s image l (passed s a v) (ne_eqb (spare_of image) 1 q) f) (omega arith)
        ∙ sym (ap₂ lost (eq-eqb (length image) 94 l) (ne_eqb (spare_of image) 1 q))
    go (yes l) (no q) (no f) =
        let r : Arrives a (setting s) image = record { size = l; spare = ne_eqb (spare_of image) 1 q; within = omega (arith, f); address = at } in
        absurd (subst T (sym (is-arrives a (setting s) image r) ∙ e) tt)

lost-number : (image : List ℕ) → eqb (lost_number image) 3 ≡ false
lost-number image = go (eqb (length image) 94) (eqb (spare_of image) 1)
  where
    go : (l q : Bool) → eqb (cond l (cond q 21 49) 20) 3 ≡ false
    go true true = refl
    go true false = refl
    go false q = refl

-- one that arrives
pub answer-by : (s : List ℕ) (a : ℕ) → Serves s a → (image : List ℕ) → Arrives a (setting s) image
    → packet_answer s image ≡ one.answer (event_of (by (view s a)) image) (view s a)
answer-by s a v image r =
    answer-here s a v image r ∙ ap (λ (p : Bool). one.answer (event_of p image) (view s a)) (sym (view-protected s a))

-- "readable there means not refused with 20, 21[, 49] or 28 to 31"[, 47]: of ours, readable is what the image is received as
number_in : (mv : Move) → In (move_number mv) (1 ∷ 2 ∷ 3 ∷ 32 ∷ [])
unfolding move_number In
number_in started = inl refl
number_in held = inr (inl refl)
number_in whole = inr (inr (inl refl))
number_in out_of_step = inr (inr (inr (inl refl)))

module _ (s : List ℕ) (a : ℕ) (v : Serves s a) (image : List ℕ) (r : Arrives a (setting s) image) where
  abbrev came-as : ReadingAnswer
  came-as = received (by (view s a)) image

  pub readable-answered : came-as.number ≡ 0 → In (packet_answer s image) (1 ∷ 2 ∷ 3 ∷ 32 ∷ [])
  unfolding one.answer
  readable-answered z =
      subst (λ (n : ℕ). In n (1 ∷ 2 ∷ 3 ∷ 32 ∷ []))
      (sym (answer-by s a v image r ∙ ap (λ (e : one.Event). one.answer e (view s a)) (event-read (by (view s a)) image z)))
      (number_in (move_of (view s a).per (view s a).needs (view s a).head.awaited came-as.index))

  pub unreadable-answered : Refused came-as → packet_answer s image ≡ came-as.number
  unfolding one.answer
  unreadable-answered f =
      answer-by s a v image r
      ∙ ap (λ (e : one.Event). one.answer e (view s a)) (event-refused (by (view s a)) image (refused-not-zero came-as f)) ∙ fault-answered came-as f

-- ---- what is handed out

-- nothing by a call that means no event, and by an event as its answer says
hands_none : (s : List ℕ) (a : ℕ) → Serves s a → (image : List ℕ) → arrives_at a (setting s) image ≡ false
    → hands_out a (packet image) (packet_answer s image) ≡ false
unfolding hands_out
hands_none s a v image e = go (ℕ_discrete (address_of image) a)
  where
    go : Dec (address_of image ≡ a) → (eqb (address_of image) a && eqb (packet_answer s image) 3) ≡ false
    go (yes q) = ap₂ (λ (x y : Bool). x && y) (eq-eqb (address_of image) a q) (ap (λ (n : ℕ). eqb n 3) (lost-answer s a v image e q) ∙ lost-number image)
    go (no q) = ap (λ (x : Bool). x && eqb (packet_answer s image) 3) (ne_eqb (address_of image) a q)

hands-here : (s : List ℕ) (a : ℕ) → Serves s a → (image : List ℕ) → Arrives a (setting s) image
    → hands_out a (packet image) (packet_answer s image) ≡ eqb (one.answer (event_of (by (view s a)) image) (view s a)) 3
unfolding hands_out
hands-here s a v image r =
    ap₂ (λ (x : Bool) (n : ℕ). x && eqb n 3) (eq-eqb (address_of image) a r.address) (answer-by s a v image r)

module _ (s : List ℕ) (a : ℕ) (v : Serves s a) (es : List one.Event) (rest : List (List ℕ)) where
  abbrev after-events : List one.Event → one.Followed
  after-events xs = one.run xs (view s a)

  packet-hands : (image : List ℕ) (b : Bool) → arrives_at a (setting s) image ≡ b → let xs = cond b (event_of (by (view s a)) image ∷ []) [] in
      rest ≡ one.handed_out es (after-events xs) → view (our_after (packet image) s) a ≡ after-events xs
      → ask_part (our_after (packet image) s) a ≡ (view (our_after (packet image) s) a).last
      → cond (hands_out a (packet image) (packet_answer s image)) (ask_part (our_after (packet image) s) a ∷ rest) rest
      ≡ one.handed_out (xs ++ es) (view s a)
  unfolding one.handed_out one.run
  packet-hands image true e er es-seen shows =
      let r = arrives-is a (setting s) image e in
      let ev = event_of (by (view s a)) image in
      ap₂ (λ (x : Bool) (y : List (List ℕ)). cond x (ask_part (our_after (packet image) s) a ∷ y) y) (hands-here s a v image r) er
      ∙ ap (λ (l : List ℕ). cond (eqb (one.answer ev (view s a)) 3) (l ∷ one.handed_out es (one.after ev (view s a))) (one.handed_out es (one.after ev (view s a))))
      (shows ∙ ap (λ (f : one.Followed). f.last) es-seen)
  packet-hands image false e er es-seen shows =
      ap (λ (x : Bool). cond x (ask_part (our_after (packet image) s) a ∷ rest) rest) (hands_none s a v image e) ∙ er

  step-hands : (x : Call) → Stays a x → let xs = events_at a (by (view s a)) (setting s) x in
      rest ≡ one.handed_out es (after-events xs)
      → cond (hands_out a x (our_answer x s)) (ask_part (our_after x s) a ∷ rest) rest ≡ one.handed_out (xs ++ es) (view s a)
  unfolding hands_out events_at our_answer Stays one.handed_out one.answer one.run
  step-hands start st er = absurd st
  step-hands (follow w) st er = er
  step-hands (leave b) st er = er
  step-hands (packet image) st er =
      let n = next s a v (packet image) st in
      packet-hands image (arrives_at a (setting s) image) refl er n.seen (shown-here (our_after (packet image) s) a n.serves)
  step-hands subframe_end st er = er
  step-hands (set_flips most) st er = er
  step-hands (asks q) st er = er

pub handed-same : (h : List Call) (s : List ℕ) (a : ℕ) → Serves s a → AllStay a h
    → handed_out ours a h s ≡ one.handed_out (events_of a (by (view s a)) (setting s) h) (view s a)
unfolding handed_out one.handed_out events_of AllStay
handed-same [] s a v st = refl
handed-same (x ∷ h) s a v st =
    let n = next s a v x st.0 in
    step-hands s a v (events_of a (by (view s a)) (setting_now x (setting s)) h) (handed_out ours a h (our_after x s)) x st.0
    (handed-same h (our_after x s) a n.serves st.1
    ∙ (λ i. one.handed_out (events_of a (next-by s a v x st.0 i) (next-setting s a v x st.0 i) h) (n.seen i)))
