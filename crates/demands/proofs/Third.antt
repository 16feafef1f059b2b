-- Demand 3, of our calls.
--
--   goes-as, goes-from     at every moment, from any state that follows the address
--   begun-goes             so from an accepted follow on
--   exact, missed          what is handed out, and what ask says, where the channel is as supposed
--   question-alike         what a call that only reads answers, in two states in which the address is the same
--   alike                  two states in which the address is the same answer all that concerns it alike
--   demand-3               ours
--
-- Assumes nothing.
use mathlib.Core.Path.{◌≡◌, refl, sym, ap, ap₂, ◌∙◌, subst}
use mathlib.Core.Bool.{Bool, true, false, cond, not}
use mathlib.Core.List.{List, [], ◌∷◌}
use Prim.Native.Nat.{ℕ, ◌≤◌}
use native.Mathlib.Omega.{arith}
use borrow.Author.Tests.{eq-eqb, eqb-true, lt-ltb}
use lib.Dec.{T, ltb, eqb}
use Rattle.bits.specs.Rows.{Row, row, refusal}
use Rattle.head.specs.Head.{wish_rows, ask_number}
use Rattle.head.specs.declared.Wish.{Wish}
use Rattle.head.proofs.Bounds.{WishBounds, wish-bounds}
use Rattle.slot.specs.Slot.{head_of}
use Rattle.table.specs.State.{slots, setting, slot_at, find}
use Rattle.table.specs.Calls.{follow_answer, set_answer}
use Rattle.table.proofs.Looking.{state-rest}
use Rattle.table.proofs.States.{each-good, good-each}
use Rattle.table.proofs.Kept.{follow-passed}
use Rattle.asking.specs.Asking.{asked, ask_part, board_text}
use Rattle.history.specs.Followed as one
use Rattle.history.specs.Sent.{Readable, Exactly, events}
use Rattle.history.specs.Transcript.{Entry}
use Rattle.history.specs.Missing.{Judged}
use Rattle.history.proofs.Exactness.{exactly-four}
use Rattle.history.proofs.Freshness.{Tells, tells-new, tells-run}
use Rattle.history.proofs.Missing.{nothing-missed-four}
use Rattle.adapter.specs.Calls.{address_of, packet_answer}
use Rattle.demands.specs.Machine.{Call, start, follow, leave, packet, subframe_end, set_flips, asks, ask, asked_of, Question, ours, question_answer, our_answer, our_after, our_board, run}
use Rattle.demands.specs.Demand3.{Stays, AllStay, Carries, Happening, calls, Channel, Arrived, handed_out, arrivals, Goes, concerns, only, answers_at, Demand3}
use Rattle.demands.specs.Setting.{setting_now}
use Rattle.demands.specs.Seen.{arrives_at, event_of, events_at, events_of, by, seen_in, marks_of, latest}
use Rattle.demands.proofs.Serving.{Serves, view, Kept, here-bounds, here-wish}
use Rattle.demands.proofs.Calling.{Arrives, arrives-is, end-zero, follow-serves}
use Rattle.demands.proofs.Parts.{ask-here, shown-here, followed-serves}
use Rattle.demands.proofs.Settings.{setting-next}
use Rattle.demands.proofs.Marks.{tells-marks}
use Rattle.demands.proofs.Telling.{next, next-setting, run-acts, run-setting, lost-answer, answer-by, handed-same, run-protection, last-kept}
use Rattle.demands.proofs.Channels.{channel-order, channel-stays, channel-events, readable-came, came-readable}

-- ---- at every moment

-- what the address shows is the last group handed out
latest-last : (es : List one.Event) (f : one.Followed) → (one.run es f).last ≡ latest f.last (one.handed_out es f)
unfolding one.run one.handed_out latest
latest-last [] f = refl
latest-last (e ∷ es) f = latest-last es (one.after e f) ∙ go (eqb (one.answer e f) 3) refl
  where
    rest : List (List ℕ)
    rest = one.handed_out es (one.after e f)

    go : (b : Bool) → eqb (one.answer e f) 3 ≡ b → latest (one.after e f).last rest ≡ latest f.last (cond b ((one.after e f).last ∷ rest) rest)
    go true q = refl
    go false q = ap (λ (g : List ℕ). latest g rest) (last-kept e f q)

module _ (s : List ℕ) (a : ℕ) (v : Serves s a) (f : one.Followed) (seen : view s a ≡ f) where
  abbrev p : Bool
  p = by f

  ran : (h : List Call) → AllStay a h → Kept (run ours h s) a (one.run (events_of a p (setting s) h) f)
  ran h st =
      let r = run-acts h s a v st in
      record { serves = r.serves; seen = r.seen ∙ ap (λ (g : one.Followed). one.run (events_of a (by g) (setting s) h) g) seen }

  pub goes-as : (t : List Entry) → f.head.wish.limit ≤ 1500 → Tells f.head.wish.limit f.head t → Goes ours a f (setting s) t s
  unfolding question_answer our_answer
  goes-as t k tells = record {
    answers = λ h st image e.
        let r = ran h st in
        answer-by (run ours h s) a r.serves image
        (arrives-is a _ image (ap (λ (n : ℕ). arrives_at a n image) (run-setting h s a v st) ∙ e))
        ∙ ap (λ (g : one.Followed). one.answer (event_of (by g) image) g) r.seen
        ∙ ap (λ (q : Bool). one.answer (event_of q image) (one.run (events_of a p (setting s) h) f)) (ap (λ (n : ℕ). eqb n 1) (run-protection (events_of a p (setting s) h) f));
    asks = λ h st.
        let r = ran h st in
        ask-here (run ours h s) a r.serves ∙ ap (λ (g : one.Followed). ask_number g.head) r.seen
        ∙ tells-run f.head.wish.limit k (events_of a p (setting s) h) f t tells;
    shows = λ h st.
        let r = ran h st in
        shown-here (run ours h s) a r.serves ∙ ap (λ (g : one.Followed). g.last) r.seen ∙ latest-last (events_of a p (setting s) h) f;
  }

-- from any good state, by the slot's own marks
goes-from : (s : List ℕ) (a : ℕ) → Serves s a → Goes ours a (view s a) (setting s) (marks_of (head_of (slot_at (find s a) s))) s
unfolding view seen_in
goes-from s a v =
    let b = here-bounds s a v in
    goes-as s a v (view s a) refl (marks_of (head_of (slot_at (find s a) s))) (here-wish s a v).limit-to (tells-marks (head_of (slot_at (find s a) s)) b)

-- ---- from an accepted follow on

module _ (s : List ℕ) (w : Wish) (e : follow_answer s w ≡ 0) where
  abbrev t : List ℕ
  t = our_after (follow w) s

  abbrev a : ℕ
  a = w.address

  abbrev guarded : Bool
  guarded = eqb w.protection 1

  begun : Kept t a (one.followed w)
  unfolding our_after
  begun = follow-serves s w e

  begun-by : by (view t a) ≡ guarded
  unfolding one.followed
  begun-by = ap by begun.seen

  bounds : WishBounds w
  bounds = wish-bounds w (follow-passed s w e).wish

  low : a ≤ 1023
  low = omega (arith, bounds.address-to)

  -- a follow keeps the setting, which is 0 to 3
  begun-setting : setting t ≡ setting s
  unfolding our_after setting_now
  begun-setting = let f = (follow-passed s w e).state in setting-next (follow w) s f.size (good-each s f.all-good)

  few : setting s ≤ 3
  few = (good-each s (follow-passed s w e).state.all-good).setting

  begun-goes : Goes ours a (one.followed w) (setting s) [] t
  unfolding one.followed
  begun-goes =
      subst (λ (n : ℕ). Goes ours a (one.followed w) n [] t) begun-setting
      (goes-as t a begun.serves (one.followed w) begun.seen [] bounds.limit-to (tells-new w))

  exact : (sent : ℕ → ℕ → List ℕ) → Carries guarded sent → (n : ℕ) (h : List Happening) → Channel guarded a sent (setting s) n h
      → Exactly 4 sent (Arrived guarded h) (handed_out ours a (calls h) t)
  unfolding Arrived Readable
  exact sent k n h ch =
      let st = channel-stays guarded a sent (setting s) n h ch in
      let x = exactly-four w sent n (arrivals guarded h) (channel-order guarded a sent low k (setting s) n h few ch) in
      let same : handed_out ours a (calls h) t ≡ _ =
      handed-same (calls h) t a begun.serves st
      ∙ (λ i. one.handed_out (events_of a (begun-by i) (begun-setting i) (calls h)) (begun.seen i))
      ∙ ap (λ (es : List one.Event). one.handed_out es (one.followed w)) (sym (channel-events guarded a sent low k (setting s) n h few ch)) in
      record {
        which = x.which;
        bytes = same ∙ x.bytes;
        rising = x.rising;
        those = λ i q. x.those i (λ c hc. readable-came guarded i c h (q c hc));
        others = λ i q c hc. came-readable guarded i c h (x.others i q c hc);
      }

  missed : (sent : ℕ → ℕ → List ℕ) → Carries guarded sent → (n : ℕ) (h : List Happening) → Channel guarded a sent (setting s) n h
      → Judged 4 w.limit (arrivals guarded h) (our_answer (asks (ask a)) (run ours (calls h) t))
  unfolding question_answer our_answer
  missed sent k n h ch =
      let r = run-acts (calls h) t a begun.serves (channel-stays guarded a sent (setting s) n h ch) in
      let same : (asked (run ours (calls h) t) a).number ≡ ask_number (one.run (events sent (arrivals guarded h)) (one.followed w)).head =
      ask-here (run ours (calls h) t) a r.serves ∙ ap (λ (f : one.Followed). ask_number f.head) r.seen
      ∙ (λ i. ask_number (one.run (events_of a (begun-by i) (begun-setting i) (calls h)) (begun.seen i)).head)
      ∙ ap (λ (es : List one.Event). ask_number (one.run es (one.followed w)).head) (sym (channel-events guarded a sent low k (setting s) n h few ch)) in
      subst (Judged 4 w.limit (arrivals guarded h)) (sym same)
      (nothing-missed-four w bounds.limit-from bounds.limit-to sent n (arrivals guarded h) (channel-order guarded a sent low k (setting s) n h few ch))

-- ---- what concerns the address, in two states in which it is the same

-- a follow of an address that is followed is refused, by its own numbers alone
follow-again : (s : List ℕ) (w : Wish) → Serves s w.address → follow_answer s w ≡ refusal (wish_rows w (row true 25 ∷ []))
unfolding follow_answer refusal
follow-again s w v =
    let rest : Bool → List Row = λ b. wish_rows w (row b 25 ∷ row (not (ltb (find s 0) slots)) 26 ∷ []) in
    state-rest s (rest (ltb (find s w.address) slots)) v.size (each-good s v.all)
    ∙ ap (λ (b : Bool). refusal (rest b)) (lt-ltb (find s w.address) slots v.found)

module _ (a : ℕ) (s u : List ℕ) (v : Serves s a) (w : Serves u a) (same : view s a ≡ view u a) (set : setting s ≡ setting u) where
  packet-alike : (image : List ℕ) → address_of image ≡ a → (b : Bool) → arrives_at a (setting s) image ≡ b → packet_answer s image ≡ packet_answer u image
  packet-alike image at true e =
      let r = arrives-is a (setting s) image e in
      answer-by s a v image r ∙ ap (λ (f : one.Followed). one.answer (event_of (by f) image) f) same
      ∙ sym (answer-by u a w image (subst (λ (n : ℕ). Arrives a n image) set r))
  packet-alike image at false e =
      lost-answer s a v image e at ∙ sym (lost-answer u a w image (ap (λ (n : ℕ). arrives_at a n image) (sym set) ∙ e) at)

  set-alike : (most : ℕ) → set_answer s most ≡ set_answer u most
  unfolding set_answer
  set-alike most = state-rest s _ v.size (each-good s v.all) ∙ sym (state-rest u _ w.size (each-good u w.all))

  question-alike : (q : Question) → asked_of q ≡ a → question_answer q s ≡ question_answer q u
  unfolding question_answer asked_of
  question-alike (ask b) e =
      subst (λ (n : ℕ). (asked s n).number ≡ (asked u n).number) (sym e)
      (ask-here s a v ∙ ap (λ (f : one.Followed). ask_number f.head) same ∙ sym (ask-here u a w))

  answer-alike : (x : Call) → Stays a x → concerns a x ≡ true → our_answer x s ≡ our_answer x u
  unfolding our_answer Stays concerns
  answer-alike start st c = absurd st
  answer-alike (follow x) st c =
      let e = sym (eqb-true x.address a c) in
      follow-again s x (subst (Serves s) e v) ∙ sym (follow-again u x (subst (Serves u) e w))
  answer-alike (leave b) st c = absurd (st (eqb-true b a c))
  answer-alike (packet image) st c = packet-alike image (eqb-true (address_of image) a c) (arrives_at a (setting s) image) refl
  answer-alike subframe_end st c = end-zero s a v ∙ sym (end-zero u a w)
  answer-alike (set_flips most) st c = set-alike most
  answer-alike (asks q) st c = question-alike q (eqb-true (asked_of q) a c)

  view-alike : (x : Call) → Stays a x → view (our_after x s) a ≡ view (our_after x u) a
  view-alike x st =
      (next s a v x st).seen ∙ (λ i. one.run (events_at a (by (same i)) (set i) x) (same i)) ∙ sym (next u a w x st).seen

  setting-alike : (x : Call) → Stays a x → setting (our_after x s) ≡ setting (our_after x u)
  setting-alike x st = next-setting s a v x st ∙ ap (setting_now x) set ∙ sym (next-setting u a w x st)

-- a call that does not concern it means no event
apart_none : (a : ℕ) (p : Bool) (k : ℕ) (x : Call) → concerns a x ≡ false → events_at a p k x ≡ []
unfolding concerns events_at
apart_none a p k start c = refl
apart_none a p k (follow w) c = refl
apart_none a p k (leave b) c = refl
apart_none a p k (packet image) c = ap (λ (b : Bool). cond b (event_of p image ∷ []) []) (away (arrives_at a k image) refl)
  where
    away : (b : Bool) → arrives_at a k image ≡ b → arrives_at a k image ≡ false
    away true e = absurd (subst T (sym (eq-eqb (address_of image) a (arrives-is a k image e).address) ∙ c) tt)
    away false e = e
apart_none a p k subframe_end c = absurd (subst T c tt)
apart_none a p k (set_flips most) c = absurd (subst T c tt)
apart_none a p k (asks q) c = refl

-- and keeps the setting
apart-keeps : (a : ℕ) (x : Call) (k : ℕ) → concerns a x ≡ false → setting_now x k ≡ k
unfolding concerns setting_now
apart-keeps a start k c = absurd (subst T c tt)
apart-keeps a (follow w) k c = refl
apart-keeps a (leave b) k c = refl
apart-keeps a (packet image) k c = refl
apart-keeps a subframe_end k c = refl
apart-keeps a (set_flips most) k c = absurd (subst T c tt)
apart-keeps a (asks q) k c = refl

view-apart : (a : ℕ) (s : List ℕ) (v : Serves s a) (x : Call) → Stays a x → concerns a x ≡ false → view (our_after x s) a ≡ view s a
unfolding one.run
view-apart a s v x st c = (next s a v x st).seen ∙ ap (λ (es : List one.Event). one.run es (view s a)) (apart_none a (by (view s a)) (setting s) x c)

pub record Alike (a : ℕ) (h : List Call) (s u : List ℕ) : Type 0 where
  pub answers : answers_at ours a h s ≡ answers_at ours a (only a h) u
  pub part : ask_part (run ours h s) a ≡ ask_part (run ours (only a h) u) a

module _ (a : ℕ) (x : Call) (h : List Call) (s u : List ℕ) where
  abbrev rest : List ℕ
  rest = answers_at ours a h (our_after x s)

  alike-with : concerns a x ≡ true → our_answer x s ≡ our_answer x u → Alike a h (our_after x s) (our_after x u) → Alike a (x ∷ h) s u
  unfolding answers_at only run
  alike-with c e k = record {
    answers = ap (λ (b : Bool). cond b (our_answer x s ∷ rest) rest) c ∙ ap₂ (λ (n : ℕ) (ns : List ℕ). n ∷ ns) e k.answers
        ∙ sym (ap (λ (b : Bool). answers_at ours a (cond b (x ∷ only a h) (only a h)) u) c
        ∙ ap (λ (b : Bool). cond b (our_answer x u ∷ answers_at ours a (only a h) (our_after x u)) (answers_at ours a (only a h) (our_after x u))) c);
    part = k.part ∙ sym (ap (λ (b : Bool). ask_part (run ours (cond b (x ∷ only a h) (only a h)) u) a) c);
  }

  alike-without : concerns a x ≡ false → Alike a h (our_after x s) u → Alike a (x ∷ h) s u
  unfolding answers_at only run
  alike-without c k = record {
    answers = ap (λ (b : Bool). cond b (our_answer x s ∷ rest) rest) c ∙ k.answers
        ∙ sym (ap (λ (b : Bool). answers_at ours a (cond b (x ∷ only a h) (only a h)) u) c);
    part = k.part ∙ sym (ap (λ (b : Bool). ask_part (run ours (cond b (x ∷ only a h) (only a h)) u) a) c);
  }

pub alike : (a : ℕ) (h : List Call) (s u : List ℕ) → Serves s a → Serves u a → view s a ≡ view u a → setting s ≡ setting u → AllStay a h
    → Alike a h s u
unfolding answers_at only run AllStay
alike a [] s u v w same set st = record {
  answers = refl;
  part = shown-here s a v ∙ ap (λ (f : one.Followed). f.last) same ∙ sym (shown-here u a w);
}
alike a (x ∷ h) s u v w same set st =
    either (concerns a x)
    (λ c. alike-with a x h s u c (answer-alike a s u v w same set x st.0 c)
    (alike a h (our_after x s) (our_after x u) (next s a v x st.0).serves (next u a w x st.0).serves
    (view-alike a s u v w same set x st.0) (setting-alike a s u v w same set x st.0) st.1))
    (λ c. alike-without a x h s u c
    (alike a h (our_after x s) u (next s a v x st.0).serves w (view-apart a s v x st.0 c ∙ same)
    (next-setting s a v x st.0 ∙ apart-keeps a x (setting s) c ∙ set) st.1))
  where
    either : {A : Type 0} (b : Bool) → (b ≡ true → A) → (b ≡ false → A) → A
    either true f g = f refl
    either false f g = g refl

pub demand-3 : Demand3 ours
unfolding question_answer our_answer our_board board_text view
demand-3 = record {
  accepted = λ s w e. e;
  exactly = exact;
  follows = begun-goes;
  holds = λ s a p w. goes-from s a (followed-serves s a w.size w.good w.found);
  missing = missed;
  boards = λ a notice s. refl;
  texts = λ a notice s. refl;
  undisturbed = λ s w e h st.
      let b = begun s w e in
      let k = alike w.address h _ _ b.serves b.serves refl refl st in
      (k.answers, k.part);
}
