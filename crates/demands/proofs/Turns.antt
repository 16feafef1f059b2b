-- The four packets of a group of zeros, in turn, at an address that was just followed: the states and the answers on the way.
--
--   begun-at l       the state after the follow, with limit l
--   first_step       the first packet
--   four, four-then  the four packets, and their events, whatever comes behind
--   state-1 .., view-1 ..     the states on the way and the address in them, where g is what each packet leaves beside its change
--   whole            the last of them
--   says             what ask says then
--
-- Assumes nothing.
use mathlib.Core.Path.{◌≡◌, refl, ap, ap₂, ◌∙◌}
use mathlib.Core.Bool.{false}
use mathlib.Core.List.{List, [], ◌∷◌, ◌++◌}
use Prim.Native.Nat.{ℕ, ◌<◌}
use lib.Dec.{lit<}
use Rattle.bits.specs.Bits.{blank}
use Rattle.head.specs.Head.{ask_number, wish_of}
use Rattle.table.specs.Calls.{follow_answer, follow_after}
use Rattle.asking.specs.Asking.{asked}
use Rattle.history.specs.Followed as one
use Rattle.adapter.specs.Calls.{packet_after}
use Rattle.demands.specs.Machine.{Call, packet}
use Rattle.demands.specs.Setting.{setting_now}
use Rattle.demands.specs.Seen.{events_of}
use Rattle.demands.proofs.Serving.{Kept}
use Rattle.demands.proofs.Calling.{follow-serves}
use Rattle.demands.proofs.Parts.{ask-here}
use Rattle.demands.proofs.Telling.{after-protection}
use Rattle.demands.proofs.Examples.{empty-state, clean, clean-event, Steps, clean_step}

-- the followed address, and after its first packet
abbrev pub begun-at : ℕ → List ℕ
begun-at l = follow_after empty-state (wish_of 17 0 l)

pub first_step : (l : ℕ) → follow_answer empty-state (wish_of 17 0 l) ≡ 0 → Steps (begun-at l) 0 (one.followed (wish_of 17 0 l))
unfolding one.followed
first_step l e = clean_step (begun-at l) (one.followed (wish_of 17 0 l)) (follow-serves empty-state (wish_of 17 0 l) e) refl 0 (lit< tt)

-- the four packets, and their events
abbrev pub four : List Call
four = packet (clean 0) ∷ packet (clean 1) ∷ packet (clean 2) ∷ packet (clean 3) ∷ []

abbrev pub four-events : List one.Event
four-events = one.packet 0 (blank 90) ∷ one.packet 1 (blank 90) ∷ one.packet 2 (blank 90) ∷ one.packet 3 (blank 90) ∷ []

clean-then : (k c : ℕ) (h : List Call) (es : List one.Event) → c < 4 → events_of 17 false k h ≡ es
    → events_of 17 false k (packet (clean c) ∷ h) ≡ one.packet c (blank 90) ∷ es
unfolding events_of setting_now
clean-then k c h es l e = ap₂ (λ (xs ys : List one.Event). xs ++ ys) (clean-event k c l) e

pub four-then : (k : ℕ) (h : List Call) → events_of 17 false k (four ++ h) ≡ four-events ++ events_of 17 false k h
four-then k h =
    clean-then k 0 _ _ (lit< tt) (clean-then k 1 _ _ (lit< tt) (clean-then k 2 _ _ (lit< tt) (clean-then k 3 h _ (lit< tt) refl)))

-- the states on the way, where g is what a packet leaves beside its own change
module _ (l : ℕ) (e : follow_answer empty-state (wish_of 17 0 l) ≡ 0) (g : List ℕ → List ℕ) (view-g : one.Followed → one.Followed) (acts : (s : List ℕ) (f : one.Followed) → Kept s 17 f → Kept (g s) 17 (view-g f))
    (plain : (f : one.Followed) → (view-g f).head.wish.protection ≡ f.head.wish.protection) where
  abbrev pub state-1 : List ℕ
  state-1 = g (packet_after (begun-at l) (clean 0))

  abbrev pub state-2 : List ℕ
  state-2 = g (packet_after state-1 (clean 1))

  abbrev pub state-3 : List ℕ
  state-3 = g (packet_after state-2 (clean 2))

  abbrev pub state-4 : List ℕ
  state-4 = g (packet_after state-3 (clean 3))

  abbrev pub view-1 : one.Followed
  view-1 = view-g (one.after (one.packet 0 (blank 90)) (one.followed (wish_of 17 0 l)))

  abbrev pub view-2 : one.Followed
  view-2 = view-g (one.after (one.packet 1 (blank 90)) view-1)

  abbrev pub view-3 : one.Followed
  view-3 = view-g (one.after (one.packet 2 (blank 90)) view-2)

  abbrev pub view-4 : one.Followed
  view-4 = view-g (one.after (one.packet 3 (blank 90)) view-3)

  step-0 : Steps (begun-at l) 0 (one.followed (wish_of 17 0 l))
  step-0 = first_step l e

  kept_on : (f : one.Followed) (b : ℕ) → f.head.wish.protection ≡ 0 → (view-g (one.after (one.packet b (blank 90)) f)).head.wish.protection ≡ 0
  kept_on f b p = plain (one.after (one.packet b (blank 90)) f) ∙ after-protection (one.packet b (blank 90)) f ∙ p

  step-on : (s : List ℕ) (f : one.Followed) (b c : ℕ) → Steps s b f → f.head.wish.protection ≡ 0 → c < 4
      → Steps (g (packet_after s (clean b))) c (view-g (one.after (one.packet b (blank 90)) f))
  step-on s f b c k p h = clean_step _ _ (acts _ _ k.next) (kept_on f b p) c h

  begun-plain : (one.followed (wish_of 17 0 l)).head.wish.protection ≡ 0
  unfolding one.followed
  begun-plain = refl

  step-1 : Steps state-1 1 view-1
  step-1 = step-on (begun-at l) (one.followed (wish_of 17 0 l)) 0 1 step-0 begun-plain (lit< tt)

  step-2 : Steps state-2 2 view-2
  step-2 = step-on state-1 view-1 1 2 step-1 (kept_on _ 0 begun-plain) (lit< tt)

  step-3 : Steps state-3 3 view-3
  step-3 = step-on state-2 view-2 2 3 step-2 (kept_on _ 1 (kept_on _ 0 begun-plain)) (lit< tt)

  pub whole : Kept state-4 17 view-4
  whole = acts _ _ step-3.next

  pub says : (asked state-4 17).number ≡ ask_number view-4.head
  says = ask-here state-4 17 whole.serves ∙ ap (λ (f : one.Followed). ask_number f.head) whole.seen
