-- Control packets alter nothing: with them left out, what arrives is in order exactly if it was, the same groups are readable and handed
-- out, the same packets are missed, and the address is as it would be. So a control packet that is lost, or the last to arrive, makes no
-- difference, and a run of lost packets counts over it.
--
--   without h                      what arrives, without the control packets
--   run-without, handed-without    the address after it, and what is handed out
--   order-without, without-order   in order
--   came-without, without-came     which packets came; missed-without, without-missed: which are missed
--   endings-without                how many subframes ended
--
-- Assumes nothing.
use mathlib.Core.Path.{◌≡◌, refl, ap}
use mathlib.Core.Bool.{cond}
use mathlib.Core.List.{List, [], ◌∷◌}
use mathlib.Core.Logic.{inl, inr}
use Prim.Native.Nat.{ℕ, suc, ◌+◌, ◌*◌}
use lib.Dec.{eqb}
use Rattle.history.specs.Followed.{Followed, after, answer, run, handed_out}
use Rattle.history.specs.Sent.{Sent, Arrival, came, damaged, control, subframe_end, event, events, InOrder, CameIn}
use Rattle.history.specs.Missing.{Reached, Missed, endings}
use Rattle.history.proofs.Full.{control-other}

unfoldable pub without : List Arrival → List Arrival
without [] = []
without (came i c ∷ h) = came i c ∷ without h
without (damaged i c r ∷ h) = damaged i c r ∷ without h
without (control ∷ h) = without h
without (subframe_end ∷ h) = subframe_end ∷ without h

pub run-without : (sent : Sent) (h : List Arrival) (f : Followed) → run (events sent (without h)) f ≡ run (events sent h) f
unfolding without events event run after
run-without sent [] f = refl
run-without sent (came i c ∷ h) f = run-without sent h (after (event sent (came i c)) f)
run-without sent (damaged i c r ∷ h) f = run-without sent h (after (event sent (damaged i c r)) f)
run-without sent (control ∷ h) f = run-without sent h f
run-without sent (subframe_end ∷ h) f = run-without sent h (after (event sent subframe_end) f)

-- what an arrival hands out, before what those behind it do
one-without : (sent : Sent) (a : Arrival) (f : Followed) (x y : List (List ℕ)) → x ≡ y
    → cond (eqb (answer (event sent a) f) 3) ((after (event sent a) f).last ∷ x) x
    ≡ cond (eqb (answer (event sent a) f) 3) ((after (event sent a) f).last ∷ y) y
one-without sent a f x y e = ap (λ (z : List (List ℕ)). cond (eqb (answer (event sent a) f) 3) ((after (event sent a) f).last ∷ z) z) e

pub handed-without : (sent : Sent) (h : List Arrival) (f : Followed) → handed_out (events sent (without h)) f ≡ handed_out (events sent h) f
unfolding without events event handed_out after answer
handed-without sent [] f = refl
handed-without sent (came i c ∷ h) f =
    one-without sent (came i c) f _ _ (handed-without sent h (after (event sent (came i c)) f))
handed-without sent (damaged i c r ∷ h) f =
    one-without sent (damaged i c r) f _ _ (handed-without sent h (after (event sent (damaged i c r)) f))
handed-without sent (control ∷ h) f = handed-without sent h f
handed-without sent (subframe_end ∷ h) f =
    one-without sent subframe_end f _ _ (handed-without sent h (after (event sent subframe_end) f))

module _ (per most : ℕ) where
  pub order-without : (n : ℕ) (h : List Arrival) → InOrder per most n h → InOrder per most n (without h)
  unfolding without InOrder
  order-without n [] o = o
  order-without n (came i c ∷ h) (o, os) = (o, order-without (suc (per * i + c)) h os)
  order-without n (damaged i c r ∷ h) (o, d, os) = (o, d, order-without (suc (per * i + c)) h os)
  order-without n (control ∷ h) o = order-without n h o
  order-without n (subframe_end ∷ h) o = order-without n h o

  pub without-order : (n : ℕ) (h : List Arrival) → InOrder per most n (without h) → InOrder per most n h
  unfolding without InOrder
  without-order n [] o = o
  without-order n (came i c ∷ h) (o, os) = (o, without-order (suc (per * i + c)) h os)
  without-order n (damaged i c r ∷ h) (o, d, os) = (o, d, without-order (suc (per * i + c)) h os)
  without-order n (control ∷ h) o = without-order n h o
  without-order n (subframe_end ∷ h) o = without-order n h o

module _ (i c : ℕ) where
  pub came-without : (h : List Arrival) → CameIn i c h → CameIn i c (without h)
  unfolding without CameIn
  came-without [] x = x
  came-without (came j d ∷ h) (inl e) = inl e
  came-without (came j d ∷ h) (inr x) = inr (came-without h x)
  came-without (damaged j d r ∷ h) (inl e) = inl e
  came-without (damaged j d r ∷ h) (inr x) = inr (came-without h x)
  came-without (control ∷ h) (inl e) = absurd (control-other i c e)
  came-without (control ∷ h) (inr x) = came-without h x
  came-without (subframe_end ∷ h) (inl e) = inl e
  came-without (subframe_end ∷ h) (inr x) = inr (came-without h x)

  pub without-came : (h : List Arrival) → CameIn i c (without h) → CameIn i c h
  unfolding without CameIn
  without-came [] x = x
  without-came (came j d ∷ h) (inl e) = inl e
  without-came (came j d ∷ h) (inr x) = inr (without-came h x)
  without-came (damaged j d r ∷ h) (inl e) = inl e
  without-came (damaged j d r ∷ h) (inr x) = inr (without-came h x)
  without-came (control ∷ h) x = inr (without-came h x)
  without-came (subframe_end ∷ h) (inl e) = inl e
  without-came (subframe_end ∷ h) (inr x) = inr (without-came h x)

module _ (per k : ℕ) where
  reached-without : (h : List Arrival) → Reached per k h → Reached per k (without h)
  unfolding without Reached
  reached-without [] x = x
  reached-without (came j d ∷ h) (inl l) = inl l
  reached-without (came j d ∷ h) (inr x) = inr (reached-without h x)
  reached-without (damaged j d r ∷ h) (inl l) = inl l
  reached-without (damaged j d r ∷ h) (inr x) = inr (reached-without h x)
  reached-without (control ∷ h) x = reached-without h x
  reached-without (subframe_end ∷ h) x = reached-without h x

  without-reached : (h : List Arrival) → Reached per k (without h) → Reached per k h
  unfolding without Reached
  without-reached [] x = x
  without-reached (came j d ∷ h) (inl l) = inl l
  without-reached (came j d ∷ h) (inr x) = inr (without-reached h x)
  without-reached (damaged j d r ∷ h) (inl l) = inl l
  without-reached (damaged j d r ∷ h) (inr x) = inr (without-reached h x)
  without-reached (control ∷ h) x = without-reached h x
  without-reached (subframe_end ∷ h) x = without-reached h x

pub missed-without : (per i : ℕ) (h : List Arrival) → Missed per i h → Missed per i (without h)
missed-without per i h m = record {
  group = m.group;
  index = m.index;
  below = m.below;
  after = m.after;
  reached = reached-without per (per * m.group + m.index) h m.reached;
  absent = λ x. m.absent (without-came m.group m.index h x);
}

pub without-missed : (per i : ℕ) (h : List Arrival) → Missed per i (without h) → Missed per i h
without-missed per i h m = record {
  group = m.group;
  index = m.index;
  below = m.below;
  after = m.after;
  reached = without-reached per (per * m.group + m.index) h m.reached;
  absent = λ x. m.absent (came-without m.group m.index h x);
}

pub endings-without : (h : List Arrival) → endings (without h) ≡ endings h
unfolding without endings
endings-without [] = refl
endings-without (came j d ∷ h) = endings-without h
endings-without (damaged j d r ∷ h) = endings-without h
endings-without (control ∷ h) = endings-without h
endings-without (subframe_end ∷ h) = ap suc (endings-without h)
