-- Where the setting is 3 and nothing sets it, demand 3 is document 01's, of every machine that meets it.
--
--   few-flips        an image's header has three flips at the most
--   arrives-three    so at 3 nothing is refused with 49
--   at-three         the corollary; ours meets it
--
-- Assumes nothing.
use mathlib.Core.Path.{◌≡◌, sym, ap, subst}
use mathlib.Core.Bool.{Bool, not, ◌&&◌}
use mathlib.Core.List.{List, [], ◌∷◌}
use mathlib.Core.Logic.{inl, inr}
use Prim.Native.Nat.{ℕ, suc, ◌+◌, ◌*◌, ◌≤◌}
use lib.Dec.{eqb}
use borrow.Author.Tests.{le-leb}
use lib.ListN.{length}
use Rattle.bare.proofs.Bare.{header-few}
use Rattle.image.specs.Image.{header_of, spare_of}
use Rattle.image.proofs.Laws.{header-lt}
use Rattle.table.specs.State.{setting}
use Rattle.history.specs.Sent.{Sent}
use Rattle.adapter.specs.Calls.{address_of, flips_of}
use Rattle.demands.specs.Machine.{Call, start, follow, leave, packet, subframe_end, set_flips, asks, Machine, ours}
use Rattle.demands.specs.Setting.{setting_now}
use Rattle.demands.specs.Seen.{arrives_at}
use Rattle.demands.specs.Demand3.{Happening, arrives, control, call, Demand3}
use Rattle.demands.specs.Demand3 as any
use Rattle.demands.specs.Three.{Lost, Apart, Channel, AtThree}
use Rattle.demands.proofs.Third.{demand-3}

few-flips : (image : List ℕ) → flips_of image ≤ 3
unfolding flips_of
few-flips image = header-few (header_of image) (header-lt image)

arrives-three : (a : ℕ) (image : List ℕ)
    → arrives_at a 3 image ≡ (eqb (length image) 94 && (not (eqb (spare_of image) 1) && eqb (address_of image) a))
unfolding arrives_at
arrives-three a image =
    ap (λ (b : Bool). eqb (length image) 94 && (not (eqb (spare_of image) 1) && (b && eqb (address_of image) a))) (le-leb (flips_of image) 3 (few-flips image))

lost-three : (image : List ℕ) → Lost image → any.Lost 3 image
lost-three image (inl l) = inl l
lost-three image (inr e) = inr (inl e)

-- a call that comes between keeps the setting
between : (a : ℕ) (x : Call) → Apart a x → any.Apart a 3 x × (3 ≡ setting_now x 3)
unfolding Apart any.Apart setting_now
between a start q = absurd q
between a (follow w) q = (q, λ i. 3)
between a (leave b) q = (q, λ i. 3)
between a (packet image) (inl l) = (inl (lost-three image l), λ i. 3)
between a (packet image) (inr n) = (inr n, λ i. 3)
between a subframe_end q = (q, λ i. 3)
between a (set_flips most) q = absurd q
between a (asks r) q = (q, λ i. 3)

channel-three : (p : Bool) (a : ℕ) (sent : Sent) (n : ℕ) (h : List Happening) → Channel p a sent n h → any.Channel p a sent 3 n h
unfolding Channel any.Channel
channel-three p a sent n [] ch = tt
channel-three p a sent n (arrives i c image ∷ h) ch =
    let x = ch.0 in
    (record { next = x.next; came = x.came; spare = x.spare }, channel-three p a sent (suc (4 * i + c)) h ch.1)
channel-three p a sent n (control image ∷ h) ch = (ch.0, channel-three p a sent n h ch.1)
channel-three p a sent n (call x ∷ h) ch =
    let b = between a x ch.0 in
    (b.0, subst (λ (k : ℕ). any.Channel p a sent k n h) b.1 (channel-three p a sent n h ch.1))

from-three : (s : List ℕ) → setting s ≡ 3 → (p : Bool) (a : ℕ) (sent : Sent) (n : ℕ) (h : List Happening) → Channel p a sent n h
    → any.Channel p a sent (setting s) n h
from-three s three p a sent n h ch = subst (λ (k : ℕ). any.Channel p a sent k n h) (sym three) (channel-three p a sent n h ch)

pub at-three : (m : Machine) → Demand3 m → AtThree m
at-three m d = record {
  arrives = arrives-three;
  exactly = λ s w e three sent k n h ch.
      d.exactly s w e sent k n h (from-three s three (eqb w.protection 1) w.address sent n h ch);
  missing = λ s w e three sent k n h ch.
      d.missing s w e sent k n h (from-three s three (eqb w.protection 1) w.address sent n h ch);
}

pub ours-at-three : AtThree ours
ours-at-three = at-three ours demand-3
