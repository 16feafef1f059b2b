-- The channel in bits of images, as the arrivals of which the crate history speaks.
--
--   arrivals p h           what happens, as arrivals
--   came-arrives, came-event, came-drops     an image that came of a data packet: it arrives at the address, as that packet or dropping
--   control-arrives, control-event           one that came of a control packet: it arrives, and is refused with 29
--   channel-order          they are in order; channel-stays: nothing leaves the address
--   channel-events         their events are those of the calls
--   readable-came, came-readable     a packet that arrived readable is one that came
--   channel-few            the setting stays 0 to 3
--   sent-apart             a packet sent to another address is read as that one, with at most three flips in its header
--
-- Assumes nothing.
use mathlib.Core.Path.{◌≡◌, refl, sym, ap, ap₂, ◌∙◌, subst}
use mathlib.Core.Bool.{Bool, true, false, cond}
use mathlib.Core.List.{List, [], ◌∷◌, ◌++◌}
use mathlib.Core.Logic.{◌⊎◌, inl, inr}
use Prim.Native.Nat.{ℕ, zero, suc, ◌+◌, ◌*◌, ◌≤◌, ◌<◌}
use native.Mathlib.Omega.{arith}
use native.Mathlib.Nat.{le_trans}
use borrow.Author.Tests.{eq-eqb, ne_eqb, leb-true}
use lib.Dec.{T, leb, lit<}
use lib.ListN.{length, take}
use Rattle.bits.specs.Bits.{flips}
use Rattle.image.specs.Image.{header_of, spare_of}
use Rattle.packet.specs.Received.{received, readable_as, written}
use Rattle.packet.specs.Damage.{data_size, carried, sent_image, Kept, Any, CameBy, Came}
use Rattle.packet.specs.Received.{ReadingAnswer}
use Rattle.packet.proofs.Answers.{filled-begins}
use Rattle.packet.proofs.Damages.{carried-length, carried-below, written-came, written-flipped-by, header-came, received-control, received-came}
use Rattle.faults.specs.Faults.{number, drops, type_control, word_unreadable, fault_of}
use Rattle.history.specs.Followed as one
use Rattle.history.specs.Sent as sent
use Rattle.adapter.specs.Calls.{address_of, flips_of}
use Rattle.demands.specs.Machine.{Call, start, follow, leave, packet, subframe_end, set_flips, asks, Bytes}
use Rattle.demands.specs.Demand3.{Stays, AllStay, Carries, Lost, Happening, arrives, control, call, call_of, calls, Apart, ComesControl, Channel, ReadableIn, arrival_by, passing, arrivals}
use Rattle.demands.specs.Setting.{setting_now}
use Rattle.demands.specs.Seen.{arrives_at, event_of, events_at, events_of}
use Rattle.demands.proofs.Acting.{event-read, event-refused}
use Rattle.demands.proofs.Calling.{Arrives, is-arrives, arrives-is}

-- ---- one image that came of a sent packet

-- of any packet, by its type byte and useful bytes
module _ (kept : List ℕ → List ℕ → Type 0) (k a c ty : ℕ) (u image : List ℕ) (hk : k ≤ 3) (ha : a ≤ 1023) (hc : c < 4) (ht : ty < 256)
    (l : length u ≡ 90) (b : Bytes u) (came : CameBy kept k (written a c ty u) image) where
  arrives-by : spare_of image ≡ 0 → Arrives a k image
  unfolding address_of flips_of
  arrives-by z =
      let few = le_trans came.header hk in
      record {
        size = came.size;
        spare = ne_eqb (spare_of image) 1 (λ q. omega (arith, z, q));
        -- its header is read with the flips that it has
        within = subst (λ (n : ℕ). n ≤ k) (sym (written-flipped-by a c ty u ha (omega arith) ht l b image few)) came.header;
        address = (written-came a c ty u ha (omega arith) ht l b image few).0;
      }

-- of a data packet
module _ (p : Bool) (k a c : ℕ) (d image : List ℕ) (hk : k ≤ 3) (ha : a ≤ 1023) (hc : c < 4) (l : length d ≡ data_size p) (b : Bytes d)
    (came : Came p k (sent_image p a c d) image) where
  pub came-arrives : spare_of image ≡ 0 → Arrives a k image
  came-arrives = arrives-by (Kept 4 p) k a c 0x00 (carried p d) image hk ha hc (lit< tt) (carried-length p d l) (carried-below p d b) came

  came-either : (received p image ≡ readable_as c d) ⊎ ((received p image).number ≡ number word_unreadable)
  came-either = received-came p k a c d image hk ha (omega arith) l b came

  pub came-event : (received p image).number ≡ 0 → event_of p image ≡ one.packet c d
  came-event z = event-read p image z ∙ go came-either
    where
      go : (received p image ≡ readable_as c d) ⊎ ((received p image).number ≡ number word_unreadable)
          → one.packet (received p image).index (take (data_size p) (received p image).bytes) ≡ one.packet c d
      go (inl e) =
          ap (λ (r : ReadingAnswer). one.packet r.index (take (data_size p) r.bytes)) e
          ∙ ap (one.packet c) (filled-begins (data_size p) d l)
      go (inr f) = absurd (omega (arith, f, z))

  -- where it is refused, its group is dropped
  came-drops : (m : ℕ) → (received p image).number ≡ suc m → drops (fault_of (suc m)) ≡ true
  unfolding fault_of
  came-drops m e = go came-either
    where
      go : (received p image ≡ readable_as c d) ⊎ ((received p image).number ≡ number word_unreadable) → drops (fault_of (suc m)) ≡ true
      go (inl q) = absurd (omega (arith, e, ap (λ (r : ReadingAnswer). r.number) q))
      go (inr f) = ap (λ (n : ℕ). drops (fault_of n)) (sym e ∙ f)

-- of a control packet
control-arrives : (k a : ℕ) (image : List ℕ) → k ≤ 3 → a ≤ 1023 → ComesControl a k image → Arrives a k image
control-arrives k a image hk ha x =
    arrives-by Any k a x.index 0x3F x.useful image hk ha x.below (lit< tt) x.size x.bytes x.came x.spare

control-event : (p : Bool) (k a : ℕ) (image : List ℕ) → a ≤ 1023 → ComesControl a k image → event_of p image ≡ one.refused type_control
unfolding fault_of
control-event p k a image ha x =
    let below = x.below in
    let e = ap (λ (r : ReadingAnswer). r.number)
    (received-control p k a x.index x.useful image ha (omega arith) x.size x.bytes x.came) in
    event-refused p image (λ z. omega (arith, e, z)) ∙ ap (λ (n : ℕ). one.refused (fault_of n)) e

-- ---- arrivals

next-by : (k n i c : ℕ) (h : List sent.Arrival) → sent.Next 4 3 n i c → ((m : ℕ) → k ≡ suc m → drops (fault_of (suc m)) ≡ true)
    → sent.InOrder 4 3 (suc (4 * i + c)) h → sent.InOrder 4 3 n (arrival_by k i c ∷ h)
unfolding arrival_by sent.InOrder
next-by zero n i c h x d y = (x, y)
next-by (suc m) n i c h x d y = (x, d m refl, y)

passing-order : (x : Call) (n : ℕ) (h : List sent.Arrival) → sent.InOrder 4 3 n h → sent.InOrder 4 3 n (passing x ++ h)
unfolding passing sent.InOrder
passing-order start n h o = o
passing-order (follow w) n h o = o
passing-order (leave b) n h o = o
passing-order (packet image) n h o = o
passing-order subframe_end n h o = o
passing-order (set_flips most) n h o = o
passing-order (asks q) n h o = o

apart-stays : (a m : ℕ) (x : Call) → Apart a m x → Stays a x
unfolding Apart Stays
apart-stays a m start q = q
apart-stays a m (follow w) q = q
apart-stays a m (leave b) q = q
apart-stays a m (packet image) q = tt
apart-stays a m subframe_end q = q
apart-stays a m (set_flips most) q = q
apart-stays a m (asks r) q = q

pub channel-stays : (p : Bool) (a : ℕ) (s : sent.Sent) (m n : ℕ) (h : List Happening) → Channel p a s m n h → AllStay a (calls h)
unfolding Channel calls call_of AllStay Stays
channel-stays p a s m n [] ch = tt
channel-stays p a s m n (arrives i c image ∷ h) ch = (tt, channel-stays p a s m (suc (4 * i + c)) h ch.1)
channel-stays p a s m n (control image ∷ h) ch = (tt, channel-stays p a s m n h ch.1)
channel-stays p a s m n (call x ∷ h) ch = (apart-stays a m x ch.0, channel-stays p a s (setting_now x m) n h ch.1)

-- the setting stays 0 to 3
channel-few : (x : Call) (m : ℕ) → m ≤ 3 → setting_now x m ≤ 3
unfolding setting_now
channel-few start m h = omega arith
channel-few (follow w) m h = h
channel-few (leave b) m h = h
channel-few (packet image) m h = h
channel-few subframe_end m h = h
channel-few (set_flips most) m h = go (leb most 3) refl
  where
    go : (b : Bool) → leb most 3 ≡ b → cond b most m ≤ 3
    go true e = leb-true most 3 e
    go false e = h
channel-few (asks q) m h = h

pub channel-order : (p : Bool) (a : ℕ) (s : sent.Sent) → a ≤ 1023 → Carries p s → (m n : ℕ) (h : List Happening) → m ≤ 3 → Channel p a s m n h
    → sent.InOrder 4 3 n (arrivals p h)
unfolding Channel arrivals sent.InOrder
channel-order p a s ha k m n [] hm ch = tt
channel-order p a s ha k m n (arrives i c image ∷ h) hm ch =
    let x = ch.0 in
    let hc = x.next.index in
    next-by (received p image).number n i c (arrivals p h) x.next
    (came-drops p m a c (s i c) image hm ha hc (k.size i c hc) (k.bytes i c hc) x.came)
    (channel-order p a s ha k m (suc (4 * i + c)) h hm ch.1)
channel-order p a s ha k m n (control image ∷ h) hm ch = channel-order p a s ha k m n h hm ch.1
channel-order p a s ha k m n (call x ∷ h) hm ch =
    passing-order x n (arrivals p h) (channel-order p a s ha k (setting_now x m) n h (channel-few x m hm) ch.1)

-- ---- the events are those of the calls

-- an image that came of no packet sent to the address does not arrive there
apart-away : (a m : ℕ) (image : List ℕ) → Lost m image ⊎ (address_of image ≡ a → ⊥) → arrives_at a m image ≡ false
apart-away a m image q = go (arrives_at a m image) refl
  where
    clash : Arrives a m image → Lost m image ⊎ (address_of image ≡ a → ⊥) → ⊥
    clash r (inl (inl n)) = n r.size
    clash r (inl (inr (inl e))) = subst T (sym (eq-eqb (spare_of image) 1 e) ∙ r.spare) tt
    clash r (inl (inr (inr f))) = omega (arith, f, r.within)
    clash r (inr n) = n r.address

    go : (b : Bool) → arrives_at a m image ≡ b → arrives_at a m image ≡ false
    go true e = absurd (clash (arrives-is a m image e) q)
    go false e = e

passing-events : (p : Bool) (a m : ℕ) (s : sent.Sent) (x : Call) (h : List sent.Arrival) (es : List one.Event) → Apart a m x
    → sent.events s h ≡ es → sent.events s (passing x ++ h) ≡ events_at a p m x ++ es
unfolding passing sent.events sent.event events_at Apart
passing-events p a m s start h es q e = e
passing-events p a m s (follow w) h es q e = e
passing-events p a m s (leave b) h es q e = e
passing-events p a m s (packet image) h es q e =
    e ∙ sym (ap (λ (b : Bool). cond b (event_of p image ∷ []) [] ++ es) (apart-away a m image q))
passing-events p a m s subframe_end h es q e = ap (λ (x : List one.Event). one.ended ∷ x) e
passing-events p a m s (set_flips most) h es q e = e
passing-events p a m s (asks r) h es q e = e

arrival-event : (p : Bool) (s : sent.Sent) (i c : ℕ) (image : List ℕ)
    → ((received p image).number ≡ 0 → event_of p image ≡ one.packet c (s i c))
    → sent.event s (arrival_by (received p image).number i c) ≡ event_of p image
unfolding arrival_by sent.event
arrival-event p s i c image read = go (received p image).number refl
  where
    go : (n : ℕ) → (received p image).number ≡ n → sent.event s (arrival_by n i c) ≡ event_of p image
    go zero e = sym (read e)
    go (suc n) e =
        sym (event-refused p image (λ z. omega (arith, sym e ∙ z)) ∙ ap (λ (m : ℕ). one.refused (fault_of m)) e)

pub channel-events : (p : Bool) (a : ℕ) (s : sent.Sent) → a ≤ 1023 → Carries p s → (m n : ℕ) (h : List Happening) → m ≤ 3 → Channel p a s m n h
    → sent.events s (arrivals p h) ≡ events_of a p m (calls h)
unfolding Channel arrivals sent.events sent.event events_of calls call_of events_at setting_now
channel-events p a s ha k m n [] hm ch = refl
channel-events p a s ha k m n (control image ∷ h) hm ch =
    let here = control-arrives m a image hm ha ch.0 in
    ap₂ (λ (e : one.Event) (es : List one.Event). e ∷ es) (sym (control-event p m a image ha ch.0))
    (channel-events p a s ha k m n h hm ch.1)
    ∙ sym (ap (λ (b : Bool). cond b (event_of p image ∷ []) [] ++ events_of a p m (calls h)) (is-arrives a m image here))
channel-events p a s ha k m n (arrives i c image ∷ h) hm ch =
    let x = ch.0 in
    let hc = x.next.index in
    let d = s i c in
    let here = came-arrives p m a c d image hm ha hc (k.size i c hc) (k.bytes i c hc) x.came x.spare in
    ap₂ (λ (e : one.Event) (es : List one.Event). e ∷ es)
    (arrival-event p s i c image (came-event p m a c d image hm ha hc (k.size i c hc) (k.bytes i c hc) x.came))
    (channel-events p a s ha k m (suc (4 * i + c)) h hm ch.1)
    ∙ sym (ap (λ (b : Bool). cond b (event_of p image ∷ []) [] ++ events_of a p m (calls h)) (is-arrives a m image here))
channel-events p a s ha k m n (call x ∷ h) hm ch =
    passing-events p a m s x (arrivals p h) (events_of a p (setting_now x m) (calls h)) ch.0
    (channel-events p a s ha k (setting_now x m) n h (channel-few x m hm) ch.1)

-- ---- readable is readable

-- the group and the index of a packet that came
came_as : sent.Arrival → ℕ × ℕ
came_as (sent.came i c) = (i, c)
came_as (sent.damaged i c r) = (0, 0)
came_as sent.control = (0, 0)
came_as sent.subframe_end = (0, 0)

is_came : sent.Arrival → Bool
is_came (sent.came i c) = true
is_came (sent.damaged i c r) = false
is_came sent.control = false
is_came sent.subframe_end = false

came-by : (m j d i c : ℕ) → arrival_by m j d ≡ sent.came i c → (j ≡ i) × (d ≡ c) × (m ≡ 0)
unfolding arrival_by came_as is_came
came-by zero j d i c e = (ap (λ (x : sent.Arrival). (came_as x).0) e, ap (λ (x : sent.Arrival). (came_as x).1) e, refl)
came-by (suc m) j d i c e = absurd (subst T (sym (ap is_came e)) tt)

passing-in : (i c : ℕ) (x : Call) (h : List sent.Arrival) → sent.CameIn i c h → sent.CameIn i c (passing x ++ h)
unfolding passing sent.CameIn
passing-in i c start h q = q
passing-in i c (follow w) h q = q
passing-in i c (leave b) h q = q
passing-in i c (packet image) h q = q
passing-in i c subframe_end h q = inr q
passing-in i c (set_flips most) h q = q
passing-in i c (asks r) h q = q

passing-out : (i c : ℕ) (x : Call) (h : List sent.Arrival) → sent.CameIn i c (passing x ++ h) → sent.CameIn i c h
unfolding passing sent.CameIn is_came
passing-out i c start h q = q
passing-out i c (follow w) h q = q
passing-out i c (leave b) h q = q
passing-out i c (packet image) h q = q
passing-out i c subframe_end h (inl e) = absurd (subst T (sym (ap is_came e)) tt)
passing-out i c subframe_end h (inr q) = q
passing-out i c (set_flips most) h q = q
passing-out i c (asks r) h q = q

pub readable-came : (p : Bool) (i c : ℕ) (h : List Happening) → ReadableIn p i c h → sent.CameIn i c (arrivals p h)
unfolding ReadableIn arrivals sent.CameIn arrival_by
readable-came p i c [] q = q
readable-came p i c (control image ∷ h) q = inr (readable-came p i c h q)
readable-came p i c (arrives j d image ∷ h) (inl e) =
    inl (λ k. arrival_by (e.2 k) (e.0 k) (e.1 k))
readable-came p i c (arrives j d image ∷ h) (inr q) = inr (readable-came p i c h q)
readable-came p i c (call x ∷ h) q = passing-in i c x (arrivals p h) (readable-came p i c h q)

pub came-readable : (p : Bool) (i c : ℕ) (h : List Happening) → sent.CameIn i c (arrivals p h) → ReadableIn p i c h
unfolding ReadableIn arrivals sent.CameIn is_came
came-readable p i c [] q = q
came-readable p i c (control image ∷ h) (inl e) = absurd (subst T (sym (ap is_came e)) tt)
came-readable p i c (control image ∷ h) (inr q) = came-readable p i c h q
came-readable p i c (arrives j d image ∷ h) (inl e) = inl (came-by (received p image).number j d i c e)
came-readable p i c (arrives j d image ∷ h) (inr q) = inr (came-readable p i c h q)
came-readable p i c (call x ∷ h) q = came-readable p i c h (passing-out i c x (arrivals p h) q)

-- ---- other addresses

-- "no header at any address with more than [the set number of] flipped bits": then no packet of another one is read as the address
pub sent-apart : (p : Bool) (a m b c : ℕ) (d image : List ℕ) → b ≤ 1023 → c < 4 → length d ≡ data_size p → Bytes d
    → flips (header_of (sent_image p b c d)) (header_of image) ≤ 3 → (b ≡ a → ⊥) → Apart a m (packet image)
unfolding Apart address_of
sent-apart p a m b c d image hb hc l k f ne = inr (λ e. ne (sym (header-came p b c d hb (omega arith) l k image f).0 ∙ e))
