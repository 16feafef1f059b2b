-- Each of our calls acts at a followed address by the events that it means there, and keeps the state good; what a packet at the
-- address is answered.
--
--   acts             each call that neither leaves the address nor starts
--   answer-here      the answer to a packet that arrives at the address is the event's
--   follow-serves    an accepted follow gives a new one
--
-- Assumes nothing.
use mathlib.Core.Path.{◌≡◌, refl, sym, ap, ◌∙◌, subst}
use mathlib.Core.Bool.{Bool, true, false, cond, not, ◌&&◌}
use mathlib.Core.List.{List, [], ◌∷◌}
use Prim.Native.Nat.{ℕ, ◌≤◌, ◌<◌}
use native.Mathlib.Omega.{arith}
use native.Mathlib.Decide.{ℕ_discrete}
use borrow.Author.Tests.{eq-eqb, ne_eqb, eqb-true, le-leb, leb-true, not-true}
use lib.Dec.{T, leb, eqb}
use lib.ListN.{length}
use Rattle.bits.specs.Bits.{blank}
use Rattle.bits.proofs.Rows.{refusal-none, done-passed, done-either}
use Rattle.bits.proofs.Storing.{blank-length}
use Rattle.bits.proofs.Search.{and_left, and_right}
use Rattle.image.specs.Image.{spare_of}
use Rattle.slot.specs.Slot.{slot_size, head_of, with_head}
use Rattle.head.specs.Head.{new_head}
use Rattle.head.specs.declared.Head.{Head}
use Rattle.head.specs.declared.Wish.{Wish}
use Rattle.head.proofs.Bounds.{wish-bounds, good_new}
use Rattle.slot.proofs.Goods.{good-load, head-blank}
use Rattle.slot.proofs.Heads.{with_head-length}
use Rattle.table.specs.State.{state_size, setting, with_setting, slots, slot_at, with_slot, address_at, find, good}
use Rattle.table.specs.Calls.{follow_answer, follow_after, leave_answer, leave_after, end_answer, end_after, ages, set_answer, set_after}
use Rattle.table.proofs.Looking.{Passed, state-rest, set-passed}
use Rattle.table.proofs.States.{each-good, good-each, find-has, find-only, find_none, slot-length, with-length, slot_same, address_is, address_same, address-other, set-length, slot_kept, address_kept, good-set}
use Rattle.table.proofs.Kept.{Followed, follow-passed, leave-passed, follow-good, leave-good, aged-slot, ages-good}
use Rattle.group.specs.Group.{taken_number, taken_after}
use Rattle.history.specs.Followed as one
use Rattle.adapter.specs.Calls.{address_of, flips_of, followed, unplaced, reading_at, slot_answer, slot_after, packet_answer, packet_after}
use Rattle.adapter.proofs.Laws.{both-followed, followed-both, Placed, placed, placed-zero, packet-refused, packet-placed}
use Rattle.demands.specs.Machine.{Call, start, follow, leave, packet, subframe_end, set_flips, asks, our_after}
use Rattle.demands.specs.Demand3.{Stays}
use Rattle.demands.specs.Seen.{arrives_at, event_of, events_at, seen_in}
use Rattle.demands.proofs.View.{view-aged, view-new}
use Rattle.demands.proofs.Serving.{Serves, view, Kept, kept_by, here-size, here-address, here-good, change-here, change-apart, change-none, older, ages-at, ages-long}
use Rattle.demands.proofs.Acting.{Does, taken-does, protected_at}

-- ---- images that arrive at an address

pub record Arrives (a k : ℕ) (image : List ℕ) : Type 0 where
  pub size : length image ≡ 94
  pub spare : eqb (spare_of image) 1 ≡ false
  pub within : flips_of image ≤ k
  pub address : address_of image ≡ a

pub arrives-is : (a k : ℕ) (image : List ℕ) → arrives_at a k image ≡ true → Arrives a k image
unfolding arrives_at
arrives-is a k image e =
    let rest = and_right (eqb (length image) 94) _ e in
    let last = and_right (not (eqb (spare_of image) 1)) _ rest in
    record {
      size = eqb-true (length image) 94 (and_left (eqb (length image) 94) _ e);
      spare = not-true (eqb (spare_of image) 1) (and_left (not (eqb (spare_of image) 1)) _ rest);
      within = leb-true (flips_of image) k (and_left (leb (flips_of image) k) _ last);
      address = eqb-true (address_of image) a (and_right (leb (flips_of image) k) _ last);
    }

pub is-arrives : (a k : ℕ) (image : List ℕ) → Arrives a k image → arrives_at a k image ≡ true
unfolding arrives_at
is-arrives a k image r =
    λ i. eq-eqb (length image) 94 r.size i
    && (not (r.spare i) && (le-leb (flips_of image) k r.within i && eq-eqb (address_of image) a r.address i))

module _ (s : List ℕ) (a : ℕ) (v : Serves s a) where
  pub passed : Passed s
  passed = record { size = v.size; all-good = each-good s v.all }

  pub arrives-placed : (image : List ℕ) → Arrives a (setting s) image → Placed s image
  arrives-placed image r = record {
    size = r.size;
    state = passed;
    spare = r.spare;
    within = r.within;
    place = ap (followed s) r.address ∙ both-followed s a v.pos v.found;
  }

  -- what it does to its slot
  does : (image : List ℕ) → length image ≡ 94
      → Does (event_of (protected_at s a) image) (slot_at (find s a) s) (taken_after (reading_at (slot_at (find s a) s) image) (slot_at (find s a) s))
      (taken_number (reading_at (slot_at (find s a) s) image) (head_of (slot_at (find s a) s)))
  does image l = taken-does (slot_at (find s a) s) image (here-size s a v) (here-good s a v) l

  abbrev changed : List ℕ → ℕ → List ℕ
  changed image n = with_slot (find s n) (taken_after (reading_at (slot_at (find s n) s) image) (slot_at (find s n) s)) s

  here-kept : (image : List ℕ) → length image ≡ 94 → Kept (changed image a) a (one.after (event_of (protected_at s a) image) (view s a))
  unfolding view
  here-kept image l =
      let d = does image l in
      let k = change-here s a v _ d.size d.good (d.address ∙ here-address s a v) in
      record { serves = k.serves; seen = k.seen ∙ d.seen }

  pub answer-here : (image : List ℕ) → Arrives a (setting s) image → packet_answer s image ≡ one.answer (event_of (protected_at s a) image) (view s a)
  unfolding slot_answer view
  answer-here image r =
      (packet-placed s image (placed-zero s image (arrives-placed image r))).0
      ∙ ap (λ (n : ℕ). taken_number (reading_at (slot_at (find s n) s) image) (head_of (slot_at (find s n) s))) r.address
      ∙ (does image r.size).number

  pub packet-here : (image : List ℕ) → Arrives a (setting s) image → Kept (packet_after s image) a (one.after (event_of (protected_at s a) image) (view s a))
  unfolding slot_after
  packet-here image r =
      subst (λ (t : List ℕ). Kept t a (one.after (event_of (protected_at s a) image) (view s a)))
      (sym ((packet-placed s image (placed-zero s image (arrives-placed image r))).1 ∙ ap (changed image) r.address))
      (here-kept image r.size)

-- a slot of another address is another slot
apart-slot : (s : List ℕ) (a b : ℕ) → Serves s a → Serves s b → (b ≡ a → ⊥) → find s b ≡ find s a → ⊥
apart-slot s a b v w ne e = ne (sym (find-has s b w.found) ∙ ap (address_at s) e ∙ find-has s a v.found)

module _ (s : List ℕ) (a : ℕ) (v : Serves s a) where
  packet-apart : (image : List ℕ) → Placed s image → (address_of image ≡ a → ⊥) → Kept (slot_after s image) a (view s a)
  unfolding slot_after
  packet-apart image p ne =
      let b = address_of image in
      let both = followed-both s b p.place in
      let w : Serves s b = record { size = v.size; all = v.all; pos = both.0; found = both.1 } in
      let d = does s b w image p.size in
      let k = here-kept s b w image p.size in
      change-apart s a v (find s b) _ both.1 d.size (apart-slot s a b v w ne) k.serves.all
      (ne_eqb _ a (λ q. ne (sym (d.address ∙ here-address s b w) ∙ q))
      ∙ sym (ne_eqb (address_at s (find s b)) a (λ q. ne (sym (find-has s b both.1) ∙ q))))

  packet-acts : (image : List ℕ) (t : Bool) → arrives_at a (setting s) image ≡ t
      → Kept (packet_after s image) a (one.run (cond t (event_of (protected_at s a) image ∷ []) []) (view s a))
  unfolding one.run
  packet-acts image true e = packet-here s a v image (arrives-is a (setting s) image e)
  packet-acts image false e = go (ℕ_discrete (unplaced s image) 0)
    where
      go : Dec (unplaced s image ≡ 0) → Kept (packet_after s image) a (view s a)
      go (no ne) = subst (λ (t : List ℕ). Kept t a (view s a)) (sym (packet-refused s image ne).1) (change-none s a v)
      go (yes z) =
          let p = placed s image z in
          subst (λ (t : List ℕ). Kept t a (view s a)) (sym (packet-placed s image z).1)
          (packet-apart image p (λ q. clash (is-arrives a (setting s) image (record { size = p.size; spare = p.spare; within = p.within; address = q }))))
        where
          clash : arrives_at a (setting s) image ≡ true → ⊥
          clash q = subst T (sym q ∙ e) tt

  follow-acts : (w : Wish) → Kept (follow_after s w) a (view s a)
  unfolding follow_after
  follow-acts w =
      done-either (λ (t : List ℕ). Kept t a (view s a)) (follow_answer s w)
      (with_slot (find s 0) (with_head (new_head w) (slot_at (find s 0) s)) s) s (λ e. go (follow-passed s w e) e) (change-none s a v)
    where
      go : Followed s w → follow_answer s w ≡ 0 → Kept (with_slot (find s 0) (with_head (new_head w) (slot_at (find s 0) s)) s) a (view s a)
      go f e =
          let k = find s 0 in
          let lk = slot-length s v.size k f.room in
          let gh = good_new w f.wish in
          let new = with_head (new_head w) (slot_at k s) in
          let there : (head_of new).wish.address ≡ w.address = ap (λ (h : Head). h.wish.address) (good-load (new_head w) gh (slot_at k s) lk) in
          let other : w.address ≡ a → ⊥ = λ q. omega (arith, v.found, subst (λ (n : ℕ). slots ≤ find s n) q f.absent) in
          let zero : address_at s k ≡ 0 = find-has s 0 f.room in
          change-apart s a v k new f.room (with_head-length (new_head w) (slot_at k s) lk ∙ lk)
          (λ q. omega (arith, sym zero ∙ ap (address_at s) q ∙ find-has s a v.found, v.pos))
          (good-each _ (sym (ap good (done-passed (follow_answer s w) _ s e)) ∙ follow-good s w (each-good s v.all)))
          (ne_eqb (head_of new).wish.address a (λ q. other (sym there ∙ q)) ∙ sym (ne_eqb (address_at s k) a (λ q. omega (arith, sym zero ∙ q, v.pos))))

  leave-acts : (b : ℕ) → (b ≡ a → ⊥) → Kept (leave_after s b) a (view s a)
  unfolding leave_after
  leave-acts b ne =
      done-either (λ (t : List ℕ). Kept t a (view s a)) (leave_answer s b) (with_slot (find s b) (blank slot_size) s) s
      (λ e. go (leave-passed s b e).2 e) (change-none s a v)
    where
      go : find s b < slots → leave_answer s b ≡ 0 → Kept (with_slot (find s b) (blank slot_size) s) a (view s a)
      go h e =
          change-apart s a v (find s b) (blank slot_size) h (blank-length slot_size)
          (λ q. ne (sym (find-has s b h) ∙ ap (address_at s) q ∙ find-has s a v.found))
          (good-each _ (sym (ap good (done-passed (leave_answer s b) _ s e)) ∙ leave-good s b (each-good s v.all)))
          (ne_eqb (head_of (blank slot_size)).wish.address a (λ q. omega (arith, sym (ap (λ (y : Head). y.wish.address) (head-blank slot_size)) ∙ q, v.pos))
          ∙ sym (ne_eqb (address_at s (find s b)) a (λ q. ne (sym (find-has s b h) ∙ q))))

  pub end-zero : end_answer s ≡ 0
  unfolding end_answer
  end-zero = state-rest s [] v.size (each-good s v.all) ∙ refusal-none

  aged-here : seen_in (older (slot_at (find s a) s)) ≡ one.aged (view s a)
  unfolding view
  aged-here = view-aged (slot_at (find s a) s) (here-size s a v) (here-good s a v)

  pub end-acts : Kept (end_after s) a (one.after one.ended (view s a))
  unfolding end_after one.after
  end-acts =
      let t = ages slots 0 s in
      let aged : (j : ℕ) → j < slots → slot_at j t ≡ older (slot_at j s) = λ j h. ages-at slots 0 s (omega arith) v.size j (omega arith) h in
      let k = kept_by s a v t (older (slot_at (find s a) s)) (ages-long slots 0 s (omega arith) v.size) (ages-good slots 0 s (omega arith) v.size v.all)
      (λ j h. ap (λ (n : ℕ). eqb n a) (sym (address_is t j) ∙ ap (λ (y : List ℕ). (head_of y).wish.address) (aged j h)
      ∙ (aged-slot (slot_at j s) (slot-length s v.size j h) (v.all.slot j h)).1 ∙ address_is s j))
      (aged (find s a) v.found) in
      subst (λ (x : List ℕ). Kept x a (one.aged (view s a))) (sym (done-passed (end_answer s) t s end-zero))
      (record { serves = k.serves; seen = k.seen ∙ aged-here })

  set-acts : (most : ℕ) → Kept (set_after s most) a (view s a)
  unfolding set_after view
  set-acts most =
      done-either (λ (t : List ℕ). Kept t a (view s a)) (set_answer s most) (with_setting most s) s
      (λ e. kept_by s a v (with_setting most s) (slot_at (find s a) s) (set-length s v.size most)
      (good-set s v.size v.all most (set-passed s most e).1) (λ k h. ap (λ (n : ℕ). eqb n a) (address_kept s v.size most k h))
      (slot_kept s v.size most (find s a) v.found)) (change-none s a v)

  pub acts : (x : Call) → Stays a x → Kept (our_after x s) a (one.run (events_at a (protected_at s a) (setting s) x) (view s a))
  unfolding our_after events_at Stays one.run
  acts start st = absurd st
  acts (follow w) st = follow-acts w
  acts (leave b) st = leave-acts b st
  acts (packet image) st = packet-acts image (arrives_at a (setting s) image) refl
  acts subframe_end st = end-acts
  acts (set_flips most) st = set-acts most
  acts (asks q) st = change-none s a v

-- ---- follow

-- no other slot has the new address
only-slot : (s : List ℕ) (a k : ℕ) (b : List ℕ) (l : length s ≡ state_size) (h : k < slots) (lb : length b ≡ slot_size) → slots ≤ find s a
    → (j : ℕ) → j < slots → address_at (with_slot k b s) j ≡ a → Dec (j ≡ k) → j ≡ k
only-slot s a k b l h lb none j hj q (yes e) = e
only-slot s a k b l h lb none j hj q (no e) = absurd (find_none s a none j hj (sym (address-other s l k b h lb j e) ∙ q))

pub follow-serves : (s : List ℕ) (w : Wish) → follow_answer s w ≡ 0 → Kept (follow_after s w) w.address (one.followed w)
unfolding follow_after view
follow-serves s w e =
    let f = follow-passed s w e in
    let a = w.address in
    let k = find s 0 in
    let size = f.state.size in
    let lk = slot-length s size k f.room in
    let gh = good_new w f.wish in
    let new = with_head (new_head w) (slot_at k s) in
    let ln = with_head-length (new_head w) (slot_at k s) lk ∙ lk in
    let t = with_slot k new s in
    let there : (head_of new).wish.address ≡ a = ap (λ (h : Head). h.wish.address) (good-load (new_head w) gh (slot_at k s) lk) in
    let at : find t a ≡ k = find-only t a k f.room (address_same s size k new f.room ln ∙ there) (λ j hj q. only-slot s a k new size f.room ln f.absent j hj q (ℕ_discrete j k)) in
    let same : t ≡ follow_after s w = sym (done-passed (follow_answer s w) t s e) in
    subst (λ (x : List ℕ). Kept x a (one.followed w)) same
    (record {
      serves = record {
        size = with-length s size k new f.room ln;
        all = good-each t (ap good same ∙ follow-good s w f.state.all-good);
        pos = (wish-bounds w f.wish).address-from;
        found = subst (λ (n : ℕ). n < slots) (sym at) f.room;
      };
      seen = ap (λ (n : ℕ). seen_in (slot_at n t)) at ∙ ap seen_in (slot_same s size k new f.room ln) ∙ view-new w (slot_at k s) lk gh;
    })
