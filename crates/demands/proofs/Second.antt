-- Demand 2 for our calls: a group that is written and then read in order, with no more damage than the codes correct, is the group
-- that went in.
--
--   written_at      image i of what was written is the packet of the message's fourth i; fourths-whole: the four make the message
--   sent-sound      the images as they were written have no such damage: the demand's hypothesis can be met
--   step            one of the images arrives: its answer, the view after it, and the other slots as they were
--   four-answers, four-group, four-fresh     what four in turn make of any view
--   same-readers    the plain header reader gives what the table reader gives
--   demand-2
--
-- Assumes nothing.
use mathlib.Core.Path.{◌≡◌, refl, sym, ap, ap₂, ◌∙◌, subst}
use mathlib.Core.Bool.{Bool, true, false, ◌||◌}
use mathlib.Core.List.{List, [], ◌∷◌, ◌++◌}
use Prim.Native.Nat.{ℕ, zero, suc, ◌+◌, ◌*◌, ◌≤◌, ◌<◌}
use native.Mathlib.Omega.{arith}
use native.Mathlib.Decide.{ℕ_discrete}
use native.Mathlib.Nat.{le_trans, mul-le-mul_right}
use borrow.Author.Tests.{le-ltb, ne_eqb}
use lib.Dec.{ltb, eqb}
use lib.ListN.{length, take, drop, length-append}
use lib.Seq.{take_at, drop_at, take_all, drop-drop}
use Rattle.bits.proofs.Rows.{done-passed}
use Rattle.bits.proofs.Runs.{below-take, below-drop}
use Rattle.bits.specs.Bits.{flips}
use Rattle.bare.specs.Bare.{HeaderAnswer}
use Rattle.plain.proofs.Theorems.{plain-is-table}
use Rattle.image.specs.Image.{header_of, spare_of}
use Rattle.packet.specs.Received.{received, readable_as}
use Rattle.packet.specs.Damage.{data_size, sent_image, Corrected}
use Rattle.packet.specs.Received.{ReadingAnswer}
use Rattle.packet.proofs.Answers.{filled-begins}
use Rattle.packet.proofs.Damages.{header-came, header-flipped-by, received-corrected, sent-corrected, sent-spare}
use Rattle.runs.specs.Part.{part}
use Rattle.slot.specs.Slot.{head_of}
use Rattle.head.specs.Head.{ask_number}
use Rattle.head.specs.Move.{per_of, needs_of, row_of, move_of, move_number, moved_head}
use Rattle.runs.proofs.Parts.{part-cat, part_length}
use Rattle.table.specs.State.{setting, slot_at, address_at, find}
use Rattle.table.proofs.States.{find-has, address_is, used-one}
use Rattle.asking.proofs.Laws.{shown-5}
use Rattle.history.specs.Followed.{Followed, Event, moved, begun, joined, last_of, after, answer}
use Rattle.history.specs.Followed as one
use Rattle.adapter.specs.Calls.{address_of, flips_of, group_size, images_size, packet_of, group_images, packet_answer, packet_after, write_answer, write_after}
use Rattle.adapter.proofs.Writing.{packet-length, write-0}
use Rattle.demands.specs.Machine.{ours, our_answer, our_after, Bytes, run, question_answer, read_within, read_plain, bare_number, bare_values}
use Rattle.demands.specs.Demand2.{Follows, Writable, image_at, Sound, answers_to, packets, ReadBack, Demand2}
use Rattle.demands.specs.Seen.{event_of, seen_in}
use Rattle.demands.proofs.Serving.{Serves, view, Kept, here-address, here-wish}
use Rattle.demands.proofs.Acting.{event-read, protected_at}
use Rattle.demands.proofs.Calling.{Arrives, arrives-placed, answer-here, packet-here}
use Rattle.demands.proofs.Parts.{ask-here, shown-here, followed-serves, placed-setting, placed-others}
use Rattle.head.specs.declared.Wish.{Wish}
use Rattle.head.proofs.Moves.{moved-wish}

-- ---- what is written

module _ (p : Bool) (a : ℕ) (m : List ℕ) where
  abbrev x : ℕ → List ℕ
  x i = packet_of p a m i

  abbrev from-2 : List ℕ
  from-2 = x 2 ++ x 3

  abbrev from-1 : List ℕ
  from-1 = x 1 ++ from-2

  -- the first of several images, and those behind it
  first : (i : ℕ) (y : List ℕ) → part 0 94 (x i ++ y) ≡ x i
  unfolding part
  first i y = take_at (x i) y 94 (packet-length p a m i)

  behind : (k i : ℕ) (y : List ℕ) → part (94 + k) 94 (x i ++ y) ≡ part k 94 y
  unfolding part
  behind k i y = ap (take 94) (sym (drop-drop k 94 (x i ++ y)) ∙ ap (drop k) (drop_at (x i) y 94 (packet-length p a m i)))

  images-at : (i : ℕ) → i < 4 → image_at (group_images p a m) i ≡ x i
  unfolding group_images part
  images-at zero h = first 0 from-1
  images-at (suc zero) h = behind 0 0 from-1 ∙ first 1 from-2
  images-at (suc (suc zero)) h = behind 94 0 from-1 ∙ behind 0 1 from-2 ∙ first 2 (x 3)
  images-at (suc (suc (suc zero))) h =
      behind 188 0 from-1 ∙ behind 94 1 from-2 ∙ behind 0 2 (x 3) ∙ take_all 94 (x 3) (omega (arith, packet-length p a m 3))
  images-at (suc (suc (suc (suc i)))) h = absurd (omega arith)

  images-length : length (group_images p a m) ≡ 376
  unfolding group_images
  images-length =
      let l = packet-length p a m in
      length-append (x 0) from-1 ∙ ap₂ (λ (j k : ℕ). j + k) (l 0)
      (length-append (x 1) from-2 ∙ ap₂ (λ (j k : ℕ). j + k) (l 1) (length-append (x 2) (x 3) ∙ ap₂ (λ (j k : ℕ). j + k) (l 2) (l 3)))

-- a fourth of the message
abbrev fourth : Bool → List ℕ → ℕ → List ℕ
fourth q m i = part (i * data_size q) (data_size q) m

fourth-length : (q : Bool) (m : List ℕ) (i : ℕ) → i < 4 → length m ≡ group_size q → length (fourth q m i) ≡ data_size q
fourth-length q m i h l =
    let most : i ≤ 3 = omega arith in
    part_length (i * data_size q) (data_size q) m (omega (arith, mul-le-mul_right (data_size q) most))

fourth-bytes : (q : Bool) (m : List ℕ) (i : ℕ) → Bytes m → Bytes (fourth q m i)
unfolding part
fourth-bytes q m i b = below-take (data_size q) (drop (i * data_size q) m) (below-drop (i * data_size q) m b)

-- the four make the message
fourths-whole : (q : Bool) (m : List ℕ) → length m ≡ group_size q
    → (((fourth q m 0 ++ fourth q m 1) ++ fourth q m 2) ++ fourth q m 3) ≡ m
unfolding part
fourths-whole true m l =
    sym (part-cat 0 135 45 m ∙ ap (λ (x : List ℕ). x ++ part 135 45 m) (part-cat 0 90 45 m
    ∙ ap (λ (x : List ℕ). x ++ part 90 45 m) (part-cat 0 45 45 m)))
    ∙ take_all 180 m (omega arith)
fourths-whole false m l =
    sym (part-cat 0 270 90 m ∙ ap (λ (x : List ℕ). x ++ part 270 90 m) (part-cat 0 180 90 m
    ∙ ap (λ (x : List ℕ). x ++ part 180 90 m) (part-cat 0 90 90 m)))
    ∙ take_all 360 m (omega arith)

module _ (a p : ℕ) (m o : List ℕ) (w : Writable a p m o) where
  write-zero : write_answer a p (length m) (length o) ≡ 0
  write-zero =
      let inside : (ltb a 1 || ltb 1022 a) ≡ false = ap₂ (λ (x y : Bool). x || y) (le-ltb a 1 w.address-from) (le-ltb 1022 a w.address-to) in
      sym (write-0 a p (length m) (length o) inside w.protection (group_size (eqb p 1)) refl w.message w.output)

  pub written-images : write_after a p m o ≡ group_images (eqb p 1) a m
  unfolding write_after
  written-images = done-passed (write_answer a p (length m) (length o)) (group_images (eqb p 1) a m) o write-zero

  pub written-length : length (write_after a p m o) ≡ 376
  written-length = ap length written-images ∙ images-length (eqb p 1) a m

  written_at : (i : ℕ) → i < 4 → image_at (write_after a p m o) i ≡ sent_image (eqb p 1) a i (fourth (eqb p 1) m i)
  unfolding packet_of
  written_at i h = ap (λ (x : List ℕ). image_at x i) written-images ∙ images-at (eqb p 1) a m i h

-- ---- no damage is no more than the codes correct

pub sent-sound : (a p : ℕ) (message output : List ℕ) → Writable a p message output → Bytes message → (i : ℕ) → i < 4
    → Sound (eqb p 1) 0 (write_after a p message output) i (image_at (write_after a p message output) i)
sent-sound a p m o w b i h =
    let q = eqb p 1 in
    let e = written_at a p m o w i h in
    record {
      corrected = subst (λ (x : List ℕ). Corrected q 0 x x) (sym e) (sent-corrected q 0 a i (fourth q m i));
      spare = ap spare_of e ∙ sent-spare q a i (fourth q m i) (omega (arith, w.address-to)) (omega arith) (fourth-length q m i h w.message) (fourth-bytes q m i b);
    }

-- and so at every setting
pub sound_more : (q : Bool) (most : ℕ) (o : List ℕ) (i : ℕ) (t : List ℕ) → Sound q 0 o i t → Sound q most o i t
sound_more q most o i t x =
    let c = x.corrected in
    record {
      corrected = record { size = c.size; header = le_trans c.header (omega arith); type = c.type; useful = c.useful };
      spare = x.spare;
    }

-- ---- one image arrives

-- a followed address, the slot that it has, and its view
record Reads (s : List ℕ) (a : ℕ) (q : Bool) (most k : ℕ) (f : Followed) : Type 0 where
  serves : Serves s a
  protection : protected_at s a ≡ q
  set : setting s ≡ most
  place : find s a ≡ k
  seen : view s a ≡ f

record Step (s t : List ℕ) (a : ℕ) (q : Bool) (most k : ℕ) (f : Followed) (e : Event) : Type 0 where
  number : packet_answer s t ≡ answer e f
  next : Reads (packet_after s t) a q most k (after e f)
  others : (j : ℕ) → (j ≡ k → ⊥) → slot_at j (packet_after s t) ≡ slot_at j s

-- an image that came of what was sent of packet i to the address
record Brings (q : Bool) (most a i : ℕ) (d t : List ℕ) : Type 0 where
  index : i ≤ 3
  size : length d ≡ data_size q
  bytes : Bytes d
  corrected : Corrected q most (sent_image q a i d) t
  spare : spare_of t ≡ 0

after-protection : (i : ℕ) (d : List ℕ) (f : Followed) → (after (one.packet i d) f).head.wish.protection ≡ f.head.wish.protection
unfolding after moved
after-protection i d f = ap (λ (w : Wish). w.protection) (moved-wish (move_of f.per f.needs f.head.awaited i) f.head)

seen-protection : (s : List ℕ) (a : ℕ) (f : Followed) → view s a ≡ f → protected_at s a ≡ eqb f.head.wish.protection 1
unfolding view seen_in
seen-protection s a f e = ap (λ (g : Followed). eqb g.head.wish.protection 1) e

event-sent : (q : Bool) (i : ℕ) (d t : List ℕ) → received q t ≡ readable_as i d → length d ≡ data_size q → event_of q t ≡ one.packet i d
event-sent q i d t e l =
    event-read q t (ap (λ (r : ReadingAnswer). r.number) e)
    ∙ ap (λ (r : ReadingAnswer). one.packet r.index (take (data_size q) r.bytes)) e
    ∙ ap (one.packet i) (filled-begins (data_size q) d l)

module _ (s : List ℕ) (a : ℕ) (q : Bool) (most k : ℕ) (f : Followed) (r : Reads s a q most k f) (i : ℕ) (d t : List ℕ) (b : Brings q most a i d t) where
  known : a ≤ 1023
  known = omega (arith, (here-wish s a r.serves).address-to, here-address s a r.serves)

  few : most ≤ 3
  few = omega (arith, r.set, r.serves.all.setting)

  header-few : flips (header_of (sent_image q a i d)) (header_of t) ≤ 3
  header-few = le_trans b.corrected.header few

  arrives : Arrives a (setting s) t
  unfolding address_of flips_of
  arrives = record {
    size = b.corrected.size;
    spare = ne_eqb (spare_of t) 1 (λ e. omega (arith, e, b.spare));
    within = omega (arith, header-flipped-by q a i d known b.index b.size b.bytes t header-few, b.corrected.header, r.set);
    address = (header-came q a i d known b.index b.size b.bytes t header-few).0;
  }

  event-here : event_of (protected_at s a) t ≡ one.packet i d
  event-here =
      ap (λ (x : Bool). event_of x t) r.protection
      ∙ event-sent q i d t (received-corrected q most a i d t few known b.index b.size b.bytes b.corrected) b.size

  others-here : (j : ℕ) → (j ≡ find s a → ⊥) → slot_at j (packet_after s t) ≡ slot_at j s
  others-here j ne = placed-others s t (arrives-placed s a r.serves t arrives) j (λ e. ne (e ∙ ap (find s) arrives.address))

  kept_here : Kept (packet_after s t) a (after (one.packet i d) f)
  kept_here =
      let k = packet-here s a r.serves t arrives in
      record { serves = k.serves; seen = k.seen ∙ ap₂ after event-here r.seen }

  -- no other slot has the address, for each is as it was
  place_here : find (packet_after s t) a ≡ find s a
  place_here = go (ℕ_discrete (find u a) (find s a))
    where
      u : List ℕ
      u = packet_after s t

      go : Dec (find u a ≡ find s a) → find u a ≡ find s a
      go (yes e) = e
      go (no ne) =
          let v = r.serves in
          let h = kept_here.serves.found in
          let was : address_at s (find u a) ≡ a =
          sym (address_is s (find u a)) ∙ ap (λ (x : List ℕ). (head_of x).wish.address) (sym (others-here (find u a) ne)) ∙ address_is u (find u a)
          ∙ find-has u a h in
          let now = find-has s a v.found in
          used-one s v.all (find u a) (find s a) h v.found (was ∙ sym now) (subst (λ (n : ℕ). 0 < n) (sym now) v.pos)

  step : Step s t a q most k f (one.packet i d)
  step = record {
    number = answer-here s a r.serves t arrives ∙ ap₂ answer event-here r.seen;
    next = record {
      serves = kept_here.serves;
      protection = seen-protection (packet_after s t) a _ kept_here.seen ∙ ap (λ (n : ℕ). eqb n 1) (after-protection i d f)
          ∙ sym (seen-protection s a f r.seen) ∙ r.protection;
      set = placed-setting s t (arrives-placed s a r.serves t arrives) ∙ r.set;
      place = place_here ∙ r.place;
      seen = kept_here.seen;
    };
    others = λ j ne. others-here j (λ e. ne (e ∙ r.place));
  }

-- ---- the four

module _ (f : Followed) (d : ℕ → List ℕ) where
  abbrev f1 : Followed
  f1 = after (one.packet 0 (d 0)) f

  abbrev f2 : Followed
  f2 = after (one.packet 1 (d 1)) f1

  abbrev f3 : Followed
  f3 = after (one.packet 2 (d 2)) f2

  abbrev f4 : Followed
  f4 = after (one.packet 3 (d 3)) f3

module _ (s : List ℕ) (a : ℕ) (d : ℕ → List ℕ) where
  abbrev seen : Followed
  seen = view s a

  -- "1 started", "2 held" twice, "3 whole", whatever was awaited
  four-answers : (answer (one.packet 0 (d 0)) seen ∷ answer (one.packet 1 (d 1)) (f1 seen d)
      ∷ answer (one.packet 2 (d 2)) (f2 seen d) ∷ answer (one.packet 3 (d 3)) (f3 seen d) ∷ []) ≡ 1 ∷ 2 ∷ 2 ∷ 3 ∷ []
  unfolding view seen_in after answer moved per_of needs_of row_of move_of move_number moved_head
  four-answers = refl

  four-group : (f4 seen d).last ≡ (((d 0 ++ d 1) ++ d 2) ++ d 3)
  unfolding view seen_in after moved per_of needs_of row_of move_of moved_head begun joined last_of
  four-group = refl

  four-fresh : 1 ≤ seen.head.wish.limit → ask_number (f4 seen d).head ≡ 5
  unfolding view seen_in after moved per_of needs_of row_of move_of moved_head
  four-fresh h = shown-5 (f4 seen d).head (λ e. omega (arith, e)) h (λ e. omega (arith, e))

module _ (s : List ℕ) (a p : ℕ) (m o t0 t1 t2 t3 : List ℕ) (w : Follows s a p) (lm : length m ≡ group_size (eqb p 1)) (bm : Bytes m)
    (lo : length o ≡ images_size) where
  abbrev q : Bool
  q = eqb p 1

  abbrev d : ℕ → List ℕ
  d i = fourth q m i

  abbrev k : ℕ
  k = find s a

  abbrev f : Followed
  f = view s a

  serves : Serves s a
  serves = followed-serves s a w.size w.good w.found

  limit-from : 1 ≤ f.head.wish.limit
  unfolding view seen_in
  limit-from = (here-wish s a serves).limit-from

  abbrev most : ℕ
  most = setting s

  brings : (i : ℕ) (t : List ℕ) → i < 4 → Sound q most (write_after a p m o) i t → Brings q most a i (d i) t
  brings i t h sound =
      let b = here-wish s a serves in
      let e = here-address s a serves in
      let writable : Writable a p m o = record {
        address-from = omega (arith, b.address-from, e);
        address-to = omega (arith, b.address-to, e);
        protection = omega (arith, b.protection-to, w.protection);
        message = lm;
        output = lo;
      } in
      record {
        index = omega arith;
        size = fourth-length q m i h lm;
        bytes = fourth-bytes q m i bm;
        corrected = subst (λ (x : List ℕ). Corrected q most x t) (written_at a p m o writable i h) sound.corrected;
        spare = sound.spare;
      }

  module _ (h0 : Sound q most (write_after a p m o) 0 t0) (h1 : Sound q most (write_after a p m o) 1 t1)
      (h2 : Sound q most (write_after a p m o) 2 t2) (h3 : Sound q most (write_after a p m o) 3 t3) where
    step-0 : Step s t0 a q most k f (one.packet 0 (d 0))
    step-0 =
        step s a q most k f (record { serves = serves; protection = ap (λ (n : ℕ). eqb n 1) w.protection; set = refl; place = refl; seen = refl })
        0 (d 0) t0 (brings 0 t0 (omega arith) h0)

    abbrev s1 : List ℕ
    s1 = packet_after s t0

    step-1 : Step s1 t1 a q most k (f1 f d) (one.packet 1 (d 1))
    step-1 = step s1 a q most k (f1 f d) step-0.next 1 (d 1) t1 (brings 1 t1 (omega arith) h1)

    abbrev s2 : List ℕ
    s2 = packet_after s1 t1

    step-2 : Step s2 t2 a q most k (f2 f d) (one.packet 2 (d 2))
    step-2 = step s2 a q most k (f2 f d) step-1.next 2 (d 2) t2 (brings 2 t2 (omega arith) h2)

    abbrev s3 : List ℕ
    s3 = packet_after s2 t2

    step-3 : Step s3 t3 a q most k (f3 f d) (one.packet 3 (d 3))
    step-3 = step s3 a q most k (f3 f d) step-2.next 3 (d 3) t3 (brings 3 t3 (omega arith) h3)

    abbrev s4 : List ℕ
    s4 = packet_after s3 t3

    read_back : ReadBack ours s a m (t0 ∷ t1 ∷ t2 ∷ t3 ∷ [])
    unfolding answers_to packets run question_answer our_answer our_after
    read_back =
        let r = step-3.next in
        record {
          size = r.serves.size ∙ sym w.size;
          answers = (λ i. step-0.number i ∷ step-1.number i ∷ step-2.number i ∷ step-3.number i ∷ []) ∙ four-answers s a d;
          fresh = ask-here s4 a r.serves ∙ ap (λ (g : Followed). ask_number g.head) r.seen ∙ four-fresh s a d limit-from;
          group = shown-here s4 a r.serves ∙ ap (λ (g : Followed). g.last) r.seen ∙ four-group s a d ∙ fourths-whole q m lm;
          others = λ j h ne. step-3.others j ne ∙ step-2.others j ne ∙ step-1.others j ne ∙ step-0.others j ne;
        }

-- ---- the two header readers

same-readers : (n most : ℕ) → (bare_number (read_plain n most) ≡ bare_number (read_within n most)) × (bare_values (read_plain n most) ≡ bare_values (read_within n most))
unfolding bare_number bare_values
same-readers n most =
    (ap (λ (h : HeaderAnswer). h.number) (plain-is-table n most), ap (λ (h : HeaderAnswer). h.address ∷ h.index ∷ h.flips ∷ []) (plain-is-table n most))

pub demand-2 : Demand2 ours
demand-2 = record {
  numbers = λ x. refl;
  values = λ x. refl;
  readers = same-readers;
  writes = write-zero;
  images = written-images;
  size = written-length;
  sound = sent-sound;
  back = read_back;
}
