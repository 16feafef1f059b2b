-- Never sure without reason: a map started anywhere, that misses frames.
--
--   read-back         the field of a frame, written and read
--   take-known        one frame that is heard, by what the map holds before it
--   reach-known       from the last frame heard, up to 128 frames before
--   State, state-at   what the map has heard before a frame
--
-- Assumes nothing.
use mathlib.Core.Path.{◌≡◌, refl, sym, ap, ap₂, ◌∙◌, subst}
use mathlib.Core.Bool.{Bool, true, false, cond, ◌&&◌, ◌||◌, and-true, and-false}
use mathlib.Core.List.{List}
use mathlib.Core.Logic.{◌⊎◌, inl, inr}
use Prim.Native.Nat.{ℕ, zero, suc, ◌+◌, ◌-◌, ◌^◌, ◌≤◌, ◌<◌}
use native.Mathlib.Omega.{arith}
use native.Mathlib.Decide.{ℕ_discrete, dec_lt}
use borrow.Author.Tests.{ne_eqb, le-ltb, lt-ltb}
use lib.Dec.{T, ltb, eqb}
use Rattle.bits.specs.Bits.{blank}
use Rattle.bits.proofs.Rows.{done-passed}
use Rattle.runs.proofs.Parts.{blank-at}
use Rattle.field.specs.Field.{field_of, field_bytes}
use Rattle.field.specs.declared.Field.{Field}
use Rattle.field.proofs.RoundTrip.{read-written}
use Rattle.frames.specs.Counts.{since, changes, changing, again, skips, row_after, frames_after, all_heard}
use Rattle.frames.specs.declared.Frames.{Frames}
use Rattle.map.specs.Map.{ids, map_size, frames_of, with_frames, each_from, changed_from, spoiled_both}
use Rattle.map.specs.Calls.{taken_in, changed_to, up_to, frame_taken, take_answer, take_after}
use Rattle.multiplex.specs.Broadcast.{count_at, change, epoch}
use Rattle.multiplex.specs.Heard.{ours}
use Rattle.multiplex.specs.Air.{Carries, new, old, gone, vectors, Air, timed, carried_as, field_on, InTurn, Orderly}
use Rattle.multiplex.specs.Sound.{kept, missed_before, any_before, in_row, Listener}
use Rattle.multiplex.specs.Finding.{Near}
use Rattle.multiplex.proofs.Counting.{begins-change, heard_all, count-lt}
use Rattle.multiplex.proofs.Distances.{since-is, count-apart, changes-epoch, epoch-either, epoch-step, epoch-mono}
use Rattle.multiplex.proofs.Listening.{capped, Known, Before, field-known}
use Rattle.multiplex.proofs.Missing.{Gap, gap-before}
use Rattle.multiplex.proofs.Reaching.{near_same, near-change, far-change, first-before}

-- ---- the field's numbers

record Wide (r : Field) (c : ℕ) : Type 0 where
  count : r.count ≡ c
  flag : r.flag < 2
  id : r.id < 256
  tdms : r.tdms < 2 ^ 62
  links : r.links < 2

wide-as : (a : Air) (w : Orderly a) (t : ℕ) (c : Carries) → InTurn a t c → Wide (carried_as a t c) (count_at (timed a) t)
unfolding carried_as InTurn
wide-as a w t (new k i l) law = record {
  count = refl;
  flag = omega arith;
  id = law.0;
  tdms = ((w.linked (suc (epoch (timed a) t)) k law.0).fit i law.1.0).width;
  links = law.1.1.0;
}
wide-as a w t (old k i l) law = record {
  count = refl;
  flag = omega arith;
  id = law.0;
  tdms = ((w.linked (epoch (timed a) t) k law.0).fit i law.1.0).width;
  links = law.1.1.0;
}
wide-as a w t (gone flag k tdms l) law =
    let b = law.1.1.1.1.1.1 in
    record { count = refl; flag = b.flags; id = law.0; tdms = b.width; links = b.links }
wide-as a w t (vectors flag tdms l) law =
    record { count = refl; flag = law.flags; id = omega arith; tdms = law.width; links = law.links }

wide : (a : Air) (w : Orderly a) (t : ℕ) → Wide (field_on a t) (count_at (timed a) t)
unfolding field_on
wide a w t = wide-as a w t (a.carries t) (w.turns t)

pub read_back : (a : Air) (w : Orderly a) (t : ℕ) → field_of (field_bytes (field_on a t)) ≡ field_on a t
read_back a w t =
    let s = wide a w t in
    read-written (field_on a t) (omega (arith, s.count, count-lt (timed a) t)) s.flag s.id s.tdms s.links

abbrev frames_at : Air → (ℕ → Bool) → ℕ → Bool → Frames
frames_at a hears t u = record { last = count_at (timed a) t; heard = 1; unbroken = cond u 1 0; row = capped (in_row hears t) }

-- ---- frames in a row

capped-next : (n : ℕ) → row_after false (capped n) ≡ capped (suc n)
unfolding row_after capped
capped-next n = go (dec_lt n 255) (dec_lt (suc n) 255)
  where
    go : Dec (n < 255) → Dec (suc n < 255) → cond (ltb (cond (ltb n 255) n 255) 255) (cond (ltb n 255) n 255 + 1) 255 ≡ cond (ltb (suc n) 255) (suc n) 255
    go (yes p) (yes q) =
        let x = lt-ltb n 255 p in
        (λ i. cond (ltb (cond (x i) n 255) 255) (cond (x i) n 255 + 1) 255) ∙ ap (λ (b : Bool). cond b (n + 1) 255) x ∙ one_on n
        ∙ sym (ap (λ (b : Bool). cond b (suc n) 255) (lt-ltb (suc n) 255 q))
      where
        one_on : (k : ℕ) → k + 1 ≡ suc k
        one_on k = omega arith
    go (yes p) (no q) =
        let x = lt-ltb n 255 p in
        let full : n + 1 ≡ 255 = omega (arith, p, q) in
        (λ i. cond (ltb (cond (x i) n 255) 255) (cond (x i) n 255 + 1) 255) ∙ ap (λ (b : Bool). cond b (n + 1) 255) x ∙ full
        ∙ sym (ap (λ (b : Bool). cond b (suc n) 255) (le-ltb (suc n) 255 (omega (arith, q))))
    go (no p) q =
        let x = le-ltb n 255 (omega (arith, p)) in
        (λ i. cond (ltb (cond (x i) n 255) 255) (cond (x i) n 255 + 1) 255)
        ∙ sym (ap (λ (b : Bool). cond b (suc n) 255) (le-ltb (suc n) 255 (omega (arith, p))))

row_on : (hears : ℕ → Bool) (T t : ℕ) → t ≡ suc T → hears t ≡ true → in_row hears t ≡ suc (in_row hears T)
unfolding in_row
row_on hears T t e h = ap (in_row hears) e ∙ ap (λ (b : Bool). cond b (suc (in_row hears T)) 0) (ap hears (sym e) ∙ h)

-- the frame before it was not heard
row_first : (hears : ℕ → Bool) (t : ℕ) → 0 < t → (hears (t - 1) ≡ true → ⊥) → hears t ≡ true → in_row hears t ≡ 1
unfolding in_row
row_first hears zero p ne h = absurd (omega arith)
row_first hears (suc t) p ne h = ap (λ (b : Bool). cond b (suc (in_row hears t)) 0) h ∙ ap suc (none t (λ q. ne (ap hears (minus t) ∙ q)))
  where
    minus : (k : ℕ) → suc k - 1 ≡ k
    minus k = omega arith

    none : (k : ℕ) → (hears k ≡ true → ⊥) → in_row hears k ≡ 0
    none zero q = go (hears zero) refl
      where
        go : (b : Bool) → hears zero ≡ b → ◌≡◌ {A = ℕ} (cond b 1 0) 0
        go true e = absurd (q e)
        go false e = refl
    none (suc k) q = go (hears (suc k)) refl
      where
        go : (b : Bool) → hears (suc k) ≡ b → cond b (suc (in_row hears k)) 0 ≡ 0
        go true e = absurd (q e)
        go false e = refl

-- ---- one frame

module _ (a : Air) (w : Orderly a) (hears : ℕ → Bool) (t : ℕ) (m : List ℕ) (not-refused : take_answer m (field_bytes (field_on a t)) ≡ 0)
    (heard : hears t ≡ true) where
  take-known : (M : List ℕ) (u : Bool) → Before a hears t M u → up_to m (count_at (timed a) t) ≡ M → again (frames_of m) (count_at (timed a) t) ≡ false
      → frames_after (frames_of m) (count_at (timed a) t) ≡ frames_at a hears t u → Known a hears t (take_after m (field_bytes (field_on a t))) u
  unfolding take_after frame_taken
  take-known M u h up fresh then =
      let r : Field = field_on a t in
      let s = wide a w t in
      let is : take_after m (field_bytes r) ≡ with_frames (frames_after (frames_of m) (count_at (timed a) t)) (taken_in r M) =
      done-passed (take_answer m (field_bytes r)) (frame_taken m (field_of (field_bytes r))) m not-refused ∙ ap (frame_taken m) (read_back a w t)
      ∙ ap (λ (c : ℕ). cond (again (frames_of m) c) m (with_frames (frames_after (frames_of m) c) (taken_in r (up_to m c)))) s.count
      ∙ (λ i. cond (fresh i) m (with_frames (frames_after (frames_of m) (count_at (timed a) t)) (taken_in r (up i)))) in
      subst (λ (x : List ℕ). Known a hears t x u) (sym is) (field-known a w hears t M u h heard _ then)

-- ---- from the last frame that was heard

module _ (a : Air) (w : Orderly a) (hears : ℕ → Bool) (T g : ℕ) (pos : 0 < g) (most : g ≤ 128) (m : List ℕ) (u : Bool) (k : Known a hears T m u)
    (not-refused : take_answer m (field_bytes (field_on a (T + g))) ≡ 0) (gap : Gap hears T (T + g)) (heard : hears (T + g) ≡ true) where
  abbrev t : ℕ
  t = T + g

  abbrev c : ℕ
  c = count_at (timed a) t

  abbrev f : Frames
  f = frames_at a hears T u

  fresh : again (frames_of m) c ≡ false
  unfolding again
  fresh = ap (λ (x : Frames). again x c) k.frames ∙ ne_eqb (count_at (timed a) T) c (count-apart (timed a) T g pos most)

  changing-is : changing (frames_of m) c ≡ ltb (epoch (timed a) T) (epoch (timed a) t)
  unfolding changing
  changing-is = ap (λ (x : Frames). changing x c) k.frames ∙ changes-epoch (timed a) T g pos most

  skips-is : skips (frames_of m) c ≡ ltb 1 g
  unfolding skips
  skips-is = ap (λ (x : Frames). skips x c) k.frames ∙ ap (ltb 1) (since-is (timed a) T g pos most)

  heard-is : (x : Bool) → change (timed a) (suc T) ≡ x → all_heard (frames_of m) ≡ (u && x)
  heard-is x e = ap all_heard k.frames ∙ heard_all (timed a) T u _ ∙ ap (λ (b : Bool). u && b) e

  frames-near : g ≡ 1 → skips (frames_of m) c ≡ false → (x : Bool) → change (timed a) t ≡ x → frames_after (frames_of m) c ≡ frames_at a hears t (cond x true u)
  unfolding frames_after
  frames-near one s x e =
      (λ i. record {
        last = c;
        heard = 1;
        unbroken = cond ((begins-change (timed a) t ∙ e) i) 1 (cond (s i) 0 (k.frames i).unbroken);
        row = row_after (s i) (k.frames i).row;
      })
      ∙ (λ i. record { last = c; heard = 1; unbroken = mark x i; row = row_next i })
    where
      mark : (y : Bool) → ◌≡◌ {A = ℕ} (cond y 1 (cond u 1 0)) (cond (cond y true u) 1 0)
      mark true = refl
      mark false = refl

      row_next : row_after false (capped (in_row hears T)) ≡ capped (in_row hears t)
      row_next = capped-next (in_row hears T) ∙ ap capped (sym (row_on hears T t (omega (arith, one)) heard))

  frames-far : 1 < g → skips (frames_of m) c ≡ true → frames_after (frames_of m) c ≡ frames_at a hears t (change (timed a) t)
  unfolding frames_after row_after capped
  frames-far h s =
      λ i. record {
        last = c;
        heard = 1;
        unbroken = cond (begins-change (timed a) t i) 1 (cond (s i) 0 (frames_of m).unbroken);
        row = (ap (λ (b : Bool). row_after b (frames_of m).row) s ∙ row-anew) i;
      }
    where
      row-anew : 1 ≡ capped (in_row hears t)
      row-anew = ap capped (sym (row_first hears t (omega arith) (λ q. omega (arith, h, gap (t - 1) (omega arith) q)) heard))

  up-to : (x s y : Bool) → changing (frames_of m) c ≡ x → skips (frames_of m) c ≡ s → all_heard (frames_of m) ≡ y
      → up_to m c ≡ cond s (each_from ids 0 spoiled_both (cond x (changed_from ids 0 y m) m)) (cond x (changed_from ids 0 y m) m)
  unfolding up_to changed_to
  up-to x s y ex es ey = λ i. cond (es i) (each_from ids 0 spoiled_both (cond (ex i) (changed_from ids 0 (ey i) m) m)) (cond (ex i) (changed_from ids 0 (ey i) m) m)

  same-yet : epoch (timed a) t ≡ epoch (timed a) T → changing (frames_of m) c ≡ false
  same-yet e = changing-is ∙ le-ltb (epoch (timed a) T) (epoch (timed a) t) (omega (arith, e))

  changed-by : epoch (timed a) t ≡ suc (epoch (timed a) T) → changing (frames_of m) c ≡ true
  changed-by e = changing-is ∙ lt-ltb (epoch (timed a) T) (epoch (timed a) t) (omega (arith, e))

  -- frames are missed: behind the first frame of a configuration, or within one, or about a change
  far : 1 < g → Known a hears t (take_after m (field_bytes (field_on a t))) (change (timed a) t)
  far h = go (skips-is ∙ lt-ltb 1 g h) (change (timed a) (suc T)) refl (epoch-either (timed a) T g most)
    where
      missed : suc T < t
      missed = omega (arith, h)

      go : skips (frames_of m) c ≡ true → (x : Bool) → change (timed a) (suc T) ≡ x → (epoch (timed a) t ≡ epoch (timed a) T) ⊎ (epoch (timed a) t ≡ suc (epoch (timed a) T))
          → Known a hears t (take_after m (field_bytes (field_on a t))) (change (timed a) t)
      go s true q (inl e) = absurd (omega (arith, e, epoch-step (timed a) T true q, epoch-mono (timed a) (suc T) t (omega (arith, missed))))
      go s true q (inr e) =
          take-known a w hears t m not-refused heard _ (change (timed a) t)
          (gap-before a w hears T t missed gap k.heard (e ∙ sym (epoch-step (timed a) T true q)) _ true (near-change a w hears T m u k q))
          (up-to true true u (changed-by e) s (heard-is true q ∙ and-true u)) fresh (frames-far h s)
      go s false q (inl e) =
          take-known a w hears t m not-refused heard _ (change (timed a) t)
          (gap-before a w hears T t missed gap k.heard (e ∙ sym (epoch-step (timed a) T false q)) m u (near_same a w hears T m u k q))
          (up-to false true false (same-yet e) s (heard-is false q ∙ and-false u)) fresh (frames-far h s)
      go s false q (inr e) =
          take-known a w hears t m not-refused heard _ (change (timed a) t) (far-change a w hears T m u k t missed gap e q)
          (up-to true true false (changed-by e) s (heard-is false q ∙ and-false u)) fresh (frames-far h s)

  near : g ≡ 1 → t ≡ suc T → Known a hears t (take_after m (field_bytes (field_on a t))) (cond (change (timed a) t) true u)
  near one e =
      let s : skips (frames_of m) c ≡ false = skips-is ∙ le-ltb 1 g (omega (arith, one)) in
      go s (change (timed a) t) refl
    where
      back : (x : Bool) → change (timed a) t ≡ x → change (timed a) (suc T) ≡ x
      back x q = ap (change (timed a)) (sym e) ∙ q

      go : skips (frames_of m) c ≡ false → (x : Bool) → change (timed a) t ≡ x → Known a hears t (take_after m (field_bytes (field_on a t))) (cond x true u)
      go s true q =
          let up : epoch (timed a) t ≡ suc (epoch (timed a) T) = ap (epoch (timed a)) e ∙ epoch-step (timed a) T true (back true q) in
          take-known a w hears t m not-refused heard _ true
          (subst (λ (n : ℕ). Before a hears n (changed_from ids 0 u m) true) (sym e) (near-change a w hears T m u k (back true q)))
          (up-to true false u (changed-by up) s (heard-is true (back true q) ∙ and-true u)) fresh (frames-near one s true q)
      go s false q =
          let up : epoch (timed a) t ≡ epoch (timed a) T = ap (epoch (timed a)) e ∙ epoch-step (timed a) T false (back false q) in
          take-known a w hears t m not-refused heard m u
          (subst (λ (n : ℕ). Before a hears n m u) (sym e) (near_same a w hears T m u k (back false q)))
          (up-to false false false (same-yet up) s (heard-is false (back false q) ∙ and-false u)) fresh (frames-near one s false q)

-- ---- the first frame

module _ (a : Air) (w : Orderly a) (hears : ℕ → Bool) (t : ℕ) (quiet : (v : ℕ) → v < t → hears v ≡ true → ⊥)
    (not-refused : take_answer (blank map_size) (field_bytes (field_on a t)) ≡ 0) (heard : hears t ≡ true) where
  blank-frames : frames_of (blank map_size) ≡ record { last = 0; heard = 0; unbroken = 0; row = 0 }
  unfolding frames_of
  blank-frames =
      λ i. record {
        last = blank-at map_size 36352 i;
        heard = blank-at map_size 36353 i;
        unbroken = blank-at map_size 36354 i;
        row = blank-at map_size 36355 i;
      }

  first-up : up_to (blank map_size) (count_at (timed a) t) ≡ blank map_size
  unfolding up_to changed_to changing skips
  first-up =
      λ i. cond (eqb (blank-frames i).heard 1 && ltb 1 (since (blank-frames i).last (count_at (timed a) t))) (each_from ids 0 spoiled_both (none i)) (none i)
    where
      none : changed_to (blank map_size) (count_at (timed a) t) ≡ blank map_size
      none =
          λ i. cond (eqb (blank-frames i).heard 1 && changes (blank-frames i).last (count_at (timed a) t))
          (changed_from ids 0 (all_heard (frames_of (blank map_size))) (blank map_size)) (blank map_size)

  first-fresh : again (frames_of (blank map_size)) (count_at (timed a) t) ≡ false
  unfolding again
  first-fresh = ap (λ (x : Frames). again x (count_at (timed a) t)) blank-frames

  first-frames : frames_after (frames_of (blank map_size)) (count_at (timed a) t) ≡ frames_at a hears t (change (timed a) t)
  unfolding frames_after skips row_after capped in_row
  first-frames =
      ap (λ (x : Frames). frames_after x (count_at (timed a) t)) blank-frames
      ∙ (λ i. record { last = count_at (timed a) t; heard = 1; unbroken = cond (begins-change (timed a) t i) 1 0; row = row_one i })
    where
      one-alone : (n : ℕ) → ((v : ℕ) → v < n → hears v ≡ true → ⊥) → hears n ≡ true → in_row hears n ≡ 1
      one-alone zero quiet heard = ap (λ (b : Bool). cond b 1 0) heard
      one-alone (suc n) quiet heard =
          let e : suc n - 1 ≡ n = omega arith in
          row_first hears (suc n) (omega arith) (λ q. quiet n (omega arith) (ap hears (sym e) ∙ q)) heard

      row_one : 1 ≡ capped (in_row hears t)
      row_one = ap capped (sym (one-alone t quiet heard))

  first-known : Known a hears t (take_after (blank map_size) (field_bytes (field_on a t))) (change (timed a) t)
  first-known = take-known a w hears t (blank map_size) not-refused heard (blank map_size) (change (timed a) t) (first-before a hears t quiet) first-up first-fresh first-frames

-- ---- all frames

pub data State (a : Air) (hears : ℕ → Bool) (t : ℕ) (m : List ℕ) : Type 0 where
  silent : m ≡ blank map_size → ((v : ℕ) → v < t → hears v ≡ true → ⊥) → State a hears t m
  since-one : (T : ℕ) (u : Bool) → T < t → Gap hears T t → missed_before hears t ≡ t - suc T → any_before hears t ≡ true → Known a hears T m u → State a hears t m

module _ (a : Air) (w : Orderly a) (hears : ℕ → Bool) (Near-by : Near hears) where
  pub missed-step : (t : ℕ) → hears t ≡ false → (m : List ℕ) → State a hears t m → State a hears (suc t) m
  unfolding missed_before any_before
  missed-step t e m (silent z q) = silent z (λ v hv hh. go v hh (ℕ_discrete v t) hv)
    where
      go : (v : ℕ) → hears v ≡ true → Dec (v ≡ t) → v < suc t → ⊥
      go v hh (yes s) hv = subst lib.Dec.T (sym hh ∙ ap hears s ∙ e) tt
      go v hh (no s) hv = q v (omega (arith, hv, s)) hh
  missed-step t e m (since-one T u l gap c any k) =
      since-one T u (omega arith) (λ v hv hh. go v hh (ℕ_discrete v t) hv)
      (ap (λ (b : Bool). cond b 0 (suc (missed_before hears t))) e ∙ ap suc c ∙ minus t T l)
      (ap₂ (λ (x y : Bool). x || y) e any) k
    where
      minus : (x y : ℕ) → y < x → suc (x - suc y) ≡ suc x - suc y
      minus x y h = omega arith

      go : (v : ℕ) → hears v ≡ true → Dec (v ≡ t) → v < suc t → v < suc T
      go v hh (yes s) hv = absurd (subst lib.Dec.T (sym hh ∙ ap hears s ∙ e) tt)
      go v hh (no s) hv = gap v (omega (arith, hv, s)) hh

  pub heard-step : (t : ℕ) → hears t ≡ true → (m : List ℕ) → take_answer m (field_bytes (field_on a t)) ≡ 0 → State a hears t m
      → State a hears (suc t) (take_after m (field_bytes (field_on a t)))
  unfolding missed_before any_before
  heard-step t e m ok (silent z q) =
      now (change (timed a) t)
      (subst (λ (x : List ℕ). Known a hears t (take_after x (field_bytes (field_on a t))) (change (timed a) t)) (sym z)
      (first-known a w hears t q (subst (λ (x : List ℕ). take_answer x (field_bytes (field_on a t)) ≡ 0) z ok) e))
    where
      now : (u : Bool) → Known a hears t (take_after m (field_bytes (field_on a t))) u → State a hears (suc t) (take_after m (field_bytes (field_on a t)))
      now u k = since-one t u (omega arith) (λ v hv hh. hv) (ap (λ (b : Bool). cond b 0 (suc (missed_before hears t))) e ∙ none t) (ap (λ (b : Bool). b || any_before hears t) e) k
        where
          none : (x : ℕ) → 0 ≡ suc x - suc x
          none x = omega arith
  heard-step t e m ok (since-one T u l gap c any k) =
      let g = t - T in
      let at : T + g ≡ t = omega arith in
      let most : g ≤ 128 = omega (arith, Near-by t e any, c) in
      subst (λ (n : ℕ). State a hears (suc n) (take_after m (field_bytes (field_on a n)))) at
      (go g (omega arith) most (subst (λ (n : ℕ). take_answer m (field_bytes (field_on a n)) ≡ 0) (sym at) ok) (subst (Gap hears T) (sym at) gap)
      (ap hears at ∙ e) (ℕ_discrete g 1))
    where
      now : (n : ℕ) → hears n ≡ true → (v : Bool) → Known a hears n (take_after m (field_bytes (field_on a n))) v → State a hears (suc n) (take_after m (field_bytes (field_on a n)))
      now n q v x = since-one n v (omega arith) (λ y hy hh. hy) (ap (λ (b : Bool). cond b 0 (suc (missed_before hears n))) q ∙ none n) (ap (λ (b : Bool). b || any_before hears n) q) x
        where
          none : (x : ℕ) → 0 ≡ suc x - suc x
          none x = omega arith

      go : (g : ℕ) → 0 < g → g ≤ 128 → take_answer m (field_bytes (field_on a (T + g))) ≡ 0 → Gap hears T (T + g) → hears (T + g) ≡ true → Dec (g ≡ 1)
          → State a hears (suc (T + g)) (take_after m (field_bytes (field_on a (T + g))))
      go g pos most not-refused away q (yes s) = now (T + g) q _ (near a w hears T g pos most m u k not-refused away q s (one_on g s))
        where
          one_on : (x : ℕ) → x ≡ 1 → T + x ≡ suc T
          one_on x p = omega (arith, p)
      go g pos most not-refused away q (no s) = now (T + g) q _ (far a w hears T g pos most m u k not-refused away q (omega (arith, pos, s)))

module _ (a : Air) (w : Orderly a) (hears : ℕ → Bool) (L : Listener ours a hears) where
  pub state-at : (t : ℕ) → State a hears t (kept ours a hears t)
  unfolding kept ours
  state-at zero = silent refl (λ v hv hh. absurd (omega arith))
  state-at (suc t) = go (hears t) refl (state-at t)
    where
      m : List ℕ
      m = kept ours a hears t

      go : (b : Bool) → hears t ≡ b → State a hears t m → State a hears (suc t) (cond (hears t) (take_after m (field_bytes (field_on a t))) m)
      go true e s = subst (λ (b : Bool). State a hears (suc t) (cond b (take_after m (field_bytes (field_on a t))) m)) (sym e) (heard-step a w hears L.near t e m (L.taken t e) s)
      go false e s = subst (λ (b : Bool). State a hears (suc t) (cond b (take_after m (field_bytes (field_on a t))) m)) (sym e) (missed-step a w hears L.near t e m s)
