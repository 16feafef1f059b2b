-- A lawful broadcast is never refused, whatever was missed: of what is certain there are no more components than there are.
--
--   there           a component that is counted has a structure
--   accepted        20, 34, 44 and 45 do not hold
--   listener        so the frames that are heard are those that are taken in
--
-- Assumes nothing.
use mathlib.Core.Path.{◌≡◌, refl, sym, ap, ◌∙◌, subst}
use mathlib.Core.Bool.{Bool, true, false, cond, not, ◌&&◌, ◌||◌}
use mathlib.Core.List.{List, [], ◌∷◌}
use Prim.Native.Nat.{ℕ, zero, suc, ◌+◌, ◌≤◌, ◌<◌}
use native.Mathlib.Omega.{arith}
use borrow.Author.Tests.{eq-eqb, lt-leb, ltb-true}
use lib.Dec.{T, leb, ltb, eqb, lit<}
use lib.ListN.{length, get_or}
use Rattle.bits.specs.Bits.{blank}
use Rattle.bits.proofs.Rows.{refusal-miss, refusal-none, done-passed}
use Rattle.bits.proofs.Storing.{blank-length}
use Rattle.runs.proofs.Parts.{blank-at}
use Rattle.bits.proofs.Search.{and_right, and_no}
use Rattle.field.specs.Field.{field_size, field_of, field_bytes, bad_field, deletes, panning}
use Rattle.field.specs.declared.Field.{Field}
use Rattle.field.proofs.RoundTrip.{written-length}
use Rattle.structure.specs.Structure.{head_of, certainly}
use Rattle.frames.specs.Counts.{changes, changing, again, all_heard}
use Rattle.map.specs.Map.{ids, map_size, frames_at, structure_at, frames_of, good, in_force, announced, stands, comes, present, components, counted}
use Rattle.map.specs.Calls.{start_answer, start_after, too_many, take_rows, take_answer, take_after}
use Rattle.map.proofs.Doing.{start-passed}
use Rattle.map.proofs.Kept.{start-good, take-length, take-good}
use Rattle.multiplex.specs.Broadcast.{count_at, epoch, some}
use Rattle.multiplex.specs.Heard.{ours}
use Rattle.multiplex.specs.Air.{Carries, new, old, gone, vectors, Air, timed, carried_as, field_on, coming, InTurn, Orderly}
use Rattle.multiplex.specs.Air as air
use Rattle.multiplex.specs.Sound.{kept, Listener}
use Rattle.multiplex.specs.Finding.{Near}
use Rattle.multiplex.proofs.Counting.{counted-less}
use Rattle.multiplex.proofs.Listening.{Known}
use Rattle.multiplex.proofs.Reaching.{blank-structure, blank-certain}
use Rattle.multiplex.proofs.Asked.{changing-now, next-now, same-now}
use Rattle.multiplex.proofs.Soundness.{State, silent, since-one, read_back, missed-step, heard-step}

-- ---- which components are counted

some-yes : (xs : List ℕ) → 0 < length xs → some xs ≡ true
unfolding some
some-yes [] h = absurd (omega arith)
some-yes (x ∷ xs) h = refl

-- what is counted, by whether a change lies between
by-change : (m : List ℕ) (v k : ℕ) (sure b : Bool) → v < 2 → present v b sure m k ≡ true
    → cond b ((v ≡ 0) × (0 < (head_of (structure_at k 1 m)).fields))
    (cond (eqb v 0) (certainly (head_of (structure_at k 0 m)) ≡ true) (0 < (head_of (structure_at k 1 m)).fields))
unfolding present stands comes in_force announced certainly
by-change m zero k sure true hv e =
    (refl, ltb-true 0 _ (and_right (eqb (head_of (structure_at k 1 m)).certain 1) _ (and_right sure _ e)))
by-change m zero k sure false hv e = e
by-change m (suc zero) k sure true hv e = absurd (subst T (sym e) tt)
by-change m (suc zero) k sure false hv e = ltb-true 0 _ e
by-change m (suc (suc v)) k sure b hv e = absurd (omega arith)

-- the map as it is started
blank-still : (n : ℕ) → changing (frames_of (blank map_size)) n ≡ false
unfolding changing frames_of
blank-still n = ap (λ (x : ℕ). eqb x 1 && changes (get_or (blank map_size) frames_at 0) n) (blank-at map_size (frames_at + 1))

blank-uncertain : (k : ℕ) → k < ids → certainly (head_of (structure_at k 0 (blank map_size))) ≡ false
unfolding certainly
blank-uncertain k hk = ap (λ (x : ℕ). eqb x 1 && ltb 0 (head_of (structure_at k 0 (blank map_size))).fields) (blank-certain k hk)

blank-good-map : good (blank map_size) ≡ true
unfolding start_after
blank-good-map =
    ap good (sym (done-passed (start_answer (blank map_size)) (blank map_size) (blank map_size) (sym (start-passed (blank map_size) (blank-length map_size)))))
    ∙ start-good (blank map_size) (blank-length map_size)

module _ (a : Air) (w : Orderly a) (hears : ℕ → Bool) (Near-by : Near hears) (t : ℕ) (heard : hears t ≡ true) (m : List ℕ) (st : State a hears t m) where
  abbrev c : ℕ
  c = count_at (timed a) t

  since-there : (T : ℕ) (u : Bool) → Known a hears T m u → T ≤ t → t ≤ T + 128 → (v k : ℕ) → v < 2 → k < ids
      → present v (changing (frames_of m) c) (all_heard (frames_of m)) m k ≡ true → 0 < length (a.config (v + epoch (timed a) t) k)
  since-there T u h lo hi v k hv hk e = go (ltb (epoch (timed a) T) (epoch (timed a) t)) refl v hv
      (subst (λ (b : Bool). present v b (all_heard (frames_of m)) m k ≡ true) (changing-now a hears T m u h t lo hi) e)
    where
      go : (b : Bool) → ltb (epoch (timed a) T) (epoch (timed a) t) ≡ b → (v : ℕ) → v < 2
          → present v (ltb (epoch (timed a) T) (epoch (timed a) t)) (all_heard (frames_of m)) m k ≡ true → 0 < length (a.config (v + epoch (timed a) t) k)
      go true q v hv e =
          let x = by-change m v k (all_heard (frames_of m)) true hv (subst (λ (b : Bool). present v b (all_heard (frames_of m)) m k ≡ true) q e) in
          let at : v + epoch (timed a) t ≡ suc (epoch (timed a) T) = omega (arith, x.0, next-now a T t lo hi q) in
          subst (λ (n : ℕ). 0 < length (a.config n k)) (sym at) ((h.sure k hk).next x.1)
      go false q zero hv e =
          let x = by-change m 0 k (all_heard (frames_of m)) false (lit< tt) (subst (λ (b : Bool). present 0 b (all_heard (frames_of m)) m k ≡ true) q e) in
          let at : 0 + epoch (timed a) t ≡ epoch (timed a) T = omega (arith, same-now a T t lo q) in
          subst (λ (n : ℕ). 0 < length (a.config n k)) (sym at) ((h.sure k hk).front x)
      go false q (suc zero) hv e =
          let x = by-change m 1 k (all_heard (frames_of m)) false (lit< tt) (subst (λ (b : Bool). present 1 b (all_heard (frames_of m)) m k ≡ true) q e) in
          let at : 1 + epoch (timed a) t ≡ suc (epoch (timed a) T) = omega (arith, same-now a T t lo q) in
          subst (λ (n : ℕ). 0 < length (a.config n k)) (sym at) ((h.sure k hk).next x)
      go false q (suc (suc v)) hv e = absurd (omega arith)

  -- nothing was heard
  blank-there : m ≡ blank map_size → (v k : ℕ) → v < 2 → k < ids → present v (changing (frames_of m) c) (all_heard (frames_of m)) m k ≡ true → ⊥
  unfolding changing
  blank-there z v k hv hk e = go v hv (subst (λ (b : Bool). present v b (all_heard (frames_of m)) m k ≡ true) none e)
    where
      none : changing (frames_of m) c ≡ false
      none = ap (λ (x : List ℕ). changing (frames_of x) c) z ∙ blank-still c

      go : (v : ℕ) → v < 2 → present v false (all_heard (frames_of m)) m k ≡ true → ⊥
      go zero hv e =
          subst T (sym (by-change m 0 k (all_heard (frames_of m)) false (lit< tt) e) ∙ ap (λ (x : List ℕ). certainly (head_of (structure_at k 0 x))) z ∙ blank-uncertain k hk) tt
      go (suc zero) hv e =
          let x = by-change m 1 k (all_heard (frames_of m)) false (lit< tt) e in
          omega (arith, x, ap (λ (y : List ℕ). (head_of (structure_at k 1 y)).fields) z, (blank-structure k 1 hk (lit< tt)).fields)
      go (suc (suc v)) hv e = omega arith

  there : (v k : ℕ) → v < 2 → k < ids → present v (changing (frames_of m) c) (all_heard (frames_of m)) m k ≡ true → 0 < length (a.config (v + epoch (timed a) t) k)
  there v k hv hk e = go st
    where
      go : State a hears t m → 0 < length (a.config (v + epoch (timed a) t) k)
      go (silent z q) = absurd (blank-there z v k hv hk e)
      go (since-one T u l gap x any h) = since-there T u h (omega (arith, l)) (omega (arith, l, x, Near-by t heard any)) v k hv hk e

  -- a field of a component that has a structure is not one too many
  few : (v k : ℕ) → v < 2 → k < ids → 0 < length (a.config (v + epoch (timed a) t) k) → present v (changing (frames_of m) c) (all_heard (frames_of m)) m k ≡ false
      → leb 128 (components v (changing (frames_of m) c) (all_heard (frames_of m)) m) ≡ false
  unfolding components
  few v k hv hk pos e =
      let p = present v (changing (frames_of m) c) (all_heard (frames_of m)) m in
      let q : ℕ → Bool = λ j. some (a.config (v + epoch (timed a) t) j) in
      let less : counted p ids 0 < counted q ids 0 =
      counted-less p q ids 0 (λ j lo hj y. some-yes (a.config (v + epoch (timed a) t) j) (there v j hv (omega arith) y)) k (omega arith) (omega arith) e
      (some-yes (a.config (v + epoch (timed a) t) k) pos) in
      lt-leb 128 (counted p ids 0) (omega (arith, less, w.few (v + epoch (timed a) t)))

  -- ---- the rows

  not-many : (d p l : Bool) → (p ≡ false → l ≡ false) → (d && (not p && l)) ≡ false
  not-many true true l h = refl
  not-many true false l h = h refl
  not-many false p l h = refl

  no_last : {x : Bool} (y d : Bool) → x ≡ false → (y && (d && x)) ≡ false
  no_last true true e = e
  no_last true false e = refl
  no_last false d e = refl

  few-as : (x : Carries) → InTurn a t x
      → (not (eqb (carried_as a t x).id panning) && (not (again (frames_of m) (carried_as a t x).count) && too_many m (carried_as a t x))) ≡ false
  unfolding InTurn carried_as too_many
  few-as (new k i l) law =
      no_last (not (eqb k panning)) (not (again (frames_of m) c))
      (not-many (not (deletes (get_or (coming a t k) i 0))) (present 1 (changing (frames_of m) c) (all_heard (frames_of m)) m k)
      (leb 128 (components 1 (changing (frames_of m) c) (all_heard (frames_of m)) m)) (few 1 k (lit< tt) law.0
      (subst (λ (n : ℕ). 0 < length (a.config n k)) (one_on (epoch (timed a) t)) (omega (arith, law.1.0)))))
    where
      one_on : (n : ℕ) → suc n ≡ 1 + n
      one_on n = omega arith
  few-as (old k i l) law =
      no_last (not (eqb k panning)) (not (again (frames_of m) c))
      (not-many (not (deletes (get_or (air.in_force a t k) i 0))) (present 0 (changing (frames_of m) c) (all_heard (frames_of m)) m k)
      (leb 128 (components 0 (changing (frames_of m) c) (all_heard (frames_of m)) m)) (few 0 k (lit< tt) law.0
      (subst (λ (n : ℕ). 0 < length (a.config n k)) (none-on (epoch (timed a) t)) (omega (arith, law.1.0)))))
    where
      none-on : (n : ℕ) → n ≡ 0 + n
      none-on n = omega arith
  few-as (gone f k tdms l) law =
      no_last (not (eqb k panning)) (not (again (frames_of m) c))
      (ap (λ (x : Bool). not x && (not (present f (changing (frames_of m) c) (all_heard (frames_of m)) m k)
      && leb 128 (components f (changing (frames_of m) c) (all_heard (frames_of m)) m))) law.1.1.1.1.0)
  few-as (vectors f tdms l) law = refl

  fit-as : (x : Carries) → InTurn a t x → bad_field (carried_as a t x) ≡ false
  unfolding InTurn carried_as bad_field
  fit-as (new k i l) law = and_no (not (eqb k panning)) ((w.linked (suc (epoch (timed a) t)) k law.0).fit i law.1.0).pairs
  fit-as (old k i l) law = and_no (not (eqb k panning)) ((w.linked (epoch (timed a) t) k law.0).fit i law.1.0).pairs
  fit-as (gone f k tdms l) law = and_no (not (eqb k panning)) law.1.1.1.1.1.0
  fit-as (vectors f tdms l) law = refl

  pub accepted : length m ≡ map_size → good m ≡ true → take_answer m (field_bytes (field_on a t)) ≡ 0
  unfolding take_answer take_rows field_on
  accepted lm gm =
      let r : Field = carried_as a t (a.carries t) in
      let back : field_of (field_bytes r) ≡ r = read_back a w t in
      refusal-miss _ 20 _ (λ i. not (eq-eqb (length m) map_size lm i) || not (eq-eqb (length (field_bytes r)) field_size (written-length r) i))
      ∙ refusal-miss _ 34 _ (ap not gm)
      ∙ refusal-miss _ 44 _ (ap bad_field back ∙ fit-as (a.carries t) (w.turns t))
      ∙ refusal-miss _ 45 _ (ap (λ (x : Field). not (eqb x.id panning) && (not (again (frames_of m) x.count) && too_many m x)) back
      ∙ few-as (a.carries t) (w.turns t))
      ∙ refusal-none

-- ---- all frames

-- what is held before a frame
pub record Ready (a : Air) (hears : ℕ → Bool) (t : ℕ) (m : List ℕ) : Type 0 where
  pub state : State a hears t m
  pub size : length m ≡ map_size
  pub all-good : good m ≡ true

module _ (a : Air) (w : Orderly a) (hears : ℕ → Bool) (Near-by : Near hears) where
  takes : (t : ℕ) (m : List ℕ) → hears t ≡ true → Ready a hears t m → take_answer m (field_bytes (field_on a t)) ≡ 0
  takes t m h r = accepted a w hears Near-by t h m r.state r.size r.all-good

  pub ready_at : (t : ℕ) → Ready a hears t (kept ours a hears t)
  unfolding kept ours
  ready_at zero = record {
    state = silent refl (λ v hv hh. absurd (omega arith));
    size = blank-length map_size;
    all-good = blank-good-map;
  }
  ready_at (suc t) = go (hears t) refl (ready_at t)
    where
      m : List ℕ
      m = kept ours a hears t

      go : (b : Bool) → hears t ≡ b → Ready a hears t m → Ready a hears (suc t) (cond (hears t) (take_after m (field_bytes (field_on a t))) m)
      go true e r =
          subst (λ (b : Bool). Ready a hears (suc t) (cond b (take_after m (field_bytes (field_on a t))) m)) (sym e) (record {
            state = heard-step a w hears Near-by t e m (takes t m e r) r.state;
            size = take-length m (field_bytes (field_on a t)) ∙ r.size;
            all-good = take-good m (field_bytes (field_on a t)) r.all-good;
          })
      go false e r =
          subst (λ (b : Bool). Ready a hears (suc t) (cond b (take_after m (field_bytes (field_on a t))) m)) (sym e) (record {
            state = missed-step a w hears Near-by t e m r.state;
            size = r.size;
            all-good = r.all-good;
          })

  pub taken : (t : ℕ) → hears t ≡ true → take_answer (kept ours a hears t) (field_bytes (field_on a t)) ≡ 0
  taken t h = takes t (kept ours a hears t) h (ready_at t)

  pub listener : Listener ours a hears
  unfolding ours
  listener = record { taken = taken; near = Near-by }
