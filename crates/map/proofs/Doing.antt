-- What the calls' code does, against their definitions.
--
--   start-passed                 start's one row, where the length is right
--   marks-turn, marks-end        a turn and the end of the loop that stores the marks
--   Fits, fits                   the lengths where a field is not refused; flag-lt: its flag is one bit
--   changed-to, kept-to          the changes up to a field's frame; up-to-length: they keep the map's length
--   taken_none                   panning vectors change no structure
--   frame-again, frame-taken     a field taken in
--
-- Assumes nothing.
use mathlib.Core.Path.{◌≡◌, refl, sym, ap, ap₂, ◌∙◌, subst}
use mathlib.Core.Bool.{Bool, true, false, cond, not}
use mathlib.Core.List.{List, []}
use Prim.Native.Nat.{ℕ, zero, suc, ◌+◌, ◌≤◌, ◌<◌}
use native.Mathlib.Omega.{arith}
use native.Mathlib.Nat.{add-zero, zero-add}
use native.Mathlib.Numerals.{add-one}
use borrow.Author.Tests.{eq-eqb}
use lib.Dec.{eqb}
use lib.ListN.{length, take, get_or, set}
use Rattle.bits.specs.Rows.{refusal}
use Rattle.bits.specs.Bits.{sent}
use Rattle.bits.proofs.Runs.{digit_lt, sent-below}
use Rattle.bits.proofs.Storing.{stored, agreed}
use Rattle.bits.proofs.Rows.{refusal-miss}
use Rattle.field.specs.Field.{field_size, bits_at, field_of, panning}
use Rattle.field.specs.declared.Field.{Field}
use Rattle.frames.specs.Counts.{changing, again, skips, frames_after, all_heard}
use Rattle.map.specs.Map.{ids, map_size, frames_of, with_frames, structure_at, with_structure, each_from, changed_from, spoiled_both}
use Rattle.map.specs.Calls.{start_answer, take_answer, changed_to, up_to, put_in, taken_in, frame_taken, shown_at, mark_of, marks}
use Rattle.frames.specs.declared.Frames.{Frames}
use Rattle.map.proofs.Changing.{from-length, gap_length}
use Rattle.map.proofs.Looking.{take-fit, map-size, field-size}

pub start-passed : (m : List ℕ) → length m ≡ map_size → 0 ≡ start_answer m
unfolding start_answer refusal
start-passed m e = sym (refusal-miss (not (eqb (length m) map_size)) 20 [] (ap not (eq-eqb (length m) map_size e)))

-- ---- the list

module _ (m : List ℕ) (count : ℕ) where
  marks-length : (n k : ℕ) → length (marks n k m count) ≡ n
  unfolding marks
  marks-length zero k = refl
  marks-length (suc n) k = ap suc (marks-length n (suc k))

  mark-at : (n k j : ℕ) → j < n → get_or (marks n k m count) j 0 ≡ mark_of (shown_at m (k + j) count)
  unfolding marks
  mark-at zero k j h = absurd (omega arith)
  mark-at (suc n) k zero h = ap (λ (x : ℕ). mark_of (shown_at m x count)) (sym (add-zero k))
  mark-at (suc n) k (suc j) h =
      let e : suc k + j ≡ k + suc j = omega arith in
      mark-at n (suc k) j (omega arith) ∙ ap (λ (x : ℕ). mark_of (shown_at m x count)) e

pub marks-turn : (m out : List ℕ) (count id v : ℕ) → length out ≡ ids → id < ids → take id out ≡ take id (marks ids 0 m count)
    → v ≡ mark_of (shown_at m id count) → take (id + 1) (set out id v) ≡ take (id + 1) (marks ids 0 m count)
marks-turn m out count id v l h e q =
    stored out (marks ids 0 m count) id (id + 1) v e (omega arith) (omega (arith, marks-length m count ids 0)) (add-one id)
    (q ∙ sym (mark-at m count ids 0 id h ∙ ap (λ (x : ℕ). mark_of (shown_at m x count)) (zero-add id)))

pub marks-end : (m out : List ℕ) (count id : ℕ) → ids ≤ id → length out ≡ ids → take id out ≡ take id (marks ids 0 m count) → out ≡ marks ids 0 m count
marks-end m out count id h l e = agreed out (marks ids 0 m count) ids id e l (marks-length m count ids 0) h

-- ---- a field taken in

pub record Fits (m f : List ℕ) : Type 0 where
  pub size : length m ≡ map_size
  pub field-size : length f ≡ field_size

pub fits : (m f : List ℕ) (r : ℕ) → r ≡ take_answer m f → r ≡ 0 → Fits m f
fits m f r e z =
    let fit = take-fit m f (sym e ∙ z) in
    record { size = map-size m f fit; field-size = field-size m f fit }

pub flag-lt : (f : List ℕ) (r : Field) → r ≡ field_of f → r.flag < 2
unfolding field_of bits_at
flag-lt f r e = subst (λ (x : Field). x.flag < 2) (sym e) (digit_lt 1 8 (sent 8 f) (sent-below 8 f))

module _ (m : List ℕ) (h : Frames) (eh : h ≡ frames_of m) (n : ℕ) (b : Bool) (eb : b ≡ changing h n) where
  by-change : (t : Bool) → b ≡ t → cond t (changed_from ids 0 (all_heard (frames_of m)) m) m ≡ changed_to m n
  unfolding changed_to
  by-change t q = ap (λ (x : Bool). cond x (changed_from ids 0 (all_heard (frames_of m)) m) m) (sym q ∙ eb ∙ ap (λ (g : Frames). changing g n) eh)

  pub changed-to : b ≡ true → (s : Bool) → s ≡ all_heard h → (x : List ℕ) → x ≡ changed_from ids 0 s m → x ≡ changed_to m n
  changed-to q s es x e = e ∙ ap (λ (v : Bool). changed_from ids 0 v m) (es ∙ ap all_heard eh) ∙ by-change true q

  pub kept-to : b ≡ false → m ≡ changed_to m n
  kept-to q = by-change false q

module _ (m : List ℕ) (h : Frames) (eh : h ≡ frames_of m) (n : ℕ) (b : Bool) (eb : b ≡ skips h n) (u : List ℕ) (eu : u ≡ changed_to m n) where
  by-gap : (t : Bool) → b ≡ t → cond t (each_from ids 0 spoiled_both (changed_to m n)) (changed_to m n) ≡ up_to m n
  unfolding up_to
  by-gap t q =
      ap (λ (x : Bool). cond x (each_from ids 0 spoiled_both (changed_to m n)) (changed_to m n)) (sym q ∙ eb ∙ ap (λ (g : Frames). skips g n) eh)

  pub gap-to : b ≡ true → (x : List ℕ) → x ≡ each_from ids 0 spoiled_both u → x ≡ up_to m n
  gap-to q x e = e ∙ ap (each_from ids 0 spoiled_both) eu ∙ by-gap true q

  pub none-to : b ≡ false → u ≡ up_to m n
  none-to q = eu ∙ by-gap false q

pub changed-to-length : (m : List ℕ) (n : ℕ) → length m ≡ map_size → length (changed_to m n) ≡ map_size
unfolding changed_to
changed-to-length m n l = go (changing (frames_of m) n)
  where
    go : (b : Bool) → length (cond b (changed_from ids 0 (all_heard (frames_of m)) m) m) ≡ map_size
    go true = from-length (all_heard (frames_of m)) ids 0 m (omega arith) l
    go false = l

pub up-to-length : (m : List ℕ) (n : ℕ) → length m ≡ map_size → length (up_to m n) ≡ map_size
unfolding up_to
up-to-length m n l = go (skips (frames_of m) n)
  where
    go : (b : Bool) → length (cond b (each_from ids 0 spoiled_both (changed_to m n)) (changed_to m n)) ≡ map_size
    go true = gap_length (changed_to m n) (changed-to-length m n l)
    go false = changed-to-length m n l

pub taken_none : (r : Field) (m : List ℕ) → r.id ≡ panning → m ≡ taken_in r m
unfolding taken_in
taken_none r m e =
    sym (ap (λ (b : Bool). cond b m (with_structure r.id r.flag (put_in r (structure_at r.id r.flag m)) m)) (eq-eqb r.id panning e))

module _ (m : List ℕ) (r : Field) (h : Frames) (eh : h ≡ frames_of m) (b : Bool) (eb : b ≡ again h r.count) where
  by-again : (t : Bool) → b ≡ t
      → cond t m (with_frames (frames_after (frames_of m) r.count) (taken_in r (up_to m r.count))) ≡ frame_taken m r
  unfolding frame_taken
  by-again t q =
      ap (λ (x : Bool). cond x m (with_frames (frames_after (frames_of m) r.count) (taken_in r (up_to m r.count))))
      (sym q ∙ eb ∙ ap (λ (g : Frames). again g r.count) eh)

  pub frame-again : b ≡ true → m ≡ frame_taken m r
  frame-again q = by-again true q

  pub frame-taken : b ≡ false → (x y z : List ℕ) (g : Frames) → x ≡ up_to m r.count → y ≡ taken_in r x → g ≡ frames_after h r.count
      → z ≡ with_frames g y → z ≡ frame_taken m r
  frame-taken q x y z g ex ey eg ez =
      ez
      ∙ ap₂ with_frames (eg ∙ ap (λ (k : Frames). frames_after k r.count) eh) (ey ∙ ap (taken_in r) ex)
      ∙ by-again false q
