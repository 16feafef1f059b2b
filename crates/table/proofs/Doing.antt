-- What the calls' code does, against their definitions.
--
--   start-refused, start-passed  start's one row, by the test of the length
--   kept, changed                the bytes after a call, where `?` hands its refusal on and where it is done
--   follow-length, leave-length, end-length    an accepted call's state has 11,777 bytes
--   span-length                  the part that is lent of slot k is a slot's length
--   slot-given, slot-stored, slot-cleared    and the state with what came back of it
--   setting-stored               the state with the setting's byte stored
--   ages-turn, ages-end          a turn and the end of the loop that ages the slots
--
-- Assumes nothing.
use mathlib.Core.Path.{◌≡◌, sym, ap, ap₂, ◌∙◌}
use mathlib.Core.Bool.{not}
use mathlib.Core.List.{List, [], ◌∷◌, ◌++◌}
use Prim.Native.Nat.{ℕ, suc, ◌+◌, ◌-◌, ◌*◌, ◌≤◌, ◌<◌}
use native.Mathlib.Omega.{arith}
use native.Mathlib.Numerals.{add-one}
use borrow.Author.Tests.{eq-eqb, ne_eqb}
use lib.Dec.{eqb}
use lib.ListN.{length, take, drop, set}
use Rattle.bits.specs.Bits.{blank}
use Rattle.bits.specs.Rows.{refusal, done}
use Rattle.bits.proofs.Rows.{refusal-hit, refusal-miss, done_refused, done-passed}
use Rattle.faults.specs.Refusals.{number_of}
use Rattle.faults.specs.declared.refusal.Refusal.{Refusal}
use Rattle.faults.proofs.Refusals.{number-not-zero}
use Rattle.runs.specs.Part.{part, put}
use Rattle.runs.proofs.Parts.{sets-put}
use Rattle.slot.specs.Slot.{slot_size, head_of, with_head}
use Rattle.head.specs.Head.{aged_head}
use Rattle.head.specs.declared.Head.{Head}
use Rattle.slot.proofs.Heads.{with_head-length}
use Rattle.table.specs.State.{state_size, slots, tail_at, with_setting, slot_at, with_slot}
use Rattle.head.specs.declared.Wish.{Wish}
use Rattle.table.specs.Calls.{start_answer, follow_answer, leave_answer, end_answer, ages}
use Rattle.table.proofs.States.{slot-length, with-length}
use Rattle.table.proofs.Kept.{follow-passed, leave-passed}
use Rattle.table.proofs.Looking.{state-passed}

pub start-refused : (s : List ℕ) → (length s ≡ state_size → ⊥) → 20 ≡ start_answer s
unfolding start_answer
start-refused s ne = sym (refusal-hit (not (eqb (length s) state_size)) 20 [] (ap not (ne_eqb (length s) state_size ne)))

pub start-passed : (s : List ℕ) → length s ≡ state_size → 0 ≡ start_answer s
unfolding start_answer refusal
start-passed s e = sym (refusal-miss (not (eqb (length s) state_size)) 20 [] (ap not (eq-eqb (length s) state_size e)))

-- ---- refused, and done

pub kept : (r : Refusal) (n : ℕ) (after before : List ℕ) → number_of r ≡ n → before ≡ done n after before
kept r n after before e = sym (done_refused n after before (λ z. number-not-zero r (e ∙ z)))

pub changed : (n : ℕ) (after before now : List ℕ) → 0 ≡ n → now ≡ after → now ≡ done n after before
changed n after before now e q = q ∙ sym (done-passed n after before (sym e))

pub follow-length : (s : List ℕ) (w : Wish) → follow_answer s w ≡ 0 → length s ≡ state_size
follow-length s w e = (follow-passed s w e).state.size

pub leave-length : (s : List ℕ) (a : ℕ) → leave_answer s a ≡ 0 → length s ≡ state_size
leave-length s a e = (leave-passed s a e).0.size

pub end-length : (s : List ℕ) → end_answer s ≡ 0 → length s ≡ state_size
end-length s e = (state-passed s e).size

-- ---- a slot that is lent and comes back

abbrev pub span : ℕ → ℕ
span at = at + slot_size - at

slot-span : (k : ℕ) (s : List ℕ) → take (span (k * slot_size)) (drop (k * slot_size) s) ≡ slot_at k s
unfolding slot_at part
slot-span k s =
    let e : span (k * slot_size) ≡ slot_size = omega arith in
    ap (λ (n : ℕ). take n (drop (k * slot_size) s)) e

pub span-length : (k : ℕ) (s : List ℕ) → length s ≡ state_size → k < slots → length (take (span (k * slot_size)) (drop (k * slot_size) s)) ≡ slot_size
span-length k s l h = ap length (slot-span k s) ∙ slot-length s l k h

pub slot-given : (f : List ℕ → List ℕ) (k j : ℕ) (s b : List ℕ) → k ≡ j → b ≡ f (take (span (k * slot_size)) (drop (k * slot_size) s))
    → (take (k * slot_size) s ++ (b ++ drop (span (k * slot_size)) (drop (k * slot_size) s))) ≡ with_slot j (f (slot_at j s)) s
unfolding with_slot put
slot-given f k j s b q e =
    let n : span (k * slot_size) ≡ slot_size = omega arith in
    ap₂ (λ (x : List ℕ) (m : ℕ). take (k * slot_size) s ++ (x ++ drop m (drop (k * slot_size) s))) (e ∙ ap f (slot-span k s)) n
    ∙ ap (λ (i : ℕ). put (i * slot_size) slot_size (f (slot_at i s)) s) q

pub slot-stored : (g h : Head) (k j : ℕ) (s b : List ℕ) → g ≡ h → k ≡ j
    → b ≡ with_head g (take (span (k * slot_size)) (drop (k * slot_size) s))
    → (take (k * slot_size) s ++ (b ++ drop (span (k * slot_size)) (drop (k * slot_size) s))) ≡ with_slot j (with_head h (slot_at j s)) s
slot-stored g h k j s b p q e =
    slot-given (with_head g) k j s b q e ∙ ap (λ (x : Head). with_slot j (with_head x (slot_at j s)) s) p

pub slot-cleared : (k j : ℕ) (s b : List ℕ) → length s ≡ state_size → j < slots → k ≡ j
    → b ≡ blank (length (take (span (k * slot_size)) (drop (k * slot_size) s)))
    → (take (k * slot_size) s ++ (b ++ drop (span (k * slot_size)) (drop (k * slot_size) s))) ≡ with_slot j (blank slot_size) s
slot-cleared k j s b l h q e =
    slot-given (λ (x : List ℕ). blank (length x)) k j s b q e ∙ ap (λ (n : ℕ). with_slot j (blank n) s) (slot-length s l j h)

pub setting-stored : (s : List ℕ) (most : ℕ) → length s ≡ state_size → set s tail_at most ≡ with_setting most s
unfolding with_setting
setting-stored s most l = sets-put tail_at (most ∷ []) s (omega arith)

-- ---- the loop: the slots from k on are still to be aged

pub ages-turn : (k : ℕ) (s t : List ℕ) → length s ≡ state_size → k < slots
    → t ≡ with_slot k (with_head (aged_head (head_of (slot_at k s))) (slot_at k s)) s
    → (length t ≡ state_size) × (ages (slots - (k + 1)) (k + 1) t ≡ ages (slots - k) k s)
unfolding ages
ages-turn k s t l h e =
    let n : slots - k ≡ suc (slots - (k + 1)) = omega arith in
    let b = with_head (aged_head (head_of (slot_at k s))) (slot_at k s) in
    let lb : length b ≡ slot_size = with_head-length (aged_head (head_of (slot_at k s))) (slot_at k s) (slot-length s l k h) ∙ slot-length s l k h in (
      ap length e ∙ with-length s l k b h lb,
      ap₂ (λ (x : ℕ) (y : List ℕ). ages (slots - (k + 1)) x y) (add-one k) e ∙ ap (λ (m : ℕ). ages m k s) (sym n),
    )

pub ages-end : (k : ℕ) (s t : List ℕ) → slots ≤ k → ages (slots - k) k s ≡ t → s ≡ t
unfolding ages
ages-end k s t h e =
    let n : 0 ≡ slots - k = omega arith in
    ap (λ (m : ℕ). ages m k s) n ∙ e
