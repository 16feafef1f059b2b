-- Machines that answer or show what they must not, refuted by the demands.
--
--   lenient-fails, long-fails, misnumbered-fails, knowing-fails     a number that no row gives, by demand 1
--   babbling-fails, boasting-fails                                  a part that is not empty, a number that is not ask's
--   mute-fails, timid-fails, sparing-fails                          the bare calls and the writer, by demand 2
--
-- Assumes nothing.
use mathlib.Core.Path.{◌≡◌, refl, sym, ap, ◌∙◌, subst}
use mathlib.Core.Bool.{Bool, true, cond, not}
use mathlib.Core.List.{List, [], ◌∷◌}
use Prim.Native.Nat.{ℕ, ◌+◌, ◌<◌}
use native.Mathlib.Omega.{arith}
use borrow.Author.Tests.{eq-eqb}
use lib.Dec.{ltb, eqb, lit≤, lit<}
use lib.ListN.{length, get_or}
use lib.Seq.{get_or-set_same}
use Rattle.bits.specs.Bits.{blank, flips}
use Rattle.bits.specs.Rows.{row, refusal}
use Rattle.bits.proofs.Storing.{blank-length}
use Rattle.bare.specs.Bare.{header_within, header_written}
use Rattle.image.specs.Image.{spare_of}
use Rattle.head.specs.Head.{wish_of, wish_answer}
use Rattle.head.proofs.Wishes.{wish-22}
use Rattle.slot.specs.Slot.{head_of}
use Rattle.table.specs.State.{setting, slot_at, find}
use Rattle.table.specs.Calls.{end_answer}
use Rattle.table.proofs.Looking.{follow-wish, leave-27}
use Rattle.asking.specs.Asking.{Asked, asked, ask_part}
use Rattle.asking.proofs.Laws.{asked-refused}
use Rattle.history.specs.Sent.{In}
use Rattle.adapter.specs.Calls.{address_of, flips_of, followed, packet_answer, write_after}
use Rattle.demands.specs.Machine.{Call, follow, packet, subframe_end, asks, our_answer, write_header, bare_number, question_answer, ask}
use Rattle.plain.specs.Plain.{error_patterns, trials, leaving, header_plain}
use Rattle.golay.specs.Code.{less, line, divide, remainder, word23, nearest}
use Rattle.bits.specs.Search.{first}
use lib.Count.{ones, ones_in}
use Rattle.demands.specs.Rows.{state_rows, slot_rows, rows_of, own_numbers, Answers, question_numbers}
use Rattle.demands.specs.Demand1.{Demand1}
use Rattle.demands.specs.Demand2.{Writable, Demand2}
use Rattle.demands.specs.Demand3.{Demand3}
use Rattle.demands.specs.Harmful.{by_call, lenient, long, misnumbered, knowing, babbling, boasting, mute, at_most_two, timid, sparing, asking}
use Rattle.demands.proofs.Numbers.{in-among}
use Rattle.demands.proofs.Numbered.{numbered}
use Rattle.demands.proofs.Second.{written-images, written-length}
use Rattle.demands.proofs.Tables.{started-state, end-passed}
use Rattle.demands.proofs.Examples.{empty-state, empty-passed, empty-absent}

-- ---- by demand 1

-- what ours refuses, with a number that is none of the call's own, every machine that meets it refuses so
pub refused-too : (x : Call) (s : List ℕ) (n m : ℕ) → our_answer x s ≡ n → (In n (own_numbers x) → ⊥) → Answers (rows_of x s) (own_numbers x) m → m ≡ n
refused-too x s n m e none d =
    let k = numbered x s in
    let ne : refusal (rows_of x s) ≡ 0 → ⊥ = λ z. none (subst (λ (i : ℕ). In i (own_numbers x)) e (k.accepted z)) in
    d.refused ne ∙ sym (k.refused ne) ∙ e

zero-22 : wish_answer (wish_of 0 0 1) ≡ 22
zero-22 = sym (wish-22 (wish_of 0 0 1) refl)

pub lenient-fails : Demand1 lenient → ⊥
unfolding by_call our_answer own_numbers
lenient-fails d =
    let z : ◌≡◌ {A = ℕ} 0 22 = refused-too (follow (wish_of 0 0 1)) empty-state 22 0 (follow-wish empty-state (wish_of 0 0 1) empty-passed (λ z. omega (arith, sym zero-22 ∙ z)) ∙ zero-22) (in-among 22 (0 ∷ []))
    (d.numbered (follow (wish_of 0 0 1)) empty-state) in
    omega arith

pub long-fails : Demand1 long → ⊥
unfolding by_call rows_of refusal
long-fails d =
    let l : eqb (length (blank 95)) 95 ≡ true = eq-eqb (length (blank 95)) 95 (blank-length 95) in
    let rows = state_rows [] (row (eqb (spare_of (blank 95)) 1) 21 ∷ row (ltb (setting []) (flips_of (blank 95))) 49 ∷ row (not (followed [] (address_of (blank 95)))) 27 ∷ slot_rows (head_of (slot_at (find [] (address_of (blank 95))) [])) (blank 95)) in
    let r : refusal (rows_of (packet (blank 95)) []) ≡ 20 = ap (λ (n : ℕ). refusal (row (not (eqb n 94)) 20 ∷ rows)) (blank-length 95) in
    let z : ◌≡◌ {A = ℕ} 0 20 = sym (ap (λ (b : Bool). cond b 0 (packet_answer [] (blank 95))) l) ∙ (d.numbered (packet (blank 95)) []).refused (λ q. omega (arith, r, q)) ∙ r in
    omega arith

pub misnumbered-fails : Demand1 misnumbered → ⊥
unfolding by_call rows_of own_numbers refusal end_answer
misnumbered-fails d = in-among 3 (0 ∷ []) ((d.numbered subframe_end empty-state).accepted (end-passed empty-state started-state))

-- the address is not followed in the started state
ask-27 : (asked empty-state 17).number ≡ 27
ask-27 =
    sym (ap (λ (x : Asked). x.number) (asked-refused empty-state 17 27
    (sym (leave-27 empty-state 17 empty-passed refl (find empty-state 17) refl (empty-absent 17 (lit< tt)))) (λ z. omega (arith, z))))

pub knowing-fails : Demand1 knowing → ⊥
unfolding by_call asking question_answer our_answer question_numbers own_numbers
knowing-fails d =
    let e : cond (eqb (asked empty-state 17).number 27) 5 (asked empty-state 17).number ≡ 5 = ap (λ (n : ℕ). cond (eqb n 27) 5 n) ask-27 in
    let z : ◌≡◌ {A = ℕ} 5 27 = sym e ∙ refused-too (asks (ask 17)) empty-state 27 _ ask-27 (in-among 27 (4 ∷ 5 ∷ 6 ∷ 7 ∷ [])) (d.numbered (asks (ask 17)) empty-state) in
    omega arith

pub babbling-fails : Demand1 babbling → ⊥
unfolding question_answer our_answer
babbling-fails d =
    let e : cond (ltb 7 (asked empty-state 17).number) (1 ∷ []) (ask_part empty-state 17) ≡ [] =
    d.empty 17 empty-state (λ h. in-among 27 (5 ∷ 6 ∷ 7 ∷ []) (subst (λ (n : ℕ). In n (5 ∷ 6 ∷ 7 ∷ [])) ask-27 h)) in
    let f : ◌≡◌ {A = List ℕ} (1 ∷ []) [] = sym (ap (λ (n : ℕ). cond (ltb 7 n) (1 ∷ []) (ask_part empty-state 17)) ask-27) ∙ e in
    let z : ◌≡◌ {A = ℕ} 1 0 = ap length f in
    omega arith

-- ---- by demand 3

pub boasting-fails : Demand3 boasting → ⊥
unfolding question_answer our_answer
boasting-fails d =
    let z : ◌≡◌ {A = ℕ} 5 27 = d.boards 17 [] empty-state ∙ ask-27 in
    omega arith

-- ---- by demand 2

pub mute-fails : Demand2 mute → ⊥
unfolding bare_number header_written refusal
mute-fails d =
    let z : ◌≡◌ {A = ℕ} 33 0 = d.numbers (write_header 17 0) in
    omega arith

-- the word of 0 with bits 0 to 2 flipped, at 3: refused by a reader that tries no more than two flips, and read by the other
pub timid-fails : Demand2 timid → ⊥
unfolding at_most_two bare_number header_plain header_within refusal trials error_patterns leaving remainder divide line less nearest first word23 flips ones ones_in
timid-fails d =
    let z : ◌≡◌ {A = ℕ} 49 0 = (d.readers 7 3).0 in
    omega arith

zeros-writable : Writable 17 0 (blank 360) (blank 376)
zeros-writable = record {
  address-from = lit≤ tt;
  address-to = lit≤ tt;
  protection = lit≤ tt;
  message = blank-length 360;
  output = blank-length 376;
}

pub sparing-fails : Demand2 sparing → ⊥
sparing-fails d =
    let w = write_after 17 0 (blank 360) (blank 376) in
    let long : 93 < length w = omega (arith, written-length 17 0 (blank 360) (blank 376) zeros-writable) in
    let e = ap (λ (x : List ℕ). get_or x 93 0) (d.images 17 0 (blank 360) (blank 376) zeros-writable ∙ sym (written-images 17 0 (blank 360) (blank 376) zeros-writable)) in
    let z : get_or w 93 0 + 128 ≡ get_or w 93 0 = sym (get_or-set_same w 93 (get_or w 93 0 + 128) 0 long) ∙ e in
    omega (arith, z)
