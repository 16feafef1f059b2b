-- What the packet call's answer carries beside its number (document 02, Ask 6), by that number.
--
--   Told x place awaited came     with 32 the answer x tells these two indices, with 31 this place and no index, otherwise nothing
--   told                          so it is of every answer that a slot makes, if the place goes with 31 alone
--   unplaced-small                a refusal before the slot is found is neither 31 nor 32
--   packet-told                   so it is of the call, for every state and every image: the index that the slot of its address
--                                 awaited, the index of its header, the place of the first word that failed
--   packet-short                  with 31 there is such a word: its place is below 30
--
-- Assumes nothing.
use mathlib.Core.Path.{◌≡◌, refl, sym, ap, ◌∙◌, subst}
use mathlib.Core.Bool.{Bool, true, false, cond, not}
use mathlib.Core.List.{List, [], ◌∷◌}
use mathlib.Core.Logic.{◌⊎◌, inl, inr}
use Prim.Native.Nat.{ℕ, ◌<◌}
use native.Mathlib.Omega.{arith}
use native.Mathlib.Decide.{ℕ_discrete}
use borrow.Author.Tests.{eq-eqb, ne_eqb}
use lib.Dec.{eqb}
use lib.ListN.{length}
use Rattle.bits.specs.Rows.{row, refusal, given, further}
use Rattle.bits.proofs.Rows.{further-refused, further-passed}
use Rattle.bare.specs.Bare.{header_read}
use Rattle.image.specs.Image.{header_of, spare_of}
use Rattle.words.specs.Protected.{data_read}
use Rattle.faults.specs.Faults.{unreadables, Numbered}
use Rattle.packet.specs.Received.{useful_of, received_number, received}
use Rattle.packet.proofs.Answers.{received-either, word-place}
use Rattle.slot.specs.Slot.{head_of}
use Rattle.head.specs.Move.{Move, started, held, whole, out_of_step, move_number, row_at}
use Rattle.head.specs.declared.Head.{Head}
use Rattle.table.specs.State.{state_size, slot_at, find, good}
use Rattle.group.specs.Group.{taken_number, answer_of, taken}
use Rattle.group.specs.declared.Answer.{Answer}
use Rattle.adapter.specs.Calls.{address_of, beyond, followed, unplaced, reading_at, slot_answered, packet_answered}
use Rattle.adapter.proofs.Laws.{placed, answered-refused, answered-passed}

pub record Told (x : Answer) (place awaited came : ℕ) : Type 0 where
  pub out : x.number ≡ 32 → (x.detail ≡ awaited) × (x.came ≡ came)
  pub word : x.number ≡ 31 → (x.detail ≡ place) × (x.came ≡ 0)
  pub others : (x.number ≡ 31 → ⊥) → (x.number ≡ 32 → ⊥) → (x.detail ≡ 0) × (x.came ≡ 0)

module _ (n p a c place came : ℕ) (with-31 : n ≡ 31 → p ≡ place) (without : (n ≡ 31 → ⊥) → (n ≡ 32 → ⊥) → p ≡ 0) (with-32 : n ≡ 32 → c ≡ came) where
  pub told : Told (answer_of n p a c) place a came
  told = go (ℕ_discrete n 32)
    where
      go : Dec (n ≡ 32) → Told (answer_of n p a c) place a came
      go (yes e) =
          let t = eq-eqb n 32 e in
          record {
            out = λ q. (ap (λ (b : Bool). cond b a p) t, ap (λ (b : Bool). cond b c 0) t ∙ with-32 e);
            word = λ q. absurd (omega (arith, e, q));
            others = λ q k. absurd (k e);
          }
      go (no k) =
          let f = ne_eqb n 32 k in
          let detail = ap (λ (b : Bool). cond b a p) f in
          let none = ap (λ (b : Bool). cond b c 0) f in
          record {
            out = λ q. absurd (k q);
            word = λ q. (detail ∙ with-31 q, none);
            others = λ q w. (detail ∙ without q w, none);
          }

-- ---- the slot's answer

move-not-31 : (mv : Move) → move_number mv ≡ 31 → ⊥
unfolding move_number
move-not-31 started e = omega (arith, e)
move-not-31 held e = omega (arith, e)
move-not-31 whole e = omega (arith, e)
move-not-31 out_of_step e = omega (arith, e)

unreadable-not-32 : (n : ℕ) → Numbered unreadables n → n ≡ 32 → ⊥
unreadable-not-32 n (inl e) z = omega (arith, e, z)
unreadable-not-32 n (inr (inl e)) z = omega (arith, e, z)
unreadable-not-32 n (inr (inr (inl e))) z = omega (arith, e, z)
unreadable-not-32 n (inr (inr (inr (inl e)))) z = omega (arith, e, z)
unreadable-not-32 n (inr (inr (inr (inr (inl e))))) z = omega (arith, e, z)
unreadable-not-32 n (inr (inr (inr (inr (inr x))))) z = x

-- the answer's number, by the number n that the packet is received with and the row of the table
module _ (n : ℕ) (mv : Move) where
  so-31 : further n (move_number mv) ≡ 31 → n ≡ 31
  so-31 e = go (ℕ_discrete n 0)
    where
      go : Dec (n ≡ 0) → n ≡ 31
      go (yes z) = absurd (move-not-31 mv (sym (further-passed n (move_number mv) z) ∙ e))
      go (no k) = sym (further-refused n (move_number mv) k) ∙ e

  so-32 : (n ≡ 0) ⊎ Numbered unreadables n → further n (move_number mv) ≡ 32 → n ≡ 0
  so-32 (inl z) e = z
  so-32 (inr q) e = go (ℕ_discrete n 0)
    where
      go : Dec (n ≡ 0) → n ≡ 0
      go (yes z) = z
      go (no k) = absurd (unreadable-not-32 n q (sym (further-refused n (move_number mv) k) ∙ e))

  not-31 : (further n (move_number mv) ≡ 31 → ⊥) → n ≡ 31 → ⊥
  not-31 k e = k (further-refused n (move_number mv) (λ z. omega (arith, e, z)) ∙ e)

slot-told : (p : Bool) (image : List ℕ) (h : Head) → length image ≡ 94
    → Told (taken (received p image) h) (data_read (useful_of image)).place h.awaited (header_read (header_of image)).index
unfolding taken_number received given
slot-told p image h l =
    let n = received_number p image in
    let index = (header_read (header_of image)).index in
    let place = (data_read (useful_of image)).place in
    let mv = row_at h (given n index) in
    told (further n (move_number mv)) (cond (eqb n 31) place 0) h.awaited (given n index) place index
    (λ e. ap (λ (b : Bool). cond b place 0) (eq-eqb n 31 (so-31 n mv e)))
    (λ k w. ap (λ (b : Bool). cond b place 0) (ne_eqb n 31 (not-31 n mv k)))
    (λ e. ap (λ (m : ℕ). given m index) (so-32 n mv (received-either p image l) e))

-- ---- the call's

rows-small : (a b c d e f : Bool) → let n = refusal (row a 20 ∷ row b 20 ∷ row c 34 ∷ row d 21 ∷ row e 49 ∷ row f 27 ∷ []) in
    (n ≡ 31 → ⊥) × (n ≡ 32 → ⊥)
unfolding refusal
rows-small true b c d e f = (λ q. omega (arith, q), λ q. omega (arith, q))
rows-small false true c d e f = (λ q. omega (arith, q), λ q. omega (arith, q))
rows-small false false true d e f = (λ q. omega (arith, q), λ q. omega (arith, q))
rows-small false false false true e f = (λ q. omega (arith, q), λ q. omega (arith, q))
rows-small false false false false true f = (λ q. omega (arith, q), λ q. omega (arith, q))
rows-small false false false false false true = (λ q. omega (arith, q), λ q. omega (arith, q))
rows-small false false false false false false = (λ q. omega (arith, q), λ q. omega (arith, q))

unplaced-small : (s image : List ℕ) → (unplaced s image ≡ 31 → ⊥) × (unplaced s image ≡ 32 → ⊥)
unfolding unplaced
unplaced-small s image =
    rows-small (not (eqb (length image) 94)) (not (eqb (length s) state_size)) (not (good s)) (eqb (spare_of image) 1) (beyond s image)
    (not (followed s (address_of image)))

module _ (s image : List ℕ) where
  abbrev at : Head
  at = head_of (slot_at (find s (address_of image)) s)

  abbrev TellsAs : Answer → Type 0
  TellsAs x = Told x (data_read (useful_of image)).place at.awaited (header_read (header_of image)).index

  pub packet-told : Told (packet_answered s image) (data_read (useful_of image)).place at.awaited (header_read (header_of image)).index
  unfolding reading_at
  packet-told = go (ℕ_discrete (unplaced s image) 0)
    where
      go : Dec (unplaced s image ≡ 0) → TellsAs (packet_answered s image)
      go (yes z) =
          subst (λ (x : Answer). TellsAs x) (sym (answered-passed (unplaced s image) (slot_answered s image) z))
          (slot-told (eqb at.wish.protection 1) image at (placed s image z).size)
      go (no k) =
          let small = unplaced-small s image in
          subst (λ (x : Answer). TellsAs x) (sym (answered-refused (unplaced s image) (slot_answered s image) k))
          (record { out = λ q. absurd (small.1 q); word = λ q. absurd (small.0 q); others = λ q w. (refl, refl) })

  pub packet-short : (packet_answered s image).number ≡ 31 → (data_read (useful_of image)).place < 30
  unfolding reading_at taken_number received given
  packet-short e = go (ℕ_discrete (unplaced s image) 0)
    where
      p : Bool
      p = eqb at.wish.protection 1

      go : Dec (unplaced s image ≡ 0) → (data_read (useful_of image)).place < 30
      go (yes z) =
          word-place p image (placed s image z).size
          (so-31 (received_number p image) (row_at at (given (received_number p image) (header_read (header_of image)).index))
          (sym (ap (λ (x : Answer). x.number) (answered-passed (unplaced s image) (slot_answered s image) z)) ∙ e))
      go (no k) =
          absurd ((unplaced-small s image).0
          (sym (ap (λ (x : Answer). x.number) (answered-refused (unplaced s image) (slot_answered s image) k)) ∙ e))
