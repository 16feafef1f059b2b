-- Demand 1, the numbers: each of our answers is the first row's of section 6 that holds, and one of the call's own where none does.
--
--   answers-same        where the answer is what the order gives
--   slot-answers        28, 29, 47, 30, 31, 32 and 1 to 3, by the tests of their rows
--   packet-answers, ask-answers, question-answers, numbered     the calls on a state
--   follow-rows         follow's rows, as they are written out, are those that its contract cites
--   write-answers, bare-answers               the group writer, and the bare calls
--
-- Assumes nothing.
use mathlib.Core.Path.{◌≡◌, refl, sym, ap, ◌∙◌, subst}
use mathlib.Core.Bool.{Bool, true, false, cond, not, ◌&&◌, ◌||◌, or-false}
use mathlib.Core.List.{List, [], ◌∷◌}
use mathlib.Core.Logic.{inl, inr}
use Prim.Native.Nat.{ℕ, zero, suc, ◌+◌, ◌^◌, ◌<◌}
use native.Mathlib.Nat.{mod-eq_of_lt}
use native.Mathlib.Omega.{arith}
use native.Mathlib.Decide.{dec_lt}
use borrow.Author.Tests.{eqb-true, eqb-false, ltb-false, eq-eqb}
use lib.Dec.{leb, ltb, eqb}
use lib.ListN.{length}
use Rattle.bits.specs.Rows.{Row, row, refusal, further, given}
use Rattle.bits.proofs.Rows.{further-passed, further-refused}
use Rattle.bare.specs.Bare.{header_read, header_within, header_written, word_read, word_written, type_read, type_written}
use Rattle.bare.specs.Bare.{HeaderAnswer}
use Rattle.bare.proofs.Bare.{header-large}
use Rattle.bare.proofs.Theorems.{header-exactly}
use Rattle.plain.proofs.Theorems.{plain-is-table}
use Rattle.image.specs.Image.{header_of}
use Rattle.packet.specs.Received.{type_of, useful_of, unreadable, received_number, received}
use Rattle.slot.specs.Slot.{head_of}
use Rattle.head.specs.Head.{ask_number, within}
use Rattle.head.specs.Move.{started, held, whole, out_of_step, per_of, needs_of, row_of, move_of, move_number}
use Rattle.head.specs.declared.Head.{Head}
use Rattle.head.specs.declared.Wish.{Wish}
use Rattle.table.specs.State.{slot_at, find}
use Rattle.table.specs.Calls.{start_answer, follow_answer, leave_answer, end_answer, set_answer}
use Rattle.asking.specs.Asking.{Asked, asked_at, asked_by, asked}
use Rattle.group.specs.Group.{taken_number}
use Rattle.history.specs.Sent.{In}
use Rattle.adapter.specs.Calls.{address_of, beyond, unplaced, reading_at, packet_answer, group_size, write_answer}
use Rattle.adapter.proofs.Laws.{Placed, placed-zero, packet-refused}
use Rattle.demands.specs.Machine.{Call, start, follow, leave, packet, subframe_end, set_flips, asks, ask, Question, question_answer, our_answer, Bare, read_header, read_within, read_plain, write_header, read_word, write_word, read_type, write_type, bare_number}
use Rattle.demands.specs.Rows.{index_of, slot_rows, question_rows, rows_of, question_numbers, own_numbers, write_rows, bare_rows, Answers}
use Rattle.demands.proofs.Parts.{asked-number, by_place, placed-answer}

-- where the answer is what the order gives, 0 is the only number of the call's own
answers-same : (rows : List Row) (n : ℕ) → n ≡ refusal rows → Answers rows (0 ∷ []) n
unfolding In
answers-same rows n e = record { refused = λ ne. e; accepted = λ z. inl (e ∙ z) }

-- ---- a packet at its slot

abbrev reading_rows : Bool → Bool → Bool → Bool → Bool → List Row
reading_rows b28 b3f bc7 bf8 b31 = row b28 28 ∷ row b3f 29 ∷ row bc7 47 ∷ row bf8 30 ∷ row b31 31 ∷ []

abbrev step_rows : Bool → Bool → Bool → Bool → Bool → Bool → List Row
step_rows b28 b3f bc7 bf8 b31 out = row b28 28 ∷ row b3f 29 ∷ row bc7 47 ∷ row bf8 30 ∷ row b31 31 ∷ row out 32 ∷ []

abbrev step_number : Bool → Bool → Bool → Bool → Bool → ℕ → ℕ → ℕ
step_number b28 b3f bc7 bf8 b31 a c =
    let n = refusal (reading_rows b28 b3f bc7 bf8 b31) in
    further n (move_number (move_of 4 4 a (given n c)))

-- a number that is refused
record Refuses (rows : List Row) (n : ℕ) : Type 0 where
  same : n ≡ refusal rows
  not-zero : n ≡ 0 → ⊥

refused-answers : (rows : List Row) (own : List ℕ) (n : ℕ) → Refuses rows n → Answers rows own n
refused-answers rows own n r = record { refused = λ ne. r.same; accepted = λ z. absurd (r.not-zero (r.same ∙ z)) }

-- an index has two bits
index-small : (n : ℕ) → (header_read n).index < 4
index-small n = go (dec_lt n (2 ^ 23))
  where
    go : Dec (n < 2 ^ 23) → (header_read n).index < 4
    go (yes h) =
        let r = header-exactly n h in
        omega (arith, ap (λ (x : HeaderAnswer). x.index) r.reads, r.information)
    go (no h) = omega (arith, ap (λ (x : HeaderAnswer). x.index) (header-large n (omega arith)))

-- section 4's table, by the two indices
move-answers : (a c : ℕ) → c < 4
    → Answers (row (not (eqb c 0) && not (eqb c a)) 32 ∷ []) (1 ∷ 2 ∷ 3 ∷ []) (move_number (move_of 4 4 a c))
unfolding move_of row_of move_number refusal In
move-answers a c h = rw (mod-eq_of_lt h) (go (eqb c 0) (eqb c a) (leb 4 (c + 1)))
  where
    go : (z s l : Bool) → Answers (row (not z && not s) 32 ∷ []) (1 ∷ 2 ∷ 3 ∷ [])
        (move_number (cond ((z || s) && l) whole (cond z started (cond s held out_of_step))))
    go true s true = record { refused = λ ne. absurd (ne refl); accepted = λ k. inr (inr (inl refl)) }
    go true s false = record { refused = λ ne. absurd (ne refl); accepted = λ k. inl refl }
    go false true true = record { refused = λ ne. absurd (ne refl); accepted = λ k. inr (inr (inl refl)) }
    go false true false = record { refused = λ ne. absurd (ne refl); accepted = λ k. inr (inl refl) }
    go false false l = record { refused = λ ne. refl; accepted = λ k. absurd (omega (arith, k)) }

slot-answers : (b28 b3f bc7 bf8 b31 : Bool) (a c : ℕ) → c < 4
    → Answers (step_rows b28 b3f bc7 bf8 b31 (not (eqb c 0) && not (eqb c a))) (1 ∷ 2 ∷ 3 ∷ []) (step_number b28 b3f bc7 bf8 b31 a c)
unfolding refusal further given
slot-answers true b3f bc7 bf8 b31 a c h = refused-answers _ _ 28 (record { same = refl; not-zero = λ z. omega arith })
slot-answers false true bc7 bf8 b31 a c h = refused-answers _ _ 29 (record { same = refl; not-zero = λ z. omega arith })
slot-answers false false true bf8 b31 a c h = refused-answers _ _ 47 (record { same = refl; not-zero = λ z. omega arith })
slot-answers false false false true b31 a c h = refused-answers _ _ 30 (record { same = refl; not-zero = λ z. omega arith })
slot-answers false false false false true a c h = refused-answers _ _ 31 (record { same = refl; not-zero = λ z. omega arith })
slot-answers false false false false false a c h =
    let k = move-answers a c h in
    record { refused = k.refused; accepted = k.accepted }

-- a reading of 94 bytes at a head
taken-answers : (h : Head) (image : List ℕ) → length image ≡ 94
    → Answers (slot_rows h image) (1 ∷ 2 ∷ 3 ∷ []) (taken_number (received (eqb h.wish.protection 1) image) h)
unfolding taken_number received received_number refusal per_of needs_of
taken-answers h image l =
    let t = type_of image in
    let u = unreadable (eqb h.wish.protection 1) (useful_of image) in
    let n : refusal (row (not (eqb (length image) 94)) 20 ∷ reading_rows (leb 256 t) (eqb t 0x3F) (eqb t 0xC7) (eqb t 0xF8) u)
    ≡ refusal (reading_rows (leb 256 t) (eqb t 0x3F) (eqb t 0xC7) (eqb t 0xF8) u) =
    ap (λ (x : Bool). cond (not x) 20 (refusal (reading_rows (leb 256 t) (eqb t 0x3F) (eqb t 0xC7) (eqb t 0xF8) u))) (eq-eqb (length image) 94 l) in
    subst (Answers (slot_rows h image) (1 ∷ 2 ∷ 3 ∷ []))
    (sym (ap (λ (m : ℕ). further m (move_number (move_of 4 4 h.awaited (given m (index_of image))))) n))
    (slot-answers (leb 256 t) (eqb t 0x3F) (eqb t 0xC7) (eqb t 0xF8) u h.awaited (index_of image) (index-small (header_of image)))

-- ---- a packet

-- the rows that need no slot, and then others
abbrev before : Bool → Bool → Bool → Bool → Bool → Bool → List Row → List Row
before b1 b2 b3 b4 b5 b6 rest = row b1 20 ∷ row b2 20 ∷ row b3 34 ∷ row b4 21 ∷ row b5 49 ∷ row b6 27 ∷ rest

rows-rest : (b1 b2 b3 b4 b5 b6 : Bool) (rest : List Row)
    → refusal (before b1 b2 b3 b4 b5 b6 rest) ≡ further (refusal (before b1 b2 b3 b4 b5 b6 [])) (refusal rest)
unfolding refusal further
rows-rest true b2 b3 b4 b5 b6 rest = refl
rows-rest false true b3 b4 b5 b6 rest = refl
rows-rest false false true b4 b5 b6 rest = refl
rows-rest false false false true b5 b6 rest = refl
rows-rest false false false false true b6 rest = refl
rows-rest false false false false false true rest = refl
rows-rest false false false false false false rest = refl

module _ (s image : List ℕ) where
  abbrev h : Head
  h = head_of (slot_at (find s (address_of image)) s)

  packet-rows : refusal (rows_of (packet image) s) ≡ further (unplaced s image) (refusal (slot_rows h image))
  unfolding rows_of unplaced beyond
  packet-rows = rows-rest _ _ _ _ _ _ (slot_rows h image)

  refused-packet : (unplaced s image ≡ 0 → ⊥) → Answers (rows_of (packet image) s) (1 ∷ 2 ∷ 3 ∷ []) (packet_answer s image)
  refused-packet ne =
      let e = (packet-refused s image ne).0 in
      refused-answers _ _ _ (record { same = e ∙ sym (packet-rows ∙ further-refused (unplaced s image) _ ne); not-zero = λ z. ne (sym e ∙ z) })

  placed-packet : Placed s image → Answers (rows_of (packet image) s) (1 ∷ 2 ∷ 3 ∷ []) (packet_answer s image)
  unfolding reading_at
  placed-packet p =
      let e : refusal (rows_of (packet image) s) ≡ refusal (slot_rows h image) = packet-rows ∙ further-passed (unplaced s image) _ (placed-zero s image p) in
      let k = taken-answers h image p.size in
      let n = placed-answer s image p in
      record {
        refused = λ ne. n ∙ k.refused (λ z. ne (e ∙ z)) ∙ sym e;
        accepted = λ z. subst (λ (m : ℕ). In m (1 ∷ 2 ∷ 3 ∷ [])) (sym n) (k.accepted (sym e ∙ z));
      }

  packet-answers : Answers (rows_of (packet image) s) (1 ∷ 2 ∷ 3 ∷ []) (packet_answer s image)
  packet-answers = by_place s image refused-packet placed-packet

-- ---- ask

shown-in : (h : Head) → In (ask_number h) (4 ∷ 5 ∷ 6 ∷ 7 ∷ [])
unfolding ask_number In
shown-in h = go (eqb h.group 0) (leb h.wish.limit h.age) (eqb h.gap 1)
  where
    go : (a b c : Bool) → In (cond a 4 (cond b 7 (cond c 6 5))) (4 ∷ 5 ∷ 6 ∷ 7 ∷ [])
    go true b c = inl refl
    go false true c = inr (inr (inr (inl refl)))
    go false false true = inr (inr (inl refl))
    go false false false = inr (inl refl)

pub ask-answers : (rows : List Row) (s : List ℕ) (a : ℕ) → leave_answer s a ≡ refusal rows → Answers rows (4 ∷ 5 ∷ 6 ∷ 7 ∷ []) (asked s a).number
unfolding asked asked_by
ask-answers rows s a e = go (leave_answer s a) e
  where
    found : Asked
    found = asked_at (find s a) (head_of (slot_at (find s a) s))

    go : (n : ℕ) → n ≡ refusal rows → Answers rows (4 ∷ 5 ∷ 6 ∷ 7 ∷ []) (asked_by n found).number
    go zero q = record {
      refused = λ ne. absurd (ne (sym q));
      accepted = λ z. subst (λ (n : ℕ). In n (4 ∷ 5 ∷ 6 ∷ 7 ∷ [])) (sym (asked-number (find s a) _)) (shown-in _);
    }
    go (suc n) q = refused-answers rows _ (suc n) (record { same = q; not-zero = λ z. omega (arith, z) })

-- a call that only reads
question-answers : (q : Question) (s : List ℕ) → Answers (question_rows q s) (question_numbers q) (question_answer q s)
unfolding question_answer question_rows question_numbers leave_answer
question-answers (ask a) s = ask-answers _ s a refl

-- ---- the calls

-- follow's rows as they are written out are those that its contract cites, the wish's of the crate head
follow-rows : (s : List ℕ) (w : Wish) → follow_answer s w ≡ refusal (rows_of (follow w) s)
unfolding follow_answer rows_of
follow-rows s w = refl

pub numbered : (x : Call) (s : List ℕ) → Answers (rows_of x s) (own_numbers x) (our_answer x s)
unfolding our_answer rows_of own_numbers start_answer leave_answer end_answer set_answer
numbered start s = answers-same _ _ refl
numbered (follow w) s = answers-same _ _ (follow-rows s w)
numbered (leave a) s = answers-same _ _ refl
numbered (packet image) s = packet-answers s image
numbered subframe_end s = answers-same _ _ refl
numbered (set_flips most) s = answers-same _ _ refl
numbered (asks q) s = question-answers q s

-- the message's length, by the protection
length-row : (p m : ℕ) (rest : List Row)
    → refusal (row (ltb 1 p) 23 ∷ row (not (eqb m (group_size (eqb p 1)))) 20 ∷ rest)
    ≡ refusal (row (ltb 1 p) 23 ∷ row ((eqb p 0 && not (eqb m 360)) || (eqb p 1 && not (eqb m 180))) 20 ∷ rest)
unfolding refusal
length-row p m rest = go (ltb 1 p) (eqb p 0) (eqb p 1) refl refl refl
  where
    go : (l z o : Bool) → ltb 1 p ≡ l → eqb p 0 ≡ z → eqb p 1 ≡ o
        → cond l 23 (cond (not (eqb m (group_size o))) 20 (refusal rest))
        ≡ cond l 23 (cond ((z && not (eqb m 360)) || (o && not (eqb m 180))) 20 (refusal rest))
    go true z o el ez eo = refl
    go false true true el ez eo = absurd (omega (arith, eqb-true p 0 ez, eqb-true p 1 eo))
    go false false true el ez eo = refl
    go false true false el ez eo = ap (λ (b : Bool). cond b 20 (refusal rest)) (sym (or-false (not (eqb m 360))))
    go false false false el ez eo = absurd (omega (arith, ltb-false 1 p el, eqb-false p 0 ez, eqb-false p 1 eo))

pub write-answers : (a p m o : ℕ) → Answers (write_rows a p m o) (0 ∷ []) (write_answer a p m o)
unfolding write_rows write_answer refusal
write-answers a p m o =
    answers-same _ _ (ap (λ (n : ℕ). cond (not (within 1 1022 a)) 22 n) (length-row p m (row (not (eqb o 376)) 20 ∷ [])))

pub bare-answers : (x : Bare) → Answers (bare_rows x) (0 ∷ []) (bare_number x)
unfolding bare_number bare_rows header_read header_within header_written word_read word_written type_read type_written
bare-answers (read_header n) = answers-same _ _ refl
bare-answers (read_within n most) = answers-same _ _ refl
bare-answers (read_plain n most) =
    answers-same (bare_rows (read_plain n most)) (bare_number (read_plain n most)) (ap (λ (h : HeaderAnswer). h.number) (plain-is-table n most))
bare-answers (write_header a i) = answers-same _ _ refl
bare-answers (read_word n) = answers-same _ _ refl
bare-answers (write_word i) = answers-same _ _ refl
bare-answers (read_type b) = answers-same _ _ refl
bare-answers (write_type b) = answers-same _ _ refl
