-- Demand 1 for our calls: a refusal changes nothing but for 28, 47, 30, 31 and 32, which drop the unfinished group of a followed address;
-- what is lent to be read stays as it is.
--
--   start-in .. question-in        so the numbers of each call but a packet: 0, 4 to 7, and those that change nothing
--   refused-in-plain, placed-in    a packet's: those, or where it is placed 1 to 3, 29 and those that drop
--   placed-drops, placed-stays     28, 47, 30, 31 and 32 drop, and by 29 every byte stays
--   carries                        what the packet's answer carries
--   valueless                      0 beside a bare call's refusal
--   demand-1
--
-- Assumes nothing.
use mathlib.Core.Path.{◌≡◌, refl, sym, ap, ◌∙◌, subst}
use mathlib.Core.Bool.{Bool, true, false, cond, ◌&&◌, ◌||◌}
use mathlib.Core.List.{List, [], ◌∷◌}
use mathlib.Core.Logic.{◌⊎◌, inl, inr}
use Prim.Native.Nat.{ℕ, zero, suc, ◌*◌, ◌<◌}
use native.Mathlib.Decide.{ℕ_discrete}
use borrow.Author.Tests.{ne_eqb}
use lib.Dec.{T, eqb, leb}
use lib.ListN.{length}
use Rattle.bits.specs.Rows.{done, given}
use Rattle.bare.specs.Bare.{header_read, header_within, header_written, word_read, word_written, type_read, type_written}
use Rattle.plain.specs.Plain.{header_plain}
use Rattle.bits.proofs.Rows.{further-refused, further-passed, done_refused, done-passed}
use Rattle.packet.specs.Received.{useful_of}
use Rattle.packet.specs.Damage.{Refused}
use Rattle.packet.specs.Received.{ReadingAnswer}
use Rattle.packet.proofs.Answers.{received-either}
use Rattle.runs.specs.Part.{part}
use Rattle.runs.proofs.Parts.{put-part}
use Rattle.words.specs.Protected.{data_read}
use Rattle.words.proofs.Each.{first_word}
use Rattle.slot.specs.Slot.{slot_size, head_of, unfinished, stored}
use Rattle.head.specs.Head.{ask_number}
use Rattle.head.specs.Move.{Move, started, held, whole, out_of_step, move_number, row_at, place_at}
use Rattle.head.specs.declared.Head.{Head}
use Rattle.head.specs.declared.Wish.{Wish}
use Rattle.table.specs.State.{state_size, started_state, slot_at, with_slot, find}
use Rattle.table.specs.Calls.{start_answer, start_after, follow_answer, follow_after, leave_answer, leave_after, end_answer, end_after, set_answer, set_after}
use Rattle.table.proofs.Doing.{start-passed}
use Rattle.table.proofs.Vectors.{started-bytes}
use Rattle.asking.specs.Asking.{Asked, asked_at, asked_by, asked, ask_part}
use Rattle.asking.proofs.Laws.{asked-group, asked-none, asked-refused, asked-found}
use Rattle.group.specs.Group.{refused_after, slot_moved, slot_dropped, taken_number, taken_after}
use Rattle.group.proofs.Laws.{dropped-room, dropped-stored, dropped-head}
use Rattle.faults.specs.Faults.{number_drops}
use Rattle.group.proofs.Doing.{out-drops, taken-by}
use Rattle.history.specs.Sent.{In}
use Rattle.adapter.specs.Calls.{address_of, unplaced, reading_at, slot_after, packet_answer, packet_after, write_answer, write_after}
use Rattle.adapter.proofs.Laws.{Placed, placed-zero, packet-refused, packet-placed}
use Rattle.adapter.proofs.Carrying.{packet-told, packet-short}
use Rattle.demands.specs.Machine.{Call, start, follow, leave, packet, subframe_end, set_flips, asks, ask, Question, ours, question_answer, our_answer, our_after, our_details, our_board, Bare, read_header, read_within, read_plain, write_header, read_word, write_word, read_type, write_type, bare_number, bare_values}
use Rattle.demands.specs.Table.{member}
use Rattle.demands.specs.Demand1.{unchanging, dropping, Dropped, FirstFailed, Carries, DroppedBy, Demand1, AllZero}
use Rattle.demands.proofs.Numbers.{among_in, in-among, in-every, in-none, rows_in}
use Rattle.demands.proofs.Numbered.{numbered, write-answers, bare-answers}
use Rattle.demands.proofs.Serving.{here-size, here-good}
use Rattle.demands.proofs.Acting.{refused-not-zero}
use Rattle.demands.proofs.Parts.{part_none, asked-number, by_place, placed-serves, placed-answer, placed-size, placed-here, placed-others, placed-setting}

-- ---- what a call answers

-- the answers of the calls other than a packet, and of a packet that is placed
abbrev plain : List ℕ
plain = 0 ∷ 4 ∷ 5 ∷ 6 ∷ 7 ∷ unchanging

abbrev pub placed_numbers : List ℕ
placed_numbers = 1 ∷ 2 ∷ 3 ∷ 29 ∷ dropping

start-in : (s : List ℕ) → In (start_answer s) plain
unfolding start_answer
start-in s = rows_in _ plain tt

follow-in : (s : List ℕ) (w : Wish) → In (follow_answer s w) plain
unfolding follow_answer
follow-in s w = rows_in _ plain tt

leave-in : (s : List ℕ) (a : ℕ) → In (leave_answer s a) plain
unfolding leave_answer
leave-in s a = rows_in _ plain tt

end-in : (s : List ℕ) → In (end_answer s) plain
unfolding end_answer
end-in s = rows_in _ plain tt

set-in : (s : List ℕ) (most : ℕ) → In (set_answer s most) plain
unfolding set_answer
set-in s most = rows_in _ plain tt

unplaced-in : (s image : List ℕ) → In (unplaced s image) plain
unfolding unplaced
unplaced-in s image = rows_in _ plain tt

shown-in : (h : Head) → In (ask_number h) plain
unfolding ask_number
shown-in h = go (eqb h.group 0) (leb h.wish.limit h.age) (eqb h.gap 1)
  where
    go : (a b c : Bool) → In (cond a 4 (cond b 7 (cond c 6 5))) plain
    go true b c = among_in 4 plain tt
    go false true c = among_in 7 plain tt
    go false false true = among_in 6 plain tt
    go false false false = among_in 5 plain tt

ask_in : (s : List ℕ) (a : ℕ) → In (asked s a).number plain
unfolding asked asked_by
ask_in s a = go (leave_answer s a) (leave-in s a)
  where
    found : Asked
    found = asked_at (find s a) (head_of (slot_at (find s a) s))

    go : (n : ℕ) → In n plain → In (asked_by n found).number plain
    go zero h = subst (λ (n : ℕ). In n plain) (sym (asked-number (find s a) _)) (shown-in _)
    go (suc n) h = h

-- so of every call that only reads
question-in : (q : Question) (s : List ℕ) → In (question_answer q s) plain
unfolding question_answer
question-in (ask a) s = ask_in s a

move_in : (mv : Move) → In (move_number mv) placed_numbers
unfolding move_number
move_in started = among_in 1 placed_numbers tt
move_in held = among_in 2 placed_numbers tt
move_in whole = among_in 3 placed_numbers tt
move_in out_of_step = among_in 32 placed_numbers tt

-- demand 1's numbers, written out, are those of the list of faults that drop
pub dropping-is : (n : ℕ) → number_drops n ≡ member n dropping
unfolding number_drops member
dropping-is n = go (eqb n 28) (eqb n 29) (eqb n 47) (eqb n 30) (eqb n 31) (eqb n 32)
  where
    and-true : (a : Bool) → (a && true) ≡ a
    and-true true = refl
    and-true false = refl

    and-false : (a : Bool) → (a && false) ≡ false
    and-false true = refl
    and-false false = refl

    go : (a b c d e f : Bool)
        → ((a && true) || ((b && false) || ((c && true) || ((d && true) || ((e && true) || ((f && true) || false))))))
        ≡ (a || (c || (d || (e || (f || false)))))
    go a b c d e f = λ i. and-true a i || (and-false b i || (and-true c i || (and-true d i || (and-true e i || (and-true f i || false)))))

-- so each of them drops, and none of those that change nothing does
in-drops : (n : ℕ) → In n dropping → number_drops n ≡ true
unfolding number_drops In
in-drops n (inl e) = ap number_drops e
in-drops n (inr (inl e)) = ap number_drops e
in-drops n (inr (inr (inl e))) = ap number_drops e
in-drops n (inr (inr (inr (inl e)))) = ap number_drops e
in-drops n (inr (inr (inr (inr (inl e))))) = ap number_drops e
in-drops n (inr (inr (inr (inr (inr x))))) = absurd x

drops-in : (n : ℕ) → number_drops n ≡ true → In n dropping
unfolding member
drops-in n e = among_in n dropping (subst T (sym (sym (dropping-is n) ∙ e)) tt)

refused-in : (r : ReadingAnswer) → Refused r → In r.number (29 ∷ dropping)
unfolding In
refused-in r (inl e) = inr (inl e)
refused-in r (inr (inl e)) = inl e
refused-in r (inr (inr (inl e))) = inr (inr (inl e))
refused-in r (inr (inr (inr (inl e)))) = inr (inr (inr (inl e)))
refused-in r (inr (inr (inr (inr (inl e))))) = inr (inr (inr (inr (inl e))))
refused-in r (inr (inr (inr (inr (inr x))))) = absurd x

taken_in : (r : ReadingAnswer) (h : Head) → (r.number ≡ 0) ⊎ Refused r → In (taken_number r h) placed_numbers
unfolding taken_number
taken_in r h (inl z) = subst (λ (n : ℕ). In n placed_numbers) (sym (further-passed r.number _ z)) (move_in (row_at h r.index))
taken_in r h (inr f) =
    subst (λ (n : ℕ). In n placed_numbers) (sym (further-refused r.number _ (refused-not-zero r f)))
    (in-every r.number (29 ∷ dropping) placed_numbers tt (refused-in r f))

-- ---- a packet, by whether it is placed

refused-in-plain : (s image : List ℕ) → (unplaced s image ≡ 0 → ⊥) → In (packet_answer s image) plain
refused-in-plain s image ne = subst (λ (n : ℕ). In n plain) (sym (packet-refused s image ne).0) (unplaced-in s image)

move-drops : (mv : Move) (c : ℕ) (b x : List ℕ) → In (move_number mv) dropping → slot_moved mv c b x ≡ slot_dropped x
unfolding move_number
move-drops started c b x h = absurd (in-among 1 dropping h)
move-drops held c b x h = absurd (in-among 2 dropping h)
move-drops whole c b x h = absurd (in-among 3 dropping h)
move-drops out_of_step c b x h = sym (out-drops c b x)

-- a reading that is answered with one of these drops
taken-drops : (r : ReadingAnswer) (x : List ℕ) → (r.number ≡ 0) ⊎ Refused r → In (taken_number r (head_of x)) dropping → taken_after r x ≡ slot_dropped x
unfolding taken_number taken_after
taken-drops r x (inl z) h =
    done-passed r.number _ (refused_after r.number x) z
    ∙ move-drops (row_at (head_of x) r.index) (place_at (head_of x) r.index) _ x (subst (λ (n : ℕ). In n dropping) (further-passed r.number _ z) h)
taken-drops r x (inr f) h =
    let ne = refused-not-zero r f in
    taken-by r x true ne (in-drops r.number (subst (λ (n : ℕ). In n dropping) (further-refused r.number _ ne) h))

move-not : (mv : Move) → In (move_number mv) unchanging → ⊥
unfolding move_number
move-not started h = in-among 1 unchanging h
move-not held h = in-among 2 unchanging h
move-not whole h = in-among 3 unchanging h
move-not out_of_step h = in-among 32 unchanging h

not-drops : (n : ℕ) → In n unchanging → number_drops n ≡ false
not-drops n h = go (number_drops n) refl
  where
    go : (b : Bool) → number_drops n ≡ b → number_drops n ≡ false
    go true e = absurd (in-none n unchanging dropping tt h (drops-in n e))
    go false e = e

-- and one that is answered with a number that changes nothing leaves its slot: a control packet
taken-stays : (r : ReadingAnswer) (x : List ℕ) → (r.number ≡ 0) ⊎ Refused r → In (taken_number r (head_of x)) unchanging → taken_after r x ≡ x
unfolding taken_number
taken-stays r x (inl z) h = absurd (move-not _ (subst (λ (n : ℕ). In n unchanging) (further-passed r.number _ z) h))
taken-stays r x (inr f) h =
    let ne = refused-not-zero r f in
    taken-by r x false ne (not-drops r.number (subst (λ (n : ℕ). In n unchanging) (further-refused r.number _ ne) h))

module _ (s image : List ℕ) (p : Placed s image) where
  abbrev x : List ℕ
  x = slot_at (find s (address_of image)) s

  abbrev r : ReadingAnswer
  r = reading_at x image

  reading : (r.number ≡ 0) ⊎ Refused r
  unfolding reading_at
  reading = received-either _ image p.size

  pub placed-in : In (packet_answer s image) placed_numbers
  placed-in = subst (λ (n : ℕ). In n placed_numbers) (sym (placed-answer s image p)) (taken_in r (head_of x) reading)

  placed-drops : In (packet_answer s image) dropping → Dropped (find s (address_of image)) s (packet_after s image)
  placed-drops h =
      let v = placed-serves s image p in
      let l = here-size s (address_of image) v in
      let g = here-good s (address_of image) v in
      let here = placed-here s image p ∙ taken-drops r x reading (subst (λ (n : ℕ). In n dropping) (placed-answer s image p) h) in
      record {
        size = placed-size s image p ∙ sym v.size;
        others = λ j hj ne. placed-others s image p j ne;
        room = ap unfinished here ∙ dropped-room x l g;
        group = ap stored here ∙ dropped-stored x l g;
        head = ap head_of here ∙ dropped-head x l g;
        tail = placed-setting s image p;
      }

  placed-stays : In (packet_answer s image) unchanging → packet_after s image ≡ s
  unfolding slot_after with_slot slot_at
  placed-stays h =
      let k = find s (address_of image) in
      let same = taken-stays r x reading (subst (λ (n : ℕ). In n unchanging) (placed-answer s image p) h) in
      (packet-placed s image (placed-zero s image p)).1 ∙ ap (λ (b : List ℕ). with_slot k b s) same ∙ put-part (k * slot_size) slot_size s

-- ---- what a packet's answer carries

carries : (s image : List ℕ) → Carries s image (packet_answer s image) (our_details image s)
unfolding packet_answer our_details
carries s image =
    let told = packet-told s image in
    record {
      out = told.out;
      word = λ e. word (told.word e) (packet-short s image e);
      others = told.others;
    }
  where
    u : List ℕ
    u = useful_of image

    word : {d c : ℕ} → (d ≡ (data_read u).place) × (c ≡ 0) → (data_read u).place < 30 → FirstFailed u d × (c ≡ 0)
    word (e, z) short = (subst (FirstFailed u) (sym e) (short, (first_word u short).0, (first_word u short).1), z)

-- ---- the demand

-- 0 is none of these
done-unchanged : (n : ℕ) (now s : List ℕ) → In n unchanging → done n now s ≡ s
done-unchanged n now s h = done_refused n now s (λ z. in-among 0 unchanging (subst (λ (m : ℕ). In m unchanging) z h))

unchanged : (x : Call) (s : List ℕ) → In (our_answer x s) unchanging → our_after x s ≡ s
unfolding our_answer our_after start_after follow_after leave_after end_after set_after
unchanged start s h = done-unchanged (start_answer s) _ s h
unchanged (follow w) s h = done-unchanged (follow_answer s w) _ s h
unchanged (leave a) s h = done-unchanged (leave_answer s a) _ s h
unchanged (packet image) s h =
    by_place s image (λ ne. (packet-refused s image ne).1) (λ p. placed-stays s image p h)
unchanged subframe_end s h = done-unchanged (end_answer s) _ s h
unchanged (set_flips most) s h = done-unchanged (set_answer s most) _ s h
unchanged (asks q) s h = refl

drops : (x : Call) (s : List ℕ) → In (our_answer x s) dropping → DroppedBy x s (our_after x s)
unfolding our_answer our_after DroppedBy
drops start s h = in-none _ plain dropping tt (start-in s) h
drops (follow w) s h = in-none _ plain dropping tt (follow-in s w) h
drops (leave a) s h = in-none _ plain dropping tt (leave-in s a) h
drops (packet image) s h =
    by_place s image (λ ne. absurd (in-none _ plain dropping tt (refused-in-plain s image ne) h)) (λ p. (p.place, placed-drops s image p h))
drops subframe_end s h = in-none _ plain dropping tt (end-in s) h
drops (set_flips most) s h = in-none _ plain dropping tt (set-in s most) h
drops (asks q) s h = in-none _ plain dropping tt (question-in q s) h

unwritten : (a p : ℕ) (m o : List ℕ) → (write_answer a p (length m) (length o) ≡ 0 → ⊥) → write_after a p m o ≡ o
unfolding write_after
unwritten a p m o ne = done_refused (write_answer a p (length m) (length o)) _ o ne

-- ---- the bare calls

given-refused : (n v : ℕ) → (n ≡ 0 → ⊥) → given n v ≡ 0
unfolding given
given-refused zero v ne = absurd (ne refl)
given-refused (suc n) v ne = refl

valueless : (x : Bare) → (bare_number x ≡ 0 → ⊥) → AllZero (bare_values x)
unfolding bare_number bare_values AllZero header_read header_within header_plain header_written word_read word_written type_read type_written
valueless (read_header n) ne = (given-refused _ _ ne, (given-refused _ _ ne, (given-refused _ _ ne, tt)))
valueless (read_within n most) ne = (given-refused _ _ ne, (given-refused _ _ ne, (given-refused _ _ ne, tt)))
valueless (read_plain n most) ne = (given-refused _ _ ne, (given-refused _ _ ne, (given-refused _ _ ne, tt)))
valueless (write_header a i) ne = (given-refused _ _ ne, tt)
valueless (read_word n) ne = (given-refused _ _ ne, (given-refused _ _ ne, tt))
valueless (write_word i) ne = (given-refused _ _ ne, tt)
valueless (read_type b) ne = (given-refused _ _ ne, (given-refused _ _ ne, tt))
valueless (write_type b) ne = (given-refused _ _ ne, tt)

-- ---- what is lent to be read, and a start

-- where there is a group, ask says 5, 6 or 7
shown-with : (h : Head) → (h.group ≡ 0 → ⊥) → In (ask_number h) (5 ∷ 6 ∷ 7 ∷ [])
unfolding ask_number In
shown-with h ne = subst (λ (b : Bool). In (cond b 4 (cond (leb h.wish.limit h.age) 7 (cond (eqb h.gap 1) 6 5))) (5 ∷ 6 ∷ 7 ∷ [])) (sym (ne_eqb h.group 0 ne))
    (go (leb h.wish.limit h.age) (eqb h.gap 1))
  where
    go : (b c : Bool) → In (cond b 7 (cond c 6 5)) (5 ∷ 6 ∷ 7 ∷ [])
    go true c = inr (inr (inl refl))
    go false true = inr (inl refl)
    go false false = inl refl

-- 4 and refusals come with an empty part
empty : (s : List ℕ) (a : ℕ) → (In (asked s a).number (5 ∷ 6 ∷ 7 ∷ []) → ⊥) → ask_part s a ≡ []
unfolding ask_part
empty s a none = go (ℕ_discrete (leave_answer s a) 0) (ℕ_discrete (head_of (slot_at (find s a) s)).group 0)
  where
    h : Head
    h = head_of (slot_at (find s a) s)

    found : leave_answer s a ≡ 0 → asked s a ≡ asked_at (find s a) h
    found z = sym (asked-found s a (find s a) h _ z refl refl refl)

    go : Dec (leave_answer s a ≡ 0) → Dec (h.group ≡ 0) → part (asked s a).at (asked s a).len s ≡ []
    go (no ne) d = ap (λ (x : Asked). part x.at x.len s) (sym (asked-refused s a (leave_answer s a) refl ne)) ∙ part_none s
    go (yes z) (yes e) = ap (λ (x : Asked). part x.at x.len s) (found z ∙ asked-none (find s a) h e) ∙ part_none s
    go (yes z) (no ne) =
        absurd (none (subst (λ (n : ℕ). In n (5 ∷ 6 ∷ 7 ∷ [])) (sym (ap (λ (x : Asked). x.number) (found z ∙ asked-group h ne (find s a)))) (shown-with h ne)))

pub begins : (s : List ℕ) → length s ≡ state_size → start_after s ≡ started_state
unfolding start_after
begins s l = done-passed (start_answer s) started_state s (sym (start-passed s l))

pub demand-1 : Demand1 ours
unfolding question_answer our_answer our_after our_board
demand-1 = record {
  numbered = numbered;
  writes = λ a p m o. write-answers a p (length m) (length o);
  bare = bare-answers;
  unchanged = unchanged;
  dropped = drops;
  carries = carries;
  unwritten = unwritten;
  valueless = valueless;
  started = λ s l. begins s l ∙ started-bytes;
  empty = λ a s none. empty s a none;
  reads = λ q s. refl;
  boards = λ a notice s. (refl, refl);
}
