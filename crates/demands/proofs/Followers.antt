-- From a start on the table of followed addresses and the setting are the history's: what each call answers follows from the calls alone.
--
--   used s             how many slots have an address
--   Lists l s          the addresses of l, none of them twice, are those that a good state follows
--   lists-now          each call keeps that; lists-run: and so do any calls
--   by-history         what the calls answer then
--   settings-run       the setting after any calls; history-run: what they answer from a start on
--   keeps-table        ours
--
-- Assumes nothing.
use mathlib.Core.Path.{◌≡◌, refl, sym, ap, ap₂, ◌∙◌, subst}
use mathlib.Core.Bool.{Bool, true, false, cond, not, ◌&&◌, ◌||◌, and_assoc}
use mathlib.Core.List.{List, [], ◌∷◌}
use Prim.Native.Nat.{ℕ, zero, suc, ◌≤◌, ◌<◌}
use native.Mathlib.Omega.{arith}
use native.Mathlib.Decide.{ℕ_discrete, dec_lt}
use borrow.Author.Tests.{eq-eqb, ne_eqb, eqb-false, lt-ltb, le-ltb, ltb-true, le-leb, leb-true, not-true}
use lib.Dec.{T, leb, ltb, eqb}
use lib.ListN.{length}
use Rattle.bits.specs.Rows.{Row, row, refusal}
use Rattle.bits.proofs.Rows.{refusal-hit, refusal-miss}
use Rattle.bits.proofs.Search.{and_left, and_right}
use Rattle.image.specs.Image.{spare_of}
use Rattle.head.specs.Head.{within, good_wish}
use Rattle.head.proofs.Bounds.{wish-bounds}
use Rattle.head.proofs.Wishes.{wish-rest, wish-passes}
use Rattle.head.specs.declared.Wish.{Wish}
use Rattle.table.specs.State.{state_size, setting, started_state, slots, address_at, find}
use Rattle.table.specs.Calls.{start_answer, follow_answer, leave_answer, set_answer}
use Rattle.table.proofs.Looking.{state-rest}
use Rattle.table.proofs.States.{good-each, find-has, find-only, find-agree, find_none, used-one}
use Rattle.table.proofs.Kept.{Followed, follow-passed, leave-passed, setting-started}
use Rattle.history.specs.Sent.{In}
use Rattle.adapter.specs.Calls.{address_of, flips_of, beyond, followed, unplaced, packet_answer}
use Rattle.adapter.proofs.Laws.{packet-refused}
use Rattle.demands.specs.Machine.{Call, start, follow, leave, packet, subframe_end, set_flips, asks, ask, Question, ours, question_answer, our_answer, our_after, run}
use Rattle.demands.specs.Rows.{wish_rows, address_rows, rows_of}
use Rattle.demands.specs.Setting.{setting_after}
use Rattle.demands.specs.Table.{Good, address_after, member, without, accepts, follow_now, followed_after, ByHistory, KeepsTable}
use Rattle.demands.proofs.Numbers.{among, in-among, rows_in}
use Rattle.demands.proofs.Numbered.{ask-answers}
use Rattle.demands.proofs.Counting.{count, count-le, count-agree, count-one, count_none, count-all, count-some, Distinct, without-none, without_other, without_gone, without-length, without-distinct}
use Rattle.demands.proofs.Serving.{Serves, here-address, here-wish}
use Rattle.demands.proofs.Parts.{by_place}
use Rattle.demands.proofs.Settings.{setting-next, set-puts}
use Rattle.demands.proofs.First.{begins, placed-in}
use Rattle.demands.proofs.Tables.{started-state, end-passed, either, keeps-good, keeps-addresses}
use Rattle.demands.proofs.Examples.{empty-address, empty-absent}

-- ---- how many slots are used

abbrev is_used : List ℕ → ℕ → Bool
is_used s k = ltb 0 (address_at s k)

unfoldable pub used : List ℕ → ℕ
used s = count (is_used s) slots 0

used_le : (s : List ℕ) → used s ≤ slots
unfolding used
used_le s = count-le (is_used s) slots 0

-- all are, exactly if none is free
used-full : (s : List ℕ) → not (ltb (find s 0) 16) ≡ eqb (used s) 16
unfolding used
used-full s = go (dec_lt (find s 0) slots)
  where
    free : address_at s (find s 0) ≡ 0 → is_used s (find s 0) ≡ false
    free e = le-ltb 0 (address_at s (find s 0)) (omega (arith, e))

    go : Dec (find s 0 < slots) → not (ltb (find s 0) 16) ≡ eqb (count (is_used s) slots 0) 16
    go (yes h) =
        let less = count-some (is_used s) slots 0 (find s 0) (omega arith) h (free (find-has s 0 h)) in
        ap not (lt-ltb (find s 0) 16 h) ∙ sym (ne_eqb (count (is_used s) slots 0) 16 (λ e. omega (arith, e, less)))
    go (no h) =
        let none : (k : ℕ) → k < slots → is_used s k ≡ true = λ k hk. lt-ltb 0 (address_at s k) (pos k (find_none s 0 (omega arith) k hk)) in
        ap not (le-ltb (find s 0) 16 (omega arith)) ∙ sym (eq-eqb _ 16 (count-all (is_used s) slots 0 (λ k l m. none k m)))
      where
        pos : (k : ℕ) → (address_at s k ≡ 0 → ⊥) → 0 < address_at s k
        pos k ne = omega (arith, ne)

-- ---- the list and the state

pub record Lists (l s : List ℕ) : Type 0 where
  pub state : Good s
  pub same : (a : ℕ) → 0 < a → member a l ≡ ltb (find s a) 16
  pub zero : member 0 l ≡ false
  pub size : length l ≡ used s
  pub distinct : Distinct l

pub lists-empty : Lists [] started_state
unfolding member used Distinct
lists-empty = record {
  state = started-state;
  same = λ a h. sym (le-ltb (find started_state a) 16 (empty-absent a h));
  zero = refl;
  size = sym (count_none (is_used started_state) slots 0 (λ k l h. le-ltb 0 (address_at started_state k) (omega (arith, empty-address k h))));
  distinct = tt;
}

-- a state with the same addresses
module _ (l s t : List ℕ) (k : Lists l s) (g : Good t) where
  lists-same : ((j : ℕ) → j < slots → address_at t j ≡ address_at s j) → Lists l t
  unfolding used
  lists-same e = record {
    state = g;
    same = λ a h. k.same a h ∙ ap (λ (n : ℕ). ltb n 16) (find-agree s t a (λ j hj. ap (λ (n : ℕ). eqb n a) (sym (e j hj))));
    zero = k.zero;
    size = k.size ∙ count-agree (is_used s) (is_used t) slots 0 (λ j m h. ap (ltb 0) (sym (e j h)));
    distinct = k.distinct;
  }

-- an address more, in a slot that was free
module _ (l s t : List ℕ) (k : Lists l s) (g : Good t) (a : ℕ) (pos : 0 < a) (absent : slots ≤ find s a) (room : find s 0 < slots)
    (e : (j : ℕ) → j < slots → address_at t j ≡ cond (eqb j (find s 0)) a (address_at s j)) where
  abbrev place : ℕ
  place = find s 0

  here : address_at t place ≡ a
  here = e place room ∙ ap (λ (b : Bool). cond b a (address_at s place)) (eq-eqb place place refl)

  there : (j : ℕ) → j < slots → (j ≡ place → ⊥) → address_at t j ≡ address_at s j
  there j hj ne = e j hj ∙ ap (λ (b : Bool). cond b a (address_at s j)) (ne_eqb j place ne)

  found : find t a ≡ place
  found = find-only t a place room here (λ j hj q. only j hj q (ℕ_discrete j place))
    where
      only : (j : ℕ) → j < slots → address_at t j ≡ a → Dec (j ≡ place) → j ≡ place
      only j hj q (yes z) = z
      only j hj q (no z) = absurd (find_none s a absent j hj (sym (there j hj z) ∙ q))

  find-other : (b : ℕ) → 0 < b → (b ≡ a → ⊥) → find s b ≡ find t b
  find-other b hb ne = find-agree s t b (λ j hj. at j hj (ℕ_discrete j place))
    where
      at : (j : ℕ) → j < slots → Dec (j ≡ place) → eqb (address_at s j) b ≡ eqb (address_at t j) b
      at j hj (yes z) =
          ne_eqb (address_at s j) b (λ q. omega (arith, hb, sym q ∙ ap (address_at s) z ∙ find-has s 0 room))
          ∙ sym (ne_eqb (address_at t j) b (λ q. ne (sym q ∙ ap (address_at t) z ∙ here)))
      at j hj (no z) = ap (λ (n : ℕ). eqb n b) (sym (there j hj z))

  new : member a l ≡ false
  new = k.same a pos ∙ le-ltb (find s a) 16 absent

  lists-add : Lists (a ∷ l) t
  unfolding member used Distinct
  lists-add = record {
    state = g;
    same = λ b hb. member_is b hb (ℕ_discrete b a);
    zero = ap₂ (λ (x y : Bool). x || y) (ne_eqb 0 a (λ q. omega (arith, q, pos))) k.zero;
    size = ap suc k.size ∙ sym (count-one (is_used s) (is_used t) slots 0 place (omega arith) room
        (le-ltb 0 (address_at s place) (omega (arith, find-has s 0 room))) (lt-ltb 0 (address_at t place) (omega (arith, here, pos)))
        (λ j hj ne. ap (ltb 0) (sym (there j hj ne))));
    distinct = (new, k.distinct);
  }
    where
      member_is : (b : ℕ) → 0 < b → Dec (b ≡ a) → (eqb b a || member b l) ≡ ltb (find t b) 16
      member_is b hb (yes q) =
          ap (λ (x : Bool). x || member b l) (eq-eqb b a q)
          ∙ sym (lt-ltb (find t b) 16 (subst (λ (n : ℕ). n < slots) (sym (ap (find t) q ∙ found)) room))
      member_is b hb (no q) =
          ap (λ (x : Bool). x || member b l) (ne_eqb b a q) ∙ k.same b hb ∙ ap (λ (n : ℕ). ltb n 16) (find-other b hb q)

-- an address less
module _ (l s t : List ℕ) (k : Lists l s) (g : Good t) (a : ℕ) (pos : 0 < a) (room : find s a < slots)
    (e : (j : ℕ) → j < slots → address_at t j ≡ cond (eqb j (find s a)) 0 (address_at s j)) where
  abbrev left : ℕ
  left = find s a

  gone : address_at t left ≡ 0
  gone = e left room ∙ ap (λ (b : Bool). cond b 0 (address_at s left)) (eq-eqb left left refl)

  stay : (j : ℕ) → j < slots → (j ≡ left → ⊥) → address_at t j ≡ address_at s j
  stay j hj ne = e j hj ∙ ap (λ (b : Bool). cond b 0 (address_at s j)) (ne_eqb j left ne)

  find-left : (b : ℕ) → 0 < b → (b ≡ a → ⊥) → find s b ≡ find t b
  find-left b hb ne = find-agree s t b (λ j hj. at j hj (ℕ_discrete j left))
    where
      at : (j : ℕ) → j < slots → Dec (j ≡ left) → eqb (address_at s j) b ≡ eqb (address_at t j) b
      at j hj (yes z) =
          ne_eqb (address_at s j) b (λ q. ne (sym q ∙ ap (address_at s) z ∙ find-has s a room))
          ∙ sym (ne_eqb (address_at t j) b (λ q. omega (arith, hb, sym q ∙ ap (address_at t) z ∙ gone)))
      at j hj (no z) = ap (λ (n : ℕ). eqb n b) (sym (stay j hj z))

  no_more : slots ≤ find t a
  no_more = go (dec_lt (find t a) slots)
    where
      other : (h : find t a < slots) → find t a ≡ left → ⊥
      other h q = omega (arith, pos, sym (find-has t a h) ∙ ap (address_at t) q ∙ gone)

      go : Dec (find t a < slots) → slots ≤ find t a
      go (no h) = omega arith
      go (yes h) =
          let there : address_at s (find t a) ≡ a = sym (stay (find t a) h (other h)) ∙ find-has t a h in
          absurd (other h (used-one s (good-each s k.state.good) (find t a) left h room (there ∙ sym (find-has s a room))
          (subst (λ (n : ℕ). 0 < n) (sym (find-has s a room)) pos)))

  lists-drop : Lists (without a l) t
  unfolding used
  lists-drop = record {
    state = g;
    same = λ b hb. member_is b hb (ℕ_discrete b a);
    zero = without_other a 0 l (λ q. omega (arith, q, pos)) ∙ k.zero;
    size = fewer (without-length a l (k.same a pos ∙ lt-ltb left 16 room)) k.size
        (count-one (is_used t) (is_used s) slots 0 left (omega arith) room
        (le-ltb 0 (address_at t left) (omega (arith, gone))) (lt-ltb 0 (address_at s left) (omega (arith, find-has s a room, pos)))
        (λ j hj ne. ap (ltb 0) (stay j hj ne)));
    distinct = without-distinct a l k.distinct;
  }
    where
      fewer : {m n u v : ℕ} → suc m ≡ n → n ≡ u → u ≡ suc v → m ≡ v
      fewer p q r = omega (arith, p, q, r)

      member_is : (b : ℕ) → 0 < b → Dec (b ≡ a) → member b (without a l) ≡ ltb (find t b) 16
      member_is b hb (yes q) =
          ap (λ (n : ℕ). member n (without a l)) q ∙ without_gone a l k.distinct
          ∙ sym (ap (λ (n : ℕ). ltb (find t n) 16) q ∙ le-ltb (find t a) 16 no_more)
      member_is b hb (no q) = without_other a b l q ∙ k.same b hb ∙ ap (λ (n : ℕ). ltb n 16) (find-left b hb q)

-- ---- what the calls answer

refused-22 : (w : Wish) (taken full : Bool) → not (within 1 1022 w.address) ≡ true → refusal (wish_rows w taken full) ≡ 22
refused-22 w taken full e = refusal-hit (not (within 1 1022 w.address)) 22 _ e

module _ (l s : List ℕ) (k : Lists l s) where
  full : not (ltb (find s 0) 16) ≡ eqb (length l) 16
  full = used-full s ∙ ap (λ (n : ℕ). eqb n 16) (sym k.size)

  follow-by : (w : Wish) → follow_answer s w ≡ refusal (wish_rows w (member w.address l) (eqb (length l) 16))
  unfolding follow_answer refusal
  follow-by w =
      state-rest s (wish_rows w (ltb (find s w.address) 16) (not (ltb (find s 0) 16))) k.state.size k.state.good
      ∙ ap (λ (b : Bool). refusal (wish_rows w (ltb (find s w.address) 16) b)) full ∙ at w.address refl
    where
      rows : Bool → List Row
      rows b = wish_rows w b (eqb (length l) 16)

      -- at address 0 the first row holds, and the others are not asked
      at : (a : ℕ) → w.address ≡ a → refusal (rows (ltb (find s w.address) 16)) ≡ refusal (rows (member w.address l))
      at zero e =
          let first : not (within 1 1022 w.address) ≡ true = ap (λ (n : ℕ). not (within 1 1022 n)) e in
          refused-22 w (ltb (find s w.address) 16) (eqb (length l) 16) first ∙ sym (refused-22 w (member w.address l) (eqb (length l) 16) first)
      at (suc n) e = ap (λ (b : Bool). refusal (rows b)) (sym (k.same w.address (omega (arith, e))))

  leave-by : (a : ℕ) → leave_answer s a ≡ refusal (address_rows a (not (member a l)))
  unfolding leave_answer refusal
  leave-by a = state-rest s (address_rows a (not (ltb (find s a) 16))) k.state.size k.state.good ∙ at a
    where
      at : (a : ℕ) → refusal (address_rows a (not (ltb (find s a) 16))) ≡ refusal (address_rows a (not (member a l)))
      at zero = refl
      at (suc n) = ap (λ (b : Bool). refusal (address_rows (suc n) (not b))) (sym (k.same (suc n) (omega arith)))

  -- the rows of a packet that need no slot
  placed_by : (image : List ℕ)
      → unplaced s image ≡ refusal (row (not (eqb (length image) 94)) 20 ∷ row (eqb (spare_of image) 1) 21 ∷ row (beyond s image) 49
      ∷ row (not (followed s (address_of image))) 27 ∷ [])
  unfolding unplaced refusal
  placed_by image =
      ap₂ (λ (x y : Bool). refusal (row (not (eqb (length image) 94)) 20 ∷ row (not x) 20 ∷ row (not y) 34 ∷ row (eqb (spare_of image) 1) 21
      ∷ row (beyond s image) 49 ∷ row (not (followed s (address_of image))) 27 ∷ [])) (eq-eqb (length s) state_size k.state.size) k.state.good

  absent-followed : (a : ℕ) → member a l ≡ false → followed s a ≡ false
  unfolding followed
  absent-followed zero e = refl
  absent-followed (suc n) e =
      ap₂ (λ (x y : Bool). x && y) (lt-ltb 0 (suc n) (omega arith)) (sym (k.same (suc n) (omega arith)) ∙ e)

  -- the rows behind 20 and 21
  module _ (image : List ℕ) (li : length image ≡ 94) (z : spare_of image ≡ 0) where
    past-21 : unplaced s image ≡ refusal (row (beyond s image) 49 ∷ row (not (followed s (address_of image))) 27 ∷ [])
    unfolding refusal
    past-21 =
        placed_by image ∙ (λ i. refusal (row (not (eq-eqb (length image) 94 li i)) 20
        ∷ row (ne_eqb (spare_of image) 1 (λ q. omega (arith, z, q)) i) 21 ∷ row (beyond s image) 49 ∷ row (not (followed s (address_of image))) 27 ∷ []))

    past-49 : flips_of image ≤ setting s → unplaced s image ≡ refusal (row (not (followed s (address_of image))) 27 ∷ [])
    unfolding beyond
    past-49 f = past-21 ∙ refusal-miss (beyond s image) 49 _ (le-ltb (setting s) (flips_of image) f)

    packet-27 : flips_of image ≤ setting s → member (address_of image) l ≡ false → packet_answer s image ≡ 27
    packet-27 f e =
        let u : unplaced s image ≡ 27 = past-49 f ∙ refusal-hit (not (followed s (address_of image))) 27 [] (ap not (absent-followed (address_of image) e)) in
        (packet-refused s image (λ q. omega (arith, u, q))).0 ∙ u

    packet-49 : setting s < flips_of image → packet_answer s image ≡ 49
    unfolding beyond
    packet-49 f =
        let u : unplaced s image ≡ 49 = past-21 ∙ refusal-hit (beyond s image) 49 _ (lt-ltb (setting s) (flips_of image) f) in
        (packet-refused s image (λ q. omega (arith, u, q))).0 ∙ u

  -- a number is none of a list that has the answer
  not-among : (x n : ℕ) (ns : List ℕ) → In n ns → (T (among x ns) → ⊥) → n ≡ x → ⊥
  not-among x n ns h none e = none (in-among x ns (subst (λ (m : ℕ). In m ns) e h))

  not-34 : (n : ℕ) (ns : List ℕ) → In n ns → (T (among 34 ns) → ⊥) → n ≡ 34 → ⊥
  not-34 = not-among 34

  -- 49 exactly where there are more flips than the setting
  beyond-is : (image : List ℕ) → length image ≡ 94 → spare_of image ≡ 0 → packet_answer s image ≡ 49 → setting s < flips_of image
  beyond-is image li z e = go (dec_lt (setting s) (flips_of image))
    where
      go : Dec (setting s < flips_of image) → setting s < flips_of image
      go (yes f) = f
      go (no f) =
          absurd (by_place s image
          (λ ne. not-among 49 _ (0 ∷ 27 ∷ []) (rows_in _ _ tt) (λ q. q) (sym ((packet-refused s image ne).0 ∙ past-49 image li z (omega (arith, f))) ∙ e))
          (λ p. not-among 49 _ _ (placed-in s image p) (λ q. q) e))

  set-by : (most : ℕ) → set_answer s most ≡ refusal (row (ltb 3 most) 48 ∷ [])
  unfolding set_answer
  set-by most = state-rest s _ k.state.size k.state.good

  question-34 : (q : Question) → question_answer q s ≡ 34 → ⊥
  unfolding question_answer
  question-34 (ask a) e =
      let rows = address_rows a (not (member a l)) in
      let w = ask-answers rows s a (leave-by a) in
      either (refusal rows) (λ z. not-34 _ (4 ∷ 5 ∷ 6 ∷ 7 ∷ []) (w.accepted z) (λ q. q) e)
      (λ ne. not-34 _ (0 ∷ 22 ∷ 27 ∷ []) (rows_in rows _ tt) (λ q. q) (sym (w.refused ne) ∙ e))

  never-34 : (x : Call) → our_answer x s ≡ 34 → ⊥
  unfolding our_answer start_answer
  never-34 start e = not-34 _ (0 ∷ 20 ∷ []) (rows_in _ _ tt) (λ z. z) e
  never-34 (follow w) e = not-34 _ (0 ∷ 22 ∷ 23 ∷ 24 ∷ 25 ∷ 26 ∷ []) (rows_in _ _ tt) (λ z. z) (sym (follow-by w) ∙ e)
  never-34 (leave a) e = not-34 _ (0 ∷ 22 ∷ 27 ∷ []) (rows_in _ _ tt) (λ z. z) (sym (leave-by a) ∙ e)
  never-34 (packet image) e =
      by_place s image
      (λ ne. not-34 _ (0 ∷ 20 ∷ 21 ∷ 49 ∷ 27 ∷ []) (rows_in _ _ tt) (λ z. z) (sym ((packet-refused s image ne).0 ∙ placed_by image) ∙ e))
      (λ p. not-34 _ _ (placed-in s image p) (λ z. z) e)
  never-34 subframe_end e = omega (arith, end-passed s k.state, e)
  never-34 (set_flips most) e = not-34 _ (0 ∷ 48 ∷ []) (rows_in _ _ tt) (λ z. z) (sym (set-by most) ∙ e)
  never-34 (asks q) e = question-34 q e

  pub by-history : ByHistory ours l (setting s) s
  unfolding question_answer our_answer
  by-history = record {
    follows = follow-by;
    leaves = leave-by;
    asks = λ a. ask-answers (address_rows a (not (member a l))) s a (leave-by a);
    beyond = λ image li z. (beyond-is image li z, packet-49 image li z);
    packets = packet-27;
    sets = set-by;
    ends = end-passed s k.state;
    never = never-34;
  }

-- ---- each call keeps it

-- what is accepted, by whether the wish is good
accepts-good : (w : Wish) (l : List ℕ) → accepts w l ≡ (good_wish w && (not (member w.address l) && ltb (length l) 16))
unfolding accepts good_wish
accepts-good w l =
    let a = within 1 1022 w.address in
    let p = leb w.protection 1 in
    let n = within 1 1500 w.limit in
    let b = not (member w.address l) && ltb (length l) 16 in
    sym (and_assoc a (p && n) b ∙ ap (λ (x : Bool). a && x) (and_assoc p n b))

-- a follow that the list takes is accepted
wish-taken : (w : Wish) (l : List ℕ) → accepts w l ≡ true → refusal (wish_rows w (member w.address l) (eqb (length l) 16)) ≡ 0
unfolding refusal
wish-taken w l e =
    let a = w.address in
    let g = sym (accepts-good w l) ∙ e in
    let r = and_right (good_wish w) _ g in
    wish-rest w (row (member a l) 25 ∷ row (eqb (length l) 16) 26 ∷ []) (wish-passes w (and_left (good_wish w) _ g))
    ∙ (λ i. refusal (row (not-true (member a l) (and_left (not (member a l)) _ r) i) 25
    ∷ row (ne_eqb (length l) 16 (λ q. omega (arith, q, ltb-true (length l) 16 (and_right (not (member a l)) _ r))) i) 26 ∷ []))

module _ (l s : List ℕ) (k : Lists l s) where
  keeps : (x : Call) → ((j : ℕ) → j < slots → address_after x s j ≡ address_at s j) → Lists l (our_after x s)
  keeps x e = lists-same l s (our_after x s) k (keeps-good x s k.state) (λ j h. keeps-addresses x s k.state j h ∙ e j h)

  is-taken : (w : Wish) → Followed s w → accepts w l ≡ true
  is-taken w f =
      let a = w.address in
      let less : length l < 16 = room (eqb-false (length l) 16 (sym (full l s k) ∙ ap not (lt-ltb (find s 0) 16 f.room))) in
      let same : good_wish w && (not (member a l) && ltb (length l) 16) ≡ true =
      λ i. f.wish i && (not ((k.same a (wish-bounds w f.wish).address-from ∙ le-ltb (find s a) 16 f.absent) i) && lt-ltb (length l) 16 less i) in
      accepts-good w l ∙ same
    where
      room : (length l ≡ 16 → ⊥) → length l < 16
      room ne = omega (arith, ne, k.size, used_le s)

  follow-now : (w : Wish) → Lists (follow_now (follow w) l) (our_after (follow w) s)
  unfolding follow_now address_after rows_of follow_answer
  follow-now w =
      either (follow_answer s w)
      (λ z. let f = follow-passed s w z in
      subst (λ (b : Bool). Lists (cond b (w.address ∷ l) l) (our_after (follow w) s)) (sym (is-taken w f))
      (lists-add l s (our_after (follow w) s) k (keeps-good (follow w) s k.state) w.address
      (wish-bounds w f.wish).address-from f.absent f.room
      (λ j h. keeps-addresses (follow w) s k.state j h
      ∙ ap (λ (b : Bool). cond (b && eqb j (find s 0)) w.address (address_at s j)) (eq-eqb (follow_answer s w) 0 z))))
      (λ ne. subst (λ (b : Bool). Lists (cond b (w.address ∷ l) l) (our_after (follow w) s)) (sym (untaken (accepts w l) refl ne))
      (keeps (follow w) (λ j h. ap (λ (b : Bool). cond (b && eqb j (find s 0)) w.address (address_at s j)) (ne_eqb (follow_answer s w) 0 ne))))
    where
      untaken : (b : Bool) → accepts w l ≡ b → (follow_answer s w ≡ 0 → ⊥) → accepts w l ≡ false
      untaken true e ne = absurd (ne (follow-by l s k w ∙ wish-taken w l e))
      untaken false e ne = e

  -- a member is an address that can be left
  member-left : (a : ℕ) → member a l ≡ true → leave_answer s a ≡ 0
  unfolding refusal
  member-left zero e = absurd (subst T (sym e ∙ k.zero) tt)
  member-left (suc n) e =
      let a = suc n in
      let at : find s a < slots = ltb-true (find s a) 16 (sym (k.same a (omega arith)) ∙ e) in
      let v : Serves s a = record { size = k.state.size; all = good-each s k.state.good; pos = omega arith; found = at } in
      let q = here-address s a v in
      let w : within 1 1022 a ≡ true = ap₂ (λ (x y : Bool). x && y) (le-leb 1 a (omega arith)) (le-leb a 1022 (omega (arith, (here-wish s a v).address-to, q))) in
      leave-by l s k a ∙ ap₂ (λ (x y : Bool). refusal (row (not x) 22 ∷ row (not y) 27 ∷ [])) w e

  leave-now : (a : ℕ) → Lists (follow_now (leave a) l) (our_after (leave a) s)
  unfolding follow_now address_after rows_of leave_answer
  leave-now a =
      either (leave_answer s a)
      (λ z. let q = leave-passed s a z in
      lists-drop l s (our_after (leave a) s) k (keeps-good (leave a) s k.state) a (leb-true 1 a (and_left (leb 1 a) (leb a 1022) q.1)) q.2
      (λ j h. keeps-addresses (leave a) s k.state j h
      ∙ ap (λ (b : Bool). cond (b && eqb j (find s a)) 0 (address_at s j)) (eq-eqb (leave_answer s a) 0 z)))
      (λ ne. subst (λ (m : List ℕ). Lists m (our_after (leave a) s)) (sym (without-none a l (absent (member a l) refl ne)))
      (keeps (leave a) (λ j h. ap (λ (b : Bool). cond (b && eqb j (find s a)) 0 (address_at s j)) (ne_eqb (leave_answer s a) 0 ne))))
    where
      absent : (b : Bool) → member a l ≡ b → (leave_answer s a ≡ 0 → ⊥) → member a l ≡ false
      absent true e ne = absurd (ne (member-left a e))
      absent false e ne = e

  lists-now : (x : Call) → Lists (follow_now x l) (our_after x s)
  unfolding follow_now address_after our_after
  lists-now start = subst (Lists []) (sym (begins s k.state.size)) lists-empty
  lists-now (follow w) = follow-now w
  lists-now (leave a) = leave-now a
  lists-now (packet image) = keeps (packet image) (λ j h. refl)
  lists-now subframe_end = keeps subframe_end (λ j h. refl)
  lists-now (set_flips most) = keeps (set_flips most) (λ j h. refl)
  lists-now (asks q) = k

pub lists-run : (h : List Call) (l s : List ℕ) → Lists l s → Lists (followed_after h l) (run ours h s)
unfolding followed_after run
lists-run [] l s k = k
lists-run (x ∷ h) l s k = lists-run h (follow_now x l) (our_after x s) (lists-now l s k x)

-- the setting over a list of calls
pub settings-run : (h : List Call) (s : List ℕ) → Good s → setting (run ours h s) ≡ setting_after h (setting s)
unfolding run setting_after
settings-run [] s g = refl
settings-run (x ∷ h) s g =
    settings-run h (our_after x s) (keeps-good x s g) ∙ ap (setting_after h) (setting-next x s g.size (good-each s g.good))

-- from a start on, by the calls alone
pub history-run : (h : List Call) → ByHistory ours (followed_after h []) (setting_after h 3) (run ours h started_state)
history-run h =
    subst (λ (n : ℕ). ByHistory ours (followed_after h []) n (run ours h started_state))
    (settings-run h started_state started-state ∙ ap (setting_after h) setting-started)
    (by-history _ _ (lists-run h [] started_state lists-empty))

pub keeps-table : KeepsTable ours
unfolding our_after
keeps-table = record {
  good = keeps-good;
  addresses = keeps-addresses;
  history = λ s e h. subst (λ (x : List ℕ). ByHistory ours (followed_after h []) (setting_after h 3) (run ours h x)) (sym (begins s e)) (history-run h);
  settings = λ x s g. setting-next x s g.size (good-each s g.good);
  puts = λ most s g. set-puts s g.size (good-each s g.good) most;
}
