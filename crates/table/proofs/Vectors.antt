-- The table's calls by number: section 6's rows on both sides, in their order, on the started state, on one that is not good, on one that
-- follows 17, and on one that is full. The numbers are the paper's.
--
--   spoiled, started, followed, filled n     the states, and what they show
--   unknown, known, again, full, accepted    what is answered to an address, by its place
--   starts, ends                  start 20 and 0; subframe end 20, 34 and 0
--   leaves                        leave 20, 34, 22, 27 and 0
--   follows-refused               follow 20 and 34, before any other row
--   follows                       22 before 23 before 24 where several hold; addresses 1 and 1,022, limits 1 and 1,500 pass
--   follows-again                 24 before 25; another address passes
--   started-bytes, started-setting     what start leaves: 11,776 bytes of 0, and the setting 3
--   loose                         a state with the setting 4 is not good; sets: 20, 34, 48, and 0 at 0 to 3
--   set most                      the started state with a setting of 0 to 3, which is good and has no address
--   follows-full                  the seventeenth: 26, and 25 before it; it passes after a leave
--
-- Assumes nothing.
use mathlib.Core.Path.{◌≡◌, refl, sym, ap, ap₂, ◌∙◌, subst}
use mathlib.Core.Bool.{Bool, true, false, cond, ◌&&◌, ◌||◌}
use mathlib.Core.List.{List, [], ◌∷◌, ◌++◌}
use Prim.Native.Nat.{ℕ, zero, suc, ◌≤◌, ◌<◌, ◌+◌, ◌-◌}
use native.Mathlib.Omega.{arith}
use native.Mathlib.Decide.{ℕ_discrete, dec_lt}
use borrow.Author.Tests.{eq-eqb, ne_eqb, lt-ltb, le-ltb, le-leb}
use lib.Dec.{T, leb, ltb, eqb, leb→le, eqb→eq, lit<, lit≤}
use lib.ListN.{length, take, drop}
use Rattle.bits.specs.Bits.{blank}
use Rattle.bits.specs.Rows.{refusal}
use Rattle.bits.specs.Search.{first}
use Rattle.bits.proofs.Every.{both, both_left, both_right, every, every-at}
use Rattle.bits.proofs.Storing.{blank-length, drop-blank}
use Rattle.runs.specs.Part.{part, put}
use Rattle.runs.specs.Numbers.{four_at}
use Rattle.slot.specs.Slot.{slot_size, head_of, free, good_slot}
use Rattle.head.specs.Head.{good_head, wish_of, good_wish, wish_answer}
use Rattle.head.specs.declared.Wish.{Wish}
use Rattle.head.proofs.Wishes.{wish-passes}
use Rattle.table.specs.State.{slots, tail_at, tail_size, state_size, setting, with_setting, started_state, slot_at, find, good}
use Rattle.table.specs.Calls.{start_answer, follow_answer, follow_after, leave_answer, leave_after, end_answer, set_answer}
use Rattle.table.proofs.Doing.{start-refused, start-passed}
use Rattle.runs.proofs.Parts.{part-blank}
use Rattle.table.proofs.Looking.{Passed, state-20, state-34, leave-22, leave-27, leave-0, follow-wish, follow-25, follow-26, follow-0, set-48, set-0}
use Rattle.table.proofs.Kept.{started-length, started-good, setting-started}
use Rattle.table.proofs.Shows.{Shows, place, with, find-place, start-shows, follow-shows, leave-shows, end-done}
use Rattle.table.proofs.States.{good-each, each-good, set-length, setting-put, find-kept, good-set}

-- ---- 20: a state of none, of 11,776 and of 11,778 bytes

wrong : (n : ℕ) → (n ≡ state_size → ⊥) → length (blank n) ≡ state_size → ⊥
wrong n ne e = ne (sym (blank-length n) ∙ e)

abbrev empty : List ℕ
empty = []

none : length empty ≡ state_size → ⊥
none q = omega (arith, q)

short : length (blank (state_size - 1)) ≡ state_size → ⊥
short = wrong (state_size - 1) (λ q. omega (arith, q))

long : length (blank (state_size + 1)) ≡ state_size → ⊥
long = wrong (state_size + 1) (λ q. omega (arith, q))

-- the paper's number
pub size : state_size ≡ 11777
size = refl

pub starts : (start_answer empty ∷ start_answer (blank (state_size - 1)) ∷ start_answer (blank (state_size + 1)) ∷ start_answer (blank state_size) ∷ []) ≡ (20 ∷ 20 ∷ 20 ∷ 0 ∷ [])
starts = λ i.
    sym (start-refused empty none) i ∷ sym (start-refused (blank (state_size - 1)) short) i ∷ sym (start-refused (blank (state_size + 1)) long) i
    ∷ sym (start-passed (blank state_size) (blank-length state_size)) i ∷ []

-- ---- 34: a byte that is not 0 in a slot without an address

abbrev pub spoiled : List ℕ
spoiled = 1 ∷ blank (state_size - 1)

pub spoiled-length : length spoiled ≡ state_size
spoiled-length = ap suc (blank-length (state_size - 1))

spoiled-slot : slot_at 0 spoiled ≡ 1 ∷ blank (slot_size - 1)
unfolding slot_at part
spoiled-slot = ap (λ (x : List ℕ). 1 ∷ x) (part-blank 0 (slot_size - 1) (state_size - 1) (lit≤ tt))

spoiled-bad : good_slot (1 ∷ blank (slot_size - 1)) ≡ false
unfolding good_slot free good_head head_of four_at blank good_wish
spoiled-bad = refl

pub spoiled-not : good spoiled ≡ false
spoiled-not = go (good spoiled) refl
  where
    go : (b : Bool) → good spoiled ≡ b → good spoiled ≡ false
    go true q = absurd (subst T (sym ((good-each spoiled q).slot 0 (lit< tt)) ∙ ap good_slot spoiled-slot ∙ spoiled-bad) tt)
    go false q = q

-- ---- the started state, and one that follows 17

abbrev pub started : List ℕ
started = started_state

abbrev pub nobody : ℕ → ℕ
nobody k = 0

pub ok : Passed started
ok = start-shows.passed

-- "start puts 3": 11,776 bytes of 0 and then the setting
take-blank : (n m : ℕ) → n ≤ m → take n (blank m) ≡ blank n
unfolding part
take-blank n m h = part-blank 0 n m (omega arith)

blank_none : blank 0 ≡ []
unfolding blank
blank_none = refl

pub started-bytes : started ≡ blank 11776 ++ (3 ∷ [])
unfolding with_setting put
started-bytes =
    ap₂ (λ (x y : List ℕ). x ++ (3 ∷ y)) (take-blank tail_at state_size (lit≤ tt))
    (ap (drop tail_size) (drop-blank tail_at state_size) ∙ drop-blank tail_size (state_size - tail_at) ∙ blank_none)

pub started-setting : setting started ≡ 3
started-setting = setting-started

-- ---- the setting

-- "a good state holds 0 to 3"
abbrev pub loose : List ℕ
loose = with_setting 4 started

pub loose-length : length loose ≡ state_size
loose-length = set-length started started-length 4

pub loose-not : good loose ≡ false
loose-not = go (good loose) refl
  where
    go : (b : Bool) → good loose ≡ b → good loose ≡ false
    go true q = absurd (omega (arith, (good-each loose q).setting, setting-put started started-length 4))
    go false q = q

set-20 : (s : List ℕ) (most : ℕ) → (length s ≡ state_size → ⊥) → set_answer s most ≡ 20
unfolding set_answer
set-20 s most = state-20 s _

set-34 : (s : List ℕ) (most : ℕ) → length s ≡ state_size → good s ≡ false → set_answer s most ≡ 34
unfolding set_answer
set-34 s most = state-34 s _

pub sets : (set_answer empty 4 ∷ set_answer (blank 11776) 0 ∷ set_answer spoiled 4 ∷ set_answer loose 0 ∷ set_answer started 4 ∷ set_answer started 0
    ∷ set_answer started 3 ∷ []) ≡ (20 ∷ 20 ∷ 34 ∷ 34 ∷ 48 ∷ 0 ∷ 0 ∷ [])
sets = λ i.
    set-20 empty 4 none i ∷ set-20 (blank 11776) 0 short i ∷ set-34 spoiled 4 spoiled-length spoiled-not i
    ∷ set-34 loose 0 loose-length loose-not i ∷ set-48 started 4 ok (lit< tt) i ∷ set-0 started 0 ok (lit≤ tt) i
    ∷ set-0 started 3 ok (lit≤ tt) i ∷ []

abbrev pub set : ℕ → List ℕ
set most = with_setting most started

pub set-ok : (most : ℕ) → most ≤ 3 → Passed (set most)
set-ok most h = record {
  size = set-length started started-length most;
  all-good = each-good (set most) (good-set started started-length started-good most h);
}

pub set-setting : (most : ℕ) → setting (set most) ≡ most
set-setting most = setting-put started started-length most

pub set-absent : (most a : ℕ) → slots ≤ place nobody a → slots ≤ find (set most) a
set-absent most a h =
    subst (λ (k : ℕ). slots ≤ k) (find-place started nobody start-shows a ∙ sym (find-kept started started-length most a)) h

-- what is answered to an address by its place
module _ (s : List ℕ) (f : ℕ → ℕ) (v : Shows s f) (a : ℕ) (t22 : (ltb a 1 || ltb 1022 a) ≡ false) where
  pub unknown : slots ≤ place f a → leave_answer s a ≡ 27
  unknown = leave-27 s a v.passed t22 (place f a) (find-place s f v a)

  pub known : place f a < slots → leave_answer s a ≡ 0
  known = leave-0 s a v.passed t22 (place f a) (find-place s f v a)

-- and to a wish
module _ (s : List ℕ) (f : ℕ → ℕ) (v : Shows s f) (w : Wish) (t : wish_answer w ≡ 0) where
  pub again : place f w.address < slots → follow_answer s w ≡ 25
  again = follow-25 s w v.passed t (place f w.address) (find-place s f v w.address)

  pub full : slots ≤ place f w.address → slots ≤ place f 0 → follow_answer s w ≡ 26
  full absent = follow-26 s w v.passed t (place f w.address) (find-place s f v w.address) absent (place f 0) (find-place s f v 0)

  pub accepted : slots ≤ place f w.address → place f 0 < slots → follow_answer s w ≡ 0
  accepted absent = follow-0 s w v.passed t (place f w.address) (find-place s f v w.address) absent (place f 0) (find-place s f v 0)

-- a wish that is refused
refused : (w : Wish) (n : ℕ) → wish_answer w ≡ suc n → follow_answer started w ≡ suc n
refused w n e = follow-wish started w ok (λ z. omega (arith, z, e)) ∙ e

pub followed-17 : follow_answer started (wish_of 17 1 2) ≡ 0
unfolding first wish_answer refusal
followed-17 = accepted started nobody start-shows (wish_of 17 1 2) refl (lit≤ tt) (lit< tt)

abbrev pub followed : List ℕ
followed = follow_after started (wish_of 17 1 2)

-- slot 0 has address 17, the others none
abbrev pub one : ℕ → ℕ
one = with nobody 0 17

pub followed-shows : Shows followed one
unfolding first
followed-shows = follow-shows started nobody start-shows (wish_of 17 1 2) followed-17

-- ---- subframe end, leave

pub ends : (end_answer empty ∷ end_answer spoiled ∷ end_answer started ∷ end_answer followed ∷ []) ≡ (20 ∷ 34 ∷ 0 ∷ 0 ∷ [])
unfolding end_answer
ends = λ i.
    state-20 empty [] none i ∷ state-34 spoiled [] spoiled-length spoiled-not i ∷ end-done started nobody start-shows i
    ∷ end-done followed one followed-shows i ∷ []

pub leave-20 : leave_answer (blank (state_size - 1)) 0 ≡ 20
unfolding leave_answer
leave-20 = state-20 (blank (state_size - 1)) _ short

pub leave-34 : leave_answer spoiled 0 ≡ 34
unfolding leave_answer
leave-34 = state-34 spoiled _ spoiled-length spoiled-not

pub leaves : (leave_answer (blank (state_size - 1)) 0 ∷ leave_answer spoiled 0 ∷ leave_answer started 0 ∷ leave_answer started 1023 ∷ leave_answer started 1
    ∷ leave_answer started 1022 ∷ leave_answer followed 18 ∷ leave_answer followed 17 ∷ [])
    ≡ (20 ∷ 34 ∷ 22 ∷ 22 ∷ 27 ∷ 27 ∷ 27 ∷ 0 ∷ [])
unfolding first
leaves = λ i.
    leave-20 i ∷ leave-34 i ∷ leave-22 started 0 ok refl i ∷ leave-22 started 1023 ok refl i
    ∷ unknown started nobody start-shows 1 refl (lit≤ tt) i ∷ unknown started nobody start-shows 1022 refl (lit≤ tt) i
    ∷ unknown followed one followed-shows 18 refl (lit≤ tt) i ∷ known followed one followed-shows 17 refl (lit< tt) i ∷ []

-- ---- follow

follow-20 : (s : List ℕ) (w : Wish) → (length s ≡ state_size → ⊥) → follow_answer s w ≡ 20
unfolding follow_answer
follow-20 s w = state-20 s _

follow-34 : (w : Wish) → follow_answer spoiled w ≡ 34
unfolding follow_answer
follow-34 w = state-34 spoiled _ spoiled-length spoiled-not

pub follows-refused : (follow_answer empty (wish_of 0 2 0) ∷ follow_answer (blank (state_size - 1)) (wish_of 17 1 2) ∷ follow_answer (blank (state_size + 1)) (wish_of 17 1 2)
    ∷ follow_answer spoiled (wish_of 0 2 0) ∷ []) ≡ (20 ∷ 20 ∷ 20 ∷ 34 ∷ [])
follows-refused = λ i.
    follow-20 empty (wish_of 0 2 0) none i ∷ follow-20 (blank (state_size - 1)) (wish_of 17 1 2) short i ∷ follow-20 (blank (state_size + 1)) (wish_of 17 1 2) long i ∷ follow-34 (wish_of 0 2 0) i ∷ []

pub follows : (follow_answer started (wish_of 0 2 0) ∷ follow_answer started (wish_of 1023 2 0) ∷ follow_answer started (wish_of 1 2 0) ∷ follow_answer started (wish_of 1022 2 0)
    ∷ follow_answer started (wish_of 17 1 0) ∷ follow_answer started (wish_of 17 1 1501) ∷ follow_answer started (wish_of 1 0 1) ∷ follow_answer started (wish_of 1022 1 1500) ∷ [])
    ≡ (22 ∷ 22 ∷ 23 ∷ 23 ∷ 24 ∷ 24 ∷ 0 ∷ 0 ∷ [])
unfolding first wish_answer refusal
follows = λ i.
    refused (wish_of 0 2 0) 21 refl i ∷ refused (wish_of 1023 2 0) 21 refl i
    ∷ refused (wish_of 1 2 0) 22 refl i ∷ refused (wish_of 1022 2 0) 22 refl i
    ∷ refused (wish_of 17 1 0) 23 refl i ∷ refused (wish_of 17 1 1501) 23 refl i
    ∷ accepted started nobody start-shows (wish_of 1 0 1) refl (lit≤ tt) (lit< tt) i
    ∷ accepted started nobody start-shows (wish_of 1022 1 1500) refl (lit≤ tt) (lit< tt) i ∷ []

pub follows-again : (follow_answer followed (wish_of 17 1 0) ∷ follow_answer followed (wish_of 17 1 2) ∷ follow_answer followed (wish_of 18 1 2) ∷ []) ≡ (24 ∷ 25 ∷ 0 ∷ [])
unfolding first wish_answer refusal
follows-again = λ i.
    follow-wish followed (wish_of 17 1 0) followed-shows.passed (λ z. omega (arith, z)) i
    ∷ again followed one followed-shows (wish_of 17 1 2) refl (lit< tt) i
    ∷ accepted followed one followed-shows (wish_of 18 1 2) refl (lit≤ tt) (lit< tt) i ∷ []

-- ---- a full table: addresses 1 to 16

unfoldable pub followed_to : ℕ → List ℕ
followed_to zero = started
followed_to (suc n) = follow_after (followed_to n) (wish_of (suc n) 1 2)

abbrev first_of : ℕ → ℕ → ℕ
first_of n k = cond (ltb k n) (suc k) 0

-- the next address is not followed yet, and the lowest free slot is the next
abbrev next : ℕ → Bool
next n = both (leb slots (place (first_of n) (suc n))) (eqb (place (first_of n) 0) n)

all-next : T (every next 4 0)
unfolding first
all-next = tt

filled_next : (n : ℕ) → n < slots → T (next n)
filled_next = every-at next 4 all-next

first_more : (n k : ℕ) → with (first_of n) n (suc n) k ≡ first_of (suc n) k
first_more n k = go (ℕ_discrete k n) (dec_lt k n)
  where
    go : Dec (k ≡ n) → Dec (k < n) → with (first_of n) n (suc n) k ≡ first_of (suc n) k
    go (yes e) l =
        ap (λ (b : Bool). cond b (suc n) (first_of n k)) (eq-eqb k n e) ∙ ap suc (sym e)
        ∙ sym (ap (λ (b : Bool). cond b (suc k) 0) (lt-ltb k (suc n) (omega arith)))
    go (no e) (yes l) =
        ap (λ (b : Bool). cond b (suc n) (first_of n k)) (ne_eqb k n e) ∙ ap (λ (b : Bool). cond b (suc k) 0) (lt-ltb k n l)
        ∙ sym (ap (λ (b : Bool). cond b (suc k) 0) (lt-ltb k (suc n) (omega arith)))
    go (no e) (no l) =
        ap (λ (b : Bool). cond b (suc n) (first_of n k)) (ne_eqb k n e) ∙ ap (λ (b : Bool). cond b (suc k) 0) (le-ltb k n (omega arith))
        ∙ sym (ap (λ (b : Bool). cond b (suc k) 0) (le-ltb k (suc n) (omega (arith, e, l))))

pub filled-accepted : (n : ℕ) → n < slots → Shows (followed_to n) (first_of n) → follow_answer (followed_to n) (wish_of (suc n) 1 2) ≡ 0
unfolding good_wish
filled-accepted n h v =
    let t = filled_next n h in
    let a = leb slots (place (first_of n) (suc n)) in
    let b = eqb (place (first_of n) 0) n in
    let at : place (first_of n) 0 ≡ n = eqb→eq (place (first_of n) 0) n (both_right a b t) in
    accepted (followed_to n) (first_of n) v (wish_of (suc n) 1 2)
    (wish-passes (wish_of (suc n) 1 2) (good n h))
    (leb→le slots (place (first_of n) (suc n)) (both_left a b t)) (subst (λ (i : ℕ). i < slots) (sym at) h)
  where
    good : (n : ℕ) → n < slots → good_wish (wish_of (suc n) 1 2) ≡ true
    good n h = ap₂ (λ (x y : Bool). (x && y) && true) (le-leb 1 (suc n) (omega arith)) (le-leb (suc n) 1022 (omega arith))

pub filled-shows : (n : ℕ) → n ≤ slots → Shows (followed_to n) (first_of n)
unfolding followed_to
filled-shows zero h = record {
  passed = ok;
  each = λ k hk. start-shows.each k hk ∙ sym (ap (λ (b : Bool). cond b (suc k) 0) (le-ltb k 0 (omega arith)));
}
filled-shows (suc n) h =
    let v = filled-shows n (omega arith) in
    let t = filled_next n (omega arith) in
    let at : place (first_of n) 0 ≡ n = eqb→eq (place (first_of n) 0) n (both_right (leb slots (place (first_of n) (suc n))) (eqb (place (first_of n) 0) n) t) in
    let w = follow-shows (followed_to n) (first_of n) v (wish_of (suc n) 1 2) (filled-accepted n (omega arith) v) in
    record {
      passed = w.passed;
      each = λ k hk. w.each k hk ∙ ap (λ (i : ℕ). with (first_of n) i (suc n) k) at ∙ first_more n k;
    }

-- the seventeenth, and after 5 was left
pub follows-full : (follow_answer (followed_to 16) (wish_of 16 1 2) ∷ follow_answer (followed_to 16) (wish_of 17 1 2) ∷ follow_answer (leave_after (followed_to 16) 5) (wish_of 17 1 2) ∷ [])
    ≡ (25 ∷ 26 ∷ 0 ∷ [])
unfolding first wish_answer refusal
follows-full =
    let v = filled-shows 16 (lit≤ tt) in
    let left : leave_answer (followed_to 16) 5 ≡ 0 = known (followed_to 16) (first_of 16) v 5 refl (lit< tt) in
    let w = leave-shows (followed_to 16) (first_of 16) v 5 left in
    λ i. again (followed_to 16) (first_of 16) v (wish_of 16 1 2) refl (lit< tt) i
    ∷ full (followed_to 16) (first_of 16) v (wish_of 17 1 2) refl (lit≤ tt) (lit≤ tt) i
    ∷ accepted (leave_after (followed_to 16) 5) (with (first_of 16) 4 0) w (wish_of 17 1 2) refl (lit≤ tt) (lit< tt) i ∷ []
