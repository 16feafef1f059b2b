-- Laws of histories and of the events they come to.
--
--   group-le, group-lt, number_same    the groups that packets are of, by their numbers
--   ordered, ordered-holds    a test for `InOrder`, so that a history written out is in order by computation
--   group-four                the bytes of a group of four
--   after-refused, after_kept    a refusal drops, or nothing moves; refused-either: what holds of both holds after any
--   run-app                   events after events
--   run-sizes                 events leave the two numbers of a group as they are
--   index-modulo              an index counts modulo the packets of a group, for what a packet changes and for its answer
--
-- Assumes nothing.
use mathlib.Core.Path.{◌≡◌, refl, sym, ap}
use mathlib.Core.Bool.{Bool, true, false, ◌&&◌, ◌||◌, cond}
use mathlib.Core.List.{List, [], ◌∷◌, ◌++◌, append_assoc}
use Prim.Native.Nat.{ℕ, suc, ◌+◌, ◌*◌, ◌%◌, ◌≤◌, ◌<◌}
use native.Mathlib.Decide.{dec_le}
use native.Mathlib.Nat.{mul-suc, mul-le-mul_left, mod-mod}
use native.Mathlib.Omega.{arith}
use lib.Dec.{leb, ltb}
use borrow.Author.Tests.{leb-true, ltb-true, lt-leb}
use Rattle.bits.proofs.Search.{and_left, and_right, or_right}
use Rattle.head.specs.Move.{move_number}
use Rattle.head.proofs.Moves.{move-modulo}
use Rattle.faults.specs.Faults.{Fault, drops}
use Rattle.history.specs.Followed.{Followed, Event, packet, refused, ended, moved, dropped, aged, after, answer, run}
use Rattle.history.specs.Sent.{Sent, Arrival, came, damaged, control, subframe_end, Next, InOrder, group}

-- ---- the numbers of packets

module _ (per i j : ℕ) where
  pub group-le : (d : ℕ) → d < per → per * i ≤ per * j + d → i ≤ j
  group-le d l k = go (dec_le i j)
    where
      go : Dec (i ≤ j) → i ≤ j
      go (yes e) = e
      go (no e) =
          let b : suc j ≤ i = omega arith in
          absurd (omega (arith, mul-suc per j, mul-le-mul_left {m = suc j} {n = i} per b))

  pub group-lt : (c : ℕ) → per * i + c < per * j → i < j
  group-lt c k = go (dec_le j i)
    where
      go : Dec (j ≤ i) → i < j
      go (yes e) = absurd (omega (arith, mul-le-mul_left {m = j} {n = i} per e))
      go (no e) = omega arith

pub number_same : (per i j c d : ℕ) → c < per → d < per → per * i + c ≡ per * j + d → (i ≡ j) × (c ≡ d)
number_same per i j c d k l e =
    let below = group-le per i j d l (omega arith) in
    let above = group-le per j i c k (omega arith) in
    let same : i ≡ j = omega arith in
    (same, omega (arith, ap (λ (x : ℕ). per * x) same))

-- ---- in order

unfoldable pub is_next : ℕ → ℕ → ℕ → ℕ → ℕ → Bool
is_next per most n i c = ltb c per && (leb n (per * i + c) && (leb per 1 || leb (per * i + c) (n + most)))

next-holds : (per most n i c : ℕ) → is_next per most n i c ≡ true → Next per most n i c
unfolding is_next
next-holds per most n i c e =
    let m = per * i + c in
    let bound = leb per 1 || leb m (n + most) in
    let r = and_right (ltb c per) (leb n m && bound) e in
    record {
      index = ltb-true c per (and_left (ltb c per) (leb n m && bound) e);
      once = leb-true n m (and_left (leb n m) bound r);
      lost = λ l. leb-true m (n + most) (or_right (leb per 1) (leb m (n + most)) (and_right (leb n m) bound r) (lt-leb per 1 l));
    }

unfoldable pub ordered : ℕ → ℕ → ℕ → List Arrival → Bool
ordered per most n [] = true
ordered per most n (came i c ∷ h) = is_next per most n i c && ordered per most (suc (per * i + c)) h
ordered per most n (damaged i c r ∷ h) = is_next per most n i c && (drops r && ordered per most (suc (per * i + c)) h)
ordered per most n (control ∷ h) = ordered per most n h
ordered per most n (subframe_end ∷ h) = ordered per most n h

pub ordered-holds : (per most n : ℕ) (h : List Arrival) → ordered per most n h ≡ true → InOrder per most n h
unfolding ordered InOrder
ordered-holds per most n [] e = tt
ordered-holds per most n (came i c ∷ h) e =
    let m = suc (per * i + c) in
    let next = is_next per most n i c in
    let rest = ordered per most m h in
    (next-holds per most n i c (and_left next rest e), ordered-holds per most m h (and_right next rest e))
ordered-holds per most n (damaged i c r ∷ h) e =
    let m = suc (per * i + c) in
    let next = is_next per most n i c in
    let rest = ordered per most m h in
    let x = and_right next (drops r && rest) e in
    let o = next-holds per most n i c (and_left next (drops r && rest) e) in
    (o, and_left (drops r) rest x, ordered-holds per most m h (and_right (drops r) rest x))
ordered-holds per most n (control ∷ h) e = ordered-holds per most n h e
ordered-holds per most n (subframe_end ∷ h) e = ordered-holds per most n h e

-- ---- bytes and events

pub group-four : (sent : Sent) (i : ℕ) → group 4 sent i ≡ sent i 0 ++ (sent i 1 ++ (sent i 2 ++ sent i 3))
unfolding group
group-four sent i = simp append_assoc

pub run-app : (xs ys : List Event) (f : Followed) → run (xs ++ ys) f ≡ run ys (run xs f)
unfolding run
run-app [] ys f = refl
run-app (e ∷ xs) ys f = run-app xs ys (after e f)

-- a refusal that does not drop, and one that does
pub after_kept : (r : Fault) (f : Followed) → drops r ≡ false → f ≡ after (refused r) f
unfolding after
after_kept r f e = sym (ap (λ (b : Bool). cond b (dropped f) f) e)

pub after-refused : (r : Fault) (f : Followed) → drops r ≡ true → dropped f ≡ after (refused r) f
unfolding after
after-refused r f e = sym (ap (λ (b : Bool). cond b (dropped f) f) e)

pub refused-either : (P : Followed → Type 0) (r : Fault) (f : Followed) → P (dropped f) → P f → P (after (refused r) f)
unfolding after
refused-either P r f x y = go (drops r)
  where
    go : (b : Bool) → P (cond b (dropped f) f)
    go true = x
    go false = y

pub run-sizes : (es : List Event) (f : Followed) → ((run es f).per ≡ f.per) × ((run es f).needs ≡ f.needs)
unfolding run after moved dropped aged
run-sizes [] f = (refl, refl)
run-sizes (packet c b ∷ es) f = run-sizes es (after (packet c b) f)
run-sizes (refused r ∷ es) f =
    refused-either (λ (g : Followed). ((run es g).per ≡ f.per) × ((run es g).needs ≡ f.needs)) r f (run-sizes es (dropped f)) (run-sizes es f)
run-sizes (ended ∷ es) f = run-sizes es (aged f)

pub index-modulo : (c : ℕ) (b : List ℕ) (f : Followed)
    → (after (packet c b) f ≡ after (packet (c % f.per) b) f) × (answer (packet c b) f ≡ answer (packet (c % f.per) b) f)
unfolding after answer
index-modulo c b f =
    let row = move-modulo f.per f.needs f.head.awaited c in
    (λ k. moved (sym row k) (sym (mod-mod c f.per) k) b f, ap move_number (sym row))
