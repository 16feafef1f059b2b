-- The group writer's rows, and what its code does against their definitions.
--
--   write-22, write-23, write-message, write-output, write-0     the rows, in the code's tests
--   size-180, size-360           the length that the message must have
--   Writable, writable           where no row holds: the address, and both lengths
--   sent-protected, sent-plain   the image of a data packet, by the protection
--   data-45, data-90             how many bytes a packet carries; data-le: at most 90
--   fourth-ends, fourth-length   a fourth of the message that is lent: where it ends, and its length
--   one-put                      the image of such a fourth, written into its place
--   put_to                       the output with so many images put into it; put-more: one more
--   images-put                   the four images, put one after the other
--
-- Assumes nothing.
use mathlib.Core.Path.{◌≡◌, refl, sym, ap, ap₂, ◌∙◌, subst}
use mathlib.Core.Bool.{Bool, true, false, not, ◌||◌}
use mathlib.Core.List.{List, [], ◌∷◌, ◌++◌, append-nil, append_assoc}
use Prim.Native.Nat.{ℕ, zero, suc, ◌+◌, ◌-◌, ◌*◌, ◌≤◌, ◌<◌}
use native.Mathlib.Omega.{arith}
use native.Mathlib.Nat.{mul-le-mul_right}
use native.Mathlib.Numerals.{add-one}
use borrow.Author.Tests.{lt-ltb, le-ltb, leb-true, eq-eqb, ne_eqb, eqb-true, not-false}
use lib.Dec.{leb, ltb, eqb}
use lib.ListN.{length, take, drop, length-append}
use lib.Seq.{drop-length}
use Rattle.bits.specs.Rows.{Row, row, refusal}
use Rattle.bits.proofs.Rows.{refusal-hit, refusal-miss, refusal-passed, refusal-none}
use Rattle.bits.proofs.Search.{and_right}
use Rattle.image.proofs.Laws.{image-length}
use Rattle.packet.specs.Received.{written}
use Rattle.packet.specs.Damage.{data_size, sent_image}
use Rattle.runs.specs.Part.{part, put}
use Rattle.head.specs.Head.{within}
use Rattle.runs.proofs.Parts.{part_length, put_next}
use Rattle.head.proofs.Wishes.{outside}
use Rattle.words.specs.Protected.{protected}
use Rattle.adapter.specs.Calls.{group_size, images_size, packet_of, group_images, write_answer}

-- ---- the rows

module _ (a p m o : ℕ) where
  abbrev from-output : List Row
  from-output = row (not (eqb o images_size)) 20 ∷ []

  abbrev from-message : List Row
  from-message = row (not (eqb m (group_size (eqb p 1)))) 20 ∷ from-output

  abbrev from-23 : List Row
  from-23 = row (ltb 1 p) 23 ∷ from-message

  pub write-22 : (ltb a 1 || ltb 1022 a) ≡ true → 22 ≡ write_answer a p m o
  unfolding write_answer
  write-22 t = sym (refusal-hit (not (within 1 1022 a)) 22 from-23 (sym (outside 1 1022 a) ∙ t))

  module _ (t22 : (ltb a 1 || ltb 1022 a) ≡ false) where
    past-22 : write_answer a p m o ≡ refusal from-23
    unfolding write_answer
    past-22 = refusal-miss (not (within 1 1022 a)) 22 from-23 (sym (outside 1 1022 a) ∙ t22)

    pub write-23 : 1 < p → 23 ≡ write_answer a p m o
    write-23 h = sym (past-22 ∙ refusal-hit (ltb 1 p) 23 from-message (lt-ltb 1 p h))

    module _ (t23 : p ≤ 1) (n : ℕ) (e : n ≡ group_size (eqb p 1)) where
      past-23 : write_answer a p m o ≡ refusal (row (not (eqb m n)) 20 ∷ from-output)
      past-23 =
          past-22 ∙ refusal-miss (ltb 1 p) 23 from-message (le-ltb 1 p t23)
          ∙ ap (λ (x : ℕ). refusal (row (not (eqb m x)) 20 ∷ from-output)) (sym e)

      pub write-message : (m ≡ n → ⊥) → 20 ≡ write_answer a p m o
      write-message ne = sym (past-23 ∙ refusal-hit (not (eqb m n)) 20 from-output (ap not (ne_eqb m n ne)))

      module _ (q : m ≡ n) where
        past-message : write_answer a p m o ≡ refusal from-output
        past-message = past-23 ∙ refusal-miss (not (eqb m n)) 20 from-output (ap not (eq-eqb m n q))

        pub write-output : (o ≡ images_size → ⊥) → 20 ≡ write_answer a p m o
        write-output ne = sym (past-message ∙ refusal-hit (not (eqb o images_size)) 20 [] (ap not (ne_eqb o images_size ne)))

        pub write-0 : o ≡ images_size → 0 ≡ write_answer a p m o
        write-0 eo =
            sym (past-message ∙ refusal-miss (not (eqb o images_size)) 20 [] (ap not (eq-eqb o images_size eo)) ∙ refusal-none)

pub size-180 : (p : ℕ) → p ≡ 1 → 180 ≡ group_size (eqb p 1)
size-180 p e = sym (ap group_size (eq-eqb p 1 e))

pub size-360 : (p : ℕ) → (p ≡ 1 → ⊥) → 360 ≡ group_size (eqb p 1)
size-360 p ne = sym (ap group_size (ne_eqb p 1 ne))

-- no row holds
pub record Writable (a p m o : ℕ) : Type 0 where
  pub address : a < 1024
  pub message : m ≡ group_size (eqb p 1)
  pub output : o ≡ images_size

pub writable : (a p m o r : ℕ) → r ≡ write_answer a p m o → r ≡ 0 → Writable a p m o
unfolding write_answer
writable a p m o r e z =
    let r22 = refusal-passed (not (within 1 1022 a)) 22 (from-23 a p m o) (omega arith) (sym e ∙ z) in
    let r23 = refusal-passed (ltb 1 p) 23 (from-message a p m o) (omega arith) r22.1 in
    let message = refusal-passed (not (eqb m (group_size (eqb p 1)))) 20 (from-output a p m o) (omega arith) r23.1 in
    let output = refusal-passed (not (eqb o images_size)) 20 [] (omega arith) message.1 in
    let most : a ≤ 1022 = leb-true a 1022 (and_right (leb 1 a) (leb a 1022) (not-false (within 1 1022 a) r22.0)) in
    record {
      address = omega (arith, most);
      message = eqb-true m (group_size (eqb p 1)) (not-false (eqb m (group_size (eqb p 1))) message.0);
      output = eqb-true o images_size (not-false (eqb o images_size) output.0);
    }

-- ---- one packet

module _ (p : Bool) where
  pub data-45 : p ≡ true → data_size p ≡ 45
  data-45 e = ap data_size e

  pub data-90 : p ≡ false → data_size p ≡ 90
  data-90 e = ap data_size e

  module _ (a i : ℕ) (b x : List ℕ) where
    pub sent-protected : p ≡ true → (u : List ℕ) → u ≡ protected b → x ≡ written a i 0 u → x ≡ sent_image p a i b
    sent-protected e u eu ex = ex ∙ ap (written a i 0) eu ∙ ap (λ (q : Bool). sent_image q a i b) (sym e)

    pub sent-plain : p ≡ false → x ≡ written a i 0 b → x ≡ sent_image p a i b
    sent-plain e ex = ex ∙ ap (λ (q : Bool). sent_image q a i b) (sym e)

pub data-le : (p : Bool) → data_size p ≤ 90
data-le false = omega arith
data-le true = omega arith

pub sent-length : (p : Bool) (a i : ℕ) (b : List ℕ) → length (sent_image p a i b) ≡ 94
unfolding written
sent-length p a i b = image-length _ _

-- a fourth of the message, as it is lent
module _ (p : Bool) (i n : ℕ) (m : List ℕ) (e : n ≡ data_size p) where
  pub fourth-ends : i < 4 → i * n + n ≤ 4 * data_size p
  fourth-ends h =
      let most : i ≤ 3 = omega arith in
      omega (arith, mul-le-mul_right n most)

  lent-part : take (i * n + n - i * n) (drop (i * n) m) ≡ part (i * data_size p) (data_size p) m
  unfolding part
  lent-part =
      let size : i * n + n - i * n ≡ n = omega arith in
      ap (λ (k : ℕ). take k (drop (i * n) m)) size ∙ ap (λ (k : ℕ). part (i * k) k m) e

  pub fourth-length : i < 4 → length m ≡ 4 * data_size p → length (take (i * n + n - i * n) (drop (i * n) m)) ≡ data_size p
  fourth-length h l =
      let ends : i * data_size p + data_size p ≤ length m =
      subst (λ (k : ℕ). i * k + k ≤ length m) e (omega (arith, fourth-ends h)) in
      ap length lent-part ∙ part_length (i * data_size p) (data_size p) m ends

  -- the image of it is written into its place, which was lent and came back
  pub one-put : (a : ℕ) (x o : List ℕ) → x ≡ sent_image p a i (take (i * n + n - i * n) (drop (i * n) m))
      → take (i * 94) o ++ (x ++ drop (i * 94 + 94 - i * 94) (drop (i * 94) o)) ≡ put (i * 94) 94 (packet_of p a m i) o
  unfolding packet_of put
  one-put a x o ex =
      let size : i * 94 + 94 - i * 94 ≡ 94 = omega arith in
      ap₂ (λ (y : List ℕ) (k : ℕ). take (i * 94) o ++ (y ++ drop k (drop (i * 94) o))) (ex ∙ ap (sent_image p a i) lent-part) size

-- ---- the four images

four-put : (a b c d o s t u v : List ℕ) → length a ≡ 94 → length b ≡ 94 → length c ≡ 94 → length o ≡ 376
    → s ≡ put 0 94 a o → t ≡ put 94 94 b s → u ≡ put 188 94 c t → v ≡ put 282 94 d u → v ≡ a ++ (b ++ (c ++ d))
unfolding put
four-put a b c d o s t u v la lb lc lo es et eu ev =
    let two : t ≡ put 0 188 (a ++ b) o = et ∙ ap (put 94 94 b) es ∙ put_next 0 94 a o 94 b (omega arith) la in
    let l2 : length (a ++ b) ≡ 188 = length-append a b ∙ omega arith in
    let three : u ≡ put 0 282 ((a ++ b) ++ c) o =
    eu ∙ ap (put 188 94 c) two ∙ put_next 0 188 (a ++ b) o 94 c (omega arith) l2 in
    let l3 : length ((a ++ b) ++ c) ≡ 282 = length-append (a ++ b) c ∙ omega arith in
    let four : v ≡ put 0 376 (((a ++ b) ++ c) ++ d) o =
    ev ∙ ap (put 282 94 d) three ∙ put_next 0 282 ((a ++ b) ++ c) o 94 d (omega arith) l3 in
    let none : drop 376 o ≡ [] = ap (λ (n : ℕ). drop n o) (sym lo) ∙ drop-length o in
    four ∙ ap (λ (x : List ℕ). (((a ++ b) ++ c) ++ d) ++ x) none ∙ append-nil (((a ++ b) ++ c) ++ d)
    ∙ append_assoc (a ++ b) c d ∙ append_assoc a b (c ++ d)

module _ (p : Bool) (a : ℕ) (m o : List ℕ) where
  unfoldable pub put_to : ℕ → List ℕ
  put_to zero = o
  put_to (suc k) = put (k * 94) 94 (packet_of p a m k) (put_to k)

  pub put-more : (k : ℕ) (t u : List ℕ) → t ≡ put_to k → u ≡ put (k * 94) 94 (packet_of p a m k) t → u ≡ put_to (k + 1)
  unfolding put_to
  put-more k t u e f = f ∙ ap (put (k * 94) 94 (packet_of p a m k)) e ∙ ap put_to (sym (add-one k))

module _ (p : Bool) (a : ℕ) (m : List ℕ) where
  pub packet-length : (i : ℕ) → length (packet_of p a m i) ≡ 94
  unfolding packet_of
  packet-length i = sent-length p a i _

  pub images-put : (o s t u v : List ℕ) → length o ≡ 376 → s ≡ put 0 94 (packet_of p a m 0) o → t ≡ put 94 94 (packet_of p a m 1) s
      → u ≡ put 188 94 (packet_of p a m 2) t → v ≡ put 282 94 (packet_of p a m 3) u → v ≡ group_images p a m
  unfolding group_images
  images-put o s t u v l =
      four-put (packet_of p a m 0) (packet_of p a m 1) (packet_of p a m 2) (packet_of p a m 3) o s t u v
      (packet-length 0) (packet-length 1) (packet-length 2) l

  pub put-all : (o t : List ℕ) → length o ≡ 376 → (k : ℕ) → k ≡ 4 → t ≡ put_to p a m o k → t ≡ group_images p a m
  unfolding put_to
  put-all o t l k e f = images-put o _ _ _ t l refl refl refl (f ∙ ap (put_to p a m o) e)
