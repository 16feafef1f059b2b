-- The packet call's rows, and what its code does against their definitions.
--
--   image-20, image-state, image-21, image-0     the rows that need no slot, in the code's tests
--   Sized, image-sized           where none of them holds, the image and the state have their lengths
--   AtPlace                      an answer with the state after it, past those rows
--   image-refused, image-placed       the answer with the bytes after, by the answer of those rows
--   place-49                     49 by the code's test
--   no-address, no-slot, some-slot    the code's tests of an address and of what was found of it
--   place-27                     27 by them
--   slot-served                  the answer with the state after, by what the lent slot answered
--   reading-typed, reading-protected, reading-plain     the reading by the packet's type and the slot's protection
--   taken_as                     an answer with the slot after it, by another name of the reading
--
-- Assumes nothing.
use mathlib.Core.Path.{◌≡◌, refl, sym, ap, ap₂, ◌∙◌}
use mathlib.Core.Bool.{Bool, true, false, not, ◌&&◌, ◌||◌}
use mathlib.Core.List.{List, [], ◌∷◌, ◌++◌}
use Prim.Native.Nat.{ℕ, zero, suc, ◌*◌, ◌≤◌, ◌<◌}
use native.Mathlib.Omega.{arith}
use native.Mathlib.Decide.{dec_lt}
use borrow.Author.Tests.{lt-ltb, le-ltb, eq-eqb, ne_eqb, eqb-true, not-false}
use lib.Dec.{ltb, eqb}
use lib.ListN.{length, take, drop}
use Rattle.bits.specs.Rows.{Row, row, refusal, further, done}
use Rattle.bits.proofs.Rows.{refusal-hit, refusal-miss, refusal-passed, refusal-none, further-refused, further-passed, done_refused, done-passed}
use Rattle.image.specs.Image.{spare_of}
use Rattle.words.specs.Protected.{data_read}
use Rattle.packet.specs.Received.{useful_of, received, refused_as, readable_as, data_as}
use Rattle.packet.specs.Received.{ReadingAnswer}
use Rattle.packet.proofs.Answers.{index_of, type_number, IsData, answer-type, answer-plain, answer-protected}
use Rattle.slot.specs.Slot.{slot_size, head_of}
use Rattle.head.specs.declared.Head.{Head}
use Rattle.table.specs.State.{slots, state_size, setting, slot_at, find}
use Rattle.table.specs.Calls.{state_rows, end_answer}
use Rattle.table.proofs.States.{find-le}
use Rattle.table.proofs.Looking.{state-rest, state-refused, state-passed, past-state, slot-part}
use Rattle.table.proofs.Doing.{span, slot-given}
use Rattle.group.specs.Group.{taken, taken_after}
use Rattle.group.specs.declared.Answer.{Answer}
use Rattle.adapter.proofs.Laws.{answered-refused, answered-passed}
use Rattle.adapter.specs.Calls.{address_of, flips_of, beyond, followed, image_rows, place_rows, unplaced, reading_at, slot_answered, slot_after, refused_answer, answered_by, packet_answered, packet_after}

-- ---- the rows that need no slot

module _ (s image : List ℕ) where
  abbrev answer : ℕ
  answer = refusal (image_rows s image [])

  pub image-20 : (length image ≡ 94 → ⊥) → 20 ≡ answer
  image-20 ne = sym (refusal-hit (not (eqb (length image) 94)) 20 _ (ap not (ne_eqb (length image) 94 ne)))

  module _ (l : length image ≡ 94) (r : ℕ) (e : r ≡ end_answer s) where
    past-20 : answer ≡ refusal (state_rows s (row (eqb (spare_of image) 1) 21 ∷ []))
    past-20 = refusal-miss (not (eqb (length image) 94)) 20 _ (ap not (eq-eqb (length image) 94 l))

    pub image-state : (r ≡ 0 → ⊥) → r ≡ answer
    image-state ne = state-refused s (row (eqb (spare_of image) 1) 21 ∷ []) r e ne ∙ sym past-20

    module _ (z : r ≡ 0) (n : ℕ) (q : n ≡ spare_of image) where
      past-34 : answer ≡ refusal (row (eqb n 1) 21 ∷ [])
      past-34 =
          let ok = state-passed s (sym e ∙ z) in
          past-20 ∙ state-rest s _ ok.size ok.all-good ∙ ap (λ (x : ℕ). refusal (row (eqb x 1) 21 ∷ [])) (sym q)

      pub image-21 : n ≡ 1 → 21 ≡ answer
      image-21 t = sym (past-34 ∙ refusal-hit (eqb n 1) 21 [] (eq-eqb n 1 t))

      pub image-0 : (n ≡ 1 → ⊥) → 0 ≡ answer
      image-0 t = sym (past-34 ∙ refusal-miss (eqb n 1) 21 [] (ne_eqb n 1 t) ∙ refusal-none)

-- none of them holds
pub record Sized (s image : List ℕ) : Type 0 where
  pub image-size : length image ≡ 94
  pub state-size : length s ≡ state_size

pub image-sized : (s image : List ℕ) (r : ℕ) → r ≡ refusal (image_rows s image []) → r ≡ 0 → Sized s image
image-sized s image r e z =
    let rest = row (eqb (spare_of image) 1) 21 ∷ [] in
    let one = refusal-passed (not (eqb (length image) 94)) 20 (state_rows s rest) (omega arith) (sym e ∙ z) in
    record {
      image-size = eqb-true (length image) 94 (not-false (eqb (length image) 94) one.0);
      state-size = (past-state s rest one.1).0.size;
    }

-- they are refused first, and then the others
rows-further : (a b c d : Bool) (rest : List Row)
    → refusal (row a 20 ∷ row b 20 ∷ row c 34 ∷ row d 21 ∷ rest)
    ≡ further (refusal (row a 20 ∷ row b 20 ∷ row c 34 ∷ row d 21 ∷ [])) (refusal rest)
unfolding refusal further
rows-further true b c d rest = refl
rows-further false true c d rest = refl
rows-further false false true d rest = refl
rows-further false false false true rest = refl
rows-further false false false false rest = refl

-- an answer with the state after it, by the rows of 49 and 27 and the slot
abbrev pub AtPlace : List ℕ → List ℕ → Answer → List ℕ → Type 0
AtPlace s image x t =
    (x ≡ answered_by (refusal (place_rows s image)) (slot_answered s image)) × (t ≡ done (refusal (place_rows s image)) (slot_after s image) s)

module _ (s image : List ℕ) (r : ℕ) (e : r ≡ refusal (image_rows s image [])) where
  unplaced-further : unplaced s image ≡ further r (refusal (place_rows s image))
  unfolding unplaced
  unplaced-further = rows-further _ _ _ _ (place_rows s image) ∙ ap (λ (n : ℕ). further n (refusal (place_rows s image))) (sym e)

  pub image-refused : (x : Answer) → (r ≡ 0 → ⊥) → x ≡ refused_answer r → (x ≡ packet_answered s image) × (s ≡ packet_after s image)
  unfolding packet_after
  image-refused x ne ex =
      let equal : r ≡ unplaced s image = sym (unplaced-further ∙ further-refused r _ ne) in
      let un : unplaced s image ≡ 0 → ⊥ = λ z. ne (equal ∙ z) in (
        ex ∙ ap refused_answer equal ∙ sym (answered-refused (unplaced s image) (slot_answered s image) un),
        sym (done_refused (unplaced s image) (slot_after s image) s un),
      )

  pub image-placed : (x : Answer) (t : List ℕ) → r ≡ 0 → AtPlace s image x t → (x ≡ packet_answered s image) × (t ≡ packet_after s image)
  unfolding packet_after
  image-placed x t z q =
      let same : refusal (place_rows s image) ≡ unplaced s image = sym (unplaced-further ∙ further-passed r _ z) in (
        q.0 ∙ ap (λ (n : ℕ). answered_by n (slot_answered s image)) same,
        q.1 ∙ ap (λ (n : ℕ). done n (slot_after s image) s) same,
      )

-- ---- 27, by an address and what was found of it

no_place : (s : List ℕ) (a : ℕ) → (eqb a 0 || eqb (find s a) slots) ≡ not (followed s a)
unfolding followed
no_place s zero = refl
no_place s (suc a) =
    ap₂ (λ (x y : Bool). x || y) (ne_eqb (suc a) 0 (λ q. omega (arith, q))) (go (dec_lt (find s (suc a)) slots))
    ∙ sym (ap (λ (x : Bool). not (x && ltb (find s (suc a)) slots)) (lt-ltb 0 (suc a) (omega arith)))
  where
    go : Dec (find s (suc a) < slots) → eqb (find s (suc a)) slots ≡ not (ltb (find s (suc a)) slots)
    go (yes h) = ne_eqb (find s (suc a)) slots (λ q. omega (arith, q)) ∙ sym (ap not (lt-ltb (find s (suc a)) slots h))
    go (no h) =
        eq-eqb (find s (suc a)) slots (omega (arith, find-le s (suc a)))
        ∙ sym (ap not (le-ltb (find s (suc a)) slots (omega arith)))

-- refused by one of these rows
at-refused : (s image : List ℕ) (n : ℕ) (x : Answer) → refusal (place_rows s image) ≡ suc n → x ≡ refused_answer (suc n) → AtPlace s image x s
at-refused s image n x e ex =
    let un : refusal (place_rows s image) ≡ 0 → ⊥ = λ z. omega (arith, e, z) in (
      ex ∙ ap refused_answer (sym e) ∙ sym (answered-refused (refusal (place_rows s image)) (slot_answered s image) un),
      sym (done_refused (refusal (place_rows s image)) (slot_after s image) s un),
    )

-- 49, by a setting and the flips of a header
module _ (s image : List ℕ) (m f : ℕ) (em : m ≡ setting s) (ef : f ≡ flips_of image) where
  more : beyond s image ≡ ltb m f
  unfolding beyond
  more = ap₂ ltb (sym em) (sym ef)

  pub place-49 : m < f → (x : Answer) → x ≡ refused_answer 49 → AtPlace s image x s
  place-49 t x = at-refused s image 48 x (refusal-hit (beyond s image) 49 _ (more ∙ lt-ltb m f t))

  pub within-few : f ≤ m → beyond s image ≡ false
  within-few t = more ∙ le-ltb m f t

-- the tests of an address and of what was found of it
pub no-address : (a k : ℕ) → a ≡ 0 → (eqb a 0 || eqb k slots) ≡ true
no-address a k z = ap (λ (x : Bool). x || eqb k slots) (eq-eqb a 0 z)

pub no-slot : (a : ℕ) → (a ≡ 0 → ⊥) → (eqb a 0 || eqb slots slots) ≡ true
no-slot a n = ap (λ (x : Bool). x || true) (ne_eqb a 0 n)

pub some-slot : (a k : ℕ) → (a ≡ 0 → ⊥) → k < slots → (eqb a 0 || eqb k slots) ≡ false
some-slot a k n h = ap₂ (λ (x y : Bool). x || y) (ne_eqb a 0 n) (ne_eqb k slots (λ q. omega (arith, q, h)))

module _ (s image : List ℕ) (few : beyond s image ≡ false) (a k : ℕ) (ea : a ≡ address_of image) (ek : k ≡ find s a) where
  test : (eqb a 0 || eqb k slots) ≡ not (followed s (address_of image))
  test = ap (λ (x : ℕ). eqb a 0 || eqb x slots) ek ∙ no_place s a ∙ ap (λ (x : ℕ). not (followed s x)) ea

  pub place-27 : (eqb a 0 || eqb k slots) ≡ true → (x : Answer) → x ≡ refused_answer 27 → AtPlace s image x s
  place-27 t x =
      at-refused s image 26 x
      (refusal-miss (beyond s image) 49 _ few ∙ refusal-hit (not (followed s (address_of image))) 27 [] (sym test ∙ t))

  place_found : (eqb a 0 || eqb k slots) ≡ false → refusal (place_rows s image) ≡ 0
  place_found t =
      refusal-miss (beyond s image) 49 _ few ∙ refusal-miss (not (followed s (address_of image))) 27 [] (sym test ∙ t) ∙ refusal-none

  -- the slot was lent and came back
  pub slot-served : (y : Answer) (b : List ℕ) → (eqb a 0 || eqb k slots) ≡ false
      → let x = take (span (k * slot_size)) (drop (k * slot_size) s) in
      (y ≡ taken (reading_at x image) (head_of x)) × (b ≡ taken_after (reading_at x image) x)
      → AtPlace s image y (take (k * slot_size) s ++ (b ++ drop (span (k * slot_size)) (drop (k * slot_size) s)))
  unfolding slot_after
  slot-served y b t q =
      let j : k ≡ find s (address_of image) = ek ∙ ap (find s) ea in
      let x : take (span (k * slot_size)) (drop (k * slot_size) s) ≡ slot_at (find s (address_of image)) s =
      slot-part k s ∙ ap (λ (i : ℕ). slot_at i s) j in (
        q.0 ∙ ap (λ (z : List ℕ). taken (reading_at z image) (head_of z)) x
            ∙ sym (answered-passed (refusal (place_rows s image)) (slot_answered s image) (place_found t)),
        slot-given (λ (y : List ℕ). taken_after (reading_at y image) y) k _ s b j q.1
            ∙ sym (done-passed (refusal (place_rows s image)) _ s (place_found t)),
      )

-- ---- the reading, by the packet's type and the slot's protection

module _ (h : Head) (x image : List ℕ) (e : h ≡ head_of x) where
  reading-at : (r : ReadingAnswer) → r ≡ received (eqb h.wish.protection 1) image → r ≡ reading_at x image
  unfolding reading_at
  reading-at r q = q ∙ ap (λ (y : Head). received (eqb y.wish.protection 1) image) e

  pub reading-typed : length image ≡ 94 → (n : ℕ) → n ≡ type_number image → (n ≡ 0 → ⊥) → refused_as n 0 ≡ reading_at x image
  reading-typed l n q ne = reading-at (refused_as n 0) (sym (answer-type (eqb h.wish.protection 1) image l n q ne))

  module _ (d : IsData image) (i : ℕ) (u : List ℕ) (ei : i ≡ index_of image) (eu : u ≡ useful_of image) where
    pub reading-protected : h.wish.protection ≡ 1 → data_as i (data_read u) ≡ reading_at x image
    reading-protected p =
        reading-at (data_as i (data_read u))
        (ap₂ (λ (j : ℕ) (v : List ℕ). data_as j (data_read v)) ei eu ∙ sym (answer-protected image d)
        ∙ ap (λ (b : Bool). received b image) (sym (eq-eqb h.wish.protection 1 p)))

    pub reading-plain : (h.wish.protection ≡ 1 → ⊥) → readable_as i u ≡ reading_at x image
    reading-plain p =
        reading-at (readable_as i u)
        (ap₂ readable_as ei eu ∙ sym (answer-plain image d) ∙ ap (λ (b : Bool). received b image) (sym (ne_eqb h.wish.protection 1 p)))

-- an answer with the slot after it, by another name of the reading and of the head
pub taken_as : (r q : ReadingAnswer) (h g : Head) (s : List ℕ) (y : Answer) (t : List ℕ) → r ≡ q → h ≡ g
    → (y ≡ taken r h) × (t ≡ taken_after r s) → (y ≡ taken q g) × (t ≡ taken_after q s)
taken_as r q h g s y t er eh e = (e.0 ∙ ap₂ taken er eh, e.1 ∙ ap (λ (z : ReadingAnswer). taken_after z s) er)
