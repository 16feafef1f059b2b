-- The rooms, lent and come back.
--
--   empty-lent               the unfinished room, lent and come back as 0
--   keep-read, keep-lent     a byte that is still as it was; the first bytes kept, and the rest of the room come back as 0
--
-- Assumes nothing.
use mathlib.Core.Path.{◌≡◌, refl, sym, ap, ap₂, ◌∙◌}
use mathlib.Core.List.{List, ◌++◌}
use Prim.Native.Nat.{ℕ, ◌+◌, ◌-◌, ◌≤◌, ◌<◌}
use native.Mathlib.Omega.{arith}
use native.Mathlib.Nat.{zero-add}
use lib.ListN.{length, take, drop, get_or, length-drop}
use lib.Seq.{paste, length-take-le}
use Rattle.bits.specs.Bits.{blank}
use Rattle.runs.specs.Part.{part, put}
use Rattle.slot.specs.Slot.{head_at, room_size, slot_size, whole_at, unfinished, with_unfinished, with_stored, kept_room}
use Rattle.runs.proofs.Copying.{paste-put}
use Rattle.runs.proofs.Parts.{part-part, put-length, put_next, get_or-put-before}

pub empty-lent : (s b : List ℕ) → length s ≡ slot_size → b ≡ blank (length (take room_size s)) → (b ++ drop room_size s) ≡ with_unfinished (blank room_size) s
unfolding with_unfinished put
empty-lent s b l e = ap (λ (x : List ℕ). x ++ drop room_size s) (e ∙ ap blank (length-take-le room_size s (omega arith)))

pub keep-read : (s b : List ℕ) (k : ℕ) → b ≡ paste s whole_at s k → length s ≡ slot_size → k < room_size → get_or b (0 + k) 0 ≡ get_or s k 0
keep-read s b k e l h =
    ap₂ (λ (x : List ℕ) (j : ℕ). get_or x j 0) (e ∙ paste-put s whole_at s k) (zero-add k)
    ∙ get_or-put-before whole_at k (take k s) s k (omega arith) h

-- a part lent and come back, as a put
lent-put : (x y : List ℕ) (i j : ℕ) → (take j x ++ (y ++ drop i (drop j x))) ≡ put j i y x
unfolding put
lent-put x y i j = refl

kept-stored : (n : ℕ) (s : List ℕ) → n ≤ room_size → put whole_at (n + (room_size - n)) (take n s ++ blank (room_size - n)) s ≡ with_stored (kept_room n (unfinished s)) s
unfolding with_stored kept_room unfinished part
kept-stored n s h =
    let room : n + (room_size - n) ≡ room_size = omega arith in
    ap₂ (λ (m : ℕ) (x : List ℕ). put whole_at m (x ++ blank (room_size - n)) s) room (sym (part-part 0 n 0 room_size s (omega arith)))

-- the rest of the room, as it is lent: from whole_at + n to head_at
pub keep-lent : (s b t : List ℕ) (k n : ℕ) → length s ≡ slot_size → n ≤ room_size → k ≡ n → b ≡ paste s whole_at s k
    → t ≡ blank (length (take (head_at - (whole_at + n)) (drop (whole_at + n) b)))
    → (take (whole_at + n) b ++ (t ++ drop (head_at - (whole_at + n)) (drop (whole_at + n) b))) ≡ with_stored (kept_room n (unfinished s)) s
keep-lent s b t k n l h q e et =
    let m = head_at - (whole_at + n) in
    let em : m ≡ room_size - n = omega arith in
    let ln : length (take n s) ≡ n = length-take-le n s (omega arith) in
    let eb : b ≡ put whole_at n (take n s) s = e ∙ paste-put s whole_at s k ∙ ap (λ (i : ℕ). put whole_at i (take i s) s) q in
    let long : length b ≡ slot_size = ap length eb ∙ put-length whole_at n (take n s) s (omega arith) ln ∙ l in
    let rest : length (take m (drop (whole_at + n) b)) ≡ room_size - n =
    length-take-le m (drop (whole_at + n) b) (omega (arith, length-drop (whole_at + n) b)) ∙ em in
    lent-put b t m (whole_at + n)
    ∙ ap₂ (λ (x : List ℕ) (i : ℕ). put (whole_at + n) i x b) (et ∙ ap blank rest) em
    ∙ ap (put (whole_at + n) (room_size - n) (blank (room_size - n))) eb
    ∙ put_next whole_at n (take n s) s (room_size - n) (blank (room_size - n)) (omega arith) ln
    ∙ kept-stored n s h
