-- One slot by number: both sides of each bound of section 3, section 5's answers and ages, and all sixteen cases of section 4's table, by
-- computation. The numbers are the paper's.
--
--   addresses, protections, limits, awaiteds, groups, gaps, ages    which heads are good
--   freshness             limit 2 at ages 0, 1 and 2, with and without a gap; no group
--   ageing                up to 1,500, and only with a whole group
--   answers               groups of four: awaited 0 to 3, and of each the indices 0 to 3: 1 started, 2 held, 3 whole, 32
--   singles               groups of one: whole, whatever is awaited and whatever the index
--   stopping              groups of which the first two packets are enough: whole at index 1, the others out of step
--   heads                 the head after each: awaited index, group mark, gap mark, age
--   gap-kept, gap-cleared a start keeps a gap mark, a whole group clears it
--
-- Assumes nothing.
use mathlib.Core.Path.{◌≡◌, refl}
use mathlib.Core.Bool.{true, false}
use mathlib.Core.List.{List, [], ◌∷◌, map}
use Prim.Native.Nat.{ℕ}
use Rattle.head.specs.Head.{wish_of, good_wish, new_head, aged_head, ask_number, good_head}
use Rattle.head.specs.Move.{row_of, move_of, move_number, moved_head}
use Rattle.head.specs.declared.Head.{Head}

-- address 17, protected, limit 2, with what changes
abbrev head : ℕ → ℕ → ℕ → ℕ → Head
head awaited group gap age =
    record { wish = wish_of 17 1 2; age = age; awaited = awaited; group = group; gap = gap }

-- ---- section 3: "address 1 to 1,022, protection 0 or 1, limit 1 to 1,500, awaited index 0 to 3, marks 0 or 1, age at most 1,500"

pub addresses : map (λ (a : ℕ). good_head (new_head (wish_of a 1 2))) (0 ∷ 1 ∷ 1022 ∷ 1023 ∷ []) ≡ (false ∷ true ∷ true ∷ false ∷ [])
unfolding good_head good_wish
addresses = refl

pub protections : map (λ (p : ℕ). good_head (new_head (wish_of 17 p 2))) (0 ∷ 1 ∷ 2 ∷ []) ≡ (true ∷ true ∷ false ∷ [])
unfolding good_head good_wish
protections = refl

pub limits : map (λ (l : ℕ). good_head (new_head (wish_of 17 1 l))) (0 ∷ 1 ∷ 1500 ∷ 1501 ∷ []) ≡ (false ∷ true ∷ true ∷ false ∷ [])
unfolding good_head good_wish
limits = refl

pub awaiteds : map (λ (n : ℕ). good_head (head n 0 0 0)) (0 ∷ 3 ∷ 4 ∷ []) ≡ (true ∷ true ∷ false ∷ [])
unfolding good_head good_wish
awaiteds = refl

pub groups : map (λ (n : ℕ). good_head (head 0 n 0 0)) (0 ∷ 1 ∷ 2 ∷ []) ≡ (true ∷ true ∷ false ∷ [])
unfolding good_head good_wish
groups = refl

pub gaps : map (λ (n : ℕ). good_head (head 0 0 n 0)) (0 ∷ 1 ∷ 2 ∷ []) ≡ (true ∷ true ∷ false ∷ [])
unfolding good_head good_wish
gaps = refl

pub ages : map (λ (n : ℕ). good_head (head 0 1 0 n)) (0 ∷ 1500 ∷ 1501 ∷ []) ≡ (true ∷ true ∷ false ∷ [])
unfolding good_head good_wish
ages = refl

-- ---- section 5: 4 nothing yet, 7 stale from the limit on, 6 doubtful, 5 fresh

pub freshness : (map (λ (n : ℕ). ask_number (head 0 1 0 n)) (0 ∷ 1 ∷ 2 ∷ 3 ∷ []) ≡ (5 ∷ 5 ∷ 7 ∷ 7 ∷ []))
    × (map (λ (n : ℕ). ask_number (head 0 1 1 n)) (0 ∷ 1 ∷ 2 ∷ []) ≡ (6 ∷ 6 ∷ 7 ∷ []))
    × (map (λ (n : ℕ). ask_number (head 0 0 n 0)) (0 ∷ 1 ∷ []) ≡ (4 ∷ 4 ∷ []))
unfolding ask_number
freshness = (refl, refl, refl)

pub ageing : (map (λ (n : ℕ). (aged_head (head 0 1 0 n)).age) (0 ∷ 1 ∷ 1499 ∷ 1500 ∷ []) ≡ (1 ∷ 2 ∷ 1500 ∷ 1500 ∷ []))
    × ((aged_head (head 0 0 0 0)).age ≡ 0)
ageing = (refl, refl)

-- ---- section 4's table

pub answers : map (λ (a : ℕ). map (λ (c : ℕ). move_number (move_of 4 4 a c)) (0 ∷ 1 ∷ 2 ∷ 3 ∷ [])) (0 ∷ 1 ∷ 2 ∷ 3 ∷ [])
    ≡ ((1 ∷ 32 ∷ 32 ∷ 32 ∷ [])
    ∷ (1 ∷ 2 ∷ 32 ∷ 32 ∷ [])
    ∷ (1 ∷ 32 ∷ 2 ∷ 32 ∷ [])
    ∷ (1 ∷ 32 ∷ 32 ∷ 3 ∷ [])
    ∷ [])
unfolding move_of row_of move_number
answers = refl

pub singles : map (λ (a : ℕ). map (λ (c : ℕ). move_number (move_of 1 1 a c)) (0 ∷ 1 ∷ 2 ∷ 3 ∷ [])) (0 ∷ 1 ∷ [])
    ≡ ((3 ∷ 3 ∷ 3 ∷ 3 ∷ []) ∷ (3 ∷ 3 ∷ 3 ∷ 3 ∷ []) ∷ [])
unfolding move_of row_of move_number
singles = refl

pub stopping : map (λ (a : ℕ). map (λ (c : ℕ). move_number (move_of 4 2 a c)) (0 ∷ 1 ∷ 2 ∷ 3 ∷ [])) (0 ∷ 1 ∷ [])
    ≡ ((1 ∷ 32 ∷ 32 ∷ 32 ∷ []) ∷ (1 ∷ 3 ∷ 32 ∷ 32 ∷ []) ∷ [])
unfolding move_of row_of move_number
stopping = refl

abbrev parts : Head → List ℕ
parts h = h.awaited ∷ h.group ∷ h.gap ∷ h.age ∷ []

-- of a head with a group of age 1 and no gap
abbrev after : ℕ → ℕ → List ℕ
after a c = parts (moved_head (move_of 4 4 a c) (head a 1 0 1))

-- where 32 is answered
abbrev out : List ℕ
out = 0 ∷ 1 ∷ 1 ∷ 1 ∷ []

pub heads : map (λ (a : ℕ). map (after a) (0 ∷ 1 ∷ 2 ∷ 3 ∷ [])) (0 ∷ 1 ∷ 2 ∷ 3 ∷ [])
    ≡ (((1 ∷ 1 ∷ 0 ∷ 1 ∷ []) ∷ out ∷ out ∷ out ∷ [])
    ∷ ((1 ∷ 1 ∷ 1 ∷ 1 ∷ []) ∷ (2 ∷ 1 ∷ 0 ∷ 1 ∷ []) ∷ out ∷ out ∷ [])
    ∷ ((1 ∷ 1 ∷ 1 ∷ 1 ∷ []) ∷ out ∷ (3 ∷ 1 ∷ 0 ∷ 1 ∷ []) ∷ out ∷ [])
    ∷ ((1 ∷ 1 ∷ 1 ∷ 1 ∷ []) ∷ out ∷ out ∷ (0 ∷ 1 ∷ 0 ∷ 0 ∷ []) ∷ [])
    ∷ [])
unfolding move_of row_of moved_head
heads = refl

-- a gap that was marked before: a start and a held packet keep it, a whole group clears it
pub gap-kept : (parts (moved_head (move_of 4 4 0 0) (head 0 1 1 1)) ≡ (1 ∷ 1 ∷ 1 ∷ 1 ∷ []))
    × (parts (moved_head (move_of 4 4 2 2) (head 2 1 1 1)) ≡ (3 ∷ 1 ∷ 1 ∷ 1 ∷ []))
unfolding move_of row_of moved_head
gap-kept = (refl, refl)

pub gap-cleared : parts (moved_head (move_of 4 4 3 3) (head 3 0 1 0)) ≡ (0 ∷ 1 ∷ 0 ∷ 0 ∷ [])
unfolding move_of row_of moved_head
gap-cleared = refl
