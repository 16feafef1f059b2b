-- What a slot says of its address, as a value, and how it changes (document 01, sections 3 to 5). No place of a byte is told here.
--
--   good_wish w                   what may be wished of follow: the bounds of section 3
--   wish_rows w rest, wish_answer  follow's rows about what is wished, 22, 23, 24, and then others; the first of these
--   free_head, new_head w          all 0; as follow makes it: awaited index, marks and age 0
--   started_head .. dropped_head   by the rows of section 4's table
--   aged_head                     by a subframe end, section 5
--   ask_number h                  what ask says of a followed address: 4, 7, 6 or 5
--   good_head h                   within the bounds of section 3
use Rattle.std.specs.Prelude.{Bool, cond, not, ◌&&◌, List, [], ◌∷◌, ℕ, ◌+◌, leb, ltb, eqb}
use Rattle.bits.specs.Rows.{Row, row, refusal}
use Rattle.head.specs.declared.Head.{Head}
use Rattle.head.specs.declared.Wish.{Wish}

abbrev pub within : ℕ → ℕ → ℕ → Bool
within least most n = leb least n && leb n most

-- "address 1 to 1,022, protection 0 or 1, limit 1 to 1,500"
unfoldable pub good_wish : Wish → Bool
good_wish w = within 1 1022 w.address && (leb w.protection 1 && within 1 1500 w.limit)

-- 22: address not 1 to 1,022; 23: protection not 0 or 1; 24: limit not 1 to 1,500
abbrev pub wish_rows : Wish → List Row → List Row
wish_rows w rest =
    row (not (within 1 1022 w.address)) 22
    ∷ row (ltb 1 w.protection) 23
    ∷ row (not (within 1 1500 w.limit)) 24
    ∷ rest

unfoldable pub wish_answer : Wish → ℕ
wish_answer w = refusal (wish_rows w [])

abbrev pub wish_of : ℕ → ℕ → ℕ → Wish
wish_of address protection limit = record { address = address; limit = limit; protection = protection }

abbrev pub free_head : Head
free_head = record { wish = wish_of 0 0 0; age = 0; awaited = 0; group = 0; gap = 0 }

abbrev pub new_head : Wish → Head
new_head w = record { wish = w; age = 0; awaited = 0; group = 0; gap = 0 }

-- "any, 0: 1 started: unfinished group begins anew, awaits 1; gap marked if 1 to 3 was awaited"
abbrev pub started_head : Head → Head
started_head h = record {
  wish = h.wish;
  age = h.age;
  awaited = 1;
  group = h.group;
  gap = cond (ltb 0 h.awaited) 1 h.gap;
}

-- "c, 1 or 2: 2 held: joined on, awaits c + 1"
abbrev pub held_head : Head → Head
held_head h = record { wish = h.wish; age = h.age; awaited = h.awaited + 1; group = h.group; gap = h.gap }

-- "3, 3: 3 whole: becomes the last whole group; age 0, gap cleared, awaits 0"
abbrev pub whole_head : Head → Head
whole_head h = record { wish = h.wish; age = 0; awaited = 0; group = 1; gap = 0 }

-- "other, 1 to 3: 32: unfinished group cleared, gap marked, awaits 0"; likewise refusals 28, 47, 30 and 31
abbrev pub dropped_head : Head → Head
dropped_head h = record { wish = h.wish; age = h.age; awaited = 0; group = h.group; gap = 1 }

-- "Each subframe end adds 1 to the age of every slot that has a whole group, up to 1,500."
abbrev pub aged_head : Head → Head
aged_head h = record {
  wish = h.wish;
  age = cond (eqb h.group 1 && ltb h.age 1500) (h.age + 1) h.age;
  awaited = h.awaited;
  group = h.group;
  gap = h.gap;
}

-- Section 5, what ask says of a followed address: "4 nothing yet; otherwise 7 stale if the age is the limit or more; otherwise
-- 6 doubtful if a gap is marked; otherwise 5 fresh"
unfoldable pub ask_number : Head → ℕ
ask_number h = cond (eqb h.group 0) 4 (cond (leb h.wish.limit h.age) 7 (cond (eqb h.gap 1) 6 5))

-- a wish that is good, "awaited index 0 to 3, marks 0 or 1, age at most 1,500"
unfoldable pub good_head : Head → Bool
good_head h = good_wish h.wish && (leb h.awaited 3 && (leb h.group 1 && (leb h.gap 1 && leb h.age 1500)))
