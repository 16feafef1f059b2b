-- Small readers of one component of a multiplex, each of which leaves one thing unheeded: a theorem must be false of each. Nothing is claimed of
-- the one that heeds everything.
--
--   Heeds            what is heeded:
--     ends           46 is said until a repetition has come to its end
--     starts         a repetition of which the first field was not heard is not the whole
--     links          a repetition goes on only under the same LINKS
--     gaps           nothing goes on over a missed frame
--     blocks         the five identical blocks of a frame are one
--     news           what is in force ends with an announced change
--     wraps          the change comes with count 2 modulo 128, not modulo 256
--   heeded h m r     what is kept behind a field: nothing; 0 or 1, the last frame's count, LINKS, and the fields that are being gathered (0) or are
--                    whole (1); 2 and the count, where a change is announced
--   reader h         it knows of component 7 alone
use Rattle.std.specs.Prelude.{Bool, true, false, cond, not, ◌&&◌, ◌||◌, List, [], ◌∷◌, ◌++◌, ℕ, zero, suc, ◌+◌, ◌-◌, ◌%◌, ltb, eqb, length, get_or}
use Rattle.field.specs.Field.{field_of, deletes, key}
use Rattle.field.specs.declared.Field.{Field}
use Rattle.frames.specs.Counts.{since, changes, until}
use Rattle.multiplex.specs.Heard.{Machine}
use Rattle.multiplex.specs.Sound.{lists}
use Rattle.multiplex.specs.Empty.{seven}

pub record Heeds : Type 0 where
  pub ends : Bool
  pub starts : Bool
  pub links : Bool
  pub gaps : Bool
  pub blocks : Bool
  pub news : Bool
  pub wraps : Bool

-- ---- one field

-- a change of component 7 is announced
unfoldable pub announced : Heeds → Field → Bool
announced h r = h.news && (eqb r.flag 1 && eqb r.id 7)

-- it is not there
unfoldable pub absent : Field → Bool
absent r = eqb r.flag 0 && (eqb r.id 7 && deletes r.tdms)

unfoldable pub anew : Heeds → Field → List ℕ
anew h r = cond (announced h r) (2 ∷ r.count ∷ []) (cond (seven r) (0 ∷ r.count ∷ r.links ∷ r.tdms ∷ []) [])

unfoldable pub goes_on : Heeds → ℕ → List ℕ → Field → Bool
goes_on h l xs r = (eqb l r.links || not h.links) && ltb (key (get_or xs (length xs - 1) 0)) (key r.tdms)

-- a present field, behind those that are being gathered or are whole
unfoldable pub joined : Heeds → ℕ → ℕ → List ℕ → Field → List ℕ
joined h zero l xs r =
    cond (eqb (get_or xs 0 0) r.tdms) (1 ∷ r.count ∷ r.links ∷ xs)
    (cond (goes_on h l xs r) (0 ∷ r.count ∷ l ∷ (xs ++ (r.tdms ∷ []))) (cond h.starts (anew h r) (1 ∷ r.count ∷ r.links ∷ xs)))
joined h (suc w) l xs r = cond (lists xs r.tdms) (1 ∷ r.count ∷ l ∷ xs) (anew h r)

unfoldable pub missed : Heeds → ℕ → Field → Bool
missed h c r = h.gaps && ltb 1 (since c r.count)

unfoldable pub heeded : Heeds → List ℕ → Field → List ℕ
heeded h [] r = anew h r
heeded h (w ∷ []) r = anew h r
heeded h (w ∷ c ∷ []) r = cond (changes c r.count) (anew h r) (2 ∷ r.count ∷ [])
heeded h (w ∷ c ∷ l ∷ xs) r =
    cond (h.blocks && eqb c r.count) (w ∷ c ∷ l ∷ xs)
    (cond (missed h c r || (announced h r || absent r)) (anew h r) (cond (seven r) (joined h w l xs r) (w ∷ r.count ∷ l ∷ xs)))

-- the field of a frame, from each of its blocks
unfoldable pub times : ℕ → Heeds → List ℕ → Field → List ℕ
times zero h m r = m
times (suc n) h m r = times n h (heeded h m r) r

-- ---- what is shown

unfoldable pub listed : List ℕ → List ℕ
listed [] = []
listed (w ∷ []) = []
listed (w ∷ c ∷ []) = []
listed (w ∷ c ∷ l ∷ xs) = xs

unfoldable pub distance : Bool → ℕ → ℕ
distance wraps c = cond wraps (until c) ((1 + 256 - c) % 256 + 1)

abbrev pub sure : Heeds → List ℕ → ℕ → Bool
sure h m id = eqb id 7 && (eqb (get_or m 0 0) 1 || not h.ends)

abbrev pub told : List ℕ → ℕ → Bool
told m id = eqb id 7 && eqb (get_or m 0 0) 2

unfoldable pub reader : Heeds → Machine
reader h = record {
  start = [];
  answer = λ m f. 0;
  after = λ m f. times 5 h m (field_of f);
  number = λ m id count. cond (sure h m id || not h.ends) 0 46;
  fields = λ m id count. cond (sure h m id) (listed m) [];
  announced = λ m id count. cond (told m id) 1 0;
  frames = λ m id count. cond (told m id) (distance h.wraps (get_or m 1 0)) 0;
  unknown = λ m id count. 0;
}

abbrev pub careful : Heeds
careful = record { ends = true; starts = true; links = true; gaps = true; blocks = true; news = true; wraps = true }

-- ---- one thing unheeded

-- never 46: it shows what it has heard of the component so far
abbrev pub endless : Heeds
endless = record { ends = false; starts = true; links = true; gaps = true; blocks = true; news = true; wraps = true }

-- a late start is trusted
abbrev pub startless : Heeds
startless = record { ends = true; starts = false; links = true; gaps = true; blocks = true; news = true; wraps = true }

-- LINKS is ignored
abbrev pub linkless : Heeds
linkless = record { ends = true; starts = true; links = false; gaps = true; blocks = true; news = true; wraps = true }

-- gaps are trusted
abbrev pub gapless : Heeds
gapless = record { ends = true; starts = true; links = true; gaps = false; blocks = true; news = true; wraps = true }

-- blocks are counted as repetitions
abbrev pub blockless : Heeds
blockless = record { ends = true; starts = true; links = true; gaps = true; blocks = false; news = true; wraps = true }

-- the old structure is shown ahead of the change, and behind it
abbrev pub newsless : Heeds
newsless = record { ends = true; starts = true; links = true; gaps = true; blocks = true; news = false; wraps = true }

-- distances are modulo 256
abbrev pub wrapless : Heeds
wrapless = record { ends = true; starts = true; links = true; gaps = true; blocks = true; news = true; wraps = false }
