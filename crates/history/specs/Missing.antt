-- What ask is to say, told by what was sent and what came. "Under the channel's hypotheses, at every moment. Before a group has
-- been handed out since follow, ask answers 4. From then on: 7 exactly if as many subframes as the limit, or more, have ended
-- since the last one; otherwise 6 if some packet sent to the address after that group, up to the last one that arrived and that
-- one included, was lost or unreadable; otherwise 5." The packets are the groups': a control packet that is lost, or the last to
-- arrive, alters nothing here. No answer of the slot is looked at, no awaited index and no mark.
-- A group is `per` packets, more than one, and all of them make it whole. This is not so of groups of one: there a lost packet
-- leaves no mark, since the next to come is whole whatever went before it. Nor where spare packets are sent behind a whole group.
--
--   Reached per k h          packet k of the address's groups, or a later one, arrived, readable or not
--   Missed per i h           some packet sent after group i, up to the last one that arrived, was lost or unreadable
--   endings h                how many subframes ended
--   Last per h i l           group i is the last that was handed out in h, and l is what came since
--   Judged per limit h ask   what ask is to say at the end of h
use Rattle.std.specs.Prelude.{◌≡◌, List, [], ◌∷◌, ◌++◌, ◌⊎◌, ℕ, suc, ◌+◌, ◌-◌, ◌*◌, ◌≤◌, ◌<◌}
use Rattle.history.specs.Sent.{Arrival, came, damaged, control, subframe_end, CameIn, Readable}

-- a packet that arrived, readable or not, is packet k of its address or a later one
unfoldable pub Reached : ℕ → ℕ → List Arrival → Type 0
Reached per k [] = ⊥
Reached per k (came j d ∷ h) = (k ≤ per * j + d) ⊎ Reached per k h
Reached per k (damaged j d r ∷ h) = (k ≤ per * j + d) ⊎ Reached per k h
Reached per k (control ∷ h) = Reached per k h
Reached per k (subframe_end ∷ h) = Reached per k h

-- "some packet sent to the address after that group, up to the last one that arrived and that one included, was lost or unreadable"
pub record Missed (per i : ℕ) (h : List Arrival) : Type 0 where
  pub group : ℕ
  pub index : ℕ
  pub below : index < per
  pub after : i < group
  pub reached : Reached per (per * group + index) h
  pub absent : CameIn group index h → ⊥

unfoldable pub endings : List Arrival → ℕ
endings [] = 0
endings (came j d ∷ h) = endings h
endings (damaged j d r ∷ h) = endings h
endings (control ∷ h) = endings h
endings (subframe_end ∷ h) = suc (endings h)

-- its last packet came with all of them readable, and no later group is readable
pub record Last (per : ℕ) (h : List Arrival) (i : ℕ) (l : List Arrival) : Type 0 where
  pub before : List Arrival
  pub split : h ≡ before ++ (came i (per - 1) ∷ l)
  pub whole : Readable per h i
  pub none : (j : ℕ) → i < j → Readable per h j → ⊥

pub record Judged (per limit : ℕ) (h : List Arrival) (ask : ℕ) : Type 0 where
  -- "before a group has been handed out since follow"
  pub nothing : ((i : ℕ) → Readable per h i → ⊥) → ask ≡ 4
  -- "as many subframes as the limit, or more, have ended since the last one"
  pub stale : (i : ℕ) (l : List Arrival) → Last per h i l → limit ≤ endings l → ask ≡ 7
  -- "otherwise 6 if some packet .. was lost or unreadable; otherwise 5"
  pub doubtful : (i : ℕ) (l : List Arrival) → Last per h i l → endings l < limit → Missed per i l → ask ≡ 6
  pub fresh : (i : ℕ) (l : List Arrival) → Last per h i l → endings l < limit → (Missed per i l → ⊥) → ask ≡ 5
