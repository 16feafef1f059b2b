-- What is sent to an address, what comes of it, and what demand 3 says is handed out. A group is `per` packets, four of them in
-- 7.4.2.2, and the first `needs` of them make it whole; packet c of group i is packet per * i + c of its address. Control packets may be
-- sent anywhere between them: such a one is not "a group's packet in demand 3 or the end of a lost run there", so it has no number.
--
--   Sent                    the bytes of packet c of group i
--   Arrival                 a group's packet that arrives readable, one that arrives and is refused, a control packet, the end of a subframe
--   event sent a            what it is to the followed address
--   InOrder per most n h    the groups' packets arrive in order, each at most once, none before packet n, no more than `most` lost in a
--                           row, whatever control packets come between; where a group is one packet, any number may be lost. None of
--                           them is taken for a control packet: a refusal of a group's packet drops
--   group needs sent i      the bytes of group i: of its first `needs` packets, in order
--   Readable needs h i      these packets all arrived readable
--   Exactly needs ..        what was handed out: those groups and no others, each once and in order
use Rattle.std.specs.Prelude.{◌≡◌, true, List, [], ◌∷◌, ◌++◌, ◌⊎◌, ℕ, zero, suc, ◌+◌, ◌*◌, ◌≤◌, ◌<◌}
use Rattle.faults.specs.Faults.{Fault, type_control, drops}
use Rattle.history.specs.Followed.{Event, packet, refused, ended}

abbrev pub Sent : Type 0
Sent = ℕ → ℕ → List ℕ

pub data Arrival : Type 0 where
  came : ℕ → ℕ → Arrival
  damaged : ℕ → ℕ → Fault → Arrival
  control : Arrival
  subframe_end : Arrival

unfoldable pub event : Sent → Arrival → Event
event sent (came i c) = packet c (sent i c)
event sent (damaged i c r) = refused r
event sent control = refused type_control
event sent subframe_end = ended

unfoldable pub events : Sent → List Arrival → List Event
events sent [] = []
events sent (a ∷ h) = event sent a ∷ events sent h

-- packet per * i + c is next: no packet again, no more than `most` lost before it
pub record Next (per most n i c : ℕ) : Type 0 where
  pub index : c < per
  pub once : n ≤ per * i + c
  pub lost : 1 < per → per * i + c ≤ n + most

unfoldable pub InOrder : ℕ → ℕ → ℕ → List Arrival → Type 0
InOrder per most n [] = Unit {0}
InOrder per most n (came i c ∷ h) = Next per most n i c × InOrder per most (suc (per * i + c)) h
InOrder per most n (damaged i c r ∷ h) = Next per most n i c × (drops r ≡ true) × InOrder per most (suc (per * i + c)) h
InOrder per most n (control ∷ h) = InOrder per most n h
InOrder per most n (subframe_end ∷ h) = InOrder per most n h

unfoldable pub group : ℕ → Sent → ℕ → List ℕ
group zero sent i = []
group (suc c) sent i = group c sent i ++ sent i c

unfoldable pub groups : ℕ → Sent → List ℕ → List (List ℕ)
groups needs sent [] = []
groups needs sent (i ∷ which) = group needs sent i ∷ groups needs sent which

unfoldable pub CameIn : ℕ → ℕ → List Arrival → Type 0
CameIn i c [] = ⊥
CameIn i c (a ∷ h) = (a ≡ came i c) ⊎ CameIn i c h

unfoldable pub Readable : ℕ → List Arrival → ℕ → Type 0
Readable needs h i = (c : ℕ) → c < needs → CameIn i c h

unfoldable pub In : ℕ → List ℕ → Type 0
In i [] = ⊥
In i (j ∷ which) = (i ≡ j) ⊎ In i which

-- each once and in order: the numbers rise
unfoldable pub Rising : ℕ → List ℕ → Type 0
Rising least [] = Unit {0}
Rising least (i ∷ which) = (least ≤ i) × Rising (suc i) which

pub record Exactly (needs : ℕ) (sent : Sent) (readable : ℕ → Type 0) (out : List (List ℕ)) : Type 0 where
  pub which : List ℕ
  pub bytes : out ≡ groups needs sent which
  pub rising : Rising 0 which
  pub those : (i : ℕ) → readable i → In i which
  pub others : (i : ℕ) → In i which → readable i
