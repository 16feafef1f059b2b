-- Demand 1: "It takes every packet, state, message and record, of every length, and always ends. Bad input gets a numbered
-- refusal. A refused call changes nothing, but for one case: a packet refused after its address is found among those followed
-- drops that address's unfinished group and marks a gap there." Document 02, Ask 6: "a control packet no longer drops a group or marks a
-- gap (demand 1 excepts it)"; and what 31 and 32 carry.
--
-- The calls are functions of every list of bytes and every number: that they take all and end is in their type.
--
--   unchanging       the refusals that change nothing: 20 to 27, 29, 33 and 34; 48 and 49
--   dropping         those that drop an unfinished group: 28, 47, 30, 31 and 32
--   Dropped k s t    slot k's unfinished room is 0, its gap marked, its awaited index 0; all else of the state s is in t as it was, the
--                    setting too
--   AllZero ns       each is 0
--   FirstFailed u w  of the thirty protected words in the useful bytes u, word w is the first that lies within three flips of none
--   Carries s image n d    what d tells beside the number n of the packet's answer
--   DroppedBy x s t  so by a packet at an address that is followed, and by no other call; all that only read are one case
--   Demand1 m
use Rattle.std.specs.Prelude.{◌≡◌, true, List, [], ◌∷◌, ◌++◌, ℕ, ◌≤◌, ◌<◌, length, get_or}
use Rattle.bits.specs.Bits.{blank}
use Rattle.golay.specs.Code.{word24, nearest}
use Rattle.words.specs.Protected.{words_of}
use Rattle.packet.specs.Received.{useful_of}
use Rattle.slot.specs.Slot.{room_size, head_of, unfinished, stored}
use Rattle.head.specs.Head.{dropped_head}
use Rattle.table.specs.State.{slots, setting, slot_at, find}
use Rattle.history.specs.Sent.{In}
use Rattle.adapter.specs.Calls.{address_of, followed}
use Rattle.demands.specs.Machine.{Question, ask, Call, start, follow, leave, packet, subframe_end, set_flips, asks, Bare, Details, Machine}
use Rattle.demands.specs.Rows.{index_of, rows_of, own_numbers, write_rows, bare_rows, Answers}

abbrev pub unchanging : List ℕ
unchanging = 20 ∷ 21 ∷ 22 ∷ 23 ∷ 24 ∷ 25 ∷ 26 ∷ 27 ∷ 29 ∷ 33 ∷ 34 ∷ 48 ∷ 49 ∷ []

abbrev pub dropping : List ℕ
dropping = 28 ∷ 47 ∷ 30 ∷ 31 ∷ 32 ∷ []

pub record Dropped (k : ℕ) (s t : List ℕ) : Type 0 where
  pub size : length t ≡ length s
  pub others : (j : ℕ) → j < slots → (j ≡ k → ⊥) → slot_at j t ≡ slot_at j s
  pub room : unfinished (slot_at k t) ≡ blank room_size
  pub group : stored (slot_at k t) ≡ stored (slot_at k s)
  pub head : head_of (slot_at k t) ≡ dropped_head (head_of (slot_at k s))
  pub tail : setting t ≡ setting s

unfoldable pub AllZero : List ℕ → Type 0
AllZero [] = Unit {0}
AllZero (n ∷ ns) = (n ≡ 0) × AllZero ns

-- "31 carries the word's place, 0 to 29, the first that failed"
abbrev pub FirstFailed : List ℕ → ℕ → Type 0
FirstFailed u w =
    (w < 30) × (4096 ≤ nearest word24 (get_or (words_of u) w 0)) × ((v : ℕ) → v < w → nearest word24 (get_or (words_of u) v 0) < 4096)

-- "32 carries the index awaited and the index that came"; any other number carries nothing
pub record Carries (s image : List ℕ) (n : ℕ) (d : Details) : Type 0 where
  pub out : n ≡ 32 → (d.detail ≡ (head_of (slot_at (find s (address_of image)) s)).awaited) × (d.came ≡ index_of image)
  pub word : n ≡ 31 → FirstFailed (useful_of image) d.detail × (d.came ≡ 0)
  pub others : (n ≡ 31 → ⊥) → (n ≡ 32 → ⊥) → (d.detail ≡ 0) × (d.came ≡ 0)

-- only a packet is refused so, and only at an address that is followed
unfoldable pub DroppedBy : Call → List ℕ → List ℕ → Type 0
DroppedBy (packet image) s t = (followed s (address_of image) ≡ true) × Dropped (find s (address_of image)) s t
DroppedBy start s t = ⊥
DroppedBy (follow w) s t = ⊥
DroppedBy (leave a) s t = ⊥
DroppedBy subframe_end s t = ⊥
DroppedBy (set_flips most) s t = ⊥
DroppedBy (asks q) s t = ⊥

pub record Demand1 (m : Machine) : Type 0 where
  -- "Bad input gets a numbered refusal": where a row of section 6 holds, the first of them; otherwise one of the call's own numbers
  pub numbered : (x : Call) (s : List ℕ) → Answers (rows_of x s) (own_numbers x) (m.answer x s)
  pub writes : (a p : ℕ) (message output : List ℕ)
      → Answers (write_rows a p (length message) (length output)) (0 ∷ []) (m.writes a p message output)
  pub bare : (x : Bare) → Answers (bare_rows x) (0 ∷ []) (m.bare x)
  -- "A refused call changes nothing, but for one case"
  pub unchanged : (x : Call) (s : List ℕ) → In (m.answer x s) unchanging → m.after x s ≡ s
  pub dropped : (x : Call) (s : List ℕ) → In (m.answer x s) dropping → DroppedBy x s (m.after x s)
  -- what the number carries is determined, by every image and every state
  pub carries : (s image : List ℕ) → Carries s image (m.answer (packet image) s) (m.details image s)
  pub unwritten : (a p : ℕ) (message output : List ℕ) → (m.writes a p message output ≡ 0 → ⊥) → m.written a p message output ≡ output
  -- "A refused bare reading or writing gives 0 as its value."
  pub valueless : (x : Bare) → (m.bare x ≡ 0 → ⊥) → AllZero (m.values x)
  -- "Starting sets every byte to 0", but for the setting: "start puts 3"
  pub started : (s : List ℕ) → length s ≡ 11777 → m.after start s ≡ blank 11776 ++ (3 ∷ [])
  -- "Answers 5 to 7 come with the part of the state that holds the group, [..] 4 and refusals come with an empty part."
  pub empty : (a : ℕ) (s : List ℕ) → (In (m.answer (asks (ask a)) s) (5 ∷ 6 ∷ 7 ∷ []) → ⊥) → m.shown a s ≡ []
  -- a call that only reads, and board text, change no byte that was lent
  pub reads : (q : Question) (s : List ℕ) → m.after (asks q) s ≡ s
  pub boards : (a : ℕ) (notice s : List ℕ) → ((m.board a notice s).state ≡ s) × ((m.board a notice s).notice ≡ notice)
