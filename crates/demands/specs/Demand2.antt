-- Demand 2: "Headers, type bytes, Golay words and linked groups are those of ETS 300 352, reading and writing. A group that we write and
-- then read in order, at its address followed with the same protection, is the group that went in." With damage too: no more than
-- is corrected, in each header the setting of the state that it is read on, two in each type byte, three in each protected word.
-- The plain header reader (document 02, Ask 10) is "equal to the table reader for every 23-bit number and every setting .., the corrected
-- count included", and by "Refusals: as the table reader" for every other number and setting too.
--
--   Follows s a p              the state is good, and an address is followed with this protection
--   Writable a p m o           address, protection and both lengths are such that a group is written
--   image_at o i                image i of what was written
--   Sound p most o i t         t came of image i with no more damage than that, its spare bit 0
--   Demand2 m
use Rattle.std.specs.Prelude.{◌≡◌, Bool, true, List, [], ◌∷◌, ℕ, ◌*◌, ◌≤◌, ◌<◌, eqb, length}
use Rattle.image.specs.Image.{spare_of}
use Rattle.packet.specs.Damage.{Corrected}
use Rattle.runs.specs.Part.{part}
use Rattle.slot.specs.Slot.{head_of}
use Rattle.table.specs.State.{state_size, setting, slots, slot_at, find, good}
use Rattle.adapter.specs.Calls.{group_size, images_size, group_images, followed}
use Rattle.demands.specs.Machine.{ask, Call, packet, asks, Machine, Bytes, run, Bare, read_within, read_plain, bare_number, bare_values}

pub record Follows (s : List ℕ) (a p : ℕ) : Type 0 where
  pub size : length s ≡ state_size
  pub good : good s ≡ true
  pub found : followed s a ≡ true
  pub protection : (head_of (slot_at (find s a) s)).wish.protection ≡ p

pub record Writable (a p : ℕ) (m o : List ℕ) : Type 0 where
  pub address-from : 1 ≤ a
  pub address-to : a ≤ 1022
  pub protection : p ≤ 1
  pub message : length m ≡ group_size (eqb p 1)
  pub output : length o ≡ images_size

abbrev pub image_at : List ℕ → ℕ → List ℕ
image_at o i = part (i * 94) 94 o

pub record Sound (p : Bool) (most : ℕ) (o : List ℕ) (i : ℕ) (t : List ℕ) : Type 0 where
  pub corrected : Corrected p most (image_at o i) t
  pub spare : spare_of t ≡ 0

-- the answers to four images in turn
unfoldable pub answers_to : Machine → List (List ℕ) → List ℕ → List ℕ
answers_to m [] s = []
answers_to m (t ∷ ts) s = m.answer (packet t) s ∷ answers_to m ts (m.after (packet t) s)

unfoldable pub packets : List (List ℕ) → List Call
packets [] = []
packets (t ∷ ts) = packet t ∷ packets ts

pub record ReadBack (m : Machine) (s : List ℕ) (a : ℕ) (message : List ℕ) (ts : List (List ℕ)) : Type 0 where
  pub size : length (run m (packets ts) s) ≡ length s
  pub answers : answers_to m ts s ≡ 1 ∷ 2 ∷ 2 ∷ 3 ∷ []
  pub fresh : m.answer (asks (ask a)) (run m (packets ts) s) ≡ 5
  pub group : m.shown a (run m (packets ts) s) ≡ message
  pub others : (j : ℕ) → j < slots → (j ≡ find s a → ⊥) → slot_at j (run m (packets ts) s) ≡ slot_at j s

pub record Demand2 (m : Machine) : Type 0 where
  pub numbers : (x : Bare) → m.bare x ≡ bare_number x
  pub values : (x : Bare) → m.values x ≡ bare_values x
  pub readers : (n most : ℕ) → (m.bare (read_plain n most) ≡ m.bare (read_within n most)) × (m.values (read_plain n most) ≡ m.values (read_within n most))
  pub writes : (a p : ℕ) (message output : List ℕ) → Writable a p message output → m.writes a p message output ≡ 0
  pub images : (a p : ℕ) (message output : List ℕ) → Writable a p message output → m.written a p message output ≡ group_images (eqb p 1) a message
  pub size : (a p : ℕ) (message output : List ℕ) → Writable a p message output → length (m.written a p message output) ≡ 376
  -- each image is itself sound: no flip, and its spare bit is 0
  pub sound : (a p : ℕ) (message output : List ℕ) → Writable a p message output → Bytes message → (i : ℕ) → i < 4
      → Sound (eqb p 1) 0 (m.written a p message output) i (image_at (m.written a p message output) i)
  pub back : (s : List ℕ) (a p : ℕ) (message output t0 t1 t2 t3 : List ℕ) → Follows s a p → length message ≡ group_size (eqb p 1)
      → Bytes message → length output ≡ images_size
      → Sound (eqb p 1) (setting s) (m.written a p message output) 0 t0 → Sound (eqb p 1) (setting s) (m.written a p message output) 1 t1
      → Sound (eqb p 1) (setting s) (m.written a p message output) 2 t2 → Sound (eqb p 1) (setting s) (m.written a p message output) 3 t3
      → ReadBack m s a message (t0 ∷ t1 ∷ t2 ∷ t3 ∷ [])
