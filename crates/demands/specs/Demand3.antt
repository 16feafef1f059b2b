-- Demand 3: "Follow an address with the protection it is sent with, and let it carry only whole groups of four data packets. Let
-- these arrive in order, each at most once, no more than three lost in a row, no header at any address with more than [the set number of]
-- flipped bits, no protected word with more than four, and no flip in unprotected data. Then, from follow to leave or start,
-- the groups handed out are exactly those sent groups whose four packets all arrived readable in that time, each once and in
-- order, the first one after damage among them. The last of them is called fresh exactly while fewer subframes than its limit
-- have ended since it was handed out and no gap has been marked since. Packets for other addresses alter none of this."
--
-- Document 02, Ask 6: a control packet is not "a group's packet in demand 3 or the end of a lost run there; demand 3 now needs no type byte
-- there with more than two flips". So the address carries whole groups of four data packets, and control packets anywhere between them;
-- nothing else: a packet of type C7 or F8 that is sent there is outside of these words (it is refused, drops and marks). Two flips, because
-- a data packet's type byte with four may be read as 3F, and the packet would vanish without a mark; and a control packet's with three may
-- be unreadable, or F8 or C7, and would drop a group whose packets all came (the crate history, proofs/Sharp.antt).
--
-- The set number is the setting in force at each arrival (document 02, Ask 7): any call may change it between follow and leave, so it goes
-- along with what happens. A packet with more flips than it is refused with 49 and counts as lost. specs/Three.antt has the words of
-- document 01, "more than three", where the setting is 3 throughout.
--
-- The calls that only read change nothing: they are one case, `asks q`, in all that follows.
--
--   Stays a x              a call that neither leaves the address nor starts
--   Carries p sent         what is sent are packets of 90 bytes, or of 45 protected ones
--   Lost k image           refused with 20, 21 or, at the setting k, 49: it counts as lost
--   Happening              what came of packet c of group i, what came of a control packet, or any other call
--   Channel p a sent k n h     the words of the demand up to "Then", over what happens from packet n and the setting k on
--   Arrived p h i          all four packets of group i arrived readable: not refused with 20, 21, 49 or 31
--   arrivals p h           what came of it, packet by packet, and the subframe ends between
--   handed_out m a h s      what ask shows of the address after each answer 3 to a packet read as it
--   Goes m a f k t s       what the machine answers and shows at the address from state s on, where the address is there as f says, k is
--                          the setting, and t is its transcript so far
--   concerns a x           a call that concerns the address; one that only reads by the address of its question, the setting's every one
--   only a h               the calls that concern the address; answers_at: the answers to them
--   Demand3 m
use Rattle.std.specs.Prelude.{◌≡◌, Bool, true, false, cond, ◌&&◌, List, [], ◌∷◌, ◌++◌, ◌⊎◌, ℕ, zero, suc, ◌+◌, ◌*◌, ◌<◌, eqb, length}
use Rattle.image.specs.Image.{spare_of}
use Rattle.packet.specs.Received.{received}
use Rattle.packet.specs.Damage.{data_size, sent_image, control_image, Came, ControlCame}
use Rattle.slot.specs.Slot.{head_of}
use Rattle.head.specs.declared.Wish.{Wish}
use Rattle.table.specs.State.{setting, slot_at, find}
use Rattle.table.specs.Calls.{follow_answer}
use Rattle.faults.specs.Faults.{fault_of}
use Rattle.history.specs.Followed.{Followed, answer, followed}
use Rattle.history.specs.Followed as one
use Rattle.history.specs.Sent.{Sent, Arrival, came, damaged, Next, Exactly}
use Rattle.history.specs.Sent as arriving
use Rattle.history.specs.Transcript.{Entry, told, called}
use Rattle.history.specs.Missing.{Judged}
use Rattle.adapter.specs.Calls.{address_of, flips_of}
use Rattle.demands.specs.Machine.{ask, asked_of, Call, start, follow, leave, packet, subframe_end, set_flips, asks, Machine, Bytes, run}
use Rattle.demands.specs.Demand2.{Follows}
use Rattle.demands.specs.Setting.{setting_now, setting_after}
use Rattle.demands.specs.Seen.{arrives_at, event_of, events_of, by, seen_in, marks_of, latest}

-- ---- from follow to leave or start

unfoldable pub Stays : ℕ → Call → Type 0
Stays a start = ⊥
Stays a (follow w) = Unit {0}
Stays a (leave b) = b ≡ a → ⊥
Stays a (packet image) = Unit {0}
Stays a subframe_end = Unit {0}
Stays a (set_flips most) = Unit {0}
Stays a (asks q) = Unit {0}

unfoldable pub AllStay : ℕ → List Call → Type 0
AllStay a [] = Unit {0}
AllStay a (x ∷ h) = Stays a x × AllStay a h

-- ---- what is sent and what comes

pub record Carries (p : Bool) (sent : Sent) : Type 0 where
  pub size : (i c : ℕ) → c < 4 → length (sent i c) ≡ data_size p
  pub bytes : (i c : ℕ) → c < 4 → Bytes (sent i c)

abbrev pub Lost : ℕ → List ℕ → Type 0
Lost k image = (length image ≡ 94 → ⊥) ⊎ ((spare_of image ≡ 1) ⊎ (k < flips_of image))

pub data Happening : Type 0 where
  -- group, index, image
  arrives : ℕ → ℕ → List ℕ → Happening
  control : List ℕ → Happening
  call : Call → Happening

unfoldable pub call_of : Happening → Call
call_of (arrives i c image) = packet image
call_of (control image) = packet image
call_of (call x) = x

unfoldable pub calls : List Happening → List Call
calls [] = []
calls (x ∷ h) = call_of x ∷ calls h

-- a packet that comes of none sent to the address is lost, or it is read as another one
unfoldable pub Apart : ℕ → ℕ → Call → Type 0
Apart a k start = ⊥
Apart a k (follow w) = Unit {0}
Apart a k (leave b) = b ≡ a → ⊥
Apart a k (packet image) = Lost k image ⊎ (address_of image ≡ a → ⊥)
Apart a k subframe_end = Unit {0}
Apart a k (set_flips most) = Unit {0}
Apart a k (asks q) = Unit {0}

pub record Comes (p : Bool) (a : ℕ) (sent : Sent) (k n i c : ℕ) (image : List ℕ) : Type 0 where
  pub next : Next 4 3 n i c
  pub came : Came p k (sent_image p a c (sent i c)) image
  pub spare : spare_of image ≡ 0

-- a control packet that was sent to the address, whatever its index and its useful bytes
pub record ComesControl (a k : ℕ) (image : List ℕ) : Type 0 where
  pub index : ℕ
  pub useful : List ℕ
  pub below : index < 4
  pub size : length useful ≡ 90
  pub bytes : Bytes useful
  pub came : ControlCame k (control_image a index useful) image
  pub spare : spare_of image ≡ 0

-- a control packet leaves the number of the next packet as it is: those lost before and behind it are one run
unfoldable pub Channel : Bool → ℕ → Sent → ℕ → ℕ → List Happening → Type 0
Channel p a sent k n [] = Unit {0}
Channel p a sent k n (arrives i c image ∷ h) = Comes p a sent k n i c image × Channel p a sent k (suc (4 * i + c)) h
Channel p a sent k n (control image ∷ h) = ComesControl a k image × Channel p a sent k n h
Channel p a sent k n (call x ∷ h) = Apart a k x × Channel p a sent (setting_now x k) n h

-- packet c of group i arrived readable
unfoldable pub ReadableIn : Bool → ℕ → ℕ → List Happening → Type 0
ReadableIn p i c [] = ⊥
ReadableIn p i c (arrives j d image ∷ h) = ((j ≡ i) × (d ≡ c) × ((received p image).number ≡ 0)) ⊎ ReadableIn p i c h
ReadableIn p i c (control image ∷ h) = ReadableIn p i c h
ReadableIn p i c (call x ∷ h) = ReadableIn p i c h

unfoldable pub Arrived : Bool → List Happening → ℕ → Type 0
Arrived p h i = (c : ℕ) → c < 4 → ReadableIn p i c h

-- the same as arrivals of which the crate history speaks: a readable packet came, any other that arrived is damaged
unfoldable pub arrival_by : ℕ → ℕ → ℕ → Arrival
arrival_by zero i c = came i c
arrival_by (suc n) i c = damaged i c (fault_of (suc n))

-- of the other calls a subframe's end alone is one
unfoldable pub passing : Call → List Arrival
passing start = []
passing (follow w) = []
passing (leave b) = []
passing (packet image) = []
passing subframe_end = arriving.subframe_end ∷ []
passing (set_flips most) = []
passing (asks q) = []

unfoldable pub arrivals : Bool → List Happening → List Arrival
arrivals p [] = []
arrivals p (arrives i c image ∷ h) = arrival_by (received p image).number i c ∷ arrivals p h
arrivals p (control image ∷ h) = arriving.control ∷ arrivals p h
arrivals p (call x ∷ h) = passing x ++ arrivals p h

-- ---- what is handed out

unfoldable pub hands_out : ℕ → Call → ℕ → Bool
hands_out a start n = false
hands_out a (follow w) n = false
hands_out a (leave b) n = false
hands_out a (packet image) n = eqb (address_of image) a && eqb n 3
hands_out a subframe_end n = false
hands_out a (set_flips most) n = false
hands_out a (asks q) n = false

unfoldable pub handed_out : Machine → ℕ → List Call → List ℕ → List (List ℕ)
handed_out m a [] s = []
handed_out m a (x ∷ h) s =
    let t = m.after x s in
    cond (hands_out a x (m.answer x s)) (m.shown a t ∷ handed_out m a h t) (handed_out m a h t)

-- ---- at every moment, from any state that follows the address

-- The transcript is made of the images: what each is received as, and section 4's table; not of what the machine says it did.
pub record Goes (m : Machine) (a : ℕ) (f : Followed) (k : ℕ) (t : List Entry) (s : List ℕ) : Type 0 where
  -- the answer to each packet that is read as the address is the one in that transcript
  pub answers : (h : List Call) → AllStay a h → (image : List ℕ) → arrives_at a (setting_after h k) image ≡ true
      → m.answer (packet image) (run m h s) ≡ answer (event_of (by f) image) (one.run (events_of a (by f) k h) f)
  -- "fresh exactly while fewer subframes than its limit have ended since it was handed out and no gap has been marked since"
  pub asks : (h : List Call) → AllStay a h
      → m.answer (asks (ask a)) (run m h s) ≡ called f.head.wish.limit (told (events_of a (by f) k h) f t)
  -- "A group is handed out by answer 3 and by nothing else; ask only shows it again."
  pub shows : (h : List Call) → AllStay a h → m.shown a (run m h s) ≡ latest f.last (one.handed_out (events_of a (by f) k h) f)

-- ---- what other addresses alter: the calls that concern an address, and their answers

unfoldable pub concerns : ℕ → Call → Bool
concerns a start = true
concerns a (follow w) = eqb w.address a
concerns a (leave b) = eqb b a
concerns a (packet image) = eqb (address_of image) a
concerns a subframe_end = true
concerns a (set_flips most) = true
concerns a (asks q) = eqb (asked_of q) a

unfoldable pub only : ℕ → List Call → List Call
only a [] = []
only a (x ∷ h) = cond (concerns a x) (x ∷ only a h) (only a h)

unfoldable pub answers_at : Machine → ℕ → List Call → List ℕ → List ℕ
answers_at m a [] s = []
answers_at m a (x ∷ h) s =
    let rest = answers_at m a h (m.after x s) in
    cond (concerns a x) (m.answer x s ∷ rest) rest

pub record Demand3 (m : Machine) : Type 0 where
  -- where the rows of section 6 accept a follow, it is accepted
  pub accepted : (s : List ℕ) (w : Wish) → follow_answer s w ≡ 0 → m.answer (follow w) s ≡ 0
  pub exactly : (s : List ℕ) (w : Wish) → follow_answer s w ≡ 0 → (sent : Sent) → Carries (eqb w.protection 1) sent
      → (n : ℕ) (h : List Happening) → Channel (eqb w.protection 1) w.address sent (setting s) n h
      → Exactly 4 sent (Arrived (eqb w.protection 1) h) (handed_out m w.address (calls h) (m.after (follow w) s))
  -- whatever the channel does: from a follow on, and from every good state, one made by hand too, at every address that its slots hold
  pub follows : (s : List ℕ) (w : Wish) → follow_answer s w ≡ 0 → Goes m w.address (followed w) (setting s) [] (m.after (follow w) s)
  pub holds : (s : List ℕ) (a p : ℕ) → Follows s a p → let x = slot_at (find s a) s in Goes m a (seen_in x) (setting s) (marks_of (head_of x)) s
  -- fresh means that nothing was missed: by what was sent and what came
  pub missing : (s : List ℕ) (w : Wish) → follow_answer s w ≡ 0 → (sent : Sent) → Carries (eqb w.protection 1) sent
      → (n : ℕ) (h : List Happening) → Channel (eqb w.protection 1) w.address sent (setting s) n h
      → Judged 4 w.limit (arrivals (eqb w.protection 1) h)
      (m.answer (asks (ask w.address)) (run m (calls h) (m.after (follow w) s)))
  -- board text: in each case ask's number; the group exactly where it is 5, otherwise the whole notice
  pub boards : (a : ℕ) (notice s : List ℕ) → (m.board a notice s).number ≡ m.answer (asks (ask a)) s
  pub texts : (a : ℕ) (notice s : List ℕ) → (m.board a notice s).text ≡ cond (eqb (m.answer (asks (ask a)) s) 5) (m.shown a s) notice
  -- leaving out every call that does not concern the address changes no answer and no shown part of it
  pub undisturbed : (s : List ℕ) (w : Wish) → follow_answer s w ≡ 0 → (h : List Call) → AllStay w.address h
      → let a = w.address in
      let t = m.after (follow w) s in
      (answers_at m a h t ≡ answers_at m a (only a h) t) × (m.shown a (run m h t) ≡ m.shown a (run m (only a h) t))
