-- Demand 3 in the words of document 01: "no header at any address with more than three flipped bits". That is what it comes to where the
-- setting is 3 and nothing sets it: every number of 23 bits lies within three flips of a word, so no packet is refused with 49.
--
--   Lost image             refused with 20 or 21: it counts as lost
--   Channel p a sent n h   the words of the demand up to "Then", without a setting
--   AtThree m              then, from a state at 3, what demand 3 says; arrives: what arrives there does not depend on a setting
use Rattle.std.specs.Prelude.{◌≡◌, Bool, not, ◌&&◌, List, [], ◌∷◌, ◌⊎◌, ℕ, suc, ◌+◌, ◌*◌, eqb, length}
use Rattle.image.specs.Image.{spare_of}
use Rattle.packet.specs.Damage.{sent_image, Came}
use Rattle.head.specs.declared.Wish.{Wish}
use Rattle.table.specs.State.{setting}
use Rattle.table.specs.Calls.{follow_answer}
use Rattle.history.specs.Sent.{Sent, Next, Exactly}
use Rattle.history.specs.Missing.{Judged}
use Rattle.adapter.specs.Calls.{address_of}
use Rattle.demands.specs.Machine.{ask, Call, start, follow, leave, packet, subframe_end, set_flips, asks, Machine, run}
use Rattle.demands.specs.Seen.{arrives_at}
use Rattle.demands.specs.Demand3.{Carries, Happening, arrives, control, call, calls, ComesControl, Arrived, arrivals, handed_out}

abbrev pub Lost : List ℕ → Type 0
Lost image = (length image ≡ 94 → ⊥) ⊎ (spare_of image ≡ 1)

unfoldable pub Apart : ℕ → Call → Type 0
Apart a start = ⊥
Apart a (follow w) = Unit {0}
Apart a (leave b) = b ≡ a → ⊥
Apart a (packet image) = Lost image ⊎ (address_of image ≡ a → ⊥)
Apart a subframe_end = Unit {0}
Apart a (set_flips most) = ⊥
Apart a (asks q) = Unit {0}

pub record Comes (p : Bool) (a : ℕ) (sent : Sent) (n i c : ℕ) (image : List ℕ) : Type 0 where
  pub next : Next 4 3 n i c
  pub came : Came p 3 (sent_image p a c (sent i c)) image
  pub spare : spare_of image ≡ 0

unfoldable pub Channel : Bool → ℕ → Sent → ℕ → List Happening → Type 0
Channel p a sent n [] = Unit {0}
Channel p a sent n (arrives i c image ∷ h) = Comes p a sent n i c image × Channel p a sent (suc (4 * i + c)) h
Channel p a sent n (control image ∷ h) = ComesControl a 3 image × Channel p a sent n h
Channel p a sent n (call x ∷ h) = Apart a x × Channel p a sent n h

pub record AtThree (m : Machine) : Type 0 where
  pub arrives : (a : ℕ) (image : List ℕ)
      → arrives_at a 3 image ≡ (eqb (length image) 94 && (not (eqb (spare_of image) 1) && eqb (address_of image) a))
  pub exactly : (s : List ℕ) (w : Wish) → follow_answer s w ≡ 0 → setting s ≡ 3 → (sent : Sent) → Carries (eqb w.protection 1) sent
      → (n : ℕ) (h : List Happening) → Channel (eqb w.protection 1) w.address sent n h
      → Exactly 4 sent (Arrived (eqb w.protection 1) h) (handed_out m w.address (calls h) (m.after (follow w) s))
  pub missing : (s : List ℕ) (w : Wish) → follow_answer s w ≡ 0 → setting s ≡ 3 → (sent : Sent) → Carries (eqb w.protection 1) sent
      → (n : ℕ) (h : List Happening) → Channel (eqb w.protection 1) w.address sent n h
      → Judged 4 w.limit (arrivals (eqb w.protection 1) h)
      (m.answer (asks (ask w.address)) (run m (calls h) (m.after (follow w) s)))
