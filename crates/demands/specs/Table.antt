-- The table of followed addresses is the history's: what follow and leave made of it and nothing else (document 01, sections 3 and 6). So
-- is the setting (document 02, Ask 7).
-- The calls that only read are one case that changes nothing.
--
--   Good s                  a good state of the right length
--   address_after x s k      the address of slot k after a call: "Follow takes the lowest free slot", "Leave sets the slot to 0"
--   member a l              an address is one of a list
--   accepts w l             a follow of which no row holds, written out once more, where the addresses of l are followed
--   follow_now x l           the addresses that are followed after a call, where those of l were before it
--   followed_after h l       and after a list of calls; from a start on l is []
--   ByHistory m l k t       what the calls answer on a state t in which the addresses of l are followed and k is the setting
--   KeepsTable m
use Rattle.std.specs.Prelude.{◌≡◌, Bool, true, false, cond, not, ◌&&◌, ◌||◌, List, [], ◌∷◌, ℕ, ◌≤◌, ◌<◌, ◌↔◌, leb, ltb, eqb, length}
use Rattle.bits.specs.Rows.{row, refusal}
use Rattle.image.specs.Image.{spare_of}
use Rattle.head.specs.Head.{within}
use Rattle.head.specs.declared.Wish.{Wish}
use Rattle.table.specs.State.{state_size, setting, with_setting, slots, address_at, find, good}
use Rattle.adapter.specs.Calls.{address_of, flips_of}
use Rattle.demands.specs.Machine.{ask, Call, start, follow, leave, packet, subframe_end, set_flips, asks, Machine, run}
use Rattle.demands.specs.Rows.{wish_rows, address_rows, rows_of, Answers}
use Rattle.demands.specs.Setting.{setting_now, setting_after}

pub record Good (s : List ℕ) : Type 0 where
  pub size : length s ≡ state_size
  pub good : good s ≡ true

-- ---- on every good state

abbrev pub accepted : Call → List ℕ → Bool
accepted x s = eqb (refusal (rows_of x s)) 0

unfoldable pub address_after : Call → List ℕ → ℕ → ℕ
address_after start s k = 0
address_after (follow w) s k = cond (accepted (follow w) s && eqb k (find s 0)) w.address (address_at s k)
address_after (leave a) s k = cond (accepted (leave a) s && eqb k (find s a)) 0 (address_at s k)
address_after (packet image) s k = address_at s k
address_after subframe_end s k = address_at s k
address_after (set_flips most) s k = address_at s k
address_after (asks q) s k = address_at s k

-- ---- from a start on, by the calls alone

unfoldable pub member : ℕ → List ℕ → Bool
member a [] = false
member a (b ∷ l) = eqb a b || member a l

unfoldable pub without : ℕ → List ℕ → List ℕ
without a [] = []
without a (b ∷ l) = cond (eqb a b) l (b ∷ without a l)

-- a follow that is accepted: address 1 to 1,022, protection 0 or 1, limit 1 to 1,500, not followed yet, and fewer than sixteen are
unfoldable pub accepts : Wish → List ℕ → Bool
accepts w l =
    within 1 1022 w.address && (leb w.protection 1 && (within 1 1500 w.limit && (not (member w.address l) && ltb (length l) 16)))

unfoldable pub follow_now : Call → List ℕ → List ℕ
follow_now start l = []
follow_now (follow w) l = cond (accepts w l) (w.address ∷ l) l
follow_now (leave a) l = without a l
follow_now (packet image) l = l
follow_now subframe_end l = l
follow_now (set_flips most) l = l
follow_now (asks q) l = l

unfoldable pub followed_after : List Call → List ℕ → List ℕ
followed_after [] l = l
followed_after (x ∷ h) l = followed_after h (follow_now x l)

pub record ByHistory (m : Machine) (l : List ℕ) (k : ℕ) (t : List ℕ) : Type 0 where
  -- with good wishes 25 exactly if it is followed, otherwise 26 exactly if sixteen are, otherwise 0
  pub follows : (w : Wish) → m.answer (follow w) t ≡ refusal (wish_rows w (member w.address l) (eqb (length l) 16))
  -- from 1 to 1,022: 27 exactly if it is not followed
  pub leaves : (a : ℕ) → m.answer (leave a) t ≡ refusal (address_rows a (not (member a l)))
  pub asks : (a : ℕ) → Answers (address_rows a (not (member a l))) (4 ∷ 5 ∷ 6 ∷ 7 ∷ []) (m.answer (asks (ask a)) t)
  -- 49 exactly if its header has more flips than the setting; otherwise 27 if its address is not followed
  pub beyond : (image : List ℕ) → length image ≡ 94 → spare_of image ≡ 0 → (m.answer (packet image) t ≡ 49) ↔ (k < flips_of image)
  pub packets : (image : List ℕ) → length image ≡ 94 → spare_of image ≡ 0 → flips_of image ≤ k → member (address_of image) l ≡ false
      → m.answer (packet image) t ≡ 27
  pub sets : (most : ℕ) → m.answer (set_flips most) t ≡ refusal (row (ltb 3 most) 48 ∷ [])
  pub ends : m.answer subframe_end t ≡ 0
  pub never : (x : Call) → m.answer x t ≡ 34 → ⊥

pub record KeepsTable (m : Machine) : Type 0 where
  pub good : (x : Call) (s : List ℕ) → Good s → Good (m.after x s)
  pub addresses : (x : Call) (s : List ℕ) → Good s → (k : ℕ) → k < slots → address_at (m.after x s) k ≡ address_after x s k
  pub history : (s : List ℕ) → length s ≡ state_size → (h : List Call)
      → ByHistory m (followed_after h []) (setting_after h 3) (run m h (m.after start s))
  -- the setting is what the calls make of it, and its own call puts it and touches nothing else
  pub settings : (x : Call) (s : List ℕ) → Good s → setting (m.after x s) ≡ setting_now x (setting s)
  pub puts : (most : ℕ) (s : List ℕ) → Good s → most ≤ 3 → m.after (set_flips most) s ≡ with_setting most s
