-- What our calls make of the setting: start puts 3, the setting's own call what it is given, and every other call keeps it.
--
--   ages-setting     a subframe's end keeps it
--   setting-next     each call on a good state
--   set-puts         where it is accepted, the setting's own call leaves the state with that setting
--
-- Assumes nothing.
use mathlib.Core.Path.{◌≡◌, refl, sym, ap, ◌∙◌}
use mathlib.Core.Bool.{Bool, cond}
use mathlib.Core.List.{List}
use Prim.Native.Nat.{ℕ, zero, suc, ◌+◌, ◌≤◌, ◌<◌}
use native.Mathlib.Omega.{arith}
use native.Mathlib.Decide.{dec_lt}
use borrow.Author.Tests.{le-leb, lt-leb}
use lib.Dec.{leb}
use lib.ListN.{length}
use Rattle.bits.specs.Bits.{blank}
use Rattle.bits.proofs.Rows.{done-passed, done_refused, done-either}
use Rattle.bits.proofs.Storing.{blank-length}
use Rattle.slot.specs.Slot.{slot_size, with_head}
use Rattle.slot.proofs.Heads.{with_head-length}
use Rattle.head.specs.Head.{new_head}
use Rattle.head.specs.declared.Wish.{Wish}
use Rattle.table.specs.State.{state_size, setting, with_setting, started_state, slots, slot_at, with_slot, find}
use Rattle.table.specs.Calls.{start_answer, start_after, follow_answer, follow_after, leave_answer, leave_after, end_answer, end_after, ages, set_answer, set_after}
use Rattle.table.proofs.Doing.{start-passed}
use Rattle.table.proofs.Looking.{Passed, set-48, set-0}
use Rattle.table.proofs.States.{Good, each-good, slot-length, with-length, setting_kept, setting-put}
use Rattle.table.proofs.Kept.{follow-passed, leave-passed, setting-started}
use Rattle.adapter.specs.Calls.{packet_after}
use Rattle.adapter.proofs.Laws.{packet-refused}
use Rattle.demands.specs.Machine.{Call, start, follow, leave, packet, subframe_end, set_flips, asks, our_after}
use Rattle.demands.specs.Setting.{setting_now}
use Rattle.demands.proofs.Serving.{older, older-size}
use Rattle.demands.proofs.Parts.{by_place, placed-setting}

ages-setting : (n k : ℕ) (s : List ℕ) → n + k ≤ slots → length s ≡ state_size → setting (ages n k s) ≡ setting s
unfolding ages
ages-setting zero k s h l = refl
ages-setting (suc n) k s h l =
    let hk : k < slots = omega arith in
    let lb = older-size s l k hk in
    ages-setting n (suc k) (with_slot k (older (slot_at k s)) s) (omega arith) (with-length s l k (older (slot_at k s)) hk lb)
    ∙ setting_kept s l k (older (slot_at k s)) hk lb

module _ (s : List ℕ) (l : length s ≡ state_size) where
  follow-keeps : (w : Wish) → setting (follow_after s w) ≡ setting s
  unfolding follow_after
  follow-keeps w =
      done-either (λ (t : List ℕ). setting t ≡ setting s) (follow_answer s w) (with_slot (find s 0) (with_head (new_head w) (slot_at (find s 0) s)) s) s
      (λ e. let room = (follow-passed s w e).room in
      let lk = slot-length s l (find s 0) room in
      setting_kept s l (find s 0) (with_head (new_head w) (slot_at (find s 0) s)) room (with_head-length (new_head w) (slot_at (find s 0) s) lk ∙ lk)) refl

  leave-keeps : (a : ℕ) → setting (leave_after s a) ≡ setting s
  unfolding leave_after
  leave-keeps a =
      done-either (λ (t : List ℕ). setting t ≡ setting s) (leave_answer s a) (with_slot (find s a) (blank slot_size) s) s
      (λ e. setting_kept s l (find s a) (blank slot_size) (leave-passed s a e).2 (blank-length slot_size)) refl

  end-keeps : setting (end_after s) ≡ setting s
  unfolding end_after
  end-keeps =
      done-either (λ (t : List ℕ). setting t ≡ setting s) (end_answer s) (ages slots 0 s) s (λ e. ages-setting slots 0 s (omega arith) l) refl

  packet-keeps : (image : List ℕ) → setting (packet_after s image) ≡ setting s
  packet-keeps image = by_place s image (λ ne. ap setting (packet-refused s image ne).1) (placed-setting s image)

  start-puts : setting (start_after s) ≡ 3
  unfolding start_after
  start-puts = ap setting (done-passed (start_answer s) started_state s (sym (start-passed s l))) ∙ setting-started

  module _ (g : Good s) (most : ℕ) where
    passed : Passed s
    passed = record { size = l; all-good = each-good s g }

    pub set-puts : most ≤ 3 → set_after s most ≡ with_setting most s
    unfolding set_after
    set-puts h = done-passed (set_answer s most) (with_setting most s) s (set-0 s most passed h)

    set-refused : 3 < most → set_after s most ≡ s
    unfolding set_after
    set-refused h = done_refused (set_answer s most) (with_setting most s) s (λ z. omega (arith, z, set-48 s most passed h))

    set_keeps : setting (set_after s most) ≡ cond (leb most 3) most (setting s)
    set_keeps = go (dec_lt 3 most)
      where
        go : Dec (3 < most) → setting (set_after s most) ≡ cond (leb most 3) most (setting s)
        go (yes h) = ap setting (set-refused h) ∙ sym (ap (λ (b : Bool). cond b most (setting s)) (lt-leb most 3 h))
        go (no h) =
            ap setting (set-puts (omega (arith, h))) ∙ setting-put s l most
            ∙ sym (ap (λ (b : Bool). cond b most (setting s)) (le-leb most 3 (omega (arith, h))))

pub setting-next : (x : Call) (s : List ℕ) → length s ≡ state_size → Good s → setting (our_after x s) ≡ setting_now x (setting s)
unfolding our_after setting_now
setting-next start s l g = start-puts s l
setting-next (follow w) s l g = follow-keeps s l w
setting-next (leave a) s l g = leave-keeps s l a
setting-next (packet image) s l g = packet-keeps s l image
setting-next subframe_end s l g = end-keeps s l
setting-next (set_flips most) s l g = set_keeps s l g most
setting-next (asks q) s l g = refl
