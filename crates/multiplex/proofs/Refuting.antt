-- The theorems of finding are false of machines that keep nothing of their promise.
--
--   deaf-not, mute-not     the example has a component in frame 5, of which one shows nothing and the other says 46 ever. That `mute` is never wrong
--                          (mute-never-wrong) does not help it
--   refusing-not           it refuses frame 0's field
--   first-only-not         what it keeps is the same in all frames: it shows the same in frames 4 and 260, whose counts are equal
--   late-not               it shows the same in frames 4 and 5
--   deaf-finds-not, mute-finds-not     a component that is there from before frame 0 on has come round three times by frame 6
--   deaf-said-not, deaf-when-not       frame 0 announces a change
--   hidden, deaf-known-not             a component that is there and not heard of: "there is none" has no reason behind frame 0
--   doubting-not           behind 255 frames it says still that it does not know
--   deaf-46-not, mute-46-not    of an announced structure: the one does not say 46 when it was heard once, the other does when it came round
--
-- Assumes nothing.
use mathlib.Core.Path.{◌≡◌, refl, sym, ap, ap₂, ◌∙◌, subst}
use mathlib.Core.Bool.{Bool, true, false, cond, ◌&&◌, ◌||◌}
use mathlib.Core.List.{List}
use Prim.Native.Nat.{ℕ, zero, suc, ◌≤◌, ◌<◌}
use native.Mathlib.Omega.{arith}
use borrow.Author.Tests.{ne_eqb}
use lib.Dec.{T, eqb, lit<, lit≤}
use lib.ListN.{length}
use Rattle.bits.specs.Bits.{blank}
use Rattle.runs.proofs.Parts.{blank-at}
use Rattle.field.specs.Field.{field_bytes}
use Rattle.frames.specs.declared.Frames.{Frames}
use Rattle.map.specs.Map.{map_size, frames_of}
use Rattle.map.specs.Calls.{take_answer, take_after}
use Rattle.multiplex.specs.Broadcast.{count_at, change, epoch, some}
use Rattle.multiplex.specs.Heard.{ours}
use Rattle.multiplex.specs.Example.{structures, pick, told, example}
use Rattle.multiplex.specs.Empty.{deaf, doubting, mute, refusing, first_only, late}
use Rattle.multiplex.specs.Air.{vectors, Air, timed, in_force, field_on, old_in, new_in, gone_in, InTurn, Orderly}
use Rattle.multiplex.specs.Sound.{kept, missed_before, in_row, Listener, Word, unheard, there, over, present_in, coming_in, coming_before, coming_to, present_before, word_for, NeverWrong}
use Rattle.multiplex.specs.Finding.{first, found, alone_before, rounds_of, wholly_before, over_change, ready_before, ready_to, every, Finds, ShowsInForce}
use Rattle.multiplex.specs.Announcing.{heard_news, Announces}
use Rattle.multiplex.specs.Doubting.{came_before, came_to, Doubts}
use Rattle.multiplex.specs.Admitting.{absent_by, absent_before, absent_behind, absent_for, Reason, gone, long, Admits}
use Rattle.multiplex.proofs.Soundness.{State, silent, since-one, state-at}
use Rattle.multiplex.proofs.Steady.{lists, steady, steady-orderly}
use Rattle.multiplex.proofs.Denied.{unsaid}
use Rattle.multiplex.proofs.Examples.{example-orderly, example-followed, near-every}

-- ---- what is in force

-- how many fields there are of component 7
in-4 : length (in_force example 4 7) ≡ 0
unfolding epoch change count_at example structures
in-4 = refl

in-5 : length (in_force example 5 7) ≡ 2
unfolding epoch change count_at example structures
in-5 = refl

in-260 : length (in_force example 260 7) ≡ 2
unfolding epoch change count_at example structures
in-260 = refl

counts : count_at (timed example) 4 ≡ count_at (timed example) 260
unfolding count_at example
counts = refl

pub deaf-not : ShowsInForce deaf → ⊥
unfolding deaf
deaf-not s = omega (arith, ap length (s.ended example example-followed 5 7 (lit< tt)).fields, in-5)

pub mute-not : ShowsInForce mute → ⊥
unfolding mute
mute-not s = omega (arith, (s.ended example example-followed 5 7 (lit< tt)).number)

pub mute-never-wrong : NeverWrong mute
unfolding mute
mute-never-wrong = record {
  sound = λ a w hears L t u id ht lo hi hid number fields. absurd (omega (arith, number));
  blank = λ a w hears L t u id ht lo hi hid number fields last. absurd (omega (arith, number));
}

pub refusing-not : ShowsInForce refusing → ⊥
unfolding refusing
refusing-not s = omega (arith, s.taken example example-followed 0)

pub late-not : ShowsInForce late → ⊥
unfolding late
late-not s =
    let same : in_force example 4 7 ≡ in_force example 5 7 =
    sym (s.ended example example-followed 4 7 (lit< tt)).fields ∙ (s.runs example example-followed 4 7 (lit< tt)).fields in
    omega (arith, ap length same, in-4, in-5)

-- ---- what first_only keeps

-- only frame 0 is heard
unfoldable once : ℕ → Bool
once t = eqb t 0

keeps_on : (m r : List ℕ) → (frames_of m).heard ≡ 1 → first_only.after m r ≡ m
unfolding first_only
keeps_on m r h = ap (λ (n : ℕ). cond (eqb n 0) (take_after m r) m) h

module _ (s : ShowsInForce first_only) where
  first_taken : take_answer (blank map_size) (field_bytes (field_on example 0)) ≡ 0
  unfolding kept first_only
  first_taken = s.taken example example-followed 0

  listener : Listener ours example once
  unfolding once kept ours missed_before
  listener = record { taken = takes; near = λ t h b. any t h }
    where
      takes : (t : ℕ) → once t ≡ true → ours.answer (kept ours example once t) (field_bytes (field_on example t)) ≡ 0
      takes zero h = first_taken
      takes (suc t) h = absurd (subst T (sym h ∙ ne_eqb (suc t) 0 (λ e. absurd (omega (arith, e)))) tt)

      any : (t : ℕ) → once t ≡ true → missed_before once t ≤ 127
      any zero h = lit≤ tt
      any (suc t) h = absurd (subst T (sym h ∙ ne_eqb (suc t) 0 (λ e. absurd (omega (arith, e)))) tt)

  first-heard : (frames_of (take_after (blank map_size) (field_bytes (field_on example 0)))).heard ≡ 1
  unfolding once kept ours
  first-heard = go (state-at example example-orderly once listener 1)
    where
      go : State example once 1 (kept ours example once 1) → (frames_of (kept ours example once 1)).heard ≡ 1
      go (silent z q) = absurd (q 0 (lit< tt) refl)
      go (since-one t u l gap c any k) = ap (λ (x : Frames). x.heard) k.frames

  first-kept : kept first_only example every 1 ≡ take_after (blank map_size) (field_bytes (field_on example 0))
  unfolding kept first_only frames_of
  first-kept =
      ap (λ (n : ℕ). cond (eqb n 0) (take_after (blank map_size) (field_bytes (field_on example 0))) (blank map_size)) (blank-at map_size 36353)

  all-kept : (t : ℕ) → kept first_only example every (suc t) ≡ kept first_only example every 1
  unfolding kept
  all-kept zero = refl
  all-kept (suc t) =
      keeps_on (kept first_only example every (suc t)) (field_bytes (field_on example (suc t)))
      (ap (λ (m : List ℕ). (frames_of m).heard) (all-kept t ∙ first-kept) ∙ first-heard)
      ∙ all-kept t

pub first-only-not : ShowsInForce first_only → ⊥
first-only-not s =
    let same : in_force example 4 7 ≡ in_force example 260 7 =
    sym (s.ended example example-followed 4 7 (lit< tt)).fields
    ∙ ap₂ (λ (m : List ℕ) (n : ℕ). first_only.fields m 7 n) (all-kept s 4 ∙ sym (all-kept s 260)) counts
    ∙ (s.ended example example-followed 260 7 (lit< tt)).fields in
    omega (arith, ap length same, in-4, in-260)

-- ---- a component that is there from before frame 0 on

come-round : ready_to steady every 7 6 ≡ true
unfolding ready_before rounds_of wholly_before alone_before found over_change first old_in over coming_in coming_before some lists steady change count_at
come-round = refl

two-there : length (in_force steady 6 7) ≡ 2
unfolding steady lists
two-there = refl

pub deaf-finds-not : Finds deaf → ⊥
unfolding deaf
deaf-finds-not f = omega (arith, ap length (f.ended steady steady-orderly every near-every 6 7 refl (lit< tt) come-round).fields, two-there)

pub mute-finds-not : Finds mute → ⊥
unfolding mute
mute-finds-not f = omega (arith, (f.ended steady steady-orderly every near-every 6 7 refl (lit< tt) come-round).number)

-- ---- announcements

pub deaf-said-not : Announces deaf → ⊥
unfolding deaf heard_news coming_before coming_in over example told pick
deaf-said-not n = omega (arith, n.said example example-orderly every near-every 0 7 0 refl (lit< tt))

pub deaf-when-not : Announces deaf → ⊥
unfolding deaf heard_news coming_before coming_in over example told pick change count_at
deaf-when-not n = subst T (sym (n.when example example-orderly every near-every 0 7 0 refl (lit< tt) refl).comes) tt

-- ---- nothing heard is not "no such component"

-- component 7 is there, and no frame says so
unfoldable pub hidden : Air
hidden = record { origin = 0; config = steady.config; carries = λ t. vectors 0 0 0 }

pub hidden-orderly : Orderly hidden
unfolding hidden steady InTurn new_in gone_in
hidden-orderly = record {
  linked = steady-orderly.linked;
  few = steady-orderly.few;
  vectors = steady-orderly.vectors;
  turns = λ t. record { flags = lit< tt; width = lit< tt; links = lit< tt };
  said = λ t id hid c b. unsaid hidden id (λ v. (refl, refl)) t refl;
}

not-heard : absent_for hidden every 7 0 0 ≡ false
unfolding absent_for absent_before absent_by absent_behind present_in hidden epoch
not-heard = refl

pub deaf-known-not : Admits deaf → ⊥
unfolding deaf in_row
deaf-known-not n =
    go (n.known hidden hidden-orderly every near-every 0 0 7 refl (omega arith) (omega arith) (lit< tt) refl refl refl)
  where
    go : Reason hidden every 7 0 0 → ⊥
    go (gone e) = subst T (sym e ∙ not-heard) tt
    go (long h) = omega arith

-- nor is 46 said of what nobody heard of
no_word : word_for hidden every 7 0 0 ≡ unheard
unfolding word_for present_before coming_before over present_in coming_in hidden epoch
no_word = refl

pub mute-doubts-not : Admits mute → ⊥
unfolding mute heard_news
mute-doubts-not n =
    subst (λ (w : Word). T (heard_news w))
    (sym (n.doubts hidden hidden-orderly every near-every 0 0 7 refl (omega arith) (omega arith) (lit< tt) refl) ∙ no_word) tt

pub doubting-not : Admits doubting → ⊥
unfolding doubting in_row
doubting-not n = omega (arith, n.enough hidden hidden-orderly every near-every 254 7 0 refl (lit< tt) (lit≤ tt))

-- ---- 46, exactly

-- in frame 0 a field of component 7's coming structure was heard once; up to frame 4 it came round
epochs : epoch (timed example) 0 < epoch (timed example) 5
unfolding epoch change count_at example
epochs = lit< tt

epochs-4 : epoch (timed example) 4 < epoch (timed example) 5
unfolding epoch change count_at example
epochs-4 = lit< tt

heard-once : coming_to example every 7 0 ≡ there
unfolding coming_before coming_in over example told pick
heard-once = refl

heard-round : coming_to example every 7 4 ≡ there
unfolding coming_before coming_in over example told pick change count_at
heard-round = refl

not_yet : (came_to example every 7 0 || (wholly_before example every 0 && change (timed example) 1)) ≡ false
unfolding came_before rounds_of first new_in wholly_before example told pick change count_at
not_yet = refl

came-round : (came_to example every 7 4 || (wholly_before example every 4 && change (timed example) 5)) ≡ true
unfolding came_before rounds_of first new_in wholly_before example told pick change count_at
came-round = refl

pub deaf-46-not : Doubts deaf → ⊥
unfolding deaf
deaf-46-not d =
    omega (arith, d.coming example example-orderly every near-every 0 5 7 refl (lit≤ tt) (lit≤ tt) (lit< tt) epochs heard-once ∙ ap (λ (b : Bool). cond b 0 46) not_yet)

pub mute-46-not : Doubts mute → ⊥
unfolding mute
mute-46-not d =
    omega (arith, d.coming example example-orderly every near-every 4 5 7 refl (lit≤ tt) (lit≤ tt) (lit< tt) epochs-4 heard-round ∙ ap (λ (b : Bool). cond b 0 46) came-round)
