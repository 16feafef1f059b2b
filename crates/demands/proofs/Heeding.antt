-- Machines that keep another setting than the calls put, or do not heed it, refuted by the demands.
--
--   unheeding-fails, severe-fails, harsh-fails     by demand 1: no 49, a 49 that drops a group, a start that puts 0
--   forgetful-fails, stubborn-fails                by the history: the setting lost by a leave, and never put
--   fresh-gap, drop-changes                        a slot just followed has no gap marked, and a drop would mark one
--
-- Assumes nothing.
use mathlib.Core.Path.{◌≡◌, refl, sym, ap, ◌∙◌, subst}
use mathlib.Core.Bool.{cond}
use mathlib.Core.List.{List, [], ◌∷◌}
use Prim.Native.Nat.{ℕ}
use native.Mathlib.Omega.{arith}
use lib.Dec.{eqb, lit≤}
use Rattle.bits.specs.Rows.{refusal}
use Rattle.bits.proofs.Rows.{done-passed}
use Rattle.slot.specs.Slot.{head_of}
use Rattle.head.specs.Head.{wish_of}
use Rattle.head.specs.declared.Head.{Head}
use Rattle.head.specs.declared.Wish.{Wish}
use Rattle.table.specs.State.{setting, with_setting, started_state, slot_at, with_slot, find}
use Rattle.table.specs.Calls.{start_answer, start_after, follow_answer, follow_after, leave_answer, leave_after, set_after}
use Rattle.table.proofs.Doing.{start-passed}
use Rattle.table.proofs.States.{good-each, slot_same, setting-put}
use Rattle.table.proofs.Kept.{started-length, started-good, setting-started}
use Rattle.table.proofs.Vectors.{set, started-bytes}
use Rattle.group.specs.Group.{slot_dropped}
use Rattle.group.proofs.Laws.{dropped-size, dropped-head}
use Rattle.history.specs.Followed as one
use Rattle.history.specs.Sent.{In}
use Rattle.adapter.specs.Calls.{address_of, packet_answer, packet_after}
use Rattle.adapter.proofs.Laws.{beyond-refused, packet-refused}
use Rattle.adapter.proofs.Vectors.{turned, turned-flips, turned-address, turned-spare, beyond-0}
use Rattle.demands.specs.Machine.{Call, follow, leave, packet, set_flips, ours, our_answer, our_after, run}
use Rattle.demands.specs.Rows.{own_numbers}
use Rattle.demands.specs.Seen.{seen_in}
use Rattle.demands.specs.Setting.{setting_now, setting_after}
use Rattle.demands.specs.Table.{Good, member, follow_now, followed_after, accepts, KeepsTable}
use Rattle.demands.specs.Demand1.{unchanging, Demand1}
use Rattle.demands.specs.Harmful.{by_call, unheeding, severe, forgetful, harsh, stubborn}
use Rattle.demands.proofs.Numbers.{in-among, among_in}
use Rattle.demands.proofs.Numbering.{refused-too}
use Rattle.demands.proofs.Serving.{view, here-size, here-good}
use Rattle.demands.proofs.Calling.{follow-serves, passed}
use Rattle.demands.proofs.First.{begins}
use Rattle.demands.proofs.Tables.{started-state, keeps-good}
use Rattle.demands.proofs.Settings.{setting-next, set-puts}
use Rattle.demands.proofs.Followers.{settings-run, history-run}

-- ---- by demand 1

-- at the setting 0 nothing is followed, and the state is good
strict : run ours (set_flips 0 ∷ []) started_state ≡ set 0
unfolding run our_after
strict = set-puts started_state started-length started-good 0 (lit≤ tt)

strict-good : Good (set 0)
unfolding run
strict-good = subst Good strict (keeps-good (set_flips 0) started_state started-state)

strict-zero : setting (set 0) ≡ 0
strict-zero = setting-put started_state started-length 0

-- then a header with one flip is read again at 3
loosened : run ours (set_flips 0 ∷ set_flips 3 ∷ []) started_state ≡ with_setting 3 (set 0)
unfolding run our_after
loosened =
    ap (λ (s : List ℕ). set_after s 3) strict ∙ set-puts (set 0) strict-good.size (good-each (set 0) strict-good.good) 3 (lit≤ tt)

pub unheeding-fails : Demand1 unheeding → ⊥
unfolding by_call own_numbers our_answer our_after setting_after setting_now followed_after follow_now member
unheeding-fails d =
    let read : packet_answer (with_setting 3 (set 0)) turned ≡ 27 =
    subst (λ (s : List ℕ). packet_answer s turned ≡ 27) loosened
    ((history-run (set_flips 0 ∷ set_flips 3 ∷ [])).packets turned refl turned-spare (omega (arith, turned-flips)) refl) in
    let due = refused-too (packet turned) (set 0) 49 _ beyond-0 (in-among 49 (1 ∷ 2 ∷ 3 ∷ [])) (d.numbered (packet turned) (set 0)) in
    omega (arith, read, due)

-- one of 17 that is refused with 49, where 17 is followed
abbrev begun : List ℕ
begun = follow_after (set 0) (wish_of 17 0 2)

followed-17 : follow_answer (set 0) (wish_of 17 0 2) ≡ 0
unfolding run our_answer followed_after follow_now member refusal
followed-17 = subst (λ (s : List ℕ). follow_answer s (wish_of 17 0 2) ≡ 0) strict ((history-run (set_flips 0 ∷ [])).follows (wish_of 17 0 2))

begun-zero : setting begun ≡ 0
unfolding our_after setting_now
begun-zero = setting-next (follow (wish_of 17 0 2)) (set 0) strict-good.size (good-each (set 0) strict-good.good) ∙ strict-zero

refused-49 : packet_answer begun turned ≡ 49
refused-49 =
    let k = follow-serves (set 0) (wish_of 17 0 2) followed-17 in
    let u = beyond-refused begun turned refl (passed begun 17 k.serves) (ap (λ (n : ℕ). eqb n 1) turned-spare) (omega (arith, turned-flips, begun-zero)) in
    (packet-refused begun turned (λ z. omega (arith, z, u))).0 ∙ u

-- what a drop leaves of a slot: the gap marked. So it changes a state in which a follow has just put the address
abbrev pub dropped_at : ℕ → List ℕ → List ℕ
dropped_at a s = with_slot (find s a) (slot_dropped (slot_at (find s a) s)) s

module _ (s : List ℕ) (w : Wish) (e : follow_answer s w ≡ 0) where
  abbrev fresh : List ℕ
  fresh = follow_after s w

  pub fresh-gap : (head_of (slot_at (find fresh w.address) fresh)).gap ≡ 0
  unfolding view seen_in one.followed
  fresh-gap = ap (λ (f : one.Followed). f.head.gap) (follow-serves s w e).seen

  pub drop-changes : dropped_at w.address fresh ≡ fresh → ⊥
  drop-changes same =
      let v = (follow-serves s w e).serves in
      let k = find fresh w.address in
      let x = slot_at k fresh in
      let size = here-size fresh w.address v in
      let marked : (head_of (slot_at k (dropped_at w.address fresh))).gap ≡ 1 =
      ap (λ (y : List ℕ). (head_of y).gap) (slot_same fresh v.size k (slot_dropped x) v.found (dropped-size x size (here-good fresh w.address v)))
      ∙ ap (λ (h : Head). h.gap) (dropped-head x size (here-good fresh w.address v)) in
      omega (arith, marked, fresh-gap, ap (λ (t : List ℕ). (head_of (slot_at k t)).gap) same)

pub severe-fails : Demand1 severe → ⊥
unfolding by_call our_answer
severe-fails d =
    let kept = d.unchanged (packet turned) begun (subst (λ (n : ℕ). In n unchanging) (sym refused-49) (among_in 49 unchanging tt)) in
    let due = dropped_at (address_of turned) begun in
    let same : due ≡ begun = sym (ap (λ (n : ℕ). cond (eqb n 49) due (packet_after begun turned)) refused-49) ∙ kept in
    drop-changes (set 0) (wish_of 17 0 2) followed-17 (ap (λ (a : ℕ). dropped_at a begun) (sym turned-address) ∙ same)

pub harsh-fails : Demand1 harsh → ⊥
unfolding by_call
harsh-fails d =
    let s = started_state in
    let zero : start_answer s ≡ 0 = sym (start-passed s started-length) in
    let left = done-passed (start_answer s) (with_setting 0 (start_after s)) s zero in
    let three : setting (with_setting 0 (start_after s)) ≡ 3 =
    ap setting (sym left ∙ d.started s started-length ∙ sym started-bytes) ∙ setting-started in
    let none : setting (with_setting 0 (start_after s)) ≡ 0 =
    ap (λ (x : List ℕ). setting (with_setting 0 x)) (begins s started-length) ∙ setting-put s started-length 0 in
    omega (arith, three, none)

-- ---- by the history

-- 17 is followed at the setting 2, and left
abbrev story : List Call
story = set_flips 2 ∷ follow (wish_of 17 0 1) ∷ []

abbrev told : List ℕ
told = run ours story started_state

told-good : Good told
unfolding run
told-good = keeps-good (follow (wish_of 17 0 1)) _ (keeps-good (set_flips 2) started_state started-state)

told-two : setting told ≡ 2
unfolding setting_after setting_now
told-two = settings-run story started_state started-state

told-left : leave_answer told 17 ≡ 0
unfolding our_answer followed_after follow_now accepts member refusal
told-left = (history-run story).leaves 17

pub forgetful-fails : KeepsTable forgetful → ⊥
unfolding by_call setting_now our_after
forgetful-fails d =
    let left = done-passed (leave_answer told 17) (with_setting 3 (leave_after told 17)) told told-left in
    let kept = d.settings (leave 17) told told-good in
    let three = setting-put (leave_after told 17) (keeps-good (leave 17) told told-good).size 3 in
    omega (arith, ap setting left, kept, three, told-two)

pub stubborn-fails : KeepsTable stubborn → ⊥
unfolding by_call
stubborn-fails d =
    let same = d.puts 2 started_state started-state (lit≤ tt) in
    omega (arith, ap setting same, setting-started, setting-put started_state started-length 2)
