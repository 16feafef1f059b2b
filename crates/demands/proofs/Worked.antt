-- What the worked channel (`Channel`) comes to: which packets arrive readable, and what is handed out.
--
--   worked-came, worked-arrivals       what arrives: all readable but packet 1 of group 3, and four control packets
--   worked-whole, worked-only          groups 1, 4 and 5 arrived readable, and no others
--   worked-out                         these three are handed out by the events
--   worked-accepted, worked-handed     and by our calls, on the state of 0 alone
--   worked-exactly, worked-fresh       so demand 3 says of it, from a follow in mid-stream on: exactly these, and the last is fresh
--
-- Assumes nothing.
use mathlib.Core.Path.{◌≡◌, refl, sym, ap, ap₂, ◌∙◌, subst}
use mathlib.Core.Bool.{Bool, true, false, cond}
use mathlib.Core.List.{List, [], ◌∷◌, ◌++◌}
use mathlib.Core.Logic.{inl, inr}
use Prim.Native.Nat.{ℕ, zero, suc, ◌<◌}
use native.Mathlib.Omega.{arith}
use lib.Dec.{eqb, lit<, lit≤}
use borrow.Author.Tests.{eq-eqb, eqb-true}
use Rattle.head.specs.Move.{per_of, needs_of, row_of, move_of, move_number, moved_head}
use Rattle.head.specs.Head.{wish_of, good_wish}
use Rattle.head.proofs.Wishes.{wish-passes}
use Rattle.table.specs.State.{setting, find}
use Rattle.table.specs.Calls.{follow_answer, follow_after}
use Rattle.table.proofs.Looking.{follow-0}
use Rattle.table.proofs.Kept.{follow-passed, started-length, started-good, setting-started}
use Rattle.faults.specs.Faults.{word_unreadable, fault_of}
use Rattle.history.specs.Followed as one
use Rattle.history.specs.Sent.{Arrival, came, damaged, control, subframe_end, event, events, group, CameIn, Readable, In, Exactly}
use Rattle.history.specs.Missing.{Reached, endings, Last, Judged}
use Rattle.demands.specs.Machine.{Call, follow, leave, packet, asks, ask, ours, our_answer, our_after, run}
use Rattle.demands.specs.Machine as machine
use Rattle.demands.specs.Setting.{setting_now}
use Rattle.demands.specs.Seen.{by, events_of}
use Rattle.demands.specs.Demand3 as happening
use Rattle.demands.specs.Demand3.{Happening, arrives, call, calls, Channel, Arrived, arrival_by, passing, arrivals, handed_out}
use Rattle.demands.proofs.Settings.{setting-next}
use Rattle.demands.proofs.Calling.{follow-serves}
use Rattle.demands.proofs.Telling.{handed-same}
use Rattle.demands.proofs.Channels.{channel-stays, channel-events, readable-came, came-readable}
use Rattle.demands.proofs.Third.{demand-3}
use Rattle.demands.proofs.Examples.{empty-state, empty-passed, empty-absent, accepted}
use Rattle.demands.proofs.Damaged.{worked-sent, worked-carried, as-sent, Receives, sent-receives, header-receives, word-three-receives, word-four-receives, type-receives, told, other, spare-one, strict, cut}
use Rattle.demands.proofs.Channel.{from-1, from-2, from-3, from-4, from-5, worked, worked-channel}

-- ---- the arrivals, from each group on

unfoldable pub came-5 : List Arrival
came-5 = came 5 0 ∷ came 5 1 ∷ came 5 2 ∷ came 5 3 ∷ []

unfoldable pub came-4 : List Arrival
came-4 = came 4 0 ∷ came 4 1 ∷ came 4 2 ∷ came 4 3 ∷ subframe_end ∷ came-5

unfoldable pub came-3 : List Arrival
came-3 = came 3 0 ∷ damaged 3 1 word_unreadable ∷ came 3 2 ∷ came 3 3 ∷ came-4

unfoldable pub came-2 : List Arrival
came-2 = came 2 0 ∷ control ∷ control ∷ control ∷ came-3

unfoldable pub came-1 : List Arrival
came-1 = came 1 0 ∷ came 1 1 ∷ control ∷ came 1 2 ∷ subframe_end ∷ came 1 3 ∷ came-2

unfoldable pub worked-came : List Arrival
worked-came = came 0 2 ∷ came 0 3 ∷ came-1

record Becomes (h : List Happening) (es : List Arrival) : Type 0 where
  same : arrivals true h ≡ es

none : Becomes [] []
unfolding arrivals
none = record { same = refl }

-- an image that is received with the number m
read : (i c m : ℕ) {image : List ℕ} {h : List Happening} {es : List Arrival} → Receives i c image m → Becomes h es
    → Becomes (arrives i c image ∷ h) (arrival_by m i c ∷ es)
unfolding arrivals
read i c m r rest = record { same = ap₂ (λ (n : ℕ) (xs : List Arrival). arrival_by n i c ∷ xs) r.number rest.same }

-- one that comes as it was sent
clean : (i c : ℕ) {h : List Happening} {es : List Arrival} → c < 4 → Becomes h es → Becomes (arrives i c (as-sent i c) ∷ h) (came i c ∷ es)
unfolding arrival_by
clean i c l rest = read i c 0 (sent-receives i c l) rest

pass : (x : Call) {h : List Happening} {es : List Arrival} → Becomes h es → Becomes (call x ∷ h) (passing x ++ es)
unfolding arrivals
pass x rest = record { same = ap (λ (xs : List Arrival). passing x ++ xs) rest.same }

-- a control packet
tells : (image : List ℕ) {h : List Happening} {es : List Arrival} → Becomes h es → Becomes (happening.control image ∷ h) (control ∷ es)
unfolding arrivals
tells image rest = record { same = ap (λ (xs : List Arrival). control ∷ xs) rest.same }

becomes-5 : Becomes from-5 came-5
unfolding from-5 came-5
becomes-5 = clean 5 0 (lit< tt) (clean 5 1 (lit< tt) (clean 5 2 (lit< tt) (clean 5 3 (lit< tt) none)))

becomes-4 : Becomes from-4 came-4
unfolding from-4 came-4 arrival_by passing
becomes-4 =
    read 4 0 0 (type-receives 4 0 (lit< tt)) (clean 4 1 (lit< tt) (clean 4 2 (lit< tt) (clean 4 3 (lit< tt)
    (pass machine.subframe_end (pass (asks (ask 17)) becomes-5)))))

becomes-3 : Becomes from-3 came-3
unfolding from-3 came-3 arrival_by fault_of
becomes-3 =
    clean 3 0 (lit< tt) (read 3 1 31 (word-four-receives 3 1 (lit< tt)) (clean 3 2 (lit< tt) (clean 3 3 (lit< tt) becomes-4)))

becomes-2 : Becomes from-2 came-2
unfolding from-2 came-2 passing
becomes-2 =
    clean 2 0 (lit< tt) (tells told (pass (packet spare-one) (tells told (pass (packet cut)
    (pass (machine.set_flips 2) (pass (packet strict) (pass (machine.set_flips 3) (tells told becomes-3))))))))

becomes-1 : Becomes from-1 came-1
unfolding from-1 came-1 arrival_by passing
becomes-1 =
    read 1 0 0 (header-receives 1 0 (lit< tt)) (read 1 1 0 (word-three-receives 1 1 (lit< tt)) (tells told
    (pass (follow (wish_of 18 1 2)) (pass (packet other) (pass (leave 18)
    (clean 1 2 (lit< tt) (pass machine.subframe_end (clean 1 3 (lit< tt) becomes-2))))))))

pub worked-arrivals : arrivals true worked ≡ worked-came
unfolding worked worked-came
worked-arrivals = (clean 0 2 (lit< tt) (clean 0 3 (lit< tt) becomes-1)).same

-- ---- the groups that arrived readable

-- the groups whose packet c came
unfoldable groups_at : ℕ → List Arrival → List ℕ
groups_at c [] = []
groups_at c (came i d ∷ h) = cond (eqb d c) (i ∷ groups_at c h) (groups_at c h)
groups_at c (damaged i d r ∷ h) = groups_at c h
groups_at c (control ∷ h) = groups_at c h
groups_at c (subframe_end ∷ h) = groups_at c h

in-came : (i c : ℕ) (h : List Arrival) → In i (groups_at c h) → CameIn i c h
unfolding groups_at In CameIn
in-came i c [] q = q
in-came i c (came j d ∷ h) q = go (eqb d c) refl q (in-came i c h)
  where
    go : (b : Bool) → eqb d c ≡ b → In i (cond b (j ∷ groups_at c h) (groups_at c h)) → (In i (groups_at c h) → CameIn i c h) → CameIn i c (came j d ∷ h)
    go true e (inl p) rest = inl (ap₂ came (sym p) (eqb-true d c e))
    go true e (inr p) rest = inr (rest p)
    go false e p rest = inr (rest p)
in-came i c (damaged j d r ∷ h) q = inr (in-came i c h q)
in-came i c (control ∷ h) q = inr (in-came i c h q)
in-came i c (subframe_end ∷ h) q = inr (in-came i c h q)

came-in : (i c : ℕ) (h : List Arrival) → CameIn i c h → In i (groups_at c h)
unfolding groups_at In CameIn
came-in i c [] q = q
came-in i c (came j d ∷ h) (inl e) =
    let p : i ≡ j = cc in
    let q : d ≡ c = cc in
    subst (λ (b : Bool). In i (cond b (j ∷ groups_at c h) (groups_at c h))) (sym (eq-eqb d c q)) (inl p)
came-in i c (came j d ∷ h) (inr q) = go (eqb d c) (came-in i c h q)
  where
    go : (b : Bool) → In i (groups_at c h) → In i (cond b (j ∷ groups_at c h) (groups_at c h))
    go true p = inr p
    go false p = p
came-in i c (damaged j d r ∷ h) (inl e) = let z : ◌≡◌ {A = ℕ} 0 1 = cc in absurd (omega (arith, z))
came-in i c (damaged j d r ∷ h) (inr q) = came-in i c h q
came-in i c (control ∷ h) (inl e) = let z : ◌≡◌ {A = ℕ} 0 1 = cc in absurd (omega (arith, z))
came-in i c (control ∷ h) (inr q) = came-in i c h q
came-in i c (subframe_end ∷ h) (inl e) = let z : ◌≡◌ {A = ℕ} 0 1 = cc in absurd (omega (arith, z))
came-in i c (subframe_end ∷ h) (inr q) = came-in i c h q

worked-in : (i : ℕ) → ((c : ℕ) → c < 4 → In i (groups_at c worked-came)) → Arrived true worked i
unfolding Arrived
worked-in i q c h = came-readable true i c worked (subst (CameIn i c) (sym worked-arrivals) (in-came i c worked-came (q c h)))

worked-has : (i : ℕ) → Arrived true worked i → (c : ℕ) → c < 4 → In i (groups_at c worked-came)
unfolding Arrived
worked-has i q c h = came-in i c worked-came (subst (CameIn i c) worked-arrivals (readable-came true i c worked (q c h)))

each_index : (P : ℕ → Type 0) → P 0 → P 1 → P 2 → P 3 → (c : ℕ) → c < 4 → P c
each_index P a b c d zero h = a
each_index P a b c d (suc zero) h = b
each_index P a b c d (suc (suc zero)) h = c
each_index P a b c d (suc (suc (suc zero))) h = d
each_index P a b c d (suc (suc (suc (suc k)))) h = absurd (omega arith)

pub worked-whole : Arrived true worked 1 × Arrived true worked 4 × Arrived true worked 5
unfolding groups_at In worked-came came-1 came-2 came-3 came-4 came-5
worked-whole = (
  worked-in 1 (each_index (λ (c : ℕ). In 1 (groups_at c worked-came)) (inl refl) (inl refl) (inr (inl refl)) (inr (inl refl))),
  worked-in 4 (each_index (λ (c : ℕ). In 4 (groups_at c worked-came)) (inr (inr (inr (inl refl)))) (inr (inl refl))
      (inr (inr (inr (inl refl)))) (inr (inr (inr (inl refl))))),
  worked-in 5 (each_index (λ (c : ℕ). In 5 (groups_at c worked-came)) (inr (inr (inr (inr (inl refl))))) (inr (inr (inl refl)))
      (inr (inr (inr (inr (inl refl))))) (inr (inr (inr (inr (inl refl)))))),
)

-- packet 1 came readable of groups 1, 4 and 5 alone
pub worked-only : (i : ℕ) → Arrived true worked i → In i (1 ∷ 4 ∷ 5 ∷ [])
unfolding groups_at worked-came came-1 came-2 came-3 came-4 came-5
worked-only i q = worked-has i q 1 (lit< tt)

-- ---- what is handed out

pub worked-out : one.handed_out (events worked-sent worked-came) (one.followed (wish_of 17 1 2)) ≡ group 4 worked-sent 1 ∷ group 4 worked-sent 4 ∷ group 4 worked-sent 5 ∷ []
unfolding worked-came came-1 came-2 came-3 came-4 came-5 worked-sent events event group one.followed one.handed_out one.after one.answer one.moved one.begun one.joined one.last_of one.dropped one.aged per_of needs_of row_of move_of move_number moved_head
worked-out = refl

pub worked-accepted : follow_answer empty-state (wish_of 17 1 2) ≡ 0
unfolding good_wish
worked-accepted =
    follow-0 empty-state (wish_of 17 1 2) empty-passed (wish-passes (wish_of 17 1 2) refl) (find empty-state 17) refl (empty-absent 17 (lit< tt)) (find empty-state 0) refl
    (follow-passed empty-state (wish_of 17 0 2) (accepted 2 refl)).room

-- the channel's words at the setting that start puts, which a follow keeps
started-channel : Channel true 17 worked-sent (setting empty-state) 2 worked
started-channel = subst (λ (n : ℕ). Channel true 17 worked-sent n 2 worked) (sym setting-started) worked-channel

followed-three : setting (follow_after empty-state (wish_of 17 1 2)) ≡ 3
unfolding our_after setting_now
followed-three = setting-next (follow (wish_of 17 1 2)) empty-state started-length started-good ∙ setting-started

-- the same of our calls, on bytes
pub worked-handed : handed_out ours 17 (calls worked) (follow_after empty-state (wish_of 17 1 2)) ≡ group 4 worked-sent 1 ∷ group 4 worked-sent 4 ∷ group 4 worked-sent 5 ∷ []
unfolding one.followed
worked-handed =
    let k = follow-serves empty-state (wish_of 17 1 2) worked-accepted in
    let f = one.followed (wish_of 17 1 2) in
    handed-same (calls worked) (follow_after empty-state (wish_of 17 1 2)) 17 k.serves (channel-stays true 17 worked-sent 3 2 worked worked-channel)
    ∙ (λ i. one.handed_out (events_of 17 (by (k.seen i)) (followed-three i) (calls worked)) (k.seen i))
    ∙ ap (λ (es : List one.Event). one.handed_out es f)
    (sym (channel-events true 17 worked-sent (lit≤ tt) worked-carried 3 2 worked (lit≤ tt) worked-channel) ∙ ap (events worked-sent) worked-arrivals)
    ∙ worked-out

-- ---- by demand 3

pub worked-exactly : Exactly 4 worked-sent (Arrived true worked) (handed_out ours 17 (calls worked) (our_after (follow (wish_of 17 1 2)) empty-state))
worked-exactly = demand-3.exactly empty-state (wish_of 17 1 2) worked-accepted worked-sent worked-carried 2 worked started-channel

came-readable-all : (i : ℕ) → Readable 4 worked-came i → Arrived true worked i
unfolding Readable Arrived
came-readable-all i q c h = came-readable true i c worked (subst (CameIn i c) (sym worked-arrivals) (q c h))

readable-all : (i : ℕ) → Arrived true worked i → Readable 4 worked-came i
unfolding Readable Arrived
readable-all i q c h = subst (CameIn i c) worked-arrivals (readable-came true i c worked (q c h))

-- group 5 is the last, and nothing came since
worked-last : Last 4 worked-came 5 []
unfolding In worked-came came-1 came-2 came-3 came-4 came-5
worked-last = record {
  before = came 0 2 ∷ came 0 3 ∷ came 1 0 ∷ came 1 1 ∷ control ∷ came 1 2 ∷ subframe_end ∷ came 1 3 ∷ came 2 0 ∷ control ∷ control ∷ control
      ∷ came 3 0 ∷ damaged 3 1 word_unreadable ∷ came 3 2 ∷ came 3 3 ∷ came 4 0 ∷ came 4 1 ∷ came 4 2 ∷ came 4 3 ∷ subframe_end ∷ came 5 0 ∷ came 5 1 ∷ came 5 2 ∷ [];
  split = refl;
  whole = readable-all 5 worked-whole.2;
  none = λ j h q. later j h (worked-only j (came-readable-all j q));
}
  where
    later : (j : ℕ) → 5 < j → In j (1 ∷ 4 ∷ 5 ∷ []) → ⊥
    later j h (inl e) = omega (arith, h, e)
    later j h (inr (inl e)) = omega (arith, h, e)
    later j h (inr (inr (inl e))) = omega (arith, h, e)
    later j h (inr (inr (inr e))) = e

pub worked-fresh : our_answer (asks (ask 17)) (run ours (calls worked) (our_after (follow (wish_of 17 1 2)) empty-state)) ≡ 5
unfolding endings Reached
worked-fresh =
    let j = subst (λ (h : List Arrival). Judged 4 2 h (our_answer (asks (ask 17)) (run ours (calls worked) (our_after (follow (wish_of 17 1 2)) empty-state)))) worked-arrivals
    (demand-3.missing empty-state (wish_of 17 1 2) worked-accepted worked-sent worked-carried 2 worked started-channel) in
    j.fresh 5 [] worked-last (lit< tt) (λ m. m.reached)
