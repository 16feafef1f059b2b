-- `group::moved`: the row of section 4's table, by the packet's place.
use mathlib.Core.Path.{◌≡◌, refl, sym, ap, ◌∙◌}
use mathlib.Core.List.{List}
use mathlib.Core.Logic.{◌⊎◌, inl, inr}
use Prim.Native.Nat.{ℕ, ◌+◌, ◌*◌, ◌%◌, ◌≤◌, ◌<◌}
use native.Mathlib.Nat.{mul-le-mul_right}
use native.Mathlib.Omega.{arith}
use lib.ListN.{length}
use Rattle.slot.specs.Slot.{room_size}
use Rattle.head.specs.declared.Head.{Head}
use Rattle.head.specs.Move.{Move, started, held, whole, out_of_step, per_of, needs_of, move_of, row_at, place_at, move_number}
use Rattle.head.proofs.Moves.{row-whole, row-started, row-held, row_out, per-bounds, place-below}
use Rattle.group.specs.Group.{slot_joined, slot_moved}
use Rattle.group.proofs.Doing.{row-does, start-does, held-does, whole-does, out-drops}
use Rattle.group.proofs.moved.Goals as goal

-- ---- the place, as the code has it and as the table has it

module _ (h : Head) (i p : ℕ) (e : p ≡ per_of h) where
  place_is : i % p ≡ place_at h i
  place_is = ap (λ (n : ℕ). i % n) e

  small : i % p ≤ 3
  small = omega (arith, place_is, place-below h i, per-bounds h)

  -- the place and those before it, in bytes
  ends : (n : ℕ) → n ≤ 90 → (i % p + 1) * n ≤ room_size
  ends n l =
      let more : i % p + 1 ≤ 4 = omega (arith, small) in
      omega (arith, mul-le-mul_right n more)

  first : i % p ≡ 0 → place_at h i ≡ 0
  first z = sym place_is ∙ z

  later : (i % p ≡ 0 → ⊥) → place_at h i ≡ 0 → ⊥
  later n z = n (place_is ∙ z)

  stays : (i % p ≡ h.awaited → ⊥) → place_at h i ≡ h.awaited → ⊥
  stays n z = n (place_is ∙ z)

  joined_as : (b s t : List ℕ) → t ≡ slot_joined (i % p) b s → t ≡ slot_joined (place_at h i) b s
  joined_as b s t j = j ∙ ap (λ (n : ℕ). slot_joined n b s) place_is

  -- what the test for a packet out of step leaves
  abbrev Fits : Type 0
  Fits = ((i % p ≡ 0 → ⊥) × (i % p ≡ h.awaited)) ⊎ (i % p ≡ 0)

  at-is : Fits → (place_at h i ≡ 0) ⊎ (place_at h i ≡ h.awaited)
  at-is (inl (n, z)) = inr (sym place_is ∙ z)
  at-is (inr z) = inl (first z)

  awaited-is : Fits → (i % p ≡ 0 → ⊥) → place_at h i ≡ h.awaited
  awaited-is (inl (n, z)) m = sym place_is ∙ z
  awaited-is (inr z) m = absurd (m z)

  enough : (n : ℕ) → n ≡ needs_of h → n ≤ i % p + 1 → needs_of h ≤ place_at h i + 1
  enough n q l = omega (arith, q, l, place_is)

  more : (n : ℕ) → n ≡ needs_of h → i % p + 1 < n → place_at h i + 1 < needs_of h
  more n q l = omega (arith, q, l, place_is)

-- ---- the rows

module _ (h : Head) (i : ℕ) where
  is-out : (place_at h i ≡ 0 → ⊥) → (place_at h i ≡ h.awaited → ⊥) → row_at h i ≡ out_of_step
  unfolding move_of
  is-out n m = row_out (needs_of h) h.awaited (place_at h i) n m

  is-whole : (place_at h i ≡ 0) ⊎ (place_at h i ≡ h.awaited) → needs_of h ≤ place_at h i + 1 → row_at h i ≡ whole
  unfolding move_of
  is-whole f l = row-whole (needs_of h) h.awaited (place_at h i) f l

  is-started : place_at h i ≡ 0 → place_at h i + 1 < needs_of h → row_at h i ≡ started
  unfolding move_of
  is-started z l = row-started (needs_of h) h.awaited (place_at h i) z l

  is-held : (place_at h i ≡ 0 → ⊥) → place_at h i ≡ h.awaited → place_at h i + 1 < needs_of h → row_at h i ≡ held
  unfolding move_of
  is-held n z l = row-held (needs_of h) h.awaited (place_at h i) n z l

  -- the slot after the row that was chosen
  after : (mv : Move) (b s v : List ℕ) → row_at h i ≡ mv → v ≡ slot_moved mv (place_at h i) b s → v ≡ slot_moved (row_at h i) (place_at h i) b s
  after mv b s v e ev = (row-does mv h i (move_number mv) b s v e refl ev).1

-- ---- the answers

pub nonzero_rem-place : goal.nonzero_rem-place
nonzero_rem-place c = omega (arith, c.per.ensures, per-bounds c.args.head)

pub returns-then-place-head-clause-value : goal.returns-then-place-head-clause-value
returns-then-place-head-clause-value c =
    let h = c.args.head in
    let i = c.args.index in
    sym (is-out h i (later h i _ c.per.ensures c.if-place-ne0.true) (stays h i _ c.per.ensures c.if-place-head.true))

pub returns-then-place-head-clause-slot_after : goal.returns-then-place-head-clause-slot_after
returns-then-place-head-clause-slot_after c =
    let h = c.args.head in
    let i = c.args.index in
    after h i out_of_step c.args.bytes.now c.args.slot.now _
    (is-out h i (later h i _ c.per.ensures c.if-place-ne0.true) (stays h i _ c.per.ensures c.if-place-head.true))
    (c.dropped.ensures ∙ out-drops (place_at h i) c.args.bytes.now c.args.slot.now)

pub joined-requires-clause-place_bound : goal.joined-requires-clause-place_bound
joined-requires-clause-place_bound c = small c.args.head c.args.index _ c.per.ensures

pub overflow_add-place : goal.overflow_add-place
overflow_add-place c = omega (arith, small c.args.head c.args.index _ c.per.ensures)

pub whole-requires-clause-len_le_room_size : goal.whole-requires-clause-len_le_room_size
whole-requires-clause-len_le_room_size c = ends c.args.head c.args.index _ c.per.ensures _ c.requires.bytes_len_bound

pub returns-then-needs-place-clause-value : goal.returns-then-needs-place-clause-value
returns-then-needs-place-clause-value c =
    let h = c.args.head in
    let i = c.args.index in
    sym (is-whole h i (at-is h i _ c.per.ensures c.else-place-ne0.either) (enough h i _ c.per.ensures _ c.needs.ensures c.if-needs-place.true))

pub returns-then-needs-place-clause-slot_after : goal.returns-then-needs-place-clause-slot_after
returns-then-needs-place-clause-slot_after c =
    let h = c.args.head in
    let i = c.args.index in
    let b = c.args.bytes.now in
    let s = c.args.slot.now in
    after h i whole b s _
    (is-whole h i (at-is h i _ c.per.ensures c.else-place-ne0.either) (enough h i _ c.per.ensures _ c.needs.ensures c.if-needs-place.true))
    (whole-does (place_at h i) s b h c.requires.head_value _ _ (joined_as h i _ c.per.ensures b s _ c.joined.ensures) _
    (ap (λ (n : ℕ). (n + 1) * length b) (place_is h i _ c.per.ensures)) c.whole.ensures)

pub returns-then-place-eq0-clause-value : goal.returns-then-place-eq0-clause-value
returns-then-place-eq0-clause-value c =
    let h = c.args.head in
    let i = c.args.index in
    sym (is-started h i (first h i _ c.per.ensures c.if-place-eq0.true) (more h i _ c.per.ensures _ c.needs.ensures c.if-needs-place.false))

pub returns-then-place-eq0-clause-slot_after : goal.returns-then-place-eq0-clause-slot_after
returns-then-place-eq0-clause-slot_after c =
    let h = c.args.head in
    let i = c.args.index in
    let b = c.args.bytes.now in
    let s = c.args.slot.now in
    after h i started b s _
    (is-started h i (first h i _ c.per.ensures c.if-place-eq0.true) (more h i _ c.per.ensures _ c.needs.ensures c.if-needs-place.false))
    (start-does (place_at h i) s b h c.requires.head_value _ _ (joined_as h i _ c.per.ensures b s _ c.joined.ensures) _ c.started.ensures c.store.ensures)

pub held-requires : goal.held-requires
held-requires c =
    omega (
      arith,
      awaited-is c.args.head c.args.index _ c.per.ensures c.else-place-ne0.either c.if-place-eq0.false,
      place_is c.args.head c.args.index _ c.per.ensures,
      small c.args.head c.args.index _ c.per.ensures,
    )

pub returns-clause-value : goal.returns-clause-value
returns-clause-value c =
    let h = c.args.head in
    let i = c.args.index in
    sym (is-held h i (later h i _ c.per.ensures c.if-place-eq0.false) (awaited-is h i _ c.per.ensures c.else-place-ne0.either c.if-place-eq0.false)
    (more h i _ c.per.ensures _ c.needs.ensures c.if-needs-place.false))

pub returns-clause-slot_after : goal.returns-clause-slot_after
returns-clause-slot_after c =
    let h = c.args.head in
    let i = c.args.index in
    let b = c.args.bytes.now in
    let s = c.args.slot.now in
    after h i held b s _
    (is-held h i (later h i _ c.per.ensures c.if-place-eq0.false) (awaited-is h i _ c.per.ensures c.else-place-ne0.either c.if-place-eq0.false)
    (more h i _ c.per.ensures _ c.needs.ensures c.if-needs-place.false))
    (held-does (place_at h i) s b h c.requires.head_value _ _ (joined_as h i _ c.per.ensures b s _ c.joined.ensures) _ c.held.ensures c.store-2.ensures)
