-- `adapter::arrived`: 49, 27, then the slot of the address, lent and come back. Assumes nothing.
use mathlib.Core.Path.{◌≡◌, refl, ap}
use mathlib.Core.Bool.{false}
use mathlib.Core.List.{List}
use Prim.Native.Nat.{ℕ, ◌≤◌}
use Rattle.bare.specs.Bare.{header_read}
use Rattle.std.specs.Prelude.{Ok}
use Rattle.bare.specs.Bare.{HeaderAnswer}
use Rattle.bare.specs.Told.{told_header}
use Rattle.bare.specs.declared.Header.{Header}
use Rattle.image.specs.Image.{header_of}
use Rattle.table.specs.State.{setting}
use Rattle.adapter.specs.Calls.{address_of, flips_of, beyond}
use Rattle.adapter.proofs.Arriving.{AtPlace, place-49, within-few, place-27, no-address, no-slot, some-slot, slot-served}
use Rattle.adapter.proofs.arrived.Goals as goal

-- what is read of the header
module _ (h : Header) (image : List ℕ) (e : told_header (Ok h) ≡ header_read (header_of image)) where
  flips : h.flips ≡ flips_of image
  unfolding flips_of
  flips = ap (λ (x : HeaderAnswer). x.flips) e

  address : h.address ≡ address_of image
  unfolding address_of
  address = ap (λ (x : HeaderAnswer). x.address) e

  few : (s : List ℕ) (m : ℕ) → m ≡ setting s → h.flips ≤ m → beyond s image ≡ false
  few s m q = within-few s image m h.flips q flips

many : (c : goal.After-refused) → AtPlace c.args.state.now c.args.image.now c.refused.result c.args.state.now
many c =
    place-49 _ c.args.image.now _ _ c.setting.ensures (flips c.args.header _ c.requires.header_value) c.if-setting-header.true _
    c.refused.ensures

pub returns-then-setting-header-clause-value : goal.returns-then-setting-header-clause-value
returns-then-setting-header-clause-value c = (many c).0

pub returns-then-setting-header-clause-state_after : goal.returns-then-setting-header-clause-state_after
returns-then-setting-header-clause-state_after c = (many c).1

-- address 0 is nobody's
zero : (c : goal.After-refused-then-address-eq0) → AtPlace c.args.state.now c.args.image.now c.refused-then-address-eq0.result c.args.state.now
zero c =
    let h = c.requires.header_value in
    place-27 _ _ (few _ _ h _ _ c.setting.ensures c.if-setting-header.false) _ _ (address _ _ h) refl
    (no-address _ _ c.if-address-eq0.true) _ c.refused-then-address-eq0.ensures

pub returns-then-address-eq0-clause-value : goal.returns-then-address-eq0-clause-value
returns-then-address-eq0-clause-value c = (zero c).0

pub returns-then-address-eq0-clause-state_after : goal.returns-then-address-eq0-clause-state_after
returns-then-address-eq0-clause-state_after c = (zero c).1

unknown : (c : goal.After-refused-in_default) → AtPlace c.args.state.now c.args.image.now c.refused-in_default.result c.args.state.now
unknown c =
    let h = c.requires.header_value in
    place-27 _ _ (few _ _ h _ _ c.setting.ensures c.if-setting-header.false) _ _ (address _ _ h) c.in_default.ensures.place
    (no-slot _ c.if-address-eq0.false) _ c.refused-in_default.ensures

pub returns-in_default-clause-value : goal.returns-in_default-clause-value
returns-in_default-clause-value c = (unknown c).0

pub returns-in_default-clause-state_after : goal.returns-in_default-clause-state_after
returns-in_default-clause-state_after c = (unknown c).1

-- the slot was lent and came back
pub returns-clause-value : goal.returns-clause-value
returns-clause-value c =
    let h = c.requires.header_value in
    (slot-served c.args.state.now c.args.image.now (few _ _ h _ _ c.setting.ensures c.if-setting-header.false) _ _ (address _ _ h) c.in-Some.ensures.place
    _ _ (some-slot _ _ c.if-address-eq0.false c.in-Some.ensures.in_slots) (c.served.ensures.value, c.served.ensures.slot_after)).0

pub returns-clause-state_after : goal.returns-clause-state_after
returns-clause-state_after c =
    let h = c.requires.header_value in
    (slot-served c.args.state.now c.args.image.now (few _ _ h _ _ c.setting.ensures c.if-setting-header.false) _ _ (address _ _ h) c.in-Some.ensures.place
    _ _ (some-slot _ _ c.if-address-eq0.false c.in-Some.ensures.in_slots) (c.served.ensures.value, c.served.ensures.slot_after)).1
