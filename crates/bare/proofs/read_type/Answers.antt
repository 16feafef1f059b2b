-- `bare::read_type`: the first type within two flips, or none.
use mathlib.Core.Path.{◌≡◌, sym, ap, ◌∙◌, subst}
use mathlib.Core.List.{List, [], ◌∷◌}
use Prim.Native.Nat.{ℕ, zero, suc, ◌+◌, ◌≤◌, ◌<◌}
use native.Mathlib.Omega.{arith}
use native.Mathlib.Numerals.{add-one}
use lib.ListN.{drop}
use Rattle.std.proofs.Common.{slice_index_or}
use Rattle.bits.specs.Bits.{flips}
use Rattle.bare.specs.Bare.{TypeAnswer, types, type_near, type_read}
use Rattle.bare.specs.Told.{byte_of}
use Rattle.bare.specs.declared.kind.Kind.{Kind}
use Rattle.bare.specs.declared.kind.Kind.TheVariants.{Data, Control, Reserved, Scrambled}
use Rattle.bare.proofs.Types.{near-hit, near-miss, near-end, type-near, type-none}
use Rattle.bare.proofs.read_type.Goals as goal

abbrev kinds : List Kind
kinds = Data ∷ Control ∷ Reserved ∷ Scrambled ∷ []

-- what stands at a place of the types, and behind it
at : (b i : ℕ) (d : Kind) → i < 4 → flips (byte_of (slice_index_or kinds i d)) b ≤ 2
    → (type_near (drop i types) b ≡ byte_of (slice_index_or kinds i d)) × (byte_of (slice_index_or kinds i d) < 256)
at b zero d h f = (near-hit 0x00 _ b f, omega arith)
at b (suc zero) d h f = (near-hit 0x3F _ b f, omega arith)
at b (suc (suc zero)) d h f = (near-hit 0xC7 _ b f, omega arith)
at b (suc (suc (suc zero))) d h f = (near-hit 0xF8 _ b f, omega arith)
at b (suc (suc (suc (suc i)))) d h f = absurd (omega (arith, h))

past : (b i : ℕ) (d : Kind) → i < 4 → 2 < flips (byte_of (slice_index_or kinds i d)) b → type_near (drop i types) b ≡ type_near (drop (suc i) types) b
past b zero d h f = near-miss 0x00 _ b f
past b (suc zero) d h f = near-miss 0x3F _ b f
past b (suc (suc zero)) d h f = near-miss 0xC7 _ b f
past b (suc (suc (suc zero))) d h f = near-miss 0xF8 _ b f
past b (suc (suc (suc (suc i)))) d h f = absurd (omega (arith, h))

module _ (b i : ℕ) (d : Kind) (k f : ℕ) (e : k ≡ byte_of (slice_index_or kinds i d)) (q : f ≡ flips k b) (so : type_near types b ≡ type_near (drop i types) b) where
  turned : f ≡ flips (byte_of (slice_index_or kinds i d)) b
  turned = q ∙ ap (λ (x : ℕ). flips x b) e

  hit : i < 4 → f ≤ 2 → ◌≡◌ {A = TypeAnswer} (record { number = 0; value = byte_of (slice_index_or kinds i d); flips = f }) (type_read b)
  hit h l =
      let found = at b i d h (subst (λ (x : ℕ). x ≤ 2) turned l) in
      (λ j. record { number = 0; value = byte_of (slice_index_or kinds i d); flips = turned j })
      ∙ sym (type-near b (byte_of (slice_index_or kinds i d)) (so ∙ found.0) found.1)

  miss : i < 4 → 2 < f → type_near types b ≡ type_near (drop (i + 1) types) b
  miss h l = so ∙ past b i d h (subst (λ (x : ℕ). 2 < x) turned l) ∙ ap (λ (n : ℕ). type_near (drop n types) b) (sym (add-one i))

none : (b i : ℕ) → i ≡ 4 → type_near types b ≡ type_near (drop i types) b → ◌≡◌ {A = TypeAnswer} (record { number = 28; value = 0; flips = 0 }) (type_read b)
none b i e so =
    sym (type-none b (omega (arith, so ∙ ap (λ (n : ℕ). type_near (drop n types) b) e ∙ near-end b)))

pub returns-then-flips-le-CORRECTED : goal.returns-then-flips-le-CORRECTED
returns-then-flips-le-CORRECTED c =
    hit c.args.byte c.loop-kind.kind-index _ _ _ c.into.ensures c.turned-flips.ensures c.loop-kind.invariant (omega arith) c.if-flips-le-CORRECTED.true

pub loop-kind-preserved : goal.loop-kind-preserved
loop-kind-preserved c =
    miss c.args.byte c.loop-kind.kind-index _ _ _ c.into.ensures c.turned-flips.ensures c.loop-kind.invariant (omega arith) (omega arith)

pub returns : goal.returns
returns c = none c.args.byte c.loop-kind.kind-index (omega arith) c.loop-kind.invariant
