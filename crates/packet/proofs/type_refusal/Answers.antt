-- `packet::type_refusal`: the rows 28, 29, 47, 30.
use mathlib.Core.Path.{◌≡◌, refl, sym, ap, ◌∙◌}
use mathlib.Core.List.{List}
use Prim.Native.Nat.{ℕ, ◌<◌}
use native.Mathlib.Omega.{arith}
use lib.ListN.{get_or}
use Rattle.std.specs.Prelude.{Ok, Err}
use Rattle.std.proofs.lemmas.Result.{err_from_is_err_and}
use Rattle.faults.specs.Refusals.{number_of}
use Rattle.faults.specs.declared.refusal.Refusal.{Refusal}
use Rattle.faults.proofs.Refusals.{number-not-zero}
use Rattle.bare.specs.Bare.{TypeAnswer, type_read}
use Rattle.bare.specs.Told.{told_type, byte_of}
use Rattle.bare.specs.declared.TypeByte.{TypeByte}
use Rattle.bare.specs.declared.kind.Kind.{Kind}
use Rattle.bare.specs.declared.kind.Kind.TheVariants.{Data, Control, Reserved, Scrambled}
use Rattle.bare.proofs.Types.{type-none, type-unreadable}
use Rattle.image.specs.Image.{bytes_of}
use Rattle.packet.specs.Received.{type_of}
use Rattle.packet.proofs.Answers.{type_number, type-found, type-missed, number-unreadable, number-control, number-reserved, number-scrambled, number-data}
use Rattle.packet.proofs.type_refusal.Goals as goal

-- the type that was read, and its kind
found : (s : List ℕ) (b : ℕ) (t : TypeByte) (k : Kind) → b ≡ get_or (bytes_of s) 0 0 → told_type (Ok t) ≡ type_read b → t.kind ≡ k
    → (type_of s < 256) × (type_of s ≡ byte_of k)
found s b t k e r q =
    let f = type-found s b (told_type (Ok t)) e r refl in
    (f.0, sym f.1 ∙ ap byte_of q)

-- and why it was not
missed : (s : List ℕ) (b : ℕ) (r : Refusal) → b ≡ get_or (bytes_of s) 0 0 → told_type (Err r) ≡ type_read b → number_of r ≡ type_number s
missed s b r e q =
    let far = type-unreadable b (λ z. number-not-zero r (ap (λ (x : TypeAnswer). x.number) q ∙ z)) in
    ap (λ (x : TypeAnswer). x.number) (q ∙ type-none b far) ∙ number-unreadable s (type-missed s b (told_type (Err r)) e q (number-not-zero r))

pub returns-in_err-read_type : goal.returns-in_err-read_type
returns-in_err-read_type c =
    let p = err_from_is_err_and c.from_residual.result c.from_residual.ensures.1 in
    rw (p.1, p.2) (missed c.args.image.now c.kind.result _ c.kind.ensures c.in_err-read_type.ensures)

pub returns-in-Data : goal.returns-in-Data
returns-in-Data c =
    let f = found c.args.image.now c.kind.result _ Data c.kind.ensures c.in_ok-read_type.ensures c.in-Data.is in
    number-data c.args.image.now f.0 (λ z. omega (arith, f.1, z)) (λ z. omega (arith, f.1, z)) (λ z. omega (arith, f.1, z))

pub returns-in-Control : goal.returns-in-Control
returns-in-Control c =
    number-control c.args.image.now (found c.args.image.now c.kind.result _ Control c.kind.ensures c.in_ok-read_type.ensures c.in-Control.is).1

pub returns-in-Reserved : goal.returns-in-Reserved
returns-in-Reserved c =
    number-reserved c.args.image.now (found c.args.image.now c.kind.result _ Reserved c.kind.ensures c.in_ok-read_type.ensures c.in-Reserved.is).1

pub returns-in-Scrambled : goal.returns-in-Scrambled
returns-in-Scrambled c =
    number-scrambled c.args.image.now (found c.args.image.now c.kind.result _ Scrambled c.kind.ensures c.in_ok-read_type.ensures c.in-Scrambled.is).1
