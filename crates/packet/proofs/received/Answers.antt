-- `packet::received`: 20, then by the type, then the data.
use mathlib.Core.Path.{◌≡◌, refl, sym, ap, ap₂, ◌∙◌, subst}
use mathlib.Core.Bool.{Bool}
use mathlib.Core.List.{List}
use Prim.Native.Nat.{ℕ, ◌<◌, ◌^◌}
use Rattle.std.specs.Prelude.{Err}
use Rattle.std.proofs.lemmas.Result.{err_from_is_err_and}
use Rattle.bare.specs.Bare.{HeaderAnswer, header_read}
use Rattle.image.specs.Image.{header_of}
use Rattle.image.proofs.Laws.{header-lt}
use Rattle.words.specs.Protected.{data_read}
use Rattle.faults.proofs.Refusals.{number-not-zero}
use Rattle.packet.specs.Received.{received, readable_as, data_as}
use Rattle.packet.proofs.Answers.{index_of, IsData, answer-length, answer-type, answer-plain, answer-protected, useful-read}
use Rattle.packet.specs.Told.{told_reading}
use Rattle.packet.specs.declared.Unread.{Unread}
use Rattle.packet.proofs.received.Goals as goal

-- the index that the header is read with
indexed : (s : List ℕ) (h : HeaderAnswer) (n i : ℕ) → i ≡ h.index → h ≡ header_read n → n ≡ header_of s → i ≡ index_of s
indexed s h n i p q e = p ∙ ap (λ (x : HeaderAnswer). x.index) (q ∙ ap header_read e)

pub returns-then-image-ne-IMAGE : goal.returns-then-image-ne-IMAGE
returns-then-image-ne-IMAGE c =
    ap (λ (u : Unread). told_reading (Err u)) c.into.ensures ∙ sym (answer-length c.args.protected c.args.image.now c.if-image-ne-IMAGE.true)

pub returns-in_err-type_refusal : goal.returns-in_err-type_refusal
returns-in_err-type_refusal c =
    let p = err_from_is_err_and c.from_residual.result c.from_residual.ensures.1 in
    rw (p.1, p.2)
    (sym (answer-type c.args.protected c.args.image.now c.if-image-ne-IMAGE.false _ c.in_err-type_refusal.ensures (number-not-zero c.in_err-type_refusal.field-0.0)))

pub near_header-header-requires : goal.near_header-header-requires
near_header-header-requires c = subst (λ (n : ℕ). n < 2 ^ 23) (sym c.header.ensures) (header-lt _)

pub returns-then-protected : goal.returns-then-protected
returns-then-protected c =
    let s = c.args.image.now in
    let is : IsData s = record { size = c.if-image-ne-IMAGE.false; type = sym c.in_ok-type_refusal.ensures } in
    c.unprotected.ensures
    ∙ ap₂ (λ (i : ℕ) (u : List ℕ). data_as i (data_read u)) (indexed s _ _ _ refl c.near_header-header.ensures c.header.ensures)
    (useful-read s c.useful-useful.result c.useful-useful.ensures)
    ∙ sym (answer-protected s is) ∙ ap (λ (b : Bool). received b s) (sym c.if-protected.true)

pub returns-else-protected : goal.returns-else-protected
returns-else-protected c =
    let s = c.args.image.now in
    let is : IsData s = record { size = c.if-image-ne-IMAGE.false; type = sym c.in_ok-type_refusal.ensures } in
    c.readable.ensures
    ∙ ap₂ readable_as (indexed s _ _ _ refl c.near_header-header.ensures c.header.ensures)
    (useful-read s c.useful-useful.result c.useful-useful.ensures)
    ∙ sym (answer-plain s is) ∙ ap (λ (b : Bool). received b s) (sym c.if-protected.false)
