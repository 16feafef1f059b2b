-- Rows of ETS 300 352, annex C, with their ten bytes: each is read and written by computation, its six numbers are had, no pair
-- of them is bad, and the one that deletes is known for it. Assumes nothing.
use mathlib.Core.Path.{◌≡◌, refl}
use mathlib.Core.Bool.{Bool, true, false}
use mathlib.Core.List.{List, [], ◌∷◌}
use Prim.Native.Nat.{ℕ}
use Rattle.bits.specs.Bits.{bits_of, number, sent, numbers_in}
use Rattle.field.specs.Field.{bits_at, field_of, field_bits, field_bytes, fln1, lln1, fln2, lln2, fcp, lcp, tdms_of, bad_pair, bad_tdms, deletes, bad_field, numbers_of}
use Rattle.field.specs.declared.Field.{Field}
use Rattle.field.specs.declared.Tdms.{Tdms}

abbrev pub numbers : ℕ → ℕ → ℕ → ℕ → ℕ → ℕ → Tdms
numbers a b c d e f = record { fln1 = a; lln1 = b; fln2 = c; lln2 = d; fcp = e; lcp = f }

-- a row's bytes; its frame count, update flag, component and LINKS; its six numbers; whether it deletes
abbrev pub Row : List ℕ → ℕ → ℕ → ℕ → ℕ → Tdms → Bool → Type 0
Row f count flag id links s gone =
    let t = tdms_of s.fln1 s.lln1 s.fln2 s.lln2 s.fcp s.lcp in
    let r : Field = record { count = count; flag = flag; id = id; tdms = t; links = links } in
    (field_of f ≡ r) × (field_bytes r ≡ f) × (numbers_of t ≡ s) × (bad_field r ≡ false) × (deletes t ≡ gone)

-- in hexadecimal: fe 02 00 70 f3 ff ff 13 d0 8c; 76 41 16 a8 a0 a8 a6 ca b1 50; 75 43 fe ff ff ff ff ff ff 7f
pub annex-c :
    Row (254 ∷ 2 ∷ 0 ∷ 112 ∷ 243 ∷ 255 ∷ 255 ∷ 19 ∷ 208 ∷ 140 ∷ []) 254 0 1 1 (numbers 0 622 1023 1023 9 205) false
    × Row (118 ∷ 65 ∷ 22 ∷ 168 ∷ 160 ∷ 168 ∷ 166 ∷ 202 ∷ 177 ∷ 80 ∷ []) 118 1 32 0 (numbers 11 21 325 333 229 1291) false
    × Row (117 ∷ 67 ∷ 254 ∷ 255 ∷ 255 ∷ 255 ∷ 255 ∷ 255 ∷ 255 ∷ 127 ∷ []) 117 1 33 0 (numbers 1023 1023 1023 1023 2047 2047) true
unfolding bits_of number sent numbers_in bits_at field_of field_bits field_bytes fln1 lln1 fln2 lln2 fcp lcp tdms_of bad_pair bad_tdms bad_field numbers_of deletes
annex-c = ((refl, refl, refl, refl, refl), (refl, refl, refl, refl, refl), (refl, refl, refl, refl, refl))
