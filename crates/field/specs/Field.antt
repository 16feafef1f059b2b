-- One field of TDM control (ETS 300 352, 4.5.4): the 80 bits of a repeated data frame, corrected, as 10 bytes. "The least significant
-- bits are transmitted first" (4.5). Figure 15 is not in our copy of the standard; annex C, figure C.2, has its order and widths:
--
--   FCNT 8 | UDF 1 | TDMCID 8 | TDMS 62: FLN1 10, LLN1 10, FLN2 10, LLN2 10, FCP 11, LCP 11 | LINKS 1
--
--   bits_at from width f    the number that some bits of a field are
--   field_of f              a field, read: frame count, update flag, component, TDMS as one number, LINKS
--   field_bits, field_bytes  a field, written
--   fln1 .. lcp            the six numbers of TDMS; line 1 and clock period 1 are coded 0
--   tdms_of                 the TDMS that six numbers make
--   bad_pair, bad_tdms       "a pair with first after last, or with one alone all ones" (document 02, Ask 4)
--   deletes t              both line pairs are all ones
--   key t                  the order of linked fields: "increasing order of FLN1 ..., the same value of FLN1 ... increasing order of FCP"
--   panning                TDMCID 81 hex: panning vectors, no component (4.5.6)
--   bad_field r             44: a bad pair, but in panning vectors
--   handed nothing result   what a call of the code hands out beside its number: what is given where it is done, otherwise nothing
--   no_field, no_tdms       nothing of a field, and of six numbers: every number is 0
--   read_number, read_field  the bare calls: 20
--   write_number, written_after    20, 33, 44
--   numbers_of t            the six numbers of TDMS
--   pack_number, packed     six numbers as TDMS: 33 where one is too wide
--   unpack_number, unpacked TDMS as six numbers: 33 where it has more than 62 bits
use Rattle.std.specs.Prelude.{Bool, ◌&&◌, ◌||◌, not, List, [], ◌∷◌, ◌++◌, ℕ, ◌+◌, ◌-◌, ◌*◌, ◌/◌, ◌%◌, ◌^◌, ltb, eqb, leb, length, take, drop, Result, Ok, Err}
use Rattle.bits.specs.Bits.{bits_of, number, sent, numbers_in}
use Rattle.bits.specs.Rows.{row, refusal, given, done}
use Rattle.faults.specs.declared.refusal.Refusal.{Refusal}
use Rattle.field.specs.declared.Field.{Field}
use Rattle.field.specs.declared.Tdms.{Tdms}

abbrev pub field_size : ℕ
field_size = 10

unfoldable pub bits_at : ℕ → ℕ → List ℕ → ℕ
bits_at from width f = number (take width (drop from (sent 8 f)))

unfoldable pub field_of : List ℕ → Field
field_of f = record {
  count = bits_at 0 8 f;
  flag = bits_at 8 1 f;
  id = bits_at 9 8 f;
  tdms = bits_at 17 62 f;
  links = bits_at 79 1 f;
}

unfoldable pub field_bits : Field → List ℕ
field_bits r =
    bits_of 8 r.count ++ (bits_of 1 r.flag ++ (bits_of 8 r.id ++ (bits_of 62 r.tdms ++ bits_of 1 r.links)))

unfoldable pub field_bytes : Field → List ℕ
field_bytes r = numbers_in 8 field_size (field_bits r)

-- ---- the structure's six numbers

unfoldable pub fln1 : ℕ → ℕ
fln1 t = t % 1024

unfoldable pub lln1 : ℕ → ℕ
lln1 t = t / 2 ^ 10 % 1024

unfoldable pub fln2 : ℕ → ℕ
fln2 t = t / 2 ^ 20 % 1024

unfoldable pub lln2 : ℕ → ℕ
lln2 t = t / 2 ^ 30 % 1024

unfoldable pub fcp : ℕ → ℕ
fcp t = t / 2 ^ 40 % 2048

unfoldable pub lcp : ℕ → ℕ
lcp t = t / 2 ^ 51 % 2048

unfoldable pub tdms_of : ℕ → ℕ → ℕ → ℕ → ℕ → ℕ → ℕ
tdms_of a b c d e f = a + 2 ^ 10 * b + 2 ^ 20 * c + 2 ^ 30 * d + 2 ^ 40 * e + 2 ^ 51 * f

-- ---- 44

-- ones: the number whose bits are all 1; "all 1's ... signal undefined subframes", so both of a pair may be
unfoldable pub bad_pair : ℕ → ℕ → ℕ → Bool
bad_pair ones first last = ltb last first || (eqb last ones && not (eqb first ones))

unfoldable pub bad_tdms : ℕ → Bool
bad_tdms t = bad_pair 1023 (fln1 t) (lln1 t) || (bad_pair 1023 (fln2 t) (lln2 t) || bad_pair 2047 (fcp t) (lcp t))

-- "the TDMS data shall be set to all 1's"; annex C's own rows print 1 023 for the clock periods, so the lines decide
unfoldable pub deletes : ℕ → Bool
deletes t = eqb (t % 2 ^ 40) (2 ^ 40 - 1)

unfoldable pub key : ℕ → ℕ
key t = fln1 t * 2048 + fcp t

abbrev pub panning : ℕ
panning = 129

unfoldable pub bad_field : Field → Bool
bad_field r = not (eqb r.id panning) && bad_tdms r.tdms

-- ---- the bare calls

abbrev pub handed : {A : Type 0} → A → Result A Refusal → A
handed nothing (Ok given) = given
handed nothing (Err refusal) = nothing

abbrev pub no_field : Field
no_field = record { count = 0; flag = 0; id = 0; tdms = 0; links = 0 }

abbrev pub no_tdms : Tdms
no_tdms = record { fln1 = 0; lln1 = 0; fln2 = 0; lln2 = 0; fcp = 0; lcp = 0 }

unfoldable pub read_number : List ℕ → ℕ
read_number f = refusal (row (not (eqb (length f) field_size)) 20 ∷ [])

-- what is read where nothing is refused, otherwise 0
unfoldable pub read_field : List ℕ → Field
read_field f =
    let n = read_number f in
    let r = field_of f in
    record {
      count = given n r.count;
      flag = given n r.flag;
      id = given n r.id;
      tdms = given n r.tdms;
      links = given n r.links;
    }

unfoldable pub write_number : Field → List ℕ → ℕ
write_number r out =
    refusal
    (row (not (eqb (length out) field_size)) 20
    ∷ row (ltb 1 r.flag || (ltb 1 r.links || leb (2 ^ 62) r.tdms)) 33
    ∷ row (bad_field r) 44
    ∷ [])

unfoldable pub written_after : Field → List ℕ → List ℕ
written_after r out = done (write_number r out) (field_bytes r) out

unfoldable pub pack_number : Tdms → ℕ
pack_number s =
    refusal
    (row
    (leb 1024 s.fln1 || (leb 1024 s.lln1 || (leb 1024 s.fln2 || (leb 1024 s.lln2
    || (leb 2048 s.fcp || leb 2048 s.lcp))))) 33
    ∷ [])

unfoldable pub packed : Tdms → ℕ
packed s = given (pack_number s) (tdms_of s.fln1 s.lln1 s.fln2 s.lln2 s.fcp s.lcp)

unfoldable pub numbers_of : ℕ → Tdms
numbers_of t =
    record { fln1 = fln1 t; lln1 = lln1 t; fln2 = fln2 t; lln2 = lln2 t; fcp = fcp t; lcp = lcp t }

unfoldable pub unpack_number : ℕ → ℕ
unpack_number t = refusal (row (leb (2 ^ 62) t) 33 ∷ [])

unfoldable pub unpacked : ℕ → Tdms
unpacked t =
    let n = unpack_number t in
    let s = numbers_of t in
    record {
      fln1 = given n s.fln1;
      lln1 = given n s.lln1;
      fln2 = given n s.fln2;
      lln2 = given n s.lln2;
      fcp = given n s.fcp;
      lcp = given n s.lcp;
    }
