-- What an image is received as, case by case.
--
--   answer-length      20: not 94 bytes
--   type_number s       28, 29, 47, 30 by the type, otherwise 0; number-unreadable .. number-data: each of these
--   answer-type        refused with this number, whatever the protection
--   IsData, is_data     this number is 0; by-type: otherwise the packet is refused
--   answer-plain, answer-protected    a data packet: its 90 bytes; its 45, or 31
--   data-short, data-whole            which of the two, by the place
--   word-place                        31 is given where a word fails, and the place is below 30
--   type-found, type-missed           what the type reader's answer says of the type
--   useful-read, useful-length        the 90 useful bytes
--   filled-begins                     a room that is filled begins with what was put into it
--   received-length                   whatever is received, there are 90 bytes
--   received-either                   94 bytes are read, or refused with 28, 29, 47, 30 or 31
--
-- Assumes nothing.
use mathlib.Core.Path.{◌≡◌, refl, sym, ap, ◌∙◌, subst}
use mathlib.Core.Bool.{Bool, true, false, cond, not}
use mathlib.Core.List.{List, [], ◌∷◌}
use mathlib.Core.Logic.{◌⊎◌, inl, inr}
use Prim.Native.Nat.{ℕ, zero, suc, ◌-◌, ◌≤◌, ◌<◌}
use borrow.Author.Tests.{le-leb, lt-leb, lt-ltb, le-ltb, ltb-true, eq-eqb, ne_eqb}
use lib.Dec.{leb, eqb, ltb}
use native.Mathlib.Decide.{ℕ_discrete}
use native.Mathlib.Omega.{arith}
use lib.ListN.{length, get_or, take, drop, length-append}
use lib.Seq.{take_at}
use Rattle.bits.specs.Bits.{blank}
use Rattle.bits.specs.Rows.{Row, row, refusal, given, further}
use Rattle.bits.proofs.Rows.{refusal-hit, refusal-miss, refusal-none, further-refused, further-passed}
use Rattle.bits.proofs.Storing.{blank-length}
use Rattle.bare.specs.Bare.{header_read, type_read}
use Rattle.bare.specs.Bare.{TypeAnswer}
use Rattle.bare.proofs.Types.{type-readable, type-unreadable}
use Rattle.image.specs.Image.{header_of, bytes_of}
use Rattle.image.proofs.Laws as image
use Rattle.words.specs.Protected.{data_read}
use Rattle.words.specs.Protected.{DataAnswer}
use Rattle.words.proofs.Each.{read_length}
use Rattle.faults.specs.Faults.{number, type_unreadable, type_control, type_reserved, type_scrambled, word_unreadable, unreadables, rows_by, Numbered}
use Rattle.packet.specs.Received.{type_of, useful_of, unreadable, has_fault, received_number, received_bytes, filled, received, refused_as, readable_as, data_as}
use Rattle.packet.specs.Damage.{Refused}
use Rattle.packet.specs.Received.{ReadingAnswer}

-- the index that the header is read with
abbrev pub index_of : List ℕ → ℕ
index_of s = (header_read (header_of s)).index

unfoldable pub received_as : Bool → List ℕ → ℕ → ReadingAnswer
received_as p s answer = record {
  number = answer;
  place = cond (eqb answer (number word_unreadable)) (data_read (useful_of s)).place 0;
  index = given answer (index_of s);
  bytes = filled answer (received_bytes p s);
}

received_as_lem : (p : Bool) (s : List ℕ) (k : ℕ) → received_number p s ≡ k → received p s ≡ received_as p s k
unfolding received received_as
received_as_lem p s k e = ap (received_as p s) e

pub answer-length : (p : Bool) (s : List ℕ) → (length s ≡ 94 → ⊥) → received p s ≡ refused_as 20 0
unfolding received_as received_number given filled
answer-length p s ne = received_as_lem p s 20 (refusal-hit (not (eqb (length s) 94)) 20 _ (ap not (ne_eqb (length s) 94 ne)))

-- ---- 94 bytes: by the type

-- the rows of the types, by their tests, and then others
abbrev type_rows : Bool → Bool → Bool → Bool → List Row → ℕ
type_rows a b c d rest = refusal (row a (number type_unreadable) ∷ row b (number type_control) ∷ row c (number type_reserved) ∷ row d (number type_scrambled) ∷ rest)

rows-further : (a b c d : Bool) (rest : List Row) → type_rows a b c d rest ≡ further (type_rows a b c d []) (refusal rest)
unfolding refusal further
rows-further true b c d rest = refl
rows-further false true c d rest = refl
rows-further false false true d rest = refl
rows-further false false false true rest = refl
rows-further false false false false rest = refl

rows-numbered : (a b c d : Bool) → (type_rows a b c d [] ≡ 0) ⊎ Numbered unreadables (type_rows a b c d [])
unfolding refusal
rows-numbered true b c d = inr (inl refl)
rows-numbered false true c d = inr (inr (inl refl))
rows-numbered false false true d = inr (inr (inr (inl refl)))
rows-numbered false false false true = inr (inr (inr (inr (inl refl))))
rows-numbered false false false false = inl refl

-- none of their numbers is 31
rows-refused : (p : Bool) (s : List ℕ) (a b c d : Bool) → (type_rows a b c d [] ≡ 0 → ⊥) → received_as p s (type_rows a b c d []) ≡ refused_as (type_rows a b c d []) 0
unfolding received_as refusal given filled
rows-refused p s true b c d ne = refl
rows-refused p s false true c d ne = refl
rows-refused p s false false true d ne = refl
rows-refused p s false false false true ne = refl
rows-refused p s false false false false ne = absurd (ne refl)

-- the number of a type, and of a packet by its type
abbrev type_at : ℕ → ℕ
type_at t = type_rows (leb 256 t) (eqb t 0x3F) (eqb t 0xC7) (eqb t 0xF8) []

abbrev pub type_number : List ℕ → ℕ
type_number s = refusal (rows_by (has_fault false s) (type_unreadable ∷ type_control ∷ type_reserved ∷ type_scrambled ∷ []))

module _ (s : List ℕ) where
  pub number-unreadable : 256 ≤ type_of s → number type_unreadable ≡ type_number s
  number-unreadable h = sym (refusal-hit (leb 256 (type_of s)) (number type_unreadable) _ (le-leb 256 (type_of s) h))

  pub number-control : type_of s ≡ 0x3F → number type_control ≡ type_number s
  unfolding refusal
  number-control e = sym (ap type_at e)

  pub number-reserved : type_of s ≡ 0xC7 → number type_reserved ≡ type_number s
  unfolding refusal
  number-reserved e = sym (ap type_at e)

  pub number-scrambled : type_of s ≡ 0xF8 → number type_scrambled ≡ type_number s
  unfolding refusal
  number-scrambled e = sym (ap type_at e)

  pub number-data : type_of s < 256 → (type_of s ≡ 0x3F → ⊥) → (type_of s ≡ 0xC7 → ⊥) → (type_of s ≡ 0xF8 → ⊥) → 0 ≡ type_number s
  number-data h a b c =
      sym
      (refusal-miss (leb 256 (type_of s)) (number type_unreadable) _ (lt-leb 256 (type_of s) h)
      ∙ refusal-miss (eqb (type_of s) 0x3F) (number type_control) _ (ne_eqb (type_of s) 0x3F a)
      ∙ refusal-miss (eqb (type_of s) 0xC7) (number type_reserved) _ (ne_eqb (type_of s) 0xC7 b)
      ∙ refusal-miss (eqb (type_of s) 0xF8) (number type_scrambled) _ (ne_eqb (type_of s) 0xF8 c) ∙ refusal-none)

module _ (p : Bool) (s : List ℕ) (l : length s ≡ 94) where
  -- past the row of 20
  typed : received_number p s ≡ further (type_number s) (refusal (row (unreadable p (useful_of s)) (number word_unreadable) ∷ []))
  unfolding received_number
  typed =
      refusal-miss (not (eqb (length s) 94)) 20 _ (ap not (eq-eqb (length s) 94 l))
      ∙ rows-further (leb 256 (type_of s)) (eqb (type_of s) 0x3F) (eqb (type_of s) 0xC7) (eqb (type_of s) 0xF8) _

  -- a packet refused by its type, whatever its protection
  pub answer-type : (n : ℕ) → n ≡ type_number s → (n ≡ 0 → ⊥) → received p s ≡ refused_as n 0
  answer-type n e ne =
      let other : type_number s ≡ 0 → ⊥ = λ z. ne (e ∙ z) in
      received_as_lem p s (type_number s) (typed ∙ further-refused (type_number s) _ other)
      ∙ rows-refused p s (leb 256 (type_of s)) (eqb (type_of s) 0x3F) (eqb (type_of s) 0xC7) (eqb (type_of s) 0xF8) other
      ∙ ap (λ (k : ℕ). refused_as k 0) (sym e)

  data-number : type_number s ≡ 0 → received_number p s ≡ refusal (row (unreadable p (useful_of s)) (number word_unreadable) ∷ [])
  data-number z = typed ∙ further-passed (type_number s) _ z

-- a data packet: its type refuses nothing
pub record IsData (s : List ℕ) : Type 0 where
  pub size : length s ≡ 94
  pub type : type_number s ≡ 0

pub is_data : (s : List ℕ) → length s ≡ 94 → type_of s ≡ 0x00 → IsData s
unfolding refusal
is_data s l e = record { size = l; type = ap type_at e }

-- by its type a packet is refused, or it is a data packet
pub by-type : (p : Bool) (s : List ℕ) → length s ≡ 94 → Refused (received p s) ⊎ IsData s
by-type p s l = go (rows-numbered (leb 256 (type_of s)) (eqb (type_of s) 0x3F) (eqb (type_of s) 0xC7) (eqb (type_of s) 0xF8)) (ℕ_discrete (type_number s) 0)
  where
    go : (type_number s ≡ 0) ⊎ Numbered unreadables (type_number s) → Dec (type_number s ≡ 0) → Refused (received p s) ⊎ IsData s
    go n (yes z) = inr (record { size = l; type = z })
    go (inl z) (no ne) = absurd (ne z)
    go (inr n) (no ne) = inl (subst (λ (r : ReadingAnswer). Refused r) (sym (answer-type p s l (type_number s) refl ne)) n)

pub answer-plain : (s : List ℕ) → IsData s → received false s ≡ readable_as (index_of s) (useful_of s)
unfolding received_as refusal unreadable given received_bytes
answer-plain s d = received_as_lem false s 0 (data-number false s d.size d.type)

short-number : (s : List ℕ) → IsData s → (b : Bool) → ltb (data_read (useful_of s)).place 30 ≡ b
    → received_number true s ≡ refusal (row b (number word_unreadable) ∷ [])
unfolding unreadable
short-number s d b e =
    data-number true s d.size d.type
    ∙ ap (λ (x : Bool). refusal (row x (number word_unreadable) ∷ [])) e

pub answer-protected : (s : List ℕ) → IsData s → received true s ≡ data_as (index_of s) (data_read (useful_of s))
unfolding received_as refusal given filled received_bytes
answer-protected s d = go (ltb (data_read (useful_of s)).place 30) refl
  where
    either : Bool → ReadingAnswer
    either b = cond b (refused_as (number word_unreadable) (data_read (useful_of s)).place) (readable_as (index_of s) (data_read (useful_of s)).bytes)

    go : (b : Bool) → ltb (data_read (useful_of s)).place 30 ≡ b → received true s ≡ data_as (index_of s) (data_read (useful_of s))
    go true e = received_as_lem true s (number word_unreadable) (short-number s d true e) ∙ sym (ap either e)
    go false e = received_as_lem true s 0 (short-number s d false e) ∙ sym (ap either e)

-- 31 is no number of a type
types-below : (a b c d : Bool) → type_rows a b c d [] ≡ 31 → ⊥
unfolding refusal
types-below true b c d e = omega (arith, e)
types-below false true c d e = omega (arith, e)
types-below false false true d e = omega (arith, e)
types-below false false false true e = omega (arith, e)
types-below false false false false e = omega (arith, e)

pub word-place : (p : Bool) (s : List ℕ) → length s ≡ 94 → received_number p s ≡ 31 → (data_read (useful_of s)).place < 30
unfolding refusal unreadable
word-place p s l e = go (ℕ_discrete (type_number s) 0)
  where
    rows : (q b : Bool) → unreadable q (useful_of s) ≡ b → refusal (row b 31 ∷ []) ≡ 31 → (data_read (useful_of s)).place < 30
    rows true true t n = ltb-true (data_read (useful_of s)).place 30 t
    rows false true t n = absurd (omega (arith, ap (λ (x : Bool). cond {A = ℕ} x 1 0) t))
    rows q false t n = absurd (omega (arith, n))

    go : Dec (type_number s ≡ 0) → (data_read (useful_of s)).place < 30
    go (yes z) = rows p (unreadable p (useful_of s)) refl (sym (data-number p s l z) ∙ e)
    go (no n) =
        absurd (types-below (leb 256 (type_of s)) (eqb (type_of s) 0x3F) (eqb (type_of s) 0xC7) (eqb (type_of s) 0xF8)
        (sym (typed p s l ∙ further-refused (type_number s) _ n) ∙ e))

pub data-short : (i : ℕ) (d : DataAnswer) → d.place < 30 → data_as i d ≡ refused_as (number word_unreadable) d.place
data-short i d h = ap (λ (b : Bool). cond b (refused_as (number word_unreadable) d.place) (readable_as i d.bytes)) (lt-ltb d.place 30 h)

pub data-whole : (i : ℕ) (d : DataAnswer) → 30 ≤ d.place → data_as i d ≡ readable_as i d.bytes
data-whole i d h = ap (λ (b : Bool). cond b (refused_as (number word_unreadable) d.place) (readable_as i d.bytes)) (le-ltb d.place 30 h)

-- ---- what the readers of the parts found

module _ (s : List ℕ) (b : ℕ) (k : TypeAnswer) (e : b ≡ get_or (bytes_of s) 0 0) (r : k ≡ type_read b) where
  read : k ≡ type_read (get_or (bytes_of s) 0 0)
  read = r ∙ ap type_read e

  pub type-found : k.number ≡ 0 → (type_of s < 256) × (k.value ≡ type_of s)
  unfolding type_of
  type-found z =
      let t = type-readable (get_or (bytes_of s) 0 0) (sym (ap (λ (x : TypeAnswer). x.number) read) ∙ z) in
      (t.0, ap (λ (x : TypeAnswer). x.value) read ∙ t.1)

  pub type-missed : (k.number ≡ 0 → ⊥) → 256 ≤ type_of s
  unfolding type_of
  type-missed ne = type-unreadable (get_or (bytes_of s) 0 0) (λ z. ne (ap (λ (x : TypeAnswer). x.number) read ∙ z))

-- the useful bytes are the 91 without the first
pub useful-read : (s b : List ℕ) → b ≡ drop 1 (bytes_of s) → b ≡ useful_of s
unfolding useful_of
useful-read s b e = e

pub useful-length : (s : List ℕ) → length (useful_of s) ≡ 90
unfolding useful_of
useful-length s = image.useful-length s

-- ---- the sizes, and the numbers that there are

filled-length : (n : ℕ) (b : List ℕ) → length b ≤ 90 → length (filled n b) ≡ 90
unfolding filled
filled-length zero b h = length-append b (blank (90 - length b)) ∙ omega (arith, blank-length (90 - length b))
filled-length (suc n) b h = blank-length 90

pub filled-begins : (n : ℕ) (b : List ℕ) → length b ≡ n → take n (filled 0 b) ≡ b
unfolding filled
filled-begins n b l = take_at b _ n l

bytes_le : (p : Bool) (s : List ℕ) → length (received_bytes p s) ≤ 90
unfolding received_bytes
bytes_le false s = omega (arith, useful-length s)
bytes_le true s = omega (arith, read_length (useful_of s))

pub received-length : (p : Bool) (s : List ℕ) → length (received p s).bytes ≡ 90
unfolding received
received-length p s = filled-length (received_number p s) (received_bytes p s) (bytes_le p s)

pub received-either : (p : Bool) (s : List ℕ) → length s ≡ 94 → ((received p s).number ≡ 0) ⊎ Refused (received p s)
unfolding received refusal
received-either p s l = go (by-type p s l)
  where
    -- by the word
    one : (b : Bool) → let n = refusal (row b (number word_unreadable) ∷ []) in (n ≡ 0) ⊎ Numbered unreadables n
    one true = inr (inr (inr (inr (inr (inl refl)))))
    one false = inl refl

    go : Refused (received p s) ⊎ IsData s → ((received p s).number ≡ 0) ⊎ Refused (received p s)
    go (inl r) = inr r
    go (inr d) =
        subst (λ (n : ℕ). (n ≡ 0) ⊎ Numbered unreadables n) (sym (data-number p s d.size d.type)) (one (unreadable p (useful_of s)))
