-- The images of a worked channel (`Channel`): packets of protected data to address 17, some of them damaged as far as demand 3
-- lets them be, and what each is received as.
--
--   worked-sent, worked-carried     packet c of group i is 45 bytes of the value 4 * i + c, modulo 256
--   as-sent i c, hit i c x          its image, and this image so flipped
--   header-three, word-three, word-four, type-two       what is flipped; header-counted, word-three-counted,
--                                   word-four-counted, type-counted: exactly so many bits
--   word-four-beyond                four in a word are more than the codes correct
--   type-four, type-vanishes, type-beyond     four flips in a type byte are outside of demand 3's words: it is read as 3F, and 29
--   Receives i c image n            the image may come of that packet, and it is received with the number n
--   sent-receives, header-receives, word-three-receives, type-receives      0
--   word-four-receives              31
--   told, told-comes                what came of a control packet to 17, with three flips in its header and two in its type byte
--   other, other-counted, other-read, other-apart     a packet to address 18, with three flips in its header too
--   spare-one, spare-read, spare-apart    packet 1 of group 2 with its spare bit set: read as 17, and counted as lost
--   cut, cut-read, cut-number, cut_apart  packet 2 of group 2 without its last byte: read as 17, 20, and counted as lost
--   strict, strict-flips, strict-read, strict_apart     packet 3 of group 2 with three flips in its header: read as 17, and at the setting 2
--                                   counted as lost
--
-- Assumes nothing.
use mathlib.Core.Path.{◌≡◌, refl, sym, ap, ◌∙◌}
use mathlib.Core.Bool.{true}
use mathlib.Core.List.{List}
use mathlib.Core.Logic.{inl, inr}
use Prim.Native.Nat.{ℕ, zero, suc, ◌+◌, ◌*◌, ◌%◌, ◌^◌, ◌≤◌, ◌<◌}
use native.Mathlib.Omega.{arith}
use lib.Count.{ones, ones_in}
use lib.Dec.{lit<, lit≤}
use lib.ListN.{length, get_or, take, replicate, length-replicate}
use lib.Seq.{length-take-le, take-take}
use Rattle.bits.specs.Bits.{flips, number, sent, blank}
use Rattle.bits.proofs.Storing.{blank-length}
use Rattle.runs.proofs.Parts.{blank-at}
use Rattle.bits.proofs.Flips.{ones-in, ones-zero, flips-same}
use Rattle.bits.proofs.Runs.{sent-take}
use Rattle.bare.specs.Bare.{header_read, types, type_near}
use Rattle.image.specs.Image.{header_of, bytes_of, spare_of}
use Rattle.packet.specs.Received.{received}
use Rattle.packet.specs.Damage.{sent_image, Came, Corrected}
use Rattle.packet.specs.Received.{ReadingAnswer}
use Rattle.packet.proofs.Answers.{answer-length}
use Rattle.packet.proofs.Damages.{sent-corrected, corrected-came, sent-spare, received-sent, header-came, header-flipped-by}
use Rattle.packet.proofs.Flipped.{Flipping, flipped, Fits, word_flips, flipped-spare, flipped-header, flipped-type, flipped_word, flipped-came, flipped-read, flipped-short, flipped-control, control-came, spare_set, spare_set-spare, spare_set-header}
use Rattle.history.specs.Sent.{Sent}
use Rattle.adapter.specs.Calls.{address_of, flips_of}
use Rattle.demands.specs.Machine.{packet, Bytes}
use Rattle.demands.specs.Demand3.{Carries, Apart, ComesControl}

-- ---- what is sent

unfoldable pub worked-sent : Sent
worked-sent i c = replicate 45 ((4 * i + c) % 256)

replicate-bytes : (n v : ℕ) → v < 256 → Bytes (replicate n v)
replicate-bytes zero v h k = lit< tt
replicate-bytes (suc n) v h zero = h
replicate-bytes (suc n) v h (suc k) = replicate-bytes n v h k

sent-size : (i c : ℕ) → length (worked-sent i c) ≡ 45
unfolding worked-sent
sent-size i c = length-replicate 45 ((4 * i + c) % 256)

sent-bytes : (i c : ℕ) → Bytes (worked-sent i c)
unfolding worked-sent
sent-bytes i c = replicate-bytes 45 ((4 * i + c) % 256) (omega arith)

pub worked-carried : Carries true worked-sent
worked-carried = record { size = λ i c h. sent-size i c; bytes = λ i c h. sent-bytes i c }

-- ---- what comes of a packet

pub record Receives (i c : ℕ) (image : List ℕ) (n : ℕ) : Type 0 where
  pub came : Came true 3 (sent_image true 17 c (worked-sent i c)) image
  pub spare : spare_of image ≡ 0
  pub number : (received true image).number ≡ n

abbrev pub as-sent : ℕ → ℕ → List ℕ
as-sent i c = sent_image true 17 c (worked-sent i c)

pub sent-receives : (i c : ℕ) → c < 4 → Receives i c (as-sent i c) 0
sent-receives i c h = record {
  came = corrected-came true 3 (as-sent i c) (as-sent i c) (sent-corrected true 3 17 c (worked-sent i c));
  spare = sent-spare true 17 c (worked-sent i c) (lit≤ tt) (omega arith) (sent-size i c) (sent-bytes i c);
  number = ap (λ (r : ReadingAnswer). r.number) (received-sent true 17 c (worked-sent i c) (lit≤ tt) (omega arith) (sent-size i c) (sent-bytes i c));
}

-- the lowest bit of the address, the highest of the index and the last of the remainder
abbrev pub header-three : Flipping
header-three = record { header = 0x400801; type = 0x00; place = 0; word = 0 }

-- the first and the last bit of the last word, and one between
abbrev pub word-three : Flipping
word-three = record { header = 0; type = 0x00; place = 29; word = 0x801001 }

abbrev pub word-four : Flipping
word-four = record { header = 0; type = 0x00; place = 29; word = 0x801003 }

abbrev pub type-two : Flipping
type-two = record { header = 0; type = 0x03; place = 0; word = 0 }

abbrev pub type-four : Flipping
type-four = record { header = 0; type = 0x0F; place = 0; word = 0 }

-- of 3F
abbrev pub control-five : Flipping
control-five = record { header = 0x400801; type = 0xFF; place = 0; word = 0 }

abbrev pub hit : ℕ → ℕ → Flipping → List ℕ
hit i c x = flipped 17 c (worked-sent i c) x

fits : (a i c : ℕ) (x : Flipping) → a ≤ 1023 → c < 4 → x.header < 2 ^ 23 → x.type < 256 → x.place < 30 → x.word < 2 ^ 24
    → Fits a c (worked-sent i c) x
fits a i c x ha hc h t p w = record {
  address = ha;
  index = omega arith;
  size = sent-size i c;
  bytes = sent-bytes i c;
  header = h;
  type = t;
  place = p;
  word = w;
}

three-ones : ones 0x400801 ≡ 3
unfolding ones_in
three-ones = ones-in 23 0x400801 (lit< tt)

three-word-ones : ones 0x801001 ≡ 3
unfolding ones_in
three-word-ones = ones-in 24 0x801001 (lit< tt)

four-word-ones : ones 0x801003 ≡ 4
unfolding ones_in
four-word-ones = ones-in 24 0x801003 (lit< tt)

type-flips : flips 0x00 0x03 ≡ 2
unfolding flips ones ones_in
type-flips = refl

four-flips : flips 0x00 0x0F ≡ 4
unfolding flips ones ones_in
four-flips = refl

control-flips : flips 0x3F 0xFF ≡ 2
unfolding flips ones ones_in
control-flips = refl

plain-near : type_near types 0x00 ≡ 0x00
unfolding type_near flips ones ones_in
plain-near = refl

-- 0F is two flips from 3F
control-near : type_near types 0x0F ≡ 0x3F
unfolding type_near flips ones ones_in
control-near = refl

no-flips : flips 0x00 0x00 ≤ 2
no-flips = omega (arith, flips-same 0x00)

no_ones : (n : ℕ) → ones 0 ≤ n
no_ones n = omega (arith, ones-zero)

module _ (i c : ℕ) (h : c < 4) where
  header-fits : Fits 17 c (worked-sent i c) header-three
  header-fits = fits 17 i c header-three (lit≤ tt) h (lit< tt) (lit< tt) (lit< tt) (lit< tt)

  three-fits : Fits 17 c (worked-sent i c) word-three
  three-fits = fits 17 i c word-three (lit≤ tt) h (lit< tt) (lit< tt) (lit< tt) (lit< tt)

  four-fits : Fits 17 c (worked-sent i c) word-four
  four-fits = fits 17 i c word-four (lit≤ tt) h (lit< tt) (lit< tt) (lit< tt) (lit< tt)

  type-fits : Fits 17 c (worked-sent i c) type-two
  type-fits = fits 17 i c type-two (lit≤ tt) h (lit< tt) (lit< tt) (lit< tt) (lit< tt)

  vanished-fits : Fits 17 c (worked-sent i c) type-four
  vanished-fits = fits 17 i c type-four (lit≤ tt) h (lit< tt) (lit< tt) (lit< tt) (lit< tt)

  -- ---- exactly so many

  pub header-counted : flips (header_of (as-sent i c)) (header_of (hit i c header-three)) ≡ 3
  header-counted = flipped-header 17 c (worked-sent i c) header-three header-fits ∙ three-ones

  pub word-three-counted : word_flips (as-sent i c) (hit i c word-three) 29 ≡ 3
  word-three-counted = flipped_word 17 c (worked-sent i c) word-three three-fits ∙ three-word-ones

  pub word-four-counted : word_flips (as-sent i c) (hit i c word-four) 29 ≡ 4
  word-four-counted = flipped_word 17 c (worked-sent i c) word-four four-fits ∙ four-word-ones

  pub type-counted : flips (get_or (bytes_of (as-sent i c)) 0 0) (get_or (bytes_of (hit i c type-two)) 0 0) ≡ 2
  type-counted = flipped-type 17 c (worked-sent i c) type-two type-fits ∙ type-flips

  -- so these four are not within what the codes correct
  pub word-four-beyond : Corrected true 3 (as-sent i c) (hit i c word-four) → ⊥
  word-four-beyond q = omega (arith, word-four-counted, q.useful 29 (lit< tt))

  -- four in a type byte may not come by demand 3's words: the packet would be taken for a control packet, and vanish
  pub type-vanishes : (received true (hit i c type-four)).number ≡ 29
  type-vanishes = flipped-control 17 c (worked-sent i c) type-four vanished-fits control-near

  pub type-beyond : Came true 3 (as-sent i c) (hit i c type-four) → ⊥
  type-beyond q = omega (arith, flipped-type 17 c (worked-sent i c) type-four vanished-fits, four-flips, q.type)

  -- ---- and received so

  pub header-receives : Receives i c (hit i c header-three) 0
  header-receives =
      let few : ones 0x400801 ≤ 3 = omega (arith, three-ones) in
      record {
        came = flipped-came 17 c (worked-sent i c) header-three header-fits 3 few no-flips (no_ones 4);
        spare = flipped-spare 17 c (worked-sent i c) header-three header-fits;
        number = ap (λ (r : ReadingAnswer). r.number) (flipped-read 17 c (worked-sent i c) header-three header-fits few no-flips (no_ones 3));
      }

  pub word-three-receives : Receives i c (hit i c word-three) 0
  word-three-receives =
      let few : ones 0x801001 ≤ 3 = omega (arith, three-word-ones) in
      record {
        came = flipped-came 17 c (worked-sent i c) word-three three-fits 3 (no_ones 3) no-flips (omega (arith, few));
        spare = flipped-spare 17 c (worked-sent i c) word-three three-fits;
        number = ap (λ (r : ReadingAnswer). r.number) (flipped-read 17 c (worked-sent i c) word-three three-fits (no_ones 3) no-flips few);
      }

  pub word-four-receives : Receives i c (hit i c word-four) 31
  word-four-receives = record {
    came = flipped-came 17 c (worked-sent i c) word-four four-fits 3 (no_ones 3) no-flips (omega (arith, four-word-ones));
    spare = flipped-spare 17 c (worked-sent i c) word-four four-fits;
    number = flipped-short 17 c (worked-sent i c) word-four four-fits plain-near four-word-ones;
  }

  pub type-receives : Receives i c (hit i c type-two) 0
  type-receives =
      let two : flips 0x00 0x03 ≤ 2 = omega (arith, type-flips) in
      record {
        came = flipped-came 17 c (worked-sent i c) type-two type-fits 3 (no_ones 3) two (no_ones 4);
        spare = flipped-spare 17 c (worked-sent i c) type-two type-fits;
        number = ap (λ (r : ReadingAnswer). r.number) (flipped-read 17 c (worked-sent i c) type-two type-fits (no_ones 3) two (no_ones 3));
      }

-- ---- what comes of a control packet

-- sent with index 2, which no group awaits where it stands, and 90 bytes of 0; what came has other useful bytes
abbrev pub told : List ℕ
told = flipped 17 2 (worked-sent 0 2) control-five

pub told-comes : ComesControl 17 3 told
told-comes =
    let fit = fits 17 0 2 control-five (lit≤ tt) (lit< tt) (lit< tt) (lit< tt) (lit< tt) (lit< tt) in
    record {
      index = 2;
      useful = blank 90;
      below = lit< tt;
      size = blank-length 90;
      bytes = λ k. omega (arith, blank-at 90 k);
      came = control-came 17 2 (worked-sent 0 2) control-five fit 3 (blank 90) (blank-length 90) (λ k. omega (arith, blank-at 90 k))
          (omega (arith, three-ones)) (omega (arith, control-flips));
      spare = flipped-spare 17 2 (worked-sent 0 2) control-five fit;
    }

-- ---- what comes of none that was sent to the address, or is counted as lost

abbrev pub other : List ℕ
other = flipped 18 0 (worked-sent 0 0) header-three

other_fits : Fits 18 0 (worked-sent 0 0) header-three
other_fits = fits 18 0 0 header-three (lit≤ tt) (lit< tt) (lit< tt) (lit< tt) (lit< tt) (lit< tt)

pub other-counted : flips (header_of (sent_image true 18 0 (worked-sent 0 0))) (header_of other) ≡ 3
other-counted = flipped-header 18 0 (worked-sent 0 0) header-three other_fits ∙ three-ones

pub other-read : address_of other ≡ 18
unfolding address_of
other-read =
    (header-came true 18 0 (worked-sent 0 0) (lit≤ tt) (lit≤ tt) (sent-size 0 0) (sent-bytes 0 0) other (omega (arith, other-counted))).0

pub other-apart : Apart 17 3 (packet other)
unfolding Apart
other-apart = inr (λ q. omega (arith, q, other-read))

abbrev pub spare-one : List ℕ
spare-one = spare_set (as-sent 2 1)

long : (i c : ℕ) → c < 4 → length (as-sent i c) ≡ 94
long i c h = (sent-receives i c h).came.size

sent-read : (i c : ℕ) → c < 4 → (header_read (header_of (as-sent i c))).address ≡ 17
sent-read i c h =
    (header-came true 17 c (worked-sent i c) (lit≤ tt) (omega arith) (sent-size i c) (sent-bytes i c) (as-sent i c) (sent-receives i c h).came.header).0

-- it is the spare bit alone that makes it none of the address's
pub spare-read : address_of spare-one ≡ 17
unfolding address_of
spare-read = ap (λ (n : ℕ). (header_read n).address) (spare_set-header (as-sent 2 1) (long 2 1 (lit< tt))) ∙ sent-read 2 1 (lit< tt)

pub spare-apart : Apart 17 3 (packet spare-one)
unfolding Apart
spare-apart = inl (inr (inl (spare_set-spare (as-sent 2 1) (long 2 1 (lit< tt)))))

abbrev pub cut : List ℕ
cut = take 93 (as-sent 2 2)

cut_short : length cut ≡ 94 → ⊥
cut_short q = omega (arith, q, length-take-le 93 (as-sent 2 2) (omega (arith, long 2 2 (lit< tt))))

-- and it is the length alone here
pub cut-read : address_of cut ≡ 17
unfolding address_of header_of
cut-read =
    let bits = sent 8 (as-sent 2 2) in
    ap (λ (bs : List ℕ). (header_read (number (take 23 bs))).address) (sym (sent-take 8 93 (as-sent 2 2)))
    ∙ ap (λ (bs : List ℕ). (header_read (number bs)).address) (take-take 23 744 bits (lit≤ tt))
    ∙ sent-read 2 2 (lit< tt)

pub cut-number : (received true cut).number ≡ 20
cut-number = ap (λ (r : ReadingAnswer). r.number) (answer-length true cut cut_short)

pub cut_apart : Apart 17 3 (packet cut)
unfolding Apart
cut_apart = inl (inl cut_short)

-- three flips in the header, where the setting is 2: it is read as the address, and yet lost
abbrev pub strict : List ℕ
strict = hit 2 3 header-three

pub strict-flips : flips_of strict ≡ 3
unfolding flips_of
strict-flips =
    header-flipped-by true 17 3 (worked-sent 2 3) (lit≤ tt) (lit≤ tt) (sent-size 2 3) (sent-bytes 2 3) strict
    (header-receives 2 3 (lit< tt)).came.header ∙ header-counted 2 3 (lit< tt)

pub strict-read : address_of strict ≡ 17
unfolding address_of
strict-read =
    (header-came true 17 3 (worked-sent 2 3) (lit≤ tt) (lit≤ tt) (sent-size 2 3) (sent-bytes 2 3) strict (header-receives 2 3 (lit< tt)).came.header).0

pub strict_apart : Apart 17 2 (packet strict)
unfolding Apart
strict_apart = inl (inr (inr (omega (arith, strict-flips))))
