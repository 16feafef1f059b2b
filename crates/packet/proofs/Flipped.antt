-- A sent packet of protected data with stated damage, and an image whose spare bit is set.
--
--   Flipping, flipped a c d x    what is flipped, and packet c of address a with the data d so flipped
--   Fits                         the numbers are in range
--   flipped-size, flipped-spare  94 bytes, spare bit 0
--   word_flips s t w              how many flips there are in word w of t, which came of s
--   flipped-header, flipped-type, flipped_word, flipped-other     how many flips there are, and where
--   flipped-came                 no more than are let pass in the header, two in the type byte and four in a word may come of what was
--                                sent
--   flipped-read                 three, three and two in the type byte are corrected
--   flipped-short                four in a word: 31
--   flipped-control              a type byte that is read as 3F: 29
--   control-came                 no more than are let pass in the header, and two in the type byte, may come of a control packet, whatever
--                                becomes of its useful bytes
--   spare_set s                   the image with its spare bit 1
--   spare_set-spare, spare_set-header
--
-- Assumes nothing.
use mathlib.Core.Path.{◌≡◌, sym, ap, ap₂, ◌∙◌, subst}
use mathlib.Core.Bool.{true}
use mathlib.Core.List.{List, [], ◌∷◌, ◌++◌, map, append-nil}
use Prim.Native.Nat.{ℕ, zero, suc, ◌+◌, ◌*◌, ◌^◌, ◌≤◌, ◌<◌}
use native.Mathlib.Omega.{arith}
use native.Mathlib.Decide.{dec_lt, ℕ_discrete}
use lib.Bits.{bit_xor, xor_lt}
use lib.Count.{ones}
use lib.Dec.{lit<, lit≤}
use lib.ListN.{length, get_or, set, take, drop, length-map, length-set, length-append}
use lib.Seq.{take_all, take-take, take-append-le, drop_at, length-take-le, get_or-set_same, get_or-set_other}
use Rattle.bits.specs.Bits.{flips, number, sent, numbers_in}
use Rattle.bits.proofs.Flips.{flips-of, flips-same}
use Rattle.bits.proofs.Runs.{Below, below-take, below-cat, sent-length, sent-below, numbers_in-length, numbers_in-below, numbers_in-sent, sent-numbers_in, below-cons}
use Rattle.bits.proofs.Storing.{get_d_map}
use Rattle.bare.specs.Bare.{types, type_near, word_written}
use Rattle.bare.specs.Bare.{WordAnswer}
use Rattle.bare.specs.Bare.{Written}
use Rattle.bare.proofs.Bare.{word-written}
use Rattle.bare.proofs.Theorems.{word-four, word-unreadable}
use Rattle.golay.specs.Code.{word23, word24, nearest}
use Rattle.golay.proofs.Words.{word23-lt, word24-lt}
use Rattle.image.specs.Image.{header_of, bytes_of, spare_of, image_of}
use Rattle.image.proofs.Laws.{image-length, header-image, bytes-image, spare-image}
use Rattle.words.specs.Protected.{protected, words_of, informations, failed, data_read, words_read}
use Rattle.words.proofs.Each.{failed-whole}
use Rattle.words.proofs.Packing.{words-protected, words-length, segments-below, segments-length, protected-length, protected-below, word24s-below}
use Rattle.packet.specs.Received.{type_of, useful_of, received, written, readable_as}
use Rattle.packet.specs.Damage.{sent_image, control_image, Kept, CameBy, Came, ControlCame}
use Rattle.packet.specs.Received.{ReadingAnswer}
use Rattle.packet.proofs.Answers.{index_of, number-control, answer-type, answer-protected, is_data, data-short}
use Rattle.packet.proofs.Damages.{written-header, written-bytes, sent-header, sent-useful, received-corrected}

-- ---- the image

pub record Flipping : Type 0 where
  -- the bits that are flipped in the header
  pub header : ℕ
  -- the type byte that came
  pub type : ℕ
  -- the word that is damaged, and its bits that are flipped
  pub place : ℕ
  pub word : ℕ

abbrev segments_of : List ℕ → List ℕ
segments_of d = numbers_in 12 30 (sent 8 d)

abbrev sent_words : List ℕ → List ℕ
sent_words d = map word24 (segments_of d)

abbrev words_with : List ℕ → Flipping → List ℕ
words_with d x = set (sent_words d) x.place (bit_xor (get_or (sent_words d) x.place 0) x.word)

abbrev useful_with : List ℕ → Flipping → List ℕ
useful_with d x = numbers_in 8 90 (sent 24 (words_with d x))

unfoldable pub flipped : ℕ → ℕ → List ℕ → Flipping → List ℕ
flipped a c d x = image_of (bit_xor (word23 (a + 1024 * c)) x.header) (x.type ∷ useful_with d x)

pub record Fits (a c : ℕ) (d : List ℕ) (x : Flipping) : Type 0 where
  pub address : a ≤ 1023
  pub index : c ≤ 3
  pub size : length d ≡ 45
  pub bytes : Below 256 d
  pub header : x.header < 2 ^ 23
  pub type : x.type < 256
  pub place : x.place < 30
  pub word : x.word < 2 ^ 24

abbrev pub word_flips : List ℕ → List ℕ → ℕ → ℕ
word_flips s t w = flips (get_or (words_of (useful_of s)) w 0) (get_or (words_of (useful_of t)) w 0)

-- ---- lists of bytes and words

set_below : (m : ℕ) (ns : List ℕ) (j n : ℕ) → n < m → Below m ns → Below m (set ns j n)
set_below m [] j n h hs k = hs k
set_below m (x ∷ ns) zero n h hs k = below-cons n ns h (λ i. hs (suc i)) k
set_below m (x ∷ ns) (suc j) n h hs k = below-cons x (set ns j n) (hs 0) (set_below m ns j n h (λ i. hs (suc i))) k

-- thirty words, as bytes and back
words-packed : (ns : List ℕ) → Below (2 ^ 24) ns → length ns ≡ 30 → words_of (numbers_in 8 90 (sent 24 ns)) ≡ ns
unfolding words_of
words-packed ns h l =
    let long : length (sent 24 ns) ≡ 720 = sent-length 24 ns ∙ ap (λ (x : ℕ). x * 24) l in
    ap (numbers_in 24 30)
    (sent-numbers_in 8 90 (sent 24 ns) (sent-below 24 ns) (omega (arith, long)) ∙ take_all 720 (sent 24 ns) (omega (arith, long)) ∙ sym (append-nil (sent 24 ns)))
    ∙ ap (λ (x : ℕ). numbers_in 24 x (sent 24 ns ++ [])) (sym l) ∙ numbers_in-sent 24 ns [] h

-- ---- what is in it

module _ (a c : ℕ) (d : List ℕ) (x : Flipping) (z : Fits a c d x) where
  small : a + 1024 * c < 4096
  small = omega (arith, z.address, z.index)

  -- the damaged word before and after
  abbrev information : ℕ
  information = get_or (segments_of d) x.place 0

  word-here : get_or (sent_words d) x.place 0 ≡ word24 information
  word-here = get_d_map word24 (segments_of d) x.place (omega (arith, z.place, segments-length d))

  words_long : length (sent_words d) ≡ 30
  words_long = length-map (segments_of d) word24 ∙ segments-length d

  with-long : length (words_with d x) ≡ 30
  with-long = length-set (sent_words d) x.place _ ∙ words_long

  with-below : Below (2 ^ 24) (words_with d x)
  with-below =
      let all = word24s-below (segments_of d) (segments-below d) in
      set_below (2 ^ 24) (sent_words d) x.place _ (xor_lt 24 (get_or (sent_words d) x.place 0) x.word (all x.place) z.word) all

  length-91 : length (x.type ∷ useful_with d x) ≡ 91
  length-91 = ap suc (numbers_in-length 8 90 (sent 24 (words_with d x)))

  pub flipped-size : length (flipped a c d x) ≡ 94
  unfolding flipped
  flipped-size = image-length (bit_xor (word23 (a + 1024 * c)) x.header) (x.type ∷ useful_with d x)

  pub flipped-spare : spare_of (flipped a c d x) ≡ 0
  unfolding flipped
  flipped-spare = spare-image (bit_xor (word23 (a + 1024 * c)) x.header) (x.type ∷ useful_with d x) length-91

  header-with : header_of (flipped a c d x) ≡ bit_xor (word23 (a + 1024 * c)) x.header
  unfolding flipped
  header-with =
      header-image (bit_xor (word23 (a + 1024 * c)) x.header) (x.type ∷ useful_with d x) length-91
      (xor_lt 23 (word23 (a + 1024 * c)) x.header (word23-lt (a + 1024 * c) small) z.header)

  bytes-with : bytes_of (flipped a c d x) ≡ x.type ∷ useful_with d x
  unfolding flipped
  bytes-with =
      bytes-image (bit_xor (word23 (a + 1024 * c)) x.header) (x.type ∷ useful_with d x) length-91
      (below-cons x.type (useful_with d x) z.type (numbers_in-below 8 90 (sent 24 (words_with d x)) (sent-below 24 (words_with d x))))

  words-with : words_of (useful_of (flipped a c d x)) ≡ words_with d x
  unfolding useful_of
  words-with = ap (λ (bs : List ℕ). words_of (drop 1 bs)) bytes-with ∙ words-packed (words_with d x) with-below with-long

  -- ---- and in what was sent

  type-sent : get_or (bytes_of (sent_image true a c d)) 0 0 ≡ 0x00
  unfolding written
  type-sent =
      ap (λ (bs : List ℕ). get_or bs 0 0)
      (bytes-image (word23 (a + 1024 * c)) (0x00 ∷ protected d) (ap suc (protected-length d))
      (below-cons 0x00 (protected d) (lit< tt) (protected-below d)))

  words-sent : words_of (useful_of (sent_image true a c d)) ≡ sent_words d
  words-sent = ap words_of (sent-useful true a c d z.address z.index z.size z.bytes) ∙ words-protected d

  -- ---- how many flips, and where

  pub flipped-header : flips (header_of (sent_image true a c d)) (header_of (flipped a c d x)) ≡ ones x.header
  flipped-header =
      ap₂ flips (sent-header true a c d z.address z.index z.size z.bytes) header-with
      ∙ flips-of (word23 (a + 1024 * c)) x.header

  pub flipped-type : flips (get_or (bytes_of (sent_image true a c d)) 0 0) (get_or (bytes_of (flipped a c d x)) 0 0) ≡ flips 0x00 x.type
  flipped-type = ap₂ flips type-sent (ap (λ (bs : List ℕ). get_or bs 0 0) bytes-with)

  pub flipped_word : word_flips (sent_image true a c d) (flipped a c d x) x.place ≡ ones x.word
  flipped_word =
      ap₂ (λ (us vs : List ℕ). flips (get_or us x.place 0) (get_or vs x.place 0)) words-sent words-with
      ∙ ap (flips (get_or (sent_words d) x.place 0)) (get_or-set_same (sent_words d) x.place _ 0 (omega (arith, z.place, words_long)))
      ∙ flips-of (get_or (sent_words d) x.place 0) x.word

  pub flipped-other : (w : ℕ) → (w ≡ x.place → ⊥) → word_flips (sent_image true a c d) (flipped a c d x) w ≡ 0
  flipped-other w ne =
      ap₂ (λ (us vs : List ℕ). flips (get_or us w 0) (get_or vs w 0)) words-sent words-with
      ∙ ap (flips (get_or (sent_words d) w 0)) (get_or-set_other (sent_words d) x.place w _ 0 ne)
      ∙ flips-same (get_or (sent_words d) w 0)

  flipped-kept : (most : ℕ) → ones x.word ≤ most → Kept most true (useful_of (sent_image true a c d)) (useful_of (flipped a c d x))
  flipped-kept most few w h = go (ℕ_discrete w x.place)
    where
      go : Dec (w ≡ x.place) → word_flips (sent_image true a c d) (flipped a c d x) w ≤ most
      go (yes e) = subst (λ (k : ℕ). word_flips (sent_image true a c d) (flipped a c d x) k ≤ most) (sym e) (omega (arith, few, flipped_word))
      go (no e) = omega (arith, flipped-other w e)

  flipped-by : (words most : ℕ) → ones x.header ≤ most → flips 0x00 x.type ≤ 2 → ones x.word ≤ words
      → CameBy (Kept words true) most (sent_image true a c d) (flipped a c d x)
  flipped-by words most few two four = record {
    size = flipped-size;
    header = omega (arith, few, flipped-header);
    type = omega (arith, two, flipped-type);
    useful = flipped-kept words four;
  }

  pub flipped-came : (most : ℕ) → ones x.header ≤ most → flips 0x00 x.type ≤ 2 → ones x.word ≤ 4
      → Came true most (sent_image true a c d) (flipped a c d x)
  flipped-came most few two four = flipped-by 4 most few two four

  -- ---- what it is received as

  pub flipped-read : ones x.header ≤ 3 → flips 0x00 x.type ≤ 2 → ones x.word ≤ 3 → received true (flipped a c d x) ≡ readable_as c d
  flipped-read few two three =
      received-corrected true 3 a c d (flipped a c d x) (omega arith) z.address z.index z.size z.bytes (flipped-by 3 3 few two three)

  type-with : type_of (flipped a c d x) ≡ type_near types x.type
  unfolding type_of
  type-with = ap (λ (bs : List ℕ). type_near types (get_or bs 0 0)) bytes-with

  -- the word with four flips is read as none
  word-unread : ones x.word ≡ 4 → nearest word24 (get_or (words_of (useful_of (flipped a c d x))) x.place 0) ≡ 4096
  word-unread four =
      ap (λ (ns : List ℕ). nearest word24 (get_or ns x.place 0)) words-with
      ∙ ap (nearest word24) (get_or-set_same (sent_words d) x.place _ 0 (omega (arith, z.place, words_long))
      ∙ ap (λ (n : ℕ). bit_xor n x.word) (word-here ∙ sym (ap (λ (w : Written). w.value) (word-written information (segments-below d x.place)))))
      ∙ word-unreadable (bit_xor (word_written information).value x.word) lt
      (λ q. omega (arith, q, ap (λ (w : WordAnswer). w.number) (word-four information x.word (segments-below d x.place) z.word four)))
    where
      lt : bit_xor (word_written information).value x.word < 2 ^ 24
      lt = xor_lt 24 (word_written information).value x.word
          (subst (λ (n : ℕ). n < 2 ^ 24) (sym (ap (λ (w : Written). w.value) (word-written information (segments-below d x.place))))
          (word24-lt information (segments-below d x.place))) z.word

  short : ones x.word ≡ 4 → (data_read (useful_of (flipped a c d x))).place < 30
  unfolding data_read words_read informations
  short four = go (dec_lt (failed (informations ns)) 30)
    where
      ns : List ℕ
      ns = words_of (useful_of (flipped a c d x))

      go : Dec (failed (informations ns) < 30) → failed (informations ns) < 30
      go (yes h) = h
      go (no h) =
          absurd (omega (
            arith,
            word-unread four,
            get_d_map (nearest word24) ns x.place (omega (arith, z.place, words-length (useful_of (flipped a c d x)))),
            failed-whole (informations ns) (omega (arith, h, length-map ns (nearest word24), words-length (useful_of (flipped a c d x)))) x.place,
          ))

  pub flipped-short : type_near types x.type ≡ 0x00 → ones x.word ≡ 4 → (received true (flipped a c d x)).number ≡ 31
  flipped-short plain four =
      let t : type_of (flipped a c d x) ≡ 0x00 = type-with ∙ plain in
      let is = is_data (flipped a c d x) flipped-size t in
      ap (λ (r : ReadingAnswer). r.number) (answer-protected (flipped a c d x) is
      ∙ data-short (index_of (flipped a c d x)) (data_read (useful_of (flipped a c d x))) (short four))

  pub control-came : (most : ℕ) (u : List ℕ) → length u ≡ 90 → Below 256 u → ones x.header ≤ most → flips 0x3F x.type ≤ 2
      → ControlCame most (control_image a c u) (flipped a c d x)
  control-came most u l b few two = record {
    size = flipped-size;
    header = omega (
      arith,
      few,
      ap₂ flips (written-header a c 0x3F u z.address z.index (lit< tt) l b) header-with,
      flips-of (word23 (a + 1024 * c)) x.header,
    );
    type = subst (λ (n : ℕ). n ≤ 2)
        (sym (ap₂ (λ (ss ts : List ℕ). flips (get_or ss 0 0) (get_or ts 0 0))
        (written-bytes a c 0x3F u z.address z.index (lit< tt) l b) bytes-with)) two;
    useful = tt;
  }

  pub flipped-control : type_near types x.type ≡ 0x3F → (received true (flipped a c d x)).number ≡ 29
  flipped-control control =
      ap (λ (r : ReadingAnswer). r.number) (answer-type true (flipped a c d x) flipped-size 29 (number-control (flipped a c d x) (type-with ∙ control)) (λ z. omega (arith, z)))

-- ---- the spare bit

unfoldable pub spare_set : List ℕ → List ℕ
spare_set s = numbers_in 8 94 (take 751 (sent 8 s) ++ (1 ∷ []))

module _ (s : List ℕ) (l : length s ≡ 94) where
  front_length : length (take 751 (sent 8 s)) ≡ 751
  front_length = length-take-le 751 (sent 8 s) (omega (arith, sent-length 8 s, l))

  one_below : Below 2 (1 ∷ [])
  one_below zero = lit< tt
  one_below (suc k) = lit< tt

  sent-spare_set : sent 8 (spare_set s) ≡ take 751 (sent 8 s) ++ (1 ∷ [])
  unfolding spare_set
  sent-spare_set =
      let bs = take 751 (sent 8 s) ++ (1 ∷ []) in
      let long : length bs ≡ 752 = length-append (take 751 (sent 8 s)) (1 ∷ []) ∙ ap (λ (n : ℕ). n + 1) front_length in
      sent-numbers_in 8 94 bs (below-cat (take 751 (sent 8 s)) (1 ∷ []) (below-take 751 (sent 8 s) (sent-below 8 s)) one_below) (omega (arith, long))
      ∙ take_all 752 bs (omega (arith, long))

  pub spare_set-spare : spare_of (spare_set s) ≡ 1
  unfolding spare_of number
  spare_set-spare =
      ap (λ (bs : List ℕ). number (drop 751 bs)) sent-spare_set
      ∙ ap number (drop_at (take 751 (sent 8 s)) (1 ∷ []) 751 front_length)

  pub spare_set-header : header_of (spare_set s) ≡ header_of s
  unfolding header_of
  spare_set-header =
      ap (λ (bs : List ℕ). number (take 23 bs)) sent-spare_set
      ∙ ap number (take-append-le 23 (take 751 (sent 8 s)) (1 ∷ []) (omega (arith, front_length)) ∙ take-take 23 751 (sent 8 s) (lit≤ tt))
