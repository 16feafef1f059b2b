-- A packet under damage: what was sent is read, or it is refused with 31; never other bytes. A control packet is 29.
--
--   written-header .. written-spare          what an image that is written holds; sent-header .. sent-spare: that of a data packet
--   written-came                 its address and index are read from what came; written-flipped-by: with the flips that there are;
--                                header-came, header-flipped-by: those of a data packet
--   carried-length, carried-below    its useful bytes
--   received-control             a control packet: 29
--   received-came                damage of at most four bits a word: what was sent, or 31
--   received-corrected           damage that the codes correct: what was sent
--   sent-corrected, corrected-came     no damage is such damage, and such damage is among what may come
--   received-sent                no damage: what was sent
--
-- Assumes nothing.
use mathlib.Core.Path.{◌≡◌, refl, sym, ap, ap₂, ◌∙◌, subst}
use mathlib.Core.Bool.{Bool, true, false}
use mathlib.Core.List.{List, [], ◌∷◌}
use mathlib.Core.Logic.{◌⊎◌, inl, inr}
use Prim.Native.Nat.{ℕ, suc, ◌+◌, ◌*◌, ◌/◌, ◌%◌, ◌≤◌, ◌<◌}
use native.Mathlib.Omega.{arith}
use native.Mathlib.Decide.{dec_lt}
use native.Mathlib.Nat.{le_trans}
use lib.ListN.{length, get_or, drop, length-map}
use lib.Seq.{ext_get_or}
use Rattle.bits.specs.Bits.{flips, sent, numbers_in}
use Rattle.bits.proofs.Flips.{flips-same}
use Rattle.bits.proofs.Runs.{Below, below-cons}
use Rattle.bits.proofs.Storing.{get_d_map}
use Rattle.bare.specs.Bare.{header_read}
use Rattle.bare.specs.Bare.{HeaderAnswer}
use Rattle.bare.proofs.Theorems.{header-reads, eight-seven}
use Rattle.bare.proofs.Types.{within-near}
use Rattle.golay.specs.Code.{word23, word24, nearest}
use Rattle.golay.proofs.Nearest.{nearest-is, nearest-within-four}
use Rattle.golay.proofs.Words.{word23-apart, word23-lt, word24-apart}
use Rattle.image.specs.Image.{header_of, bytes_of, spare_of}
use Rattle.image.proofs.Laws.{image-length, header-image, header-lt, bytes-image, bytes_lt, spare-image}
use Rattle.words.specs.Protected.{protected, words_of, informations, failed, data_of, data_read, words_read}
use Rattle.words.specs.Protected.{WordsAnswer}
use Rattle.words.proofs.Each.{failed-pass, failed-le, words-whole, failed-whole}
use Rattle.words.proofs.Packing.{words-protected, words-length, data-segments, segments-below, segments-length, protected-length, protected-below}
use Rattle.faults.specs.Faults.{number, type_control, word_unreadable}
use Rattle.packet.specs.Received.{type_of, useful_of, received, written, refused_as, readable_as}
use Rattle.packet.specs.Damage.{data_size, carried, sent_image, control_image, Kept, CameBy, Came, Corrected, ControlCame}
use Rattle.packet.specs.Received.{ReadingAnswer}
use Rattle.packet.proofs.Answers.{index_of, number-control, answer-type, answer-plain, answer-protected, IsData, is_data, data-short, data-whole}

-- ---- what a sent image holds

pub carried-length : (p : Bool) (d : List ℕ) → length d ≡ data_size p → length (carried p d) ≡ 90
carried-length false d l = l
carried-length true d l = protected-length d

pub carried-below : (p : Bool) (d : List ℕ) → Below 256 d → Below 256 (carried p d)
carried-below false d h = h
carried-below true d h = protected-below d

-- any packet that is written, by its type byte and useful bytes
module _ (a i ty : ℕ) (u : List ℕ) (ha : a ≤ 1023) (hi : i ≤ 3) (ht : ty < 256) (l : length u ≡ 90) (b : Below 256 u) where
  small : a + 1024 * i < 4096
  small = omega arith

  pub written-header : header_of (written a i ty u) ≡ word23 (a + 1024 * i)
  unfolding written
  written-header = header-image (word23 (a + 1024 * i)) (ty ∷ u) (ap suc l) (word23-lt (a + 1024 * i) small)

  pub written-bytes : bytes_of (written a i ty u) ≡ ty ∷ u
  unfolding written
  written-bytes = bytes-image (word23 (a + 1024 * i)) (ty ∷ u) (ap suc l) (below-cons ty u ht b)

  pub written-spare : spare_of (written a i ty u) ≡ 0
  unfolding written
  written-spare = spare-image (word23 (a + 1024 * i)) (ty ∷ u) (ap suc l)

  -- its address and index are read from a header with at most three flips
  pub written-came : (t : List ℕ) → flips (header_of (written a i ty u)) (header_of t) ≤ 3
      → ((header_read (header_of t)).address ≡ a) × ((header_read (header_of t)).index ≡ i)
  written-came t f =
      let near : flips (word23 (a + 1024 * i)) (header_of t) ≤ 3 = subst (λ (x : ℕ). flips x (header_of t) ≤ 3) written-header f in
      let r = header-reads (header_of t) (a + 1024 * i) (header-lt t) (nearest-is word23 word23-apart (header_of t) (a + 1024 * i) small near) in
      (ap (λ (h : HeaderAnswer). h.address) r ∙ address, ap (λ (h : HeaderAnswer). h.index) r ∙ index)
    where
      address : (a + 1024 * i) % 1024 ≡ a
      address = omega arith

      index : (a + 1024 * i) / 1024 ≡ i
      index = omega arith

  pub written-flipped-by : (t : List ℕ) → flips (header_of (written a i ty u)) (header_of t) ≤ 3
      → (header_read (header_of t)).flips ≡ flips (header_of (written a i ty u)) (header_of t)
  written-flipped-by t f =
      let near : flips (word23 (a + 1024 * i)) (header_of t) ≤ 3 = subst (λ (x : ℕ). flips x (header_of t) ≤ 3) written-header f in
      ap (λ (h : HeaderAnswer). h.flips)
      (header-reads (header_of t) (a + 1024 * i) (header-lt t) (nearest-is word23 word23-apart (header_of t) (a + 1024 * i) small near))
      ∙ ap (λ (x : ℕ). flips x (header_of t)) (sym written-header)

  -- a type byte with at most two flips is near the one that was sent
  type-came : (t : List ℕ) → flips (get_or (bytes_of (written a i ty u)) 0 0) (get_or (bytes_of t) 0 0) ≤ 2 → flips ty (get_or (bytes_of t) 0 0) ≤ 2
  type-came t f = subst (λ (bs : List ℕ). flips (get_or bs 0 0) (get_or (bytes_of t) 0 0) ≤ 2) written-bytes f

-- a data packet
module _ (p : Bool) (a i : ℕ) (d : List ℕ) (ha : a ≤ 1023) (hi : i ≤ 3) (l : length d ≡ data_size p) (b : Below 256 d) where
  pub sent-header : header_of (sent_image p a i d) ≡ word23 (a + 1024 * i)
  sent-header = written-header a i 0x00 (carried p d) ha hi (omega arith) (carried-length p d l) (carried-below p d b)

  pub sent-bytes : bytes_of (sent_image p a i d) ≡ 0x00 ∷ carried p d
  sent-bytes = written-bytes a i 0x00 (carried p d) ha hi (omega arith) (carried-length p d l) (carried-below p d b)

  pub sent-useful : useful_of (sent_image p a i d) ≡ carried p d
  unfolding useful_of
  sent-useful = ap (drop 1) sent-bytes

  pub sent-spare : spare_of (sent_image p a i d) ≡ 0
  sent-spare = written-spare a i 0x00 (carried p d) ha hi (omega arith) (carried-length p d l) (carried-below p d b)

  pub header-came : (t : List ℕ) → flips (header_of (sent_image p a i d)) (header_of t) ≤ 3
      → ((header_read (header_of t)).address ≡ a) × ((header_read (header_of t)).index ≡ i)
  header-came = written-came a i 0x00 (carried p d) ha hi (omega arith) (carried-length p d l) (carried-below p d b)

  pub header-flipped-by : (t : List ℕ) → flips (header_of (sent_image p a i d)) (header_of t) ≤ 3
      → (header_read (header_of t)).flips ≡ flips (header_of (sent_image p a i d)) (header_of t)
  header-flipped-by = written-flipped-by a i 0x00 (carried p d) ha hi (omega arith) (carried-length p d l) (carried-below p d b)

  -- with at most two flips in its type byte it is a data packet still
  sent-is-data : (kept : List ℕ → List ℕ → Type 0) (most : ℕ) (t : List ℕ) → CameBy kept most (sent_image p a i d) t → IsData t
  unfolding type_of
  sent-is-data kept most t came =
      let f = type-came a i 0x00 (carried p d) ha hi (omega arith) (carried-length p d l) (carried-below p d b) t came.type in
      is_data t came.size (within-near 0 (get_or (bytes_of t) 0 0) (omega arith) (bytes_lt t 0) f)

-- a control packet, whatever the address is followed with
pub received-control : (p : Bool) (most a i : ℕ) (u t : List ℕ) → a ≤ 1023 → i ≤ 3 → length u ≡ 90 → Below 256 u
    → ControlCame most (control_image a i u) t → received p t ≡ refused_as (number type_control) 0
unfolding type_of
received-control p most a i u t ha hi l b came =
    let f = type-came a i 0x3F u ha hi (omega arith) l b t came.type in
    let e : type_of t ≡ 0x3F = within-near 1 (get_or (bytes_of t) 0 0) (omega arith) (bytes_lt t 0) f in
    answer-type p t came.size (number type_control) (number-control t e) (λ z. omega (arith, z))

-- ---- protected data

-- thirty words of these informations with at most four flips each: either one cannot be read, or all are read as sent
module _ (is ns : List ℕ) (small : Below 4096 is) (same : length ns ≡ length is)
    (few : (w : ℕ) → w < length is → flips (word24 (get_or is w 0)) (get_or ns w 0) ≤ 4) where
  each_read : failed (informations ns) ≡ length is → informations ns ≡ is
  unfolding informations
  each_read whole =
      ext_get_or 0 (informations ns) is (length-map ns (nearest word24) ∙ same) (λ w h. at w (omega (arith, h, length-map ns (nearest word24))))
    where
      readable : (w : ℕ) → w < length is → nearest word24 (get_or ns w 0) < 4096
      readable w h =
          subst (λ (x : ℕ). x < 4096) (get_d_map (nearest word24) ns w (omega (arith, same)))
          (failed-whole (informations ns) (omega (arith, whole, same, length-map ns (nearest word24))) w)

      at : (w : ℕ) → w < length is → get_or (informations ns) w 0 ≡ get_or is w 0
      at w h = get_d_map (nearest word24) ns w (omega (arith, same)) ∙ pick (nearest-within-four word24 eight-seven word24-apart (get_or ns w 0) (get_or is w 0) (small w) (few w h))
        where
          pick : (nearest word24 (get_or ns w 0) ≡ get_or is w 0) ⊎ (nearest word24 (get_or ns w 0) ≡ 4096) → nearest word24 (get_or ns w 0) ≡ get_or is w 0
          pick (inl e) = e
          pick (inr e) = absurd (omega (arith, e, readable w h))

-- every word of these within three flips: all are read as sent
corrected-whole : (is ns : List ℕ) → Below 4096 is → length ns ≡ length is
    → ((w : ℕ) → w < length is → flips (word24 (get_or is w 0)) (get_or ns w 0) ≤ 3) → failed (informations ns) ≡ length ns
unfolding informations failed
corrected-whole is [] small same few = refl
corrected-whole [] (n ∷ ns) small same few = absurd (omega arith)
corrected-whole (i ∷ is) (n ∷ ns) small same few =
    go (corrected-whole is ns (λ k. small (suc k)) (omega arith) (λ w h. few (suc w) (omega arith)))
  where
    go : failed (informations ns) ≡ length ns → failed (informations (n ∷ ns)) ≡ suc (length ns)
    go rest =
        failed-pass (nearest word24 n) (informations ns)
        (omega (arith, nearest-is word24 eight-seven n i (small 0) (few 0 (omega arith)), small 0))
        ∙ ap suc rest

-- ---- the packet

-- the words of what was sent
sent-words : (d : List ℕ) (w : ℕ) → w < 30 → get_or (words_of (protected d)) w 0 ≡ word24 (get_or (numbers_in 12 30 (sent 8 d)) w 0)
sent-words d w h =
    ap (λ (ns : List ℕ). get_or ns w 0) (words-protected d)
    ∙ get_d_map word24 (numbers_in 12 30 (sent 8 d)) w (omega (arith, segments-length d))

-- the 45 bytes, once every word is read
data-back : (d u : List ℕ) (most : ℕ) → most ≤ 4 → length d ≡ 45 → Below 256 d → Kept most true (protected d) u
    → failed (informations (words_of u)) ≡ 30 → (data_read u).bytes ≡ d
unfolding data_read
data-back d u most m l b kept whole =
    ap (λ (r : WordsAnswer). data_of r.informations) (words-whole (words_of u) whole)
    ∙ ap data_of (each_read (numbers_in 12 30 (sent 8 d)) (words_of u) (segments-below d) (words-length u ∙ sym (segments-length d)) few
    (whole ∙ sym (segments-length d)))
    ∙ data-segments d l b
  where
    few : (w : ℕ) → w < length (numbers_in 12 30 (sent 8 d)) → flips (word24 (get_or (numbers_in 12 30 (sent 8 d)) w 0)) (get_or (words_of u) w 0) ≤ 4
    few w h =
        let k : w < 30 = omega (arith, segments-length d) in
        le_trans (subst (λ (x : ℕ). flips x (get_or (words_of u) w 0) ≤ most) (sent-words d w k) (kept w k)) m

place_of : (u : List ℕ) → (data_read u).place ≡ failed (informations (words_of u))
unfolding data_read words_read
place_of u = refl

whole_of : (u : List ℕ) → 30 ≤ (data_read u).place → failed (informations (words_of u)) ≡ 30
unfolding informations
whole_of u h =
    omega (arith, place_of u, failed-le (informations (words_of u)), length-map (words_of u) (nearest word24), words-length u)

-- a data packet whose useful bytes came with at most four flips a word
data-came : (p : Bool) (t d : List ℕ) (i : ℕ) → IsData t → index_of t ≡ i → length d ≡ data_size p → Below 256 d
    → Kept 4 p (carried p d) (useful_of t) → (received p t ≡ readable_as i d) ⊎ ((received p t).number ≡ number word_unreadable)
data-came false t d i is e l b kept =
    inl (answer-plain t is ∙ ap₂ readable_as e kept)
data-came true t d i is e l b kept = go (dec_lt (data_read (useful_of t)).place 30)
  where
    go : Dec ((data_read (useful_of t)).place < 30) → (received true t ≡ readable_as i d) ⊎ ((received true t).number ≡ number word_unreadable)
    go (yes h) = inr (ap (λ (x : ReadingAnswer). x.number) (answer-protected t is ∙ data-short (index_of t) (data_read (useful_of t)) h))
    go (no h) =
        let whole : failed (informations (words_of (useful_of t))) ≡ 30 = whole_of (useful_of t) (omega (arith, h)) in
        inl (answer-protected t is ∙ data-whole (index_of t) (data_read (useful_of t)) (omega arith)
        ∙ ap₂ readable_as e (data-back d (useful_of t) 4 (omega arith) l b kept whole))

pub received-came : (p : Bool) (most a i : ℕ) (d t : List ℕ) → most ≤ 3 → a ≤ 1023 → i ≤ 3 → length d ≡ data_size p → Below 256 d
    → Came p most (sent_image p a i d) t → (received p t ≡ readable_as i d) ⊎ ((received p t).number ≡ number word_unreadable)
received-came p most a i d t hm ha hi l b came =
    data-came p t d i (sent-is-data p a i d ha hi l b (Kept 4 p) most t came)
    (header-came p a i d ha hi l b t (le_trans came.header hm)).1 l b
    (subst (λ (u : List ℕ). Kept 4 p u (useful_of t)) (sent-useful p a i d ha hi l b) came.useful)

data-corrected : (p : Bool) (t d : List ℕ) (i : ℕ) → IsData t → index_of t ≡ i → length d ≡ data_size p → Below 256 d
    → Kept 3 p (carried p d) (useful_of t) → received p t ≡ readable_as i d
data-corrected false t d i is e l b kept = answer-plain t is ∙ ap₂ readable_as e kept
data-corrected true t d i is e l b kept =
    let u = useful_of t in
    let few : (w : ℕ) → w < length (numbers_in 12 30 (sent 8 d)) → flips (word24 (get_or (numbers_in 12 30 (sent 8 d)) w 0)) (get_or (words_of u) w 0) ≤ 3 =
    λ w h. subst (λ (x : ℕ). flips x (get_or (words_of u) w 0) ≤ 3) (sent-words d w (omega (arith, segments-length d))) (kept w (omega (arith, segments-length d))) in
    let whole : failed (informations (words_of u)) ≡ 30 =
    corrected-whole (numbers_in 12 30 (sent 8 d)) (words_of u) (segments-below d) (words-length u ∙ sym (segments-length d)) few ∙ words-length u in
    answer-protected t is ∙ data-whole (index_of t) (data_read u) (omega (arith, place_of u, whole))
    ∙ ap₂ readable_as e (data-back d u 3 (omega arith) l b kept whole)

pub received-corrected : (p : Bool) (most a i : ℕ) (d t : List ℕ) → most ≤ 3 → a ≤ 1023 → i ≤ 3 → length d ≡ data_size p → Below 256 d
    → Corrected p most (sent_image p a i d) t → received p t ≡ readable_as i d
received-corrected p most a i d t hm ha hi l b came =
    data-corrected p t d i (sent-is-data p a i d ha hi l b (Kept 3 p) most t came)
    (header-came p a i d ha hi l b t (le_trans came.header hm)).1 l b
    (subst (λ (u : List ℕ). Kept 3 p u (useful_of t)) (sent-useful p a i d ha hi l b) came.useful)

-- what was not damaged is corrected
kept_whole : (p : Bool) (u : List ℕ) → Kept 3 p u u
kept_whole false u = refl
kept_whole true u = λ w h. omega (arith, flips-same (get_or (words_of u) w 0))

pub sent-corrected : (p : Bool) (most a i : ℕ) (d : List ℕ) → Corrected p most (sent_image p a i d) (sent_image p a i d)
unfolding written
sent-corrected p most a i d =
    let s = sent_image p a i d in
    record {
      size = image-length (word23 (a + 1024 * i)) (0x00 ∷ carried p d);
      header = omega (arith, flips-same (header_of s));
      type = omega (arith, flips-same (get_or (bytes_of s) 0 0));
      useful = kept_whole p (useful_of s);
    }

-- what the codes correct is among what may come
kept_more : (p : Bool) (u v : List ℕ) → Kept 3 p u v → Kept 4 p u v
kept_more false u v k = k
kept_more true u v k = λ w h. omega (arith, k w h)

pub corrected-came : (p : Bool) (most : ℕ) (s t : List ℕ) → Corrected p most s t → Came p most s t
corrected-came p most s t c =
    record { size = c.size; header = c.header; type = c.type; useful = kept_more p (useful_of s) (useful_of t) c.useful }

-- "reading a written image gives what went in"
pub received-sent : (p : Bool) (a i : ℕ) (d : List ℕ) → a ≤ 1023 → i ≤ 3 → length d ≡ data_size p → Below 256 d
    → received p (sent_image p a i d) ≡ readable_as i d
received-sent p a i d ha hi l b = received-corrected p 0 a i d (sent_image p a i d) (omega arith) ha hi l b (sent-corrected p 0 a i d)
