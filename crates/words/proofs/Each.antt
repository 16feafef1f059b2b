-- Thirty words one by one: what is failed, turned and known after a number of them.
--
--   failed-pass, failed-stop, failed-le      the place of the first that cannot be read
--   failed-whole   where none fails, each is below 4,096
--   failed-first   where one fails, it is that at this place, and each before it is below 4,096; first_word: of thirty words
--   Read, one-read, one-unread    one word, by its number
--   Reached        what is known when the first w words have been read; reached-more, reached-stop, reached-end
--   words-short, words-whole, words_small    what is read of thirty words, by the place of the first that fails
--   read_length    the data bytes that they carry
--
-- Assumes nothing.
use mathlib.Core.Path.{◌≡◌, refl, sym, ap, ◌∙◌, subst}
use mathlib.Core.Bool.{Bool, cond}
use mathlib.Core.List.{List, [], ◌∷◌}
use Prim.Native.Nat.{ℕ, zero, suc, ◌+◌, ◌*◌, ◌/◌, ◌%◌, ◌^◌, ◌≤◌, ◌<◌}
use native.Mathlib.Omega.{arith}
use native.Mathlib.Numerals.{add-one}
use borrow.Author.Tests.{le-leb, lt-leb, lt-ltb}
use native.Mathlib.Decide.{dec_lt}
use lib.Dec.{ltb}
use lib.ListN.{length, get_or, drop, length-map}
use lib.Seq.{drop-cons, drop-length}
use Rattle.bits.specs.Bits.{flips, blank}
use Rattle.bits.proofs.Storing.{get_d_map}
use Rattle.golay.specs.Code.{word24, nearest}
use Rattle.bare.specs.Bare.{word_read, Judged}
use Rattle.bare.specs.Bare.{WordAnswer}
use Rattle.bare.proofs.Theorems.{word-readable, word-unreadable}
use Rattle.words.specs.Protected.{words_of, informations, failed, turned, words_read, data_read}
use Rattle.words.specs.Protected.{WordsAnswer}
use Rattle.words.proofs.Packing.{data-length, words-length}

pub failed-pass : (i : ℕ) (is : List ℕ) → i < 4096 → failed (i ∷ is) ≡ suc (failed is)
unfolding failed
failed-pass i is h = ap (λ (b : Bool). cond b 0 (suc (failed is))) (lt-leb 4096 i h)

pub failed-stop : (i : ℕ) (is : List ℕ) → 4096 ≤ i → failed (i ∷ is) ≡ 0
unfolding failed
failed-stop i is h = ap (λ (b : Bool). cond b 0 (suc (failed is))) (le-leb 4096 i h)

pub failed-le : (is : List ℕ) → failed is ≤ length is
unfolding failed
failed-le [] = omega arith
failed-le (i ∷ is) = go (dec_lt i 4096) (failed-le is)
  where
    go : Dec (i < 4096) → failed is ≤ length is → failed (i ∷ is) ≤ suc (length is)
    go (yes h) rest = omega (arith, failed-pass i is h)
    go (no h) rest = omega (arith, failed-stop i is (omega arith))

blank-small : (n k : ℕ) → get_or (blank n) k 0 < 4096
unfolding blank
blank-small zero k = omega arith
blank-small (suc n) zero = omega arith
blank-small (suc n) (suc k) = blank-small n k

-- ---- one after the other

-- a word that was read, as one number
pub record Read (n v : ℕ) : Type 0 where
  pub near : nearest word24 n < 4096
  pub information : v % 4096 ≡ nearest word24 n
  pub flipped : v / 4096 ≡ flips (word24 (nearest word24 n)) n
  pub few : v / 4096 ≤ 3

pub one-read : (n m v : ℕ) → m < 2 ^ 24 → n ≡ m → Judged n v → v / 4096 ≤ 3 → Read m v
one-read n m v h same j l =
    let o = ap word_read (sym same) ∙ j.read l in
    let w = word-readable m h (ap (λ (x : WordAnswer). x.number) o) in
    record {
      near = w.0;
      information = ap (λ (x : WordAnswer). x.information) (sym o ∙ w.1);
      flipped = ap (λ (x : WordAnswer). x.flips) (sym o ∙ w.1);
      few = l;
    }

pub one-unread : (n m v : ℕ) → m < 2 ^ 24 → n ≡ m → Judged n v → 3 < v / 4096 → nearest word24 m ≡ 4096
one-unread n m v h same j l =
    word-unreadable m h (λ z. let e = ap (λ (x : WordAnswer). x.number) (ap word_read (sym same) ∙ j.unread l) in absurd (omega (arith, e, z)))

-- the first w words have been read, with so many flips
pub record Reached (ns : List ℕ) (w f : ℕ) : Type 0 where
  pub place : failed (informations ns) ≡ w + failed (informations (drop w ns))
  pub flipped : turned ns ≡ f + turned (drop w ns)
  pub few : f ≤ 3 * w

module _ (ns : List ℕ) (w f : ℕ) (l : w < length ns) where
  next : drop w ns ≡ get_or ns w 0 ∷ drop (w + 1) ns
  next = drop-cons ns w 0 l ∙ ap (λ (k : ℕ). get_or ns w 0 ∷ drop k ns) (sym (add-one w))

  pub reached-more : Reached ns w f → nearest word24 (get_or ns w 0) < 4096 → flips (word24 (nearest word24 (get_or ns w 0))) (get_or ns w 0) ≤ 3
      → Reached ns (w + 1) (f + flips (word24 (nearest word24 (get_or ns w 0))) (get_or ns w 0))
  unfolding informations turned
  reached-more r h few = record {
    place = omega (arith, r.place, ap (λ (xs : List ℕ). failed (informations xs)) next, failed-pass (nearest word24 (get_or ns w 0)) (informations (drop (w + 1) ns)) h);
    flipped = omega (arith, r.flipped, ap turned next);
    few = omega (arith, r.few);
  }

  pub reached-stop : Reached ns w f → nearest word24 (get_or ns w 0) ≡ 4096 → failed (informations ns) ≡ w
  unfolding informations
  reached-stop r e =
      omega (arith, r.place, ap (λ (xs : List ℕ). failed (informations xs)) next, failed-stop (nearest word24 (get_or ns w 0)) (informations (drop (w + 1) ns)) (omega (arith, e)))

pub reached-end : (ns : List ℕ) (f : ℕ) → Reached ns (length ns) f → (failed (informations ns) ≡ length ns) × (turned ns ≡ f)
unfolding informations failed turned
reached-end ns f r = (
  omega (arith, r.place, ap (λ (xs : List ℕ). failed (informations xs)) (drop-length ns)),
  omega (arith, r.flipped, ap turned (drop-length ns)),
)

-- ---- what is read

words_as : ℕ → List ℕ → WordsAnswer
words_as place ns =
    let short = ltb place 30 in
    record { place = place; flips = cond short 0 (turned ns); informations = cond short (blank 30) (informations ns) }

pub words-short : (ns : List ℕ) (w : ℕ) → failed (informations ns) ≡ w → w < 30
    → words_read ns ≡ record { place = w; flips = 0; informations = blank 30 }
unfolding words_read words_as
words-short ns w e h =
    ap (λ (x : ℕ). words_as x ns) e
    ∙ ap (λ (b : Bool). record { place = w; flips = cond b 0 (turned ns); informations = cond b (blank 30) (informations ns) }) (lt-ltb w 30 h)

pub words-whole : (ns : List ℕ) → failed (informations ns) ≡ 30
    → words_read ns ≡ record { place = 30; flips = turned ns; informations = informations ns }
unfolding words_read words_as
words-whole ns e = ap (λ (x : ℕ). words_as x ns) e

-- every information that is read is below 4,096
pub failed-whole : (is : List ℕ) → length is ≤ failed is → (k : ℕ) → get_or is k 0 < 4096
failed-whole [] e k = omega arith
failed-whole (i ∷ is) e k = go (dec_lt i 4096) (failed-whole is) k
  where
    go : Dec (i < 4096) → (length is ≤ failed is → (j : ℕ) → get_or is j 0 < 4096) → (j : ℕ) → get_or (i ∷ is) j 0 < 4096
    go (yes h) rest zero = h
    go (yes h) rest (suc j) = rest (omega (arith, failed-pass i is h)) j
    go (no h) rest j = absurd (omega (arith, failed-stop i is (omega arith)))

-- the first that cannot be read, and none before it
pub failed-first : (is : List ℕ) → failed is < length is → (4096 ≤ get_or is (failed is) 0) × ((v : ℕ) → v < failed is → get_or is v 0 < 4096)
failed-first [] h = absurd (omega (arith, h))
failed-first (i ∷ is) h = go (dec_lt i 4096) (failed-first is)
  where
    go : Dec (i < 4096) → (failed is < length is → (4096 ≤ get_or is (failed is) 0) × ((v : ℕ) → v < failed is → get_or is v 0 < 4096))
        → (4096 ≤ get_or (i ∷ is) (failed (i ∷ is)) 0) × ((v : ℕ) → v < failed (i ∷ is) → get_or (i ∷ is) v 0 < 4096)
    go (yes k) rest =
        let e = failed-pass i is k in
        let r = rest (omega (arith, h, e)) in
        (subst (λ (n : ℕ). 4096 ≤ get_or (i ∷ is) n 0) (sym e) r.0, below e r.1)
      where
        below : failed (i ∷ is) ≡ suc (failed is) → ((v : ℕ) → v < failed is → get_or is v 0 < 4096) → (v : ℕ) → v < failed (i ∷ is)
            → get_or (i ∷ is) v 0 < 4096
        below e before zero l = k
        below e before (suc v) l = before v (omega (arith, l, e))
    go (no k) rest =
        let e = failed-stop i is (omega arith) in
        (subst (λ (n : ℕ). 4096 ≤ get_or (i ∷ is) n 0) (sym e) (omega arith), λ v l. absurd (omega (arith, l, e)))

pub first_word : (u : List ℕ) → (data_read u).place < 30
    → (4096 ≤ nearest word24 (get_or (words_of u) (data_read u).place 0))
    × ((v : ℕ) → v < (data_read u).place → nearest word24 (get_or (words_of u) v 0) < 4096)
unfolding data_read words_read informations
first_word u h =
    let ns = words_of u in
    let long = length-map ns (nearest word24) in
    let first = failed-first (informations ns) (omega (arith, h, long, words-length u)) in (
      subst (λ (i : ℕ). 4096 ≤ i) (get_d_map (nearest word24) ns (failed (informations ns)) (omega (arith, h, words-length u))) first.0,
      λ v l. subst (λ (i : ℕ). i < 4096) (get_d_map (nearest word24) ns v (omega (arith, l, h, words-length u))) (first.1 v l),
    )

pub words_small : (ns : List ℕ) → length ns ≡ 30 → (k : ℕ) → get_or (words_read ns).informations k 0 < 4096
unfolding blank informations
words_small ns l k = go (dec_lt (failed (informations ns)) 30)
  where
    go : Dec (failed (informations ns) < 30) → get_or (words_read ns).informations k 0 < 4096
    go (yes h) =
        subst (λ (r : WordsAnswer). get_or r.informations k 0 < 4096) (sym (words-short ns (failed (informations ns)) refl h))
        (blank-small 30 k)
    go (no h) =
        let whole = failed-whole (informations ns) (omega (arith, length-map ns (nearest word24))) in
        let e : failed (informations ns) ≡ 30 = omega (arith, failed-le (informations ns), length-map ns (nearest word24)) in
        subst (λ (r : WordsAnswer). get_or r.informations k 0 < 4096) (sym (words-whole ns e)) (whole k)

pub read_length : (s : List ℕ) → length (data_read s).bytes ≡ 45
unfolding data_read
read_length s = data-length (words_read (words_of s)).informations
