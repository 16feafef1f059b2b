-- Protected data (ETS 300 352, 7.4.2.1 and 8.3.2): "each successive 12-bit segment of data" of 45 bytes becomes a (24,12)
-- word; the thirty words are 90 bytes. Bytes, segments and words are sent lowest bit first, one after the other.
--
--   protected data     the 90 bytes of 45
--   words_of useful     the thirty words of 90 bytes
--   informations ns    what these are read as, word by word; 4,096 where no word lies within three flips
--   failed is          the place of the first that cannot be read; as many as there are, where all can
--   turned ns          the flips of all of them
--   data_of is          the 45 bytes of thirty informations
--   words_read ns       that place, the flips and the informations, both 0 where a word cannot be read
--   data_read useful    the same of 90 bytes, with the 45 bytes of the informations
use Rattle.std.specs.Prelude.{cond, List, [], ◌∷◌, map, ℕ, suc, ◌+◌, leb, ltb}
use Rattle.bits.specs.Bits.{flips, sent, numbers_in, blank}
use Rattle.golay.specs.Code.{word24, nearest}

-- What thirty words, and 90 bytes, are read as.
pub record WordsAnswer : Type 0 where
  pub place : ℕ
  pub flips : ℕ
  pub informations : List ℕ

pub record DataAnswer : Type 0 where
  pub place : ℕ
  pub flips : ℕ
  pub bytes : List ℕ

unfoldable pub protected : List ℕ → List ℕ
protected bytes = numbers_in 8 90 (sent 24 (map word24 (numbers_in 12 30 (sent 8 bytes))))

unfoldable pub words_of : List ℕ → List ℕ
words_of useful = numbers_in 24 30 (sent 8 useful)

unfoldable pub informations : List ℕ → List ℕ
informations ns = map (nearest word24) ns

unfoldable pub failed : List ℕ → ℕ
failed [] = 0
failed (i ∷ is) = cond (leb 4096 i) 0 (suc (failed is))

unfoldable pub turned : List ℕ → ℕ
turned [] = 0
turned (n ∷ ns) = flips (word24 (nearest word24 n)) n + turned ns

unfoldable pub data_of : List ℕ → List ℕ
data_of is = numbers_in 8 45 (sent 12 is)

-- the place of the first that cannot be read, 30 where all can; where one cannot, flips and informations are 0
unfoldable pub words_read : List ℕ → WordsAnswer
words_read ns =
    let place = failed (informations ns) in
    let short = ltb place 30 in
    record { place = place; flips = cond short 0 (turned ns); informations = cond short (blank 30) (informations ns) }

-- the same with the bytes of the informations
unfoldable pub data_read : List ℕ → DataAnswer
data_read useful =
    let read = words_read (words_of useful) in
    record { place = read.place; flips = read.flips; bytes = data_of read.informations }
