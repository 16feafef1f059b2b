-- Laws of `leaving`, `error_patterns` and `trials`.
--
--   clean, damaged           no flip leaves a word, or does not
--   found                    what is found is of the list, and leaves a word
--   patterns-only            the patterns of k flips in b bits: numbers of b bits with k ones
--   patterns-all             and all of them: where one leaves a word, one is found
--   turn-hit, turn-miss      one turn of the loop over the bits; turn-fits: what it finds is a number of 23 bits
--   trial-hit, trial-miss    one turn of the loop over the flips
--   trials-only, trials-all  the same of all patterns with fewer than f flips
--
-- Assumes nothing.
use mathlib.Core.Path.{◌≡◌, refl, sym, ap, ap₂, ◌∙◌, subst}
use mathlib.Core.Bool.{Bool, cond}
use mathlib.Core.List.{List, [], ◌∷◌, ◌++◌, map}
use Prim.Native.Nat.{ℕ, zero, suc, ◌+◌, ◌-◌, ◌*◌, ◌%◌, ◌^◌, ◌≤◌, ◌<◌}
use native.Mathlib.Omega.{arith}
use native.Mathlib.Decide.{ℕ_discrete, dec_lt, dec_le}
use native.Mathlib.Nat.{pow-suc, add-zero}
use native.Mathlib.Numerals.{add-one}
use borrow.Author.Tests.{eq-eqb, ne_eqb}
use lib.Arith.{lt-one}
use lib.Bits.{bit_xor, xor_comm, xor_zero_r}
use lib.Count.{ones}
use lib.Pow.{pow_mono}
use Rattle.bits.specs.All.{All}
use Rattle.bits.proofs.Flips.{xor_assoc, ones-zero, ones_none}
use Rattle.golay.specs.Code.{remainder}
use Rattle.bare.proofs.Counting.{ones-set, xor-one}
use Rattle.plain.specs.Plain.{error_patterns, trials, leaving}

abbrev pub none : ℕ
none = 2 ^ 23

-- ---- each of a list

all_cat : (P : ℕ → Type 0) (xs ys : List ℕ) → All P xs → All P ys → All P (xs ++ ys)
all_cat P [] ys a b = b
all_cat P (x ∷ xs) ys a b = (a.0, all_cat P xs ys a.1 b)

all_map : (P Q : ℕ → Type 0) (f : ℕ → ℕ) → ((e : ℕ) → P e → Q (f e)) → (xs : List ℕ) → All P xs → All Q (map f xs)
all_map P Q f g [] a = a
all_map P Q f g (x ∷ xs) a = (g x a.0, all_map P Q f g xs a.1)

all_then : (P Q : ℕ → Type 0) → ((e : ℕ) → P e → Q e) → (xs : List ℕ) → All P xs → All Q xs
all_then P Q g [] a = a
all_then P Q g (x ∷ xs) a = (g x a.0, all_then P Q g xs a.1)

-- ---- the first that leaves a word

here : (n e : ℕ) (es : List ℕ) → remainder (bit_xor n e) ≡ 0 → leaving n (e ∷ es) ≡ e
unfolding leaving
here n e es h = ap (λ (b : Bool). cond b e (leaving n es)) (eq-eqb (remainder (bit_xor n e)) 0 h)

past : (n e : ℕ) (es : List ℕ) → (remainder (bit_xor n e) ≡ 0 → ⊥) → leaving n (e ∷ es) ≡ leaving n es
unfolding leaving
past n e es h = ap (λ (b : Bool). cond b e (leaving n es)) (ne_eqb (remainder (bit_xor n e)) 0 h)

nothing : (n : ℕ) → leaving n [] ≡ none
unfolding leaving
nothing n = refl

cat-hit : (n : ℕ) (xs ys : List ℕ) → leaving n xs < none → leaving n (xs ++ ys) ≡ leaving n xs
cat-hit n [] ys h = absurd (omega (arith, nothing n))
cat-hit n (x ∷ xs) ys h = go (ℕ_discrete (remainder (bit_xor n x)) 0) (cat-hit n xs ys)
  where
    go : Dec (remainder (bit_xor n x) ≡ 0) → (leaving n xs < none → leaving n (xs ++ ys) ≡ leaving n xs)
        → leaving n (x ∷ (xs ++ ys)) ≡ leaving n (x ∷ xs)
    go (yes e) ih = here n x (xs ++ ys) e ∙ sym (here n x xs e)
    go (no e) ih =
        past n x (xs ++ ys) e ∙ ih (subst (λ (v : ℕ). v < none) (past n x xs e) h) ∙ sym (past n x xs e)

cat-miss : (n : ℕ) (xs ys : List ℕ) → All (λ (e : ℕ). e < none) xs → none ≤ leaving n xs → leaving n (xs ++ ys) ≡ leaving n ys
cat-miss n [] ys a h = refl
cat-miss n (x ∷ xs) ys a h = go (ℕ_discrete (remainder (bit_xor n x)) 0) (cat-miss n xs ys a.1)
  where
    go : Dec (remainder (bit_xor n x) ≡ 0) → (none ≤ leaving n xs → leaving n (xs ++ ys) ≡ leaving n ys) → leaving n (x ∷ (xs ++ ys)) ≡ leaving n ys
    go (yes e) ih = absurd (omega (arith, here n x xs e, a.0))
    go (no e) ih = past n x (xs ++ ys) e ∙ ih (subst (λ (v : ℕ). none ≤ v) (past n x xs e) h)

-- what is found is of the list, and leaves a word
pub found : (P : ℕ → Type 0) (n : ℕ) (xs : List ℕ) → All P xs → leaving n xs < none → P (leaving n xs) × (remainder (bit_xor n (leaving n xs)) ≡ 0)
found P n [] a h = absurd (omega (arith, nothing n))
found P n (x ∷ xs) a h = go (ℕ_discrete (remainder (bit_xor n x)) 0) (found P n xs a.1)
  where
    Good : ℕ → Type 0
    Good v = P v × (remainder (bit_xor n v) ≡ 0)

    go : Dec (remainder (bit_xor n x) ≡ 0) → (leaving n xs < none → P (leaving n xs) × (remainder (bit_xor n (leaving n xs)) ≡ 0))
        → P (leaving n (x ∷ xs)) × (remainder (bit_xor n (leaving n (x ∷ xs))) ≡ 0)
    go (yes e) ih = subst (λ (v : ℕ). P v × (remainder (bit_xor n v) ≡ 0)) (sym (here n x xs e)) (a.0, e)
    go (no e) ih =
        subst (λ (v : ℕ). P v × (remainder (bit_xor n v) ≡ 0)) (sym (past n x xs e)) (ih (subst (λ (v : ℕ). v < none) (past n x xs e) h))

-- what is not found is none
pub not_found : (n : ℕ) (xs : List ℕ) → All (λ (e : ℕ). e < none) xs → (leaving n xs < none → ⊥) → leaving n xs ≡ none
not_found n [] a h = nothing n
not_found n (x ∷ xs) a h = go (ℕ_discrete (remainder (bit_xor n x)) 0) (not_found n xs a.1)
  where
    go : Dec (remainder (bit_xor n x) ≡ 0) → ((leaving n xs < none → ⊥) → leaving n xs ≡ none) → leaving n (x ∷ xs) ≡ none
    go (yes e) ih = absurd (h (subst (λ (v : ℕ). v < none) (sym (here n x xs e)) a.0))
    go (no e) ih = past n x xs e ∙ ih (λ l. h (subst (λ (v : ℕ). v < none) (sym (past n x xs e)) l))

-- ---- one bit more

abbrev set : ℕ → List ℕ → List ℕ
set b xs = map (λ (e : ℕ). 2 ^ b + e) xs

-- a number below a set bit
set_is : (b e : ℕ) → e < 2 ^ b → 2 ^ b + e ≡ bit_xor (2 ^ b) e
set_is b e h =
    ap (λ (x : ℕ). 2 ^ b + x) (sym (xor_zero_r e)) ∙ sym (xor-one b e 0 h (omega (arith, h))) ∙ ap (bit_xor e) (add-zero (2 ^ b))
    ∙ xor_comm e (2 ^ b)

module _ (n b : ℕ) where
  -- flipping a bit and then those below it is flipping them all
  same : (e : ℕ) → e < 2 ^ b → remainder (bit_xor n (2 ^ b + e)) ≡ remainder (bit_xor (bit_xor n (2 ^ b)) e)
  same e h = ap remainder (ap (bit_xor n) (set_is b e h) ∙ sym (xor_assoc n (2 ^ b) e))

  set-hit : (xs : List ℕ) → All (λ (e : ℕ). e < 2 ^ b) xs → leaving (bit_xor n (2 ^ b)) xs < none
      → leaving n (set b xs) ≡ 2 ^ b + leaving (bit_xor n (2 ^ b)) xs
  set-hit [] a h = absurd (omega (arith, nothing (bit_xor n (2 ^ b))))
  set-hit (x ∷ xs) a h = go (ℕ_discrete (remainder (bit_xor (bit_xor n (2 ^ b)) x)) 0) (set-hit xs a.1)
    where
      go : Dec (remainder (bit_xor (bit_xor n (2 ^ b)) x) ≡ 0)
          → (leaving (bit_xor n (2 ^ b)) xs < none → leaving n (set b xs) ≡ 2 ^ b + leaving (bit_xor n (2 ^ b)) xs)
          → leaving n ((2 ^ b + x) ∷ set b xs) ≡ 2 ^ b + leaving (bit_xor n (2 ^ b)) (x ∷ xs)
      go (yes e) ih = here n (2 ^ b + x) (set b xs) (same x a.0 ∙ e) ∙ ap (λ (v : ℕ). 2 ^ b + v) (sym (here (bit_xor n (2 ^ b)) x xs e))
      go (no e) ih =
          past n (2 ^ b + x) (set b xs) (λ z. e (sym (same x a.0) ∙ z)) ∙ ih (subst (λ (v : ℕ). v < none) (past (bit_xor n (2 ^ b)) x xs e) h)
          ∙ ap (λ (v : ℕ). 2 ^ b + v) (sym (past (bit_xor n (2 ^ b)) x xs e))

  set-miss : (xs : List ℕ) → All (λ (e : ℕ). e < 2 ^ b) xs → 2 ^ b ≤ none → none ≤ leaving (bit_xor n (2 ^ b)) xs → leaving n (set b xs) ≡ none
  set-miss [] a l h = nothing n
  set-miss (x ∷ xs) a l h = go (ℕ_discrete (remainder (bit_xor (bit_xor n (2 ^ b)) x)) 0) (set-miss xs a.1 l)
    where
      go : Dec (remainder (bit_xor (bit_xor n (2 ^ b)) x) ≡ 0) → (none ≤ leaving (bit_xor n (2 ^ b)) xs → leaving n (set b xs) ≡ none)
          → leaving n ((2 ^ b + x) ∷ set b xs) ≡ none
      go (yes e) ih = absurd (omega (arith, here (bit_xor n (2 ^ b)) x xs e, a.0))
      go (no e) ih =
          past n (2 ^ b + x) (set b xs) (λ z. e (sym (same x a.0) ∙ z)) ∙ ih (subst (λ (v : ℕ). none ≤ v) (past (bit_xor n (2 ^ b)) x xs e) h)

-- ---- lists that grow

module _ (L M : ℕ → List ℕ) (grows : (i : ℕ) → L (suc i) ≡ L i ++ M i) where
  -- what is found stays found
  kept : (n i j : ℕ) → i ≤ j → leaving n (L i) < none → leaving n (L j) ≡ leaving n (L i)
  kept n i zero l h = ap (λ (k : ℕ). leaving n (L k)) (omega arith)
  kept n i (suc j) l h = go (dec_le i j) (kept n i j)
    where
      go : Dec (i ≤ j) → (i ≤ j → leaving n (L i) < none → leaving n (L j) ≡ leaving n (L i)) → leaving n (L (suc j)) ≡ leaving n (L i)
      go (yes m) ih =
          ap (leaving n) (grows j) ∙ cat-hit n (L j) (M j) (subst (λ (v : ℕ). v < none) (sym (ih m h)) h) ∙ ih m h
      go (no m) ih = ap (λ (k : ℕ). leaving n (L k)) (omega (arith, m))

  module _ (n i : ℕ) (a : All (λ (e : ℕ). e < none) (L i)) (h : leaving n (L i) ≡ none) where
    grown : leaving n (L (suc i)) ≡ leaving n (M i)
    grown = ap (leaving n) (grows i) ∙ cat-miss n (L i) (M i) a (omega (arith, h))

    grown-hit : (j : ℕ) → suc i ≤ j → leaving n (M i) < none → leaving n (L j) ≡ leaving n (M i)
    grown-hit j l f = kept n (suc i) j l (subst (λ (v : ℕ). v < none) (sym grown) f) ∙ grown

-- ---- no flip

pub clean : (n b : ℕ) → remainder n ≡ 0 → leaving n (error_patterns 0 b) ≡ 0
unfolding error_patterns
clean n b h = here n 0 [] (ap remainder (xor_zero_r n) ∙ h)

pub damaged : (n b : ℕ) → (remainder n ≡ 0 → ⊥) → leaving n (error_patterns 0 b) ≡ none
unfolding error_patterns
damaged n b h = past n 0 [] (λ e. h (sym (ap remainder (xor_zero_r n)) ∙ e)) ∙ nothing n

-- ---- the patterns of k flips

-- a number of b bits with k ones
pub record Flips (k b e : ℕ) : Type 0 where
  pub bits : e < 2 ^ b
  pub many : ones e ≡ k

set-flips : (k b e : ℕ) → Flips k b e → Flips (suc k) (suc b) (2 ^ b + e)
set-flips k b e f = record {
  bits = omega (arith, f.bits, pow-suc 2 b);
  many = ones-set b e f.bits ∙ ap suc f.many;
}

unset-flips : (k b e : ℕ) → Flips k b e → Flips k (suc b) e
unset-flips k b e f = record { bits = omega (arith, f.bits, pow-suc 2 b); many = f.many }

-- those with bit b flipped, and k flips below it
abbrev further : ℕ → ℕ → List ℕ
further k b = set b (error_patterns k b)

one_more : (k b : ℕ) → error_patterns (suc k) (suc b) ≡ error_patterns (suc k) b ++ further k b
unfolding error_patterns
one_more k b = refl

pub patterns-only : (k b : ℕ) → All (Flips k b) (error_patterns k b)
unfolding error_patterns
patterns-only zero b = (record { bits = omega (arith, pow_mono {i = 0} {j = b} (omega arith)); many = ones-zero }, tt)
patterns-only (suc k) zero = tt
patterns-only (suc k) (suc b) =
    all_cat (Flips (suc k) (suc b)) (error_patterns (suc k) b) _
    (all_then (Flips (suc k) b) (Flips (suc k) (suc b)) (unset-flips (suc k) b) (error_patterns (suc k) b) (patterns-only (suc k) b))
    (all_map (Flips k b) (Flips (suc k) (suc b)) (λ (e : ℕ). 2 ^ b + e) (set-flips k b) (error_patterns k b) (patterns-only k b))

patterns-below : (k b : ℕ) → All (λ (e : ℕ). e < 2 ^ b) (error_patterns k b)
patterns-below k b = all_then (Flips k b) (λ (e : ℕ). e < 2 ^ b) (λ e f. f.bits) (error_patterns k b) (patterns-only k b)

small : (b : ℕ) → b ≤ 23 → 2 ^ b ≤ none
small b h = pow_mono {i = b} {j = 23} h

patterns-small : (k b : ℕ) → b ≤ 23 → All (λ (e : ℕ). e < none) (error_patterns k b)
patterns-small k b h =
    all_then (λ (e : ℕ). e < 2 ^ b) (λ (e : ℕ). e < none) (λ e l. omega (arith, l, small b h)) (error_patterns k b) (patterns-below k b)

pub none_yet : (n k : ℕ) → leaving n (error_patterns (suc k) 0) ≡ none
unfolding error_patterns
none_yet n k = nothing n

-- the weight of bit b, as the code shifts it
abbrev pub weight : ℕ → ℕ
weight b = 1 * 2 ^ b % 2 ^ 32

weight_is : (b : ℕ) → b < 23 → weight b ≡ 2 ^ b
weight_is b h = omega (arith, pow_mono {i = b} {j = 23} (omega arith))

pub weight-lt : (b bits : ℕ) → b < bits → bits ≤ 23 → weight b < none
weight-lt b bits h l = omega (arith, weight_is b (omega arith), pow-suc 2 b, pow_mono {i = suc b} {j = 23} (omega arith))

-- one turn: bit b, and k flips below it
module _ (n k b bits : ℕ) (within : b < bits) (all : bits ≤ 23) (before : leaving n (error_patterns (suc k) b) ≡ none) where
  is : weight b ≡ 2 ^ b
  is = weight_is b (omega arith)

  -- what the turn looks for, at the bit's weight
  abbrev lower : ℕ → ℕ
  lower w = leaving (bit_xor n w) (error_patterns k b)

  lower-fits : lower (2 ^ b) < none → 2 ^ b + lower (2 ^ b) < none
  lower-fits f =
      omega (arith, (found (Flips k b) (bit_xor n (2 ^ b)) (error_patterns k b) (patterns-only k b) f).0.bits, pow-suc 2 b, pow_mono {i = suc b} {j = 23} (omega arith))

  reached : lower (2 ^ b) < none → leaving n (further k b) < none
  reached f = subst (λ (v : ℕ). v < none) (sym (set-hit n b (error_patterns k b) (patterns-below k b) f)) (lower-fits f)

  module _ (below : ℕ) (e : below ≡ lower (weight b)) where
    e' : below ≡ lower (2 ^ b)
    e' = e ∙ ap lower is

    pub turn-hit : below < none → weight b + below ≡ leaving n (error_patterns (suc k) bits)
    turn-hit f =
        ap₂ (λ (w v : ℕ). w + v) is e'
        ∙ sym (set-hit n b (error_patterns k b) (patterns-below k b) f')
        ∙ sym (grown-hit (error_patterns (suc k)) (further k) (one_more k) n b (patterns-small (suc k) b (omega arith)) before bits (omega arith) (reached f'))
      where
        f' : lower (2 ^ b) < none
        f' = subst (λ (v : ℕ). v < none) e' f

    pub turn-fits : below < none → weight b + below < none
    turn-fits f = omega (arith, is, e', lower-fits (subst (λ (v : ℕ). v < none) e' f))

    pub turn-miss : none ≤ below → leaving n (error_patterns (suc k) (b + 1)) ≡ none
    turn-miss f =
        ap (λ (i : ℕ). leaving n (error_patterns (suc k) i)) (add-one b)
        ∙ grown (error_patterns (suc k)) (further k) (one_more k) n b (patterns-small (suc k) b (omega arith)) before
        ∙ set-miss n b (error_patterns k b) (patterns-below k b) (small b (omega arith)) (subst (λ (v : ℕ). none ≤ v) e' f)

-- and after the last turn
pub turn_end : (n k b bits : ℕ) → b ≤ bits → bits ≤ b → leaving n (error_patterns (suc k) b) ≡ none → none ≡ leaving n (error_patterns (suc k) bits)
turn_end n k b bits l m h = sym h ∙ ap (λ (i : ℕ). leaving n (error_patterns (suc k) i)) (omega arith)

-- Where a pattern of k flips in b bits leaves a word, one is found: the highest bit is flipped, or it is not.
abbrev Finds : ℕ → ℕ → ℕ → Type 0
Finds n k b = (e : ℕ) → Flips k b e → remainder (bit_xor n e) ≡ 0 → leaving n (error_patterns k b) < none

module _ (n k b : ℕ) (l : suc b ≤ 23) (even : Finds n (suc k) b) (odd : Finds (bit_xor n (2 ^ b)) k b) where
  still : leaving n (error_patterns (suc k) b) < none → leaving n (error_patterns (suc k) (suc b)) < none
  still m = subst (λ (v : ℕ). v < none) (sym (ap (leaving n) (one_more k b) ∙ cat-hit n (error_patterns (suc k) b) _ m)) m

  now : leaving n (error_patterns (suc k) b) ≡ none → leaving (bit_xor n (2 ^ b)) (error_patterns k b) < none → leaving n (error_patterns (suc k) (suc b)) < none
  now before m =
      subst (λ (v : ℕ). v < none) (sym (grown (error_patterns (suc k)) (further k) (one_more k) n b (patterns-small (suc k) b (omega arith)) before))
      (reached n k b (suc b) (omega arith) l before m)

  -- the flips below the highest bit
  below-high : (e : ℕ) → Flips (suc k) (suc b) e → (e < 2 ^ b → ⊥) → remainder (bit_xor n e) ≡ 0 → leaving (bit_xor n (2 ^ b)) (error_patterns k b) < none
  below-high e f high h =
      odd (e - 2 ^ b) (record { bits = below; many = omega (arith, f.many, ap ones whole, ones-set b (e - 2 ^ b) below) })
      (sym (same n b (e - 2 ^ b) below) ∙ ap (λ (x : ℕ). remainder (bit_xor n x)) whole ∙ h)
    where
      whole : 2 ^ b + (e - 2 ^ b) ≡ e
      whole = omega (arith, high)

      below : e - 2 ^ b < 2 ^ b
      below = omega (arith, high, f.bits, pow-suc 2 b)

  wider : Finds n (suc k) (suc b)
  wider e f h = go (dec_lt e (2 ^ b)) (dec_lt (leaving n (error_patterns (suc k) b)) none)
    where
      go : Dec (e < 2 ^ b) → Dec (leaving n (error_patterns (suc k) b) < none) → leaving n (error_patterns (suc k) (suc b)) < none
      go d (yes m) = still m
      go (yes low) (no m) = still (even e (record { bits = low; many = f.many }) h)
      go (no high) (no m) =
          now (not_found n (error_patterns (suc k) b) (patterns-small (suc k) b (omega arith)) m) (below-high e f high h)

pub patterns-all : (n k b : ℕ) → b ≤ 23 → Finds n k b
patterns-all n zero b l e f h =
    omega (arith, clean n b (ap remainder (sym (xor_zero_r n) ∙ ap (bit_xor n) (sym (ones_none e f.many))) ∙ h))
patterns-all n (suc k) zero l e f h = absurd (omega (arith, f.many, ap ones (lt-one f.bits), ones-zero))
patterns-all n (suc k) (suc b) l e f h =
    wider n k b l (patterns-all n (suc k) b (omega arith)) (patterns-all (bit_xor n (2 ^ b)) k b (omega arith)) e f h

-- as many flips as are asked for
pub of-many : (n k flips r : ℕ) → flips ≡ k → r ≡ leaving n (error_patterns k 23) → r ≡ leaving n (error_patterns flips 23)
of-many n k flips r e h = h ∙ ap (λ (j : ℕ). leaving n (error_patterns j 23)) (sym e)

-- ---- all patterns, fewest flips first

flips-more : (f : ℕ) → trials (suc f) ≡ trials f ++ error_patterns f 23
unfolding trials
flips-more f = refl

-- a number of 23 bits with fewer ones than f
pub record Fewer (f e : ℕ) : Type 0 where
  pub bits : e < none
  pub few : ones e < f

pub trials-only : (f : ℕ) → All (Fewer f) (trials f)
unfolding trials
trials-only zero = tt
trials-only (suc f) =
    all_cat (Fewer (suc f)) (trials f) (error_patterns f 23)
    (all_then (Fewer f) (Fewer (suc f)) (λ e h. record { bits = h.bits; few = omega (arith, h.few) }) (trials f) (trials-only f))
    (all_then (Flips f 23) (Fewer (suc f)) (λ e h. record { bits = h.bits; few = omega (arith, h.many) }) (error_patterns f 23) (patterns-only f 23))

pub trials-small : (f : ℕ) → All (λ (e : ℕ). e < none) (trials f)
trials-small f = all_then (Fewer f) (λ (e : ℕ). e < none) (λ e h. h.bits) (trials f) (trials-only f)

pub none_tried : (n : ℕ) → leaving n (trials 0) ≡ none
unfolding trials
none_tried n = nothing n

pub trial-hit : (n f most : ℕ) → f ≤ most → leaving n (trials f) ≡ none → leaving n (error_patterns f 23) < none
    → leaving n (trials (suc most)) ≡ leaving n (error_patterns f 23)
trial-hit n f most l before h =
    grown-hit trials (λ (i : ℕ). error_patterns i 23) flips-more n f (trials-small f) before (suc most) (omega arith) h

pub trial-miss : (n f : ℕ) → leaving n (trials f) ≡ none → none ≤ leaving n (error_patterns f 23) → leaving n (trials (f + 1)) ≡ none
trial-miss n f before h =
    ap (λ (i : ℕ). leaving n (trials i)) (add-one f)
    ∙ grown trials (λ (i : ℕ). error_patterns i 23) flips-more n f (trials-small f) before
    ∙ not_found n (error_patterns f 23) (patterns-small f 23 (omega arith)) (λ l. omega (arith, l, h))

pub trials-all : (n f e : ℕ) → Fewer f e → remainder (bit_xor n e) ≡ 0 → leaving n (trials f) < none
trials-all n zero e h r = absurd (omega (arith, h.few))
trials-all n (suc f) e h r = go (dec_lt (leaving n (trials f)) none) (dec_lt (ones e) f) (trials-all n f e)
  where
    go : Dec (leaving n (trials f) < none) → Dec (ones e < f) → (Fewer f e → remainder (bit_xor n e) ≡ 0 → leaving n (trials f) < none)
        → leaving n (trials (suc f)) < none
    go (yes m) d ih = subst (λ (v : ℕ). v < none) (sym (ap (leaving n) (flips-more f) ∙ cat-hit n (trials f) (error_patterns f 23) m)) m
    go (no m) (yes d) ih = absurd (m (ih (record { bits = h.bits; few = d }) r))
    go (no m) (no d) ih =
        let last = patterns-all n f 23 (omega arith) e (record { bits = h.bits; many = omega (arith, h.few, d) }) r in
        subst (λ (v : ℕ). v < none) (sym (trial-hit n f f (omega arith) (not_found n (trials f) (trials-small f) m) last)) last
