-- What is announced is told, and so is that not enough was heard.
--
--   said-news        a map says of a component that a change is announced exactly where a frame that was heard said so
--   next-change      the frames that it counts are those to the next change
--   announces, admits      the theorems, of our machine
--
-- Assumes nothing.
use mathlib.Core.Path.{◌≡◌, refl, sym, ap, ap₂, ◌∙◌, subst}
use mathlib.Core.Bool.{Bool, true, false, cond, not, ◌&&◌, ◌||◌, or-true}
use mathlib.Core.List.{List, []}
use mathlib.Core.Logic.{◌⊎◌, inl, inr}
use Prim.Native.Nat.{ℕ, suc, ◌+◌, ◌-◌, ◌%◌, ◌≤◌, ◌<◌}
use native.Mathlib.Omega.{arith}
use native.Mathlib.Decide.{ℕ_discrete, dec_lt}
use borrow.Author.Tests.{eq-eqb, ne_eqb, lt-ltb, le-ltb, ltb-true, eqb-true, leb-true}
use lib.Dec.{T, leb, ltb, eqb}
use Rattle.bits.proofs.Search.{and_left, and_right}
use Rattle.structure.specs.Structure.{head_of, said, settled_head}
use Rattle.structure.specs.declared.Structure.{Structure}
use Rattle.frames.specs.Counts.{ahead, until, changing, enough, all_heard}
use Rattle.frames.specs.declared.Frames.{Frames}
use Rattle.map.specs.Map.{ids, structure_at, frames_of, good, announced}
use Rattle.map.specs.Calls.{then_head, then_number, unknown, found_of, shown_at, shown}
use Rattle.map.specs.Answers.{Shown}
use Rattle.multiplex.specs.Broadcast.{count_at, change, epoch}
use Rattle.multiplex.specs.Heard.{ours, shown_fields}
use Rattle.multiplex.specs.Air.{Air, timed, Orderly}
use Rattle.multiplex.specs.Sound.{kept, in_row, Word, unheard, absent, there, over, present_to, coming_to, word_for}
use Rattle.multiplex.specs.Finding.{Near, wholly_before}
use Rattle.multiplex.specs.Announcing.{NextChange, heard_news, Announces}
use Rattle.multiplex.specs.Admitting.{absent_to, absent_behind, absent_for, Reason, gone, long, Admits}
use Rattle.multiplex.proofs.Counting.{heard_all}
use Rattle.multiplex.proofs.Words.{Words}
use Rattle.multiplex.proofs.Listening.{capped, Known}
use Rattle.multiplex.proofs.Seeing.{shown-is, head-force, head-coming}
use Rattle.multiplex.proofs.Asked.{shown-some, changing-now, bit-front, bit-next, bit-settled}
use Rattle.multiplex.proofs.Soundness.{State, silent, since-one}
use Rattle.multiplex.proofs.Accepting.{Ready, ready_at}

-- ---- what is held behind a frame that is heard

pub record Kept (a : Air) (hears : ℕ → Bool) (t : ℕ) (m : List ℕ) : Type 0 where
  pub unbroken : Bool
  pub holds : Known a hears t m unbroken
  pub all-good : good m ≡ true

pub kept_at : (a : Air) (w : Orderly a) (hears : ℕ → Bool) → Near hears → (t : ℕ) → hears t ≡ true → Kept a hears t (kept ours a hears (suc t))
kept_at a w hears Near-by t ht = go (ready_at a w hears Near-by (suc t)) (ready_at a w hears Near-by (suc t)).state
  where
    go : Ready a hears (suc t) (kept ours a hears (suc t)) → State a hears (suc t) (kept ours a hears (suc t)) → Kept a hears t (kept ours a hears (suc t))
    go r (silent z q) = absurd (q t (omega arith) ht)
    go r (since-one T u l gap c any k) =
        let same : T ≡ t = omega (arith, l, gap t (omega arith) ht) in
        record { unbroken = u; holds = subst (λ (n : ℕ). Known a hears n (kept ours a hears (suc t)) u) same k; all-good = r.all-good }

-- ---- whether

said-news : (k p : Word) (F A : List ℕ) → Words k p F A → said (head_of A) ≡ heard_news p
unfolding said heard_news
said-news k unheard F A w = let z = w.nothing refl in λ i. ltb 0 (z.0 i) || eqb (z.1 i) 1
said-news k absent F A w = (λ i. ltb 0 (head_of A).fields || eqb ((w.ended refl).1 i) 1) ∙ or-true (ltb 0 (head_of A).fields)
said-news k there F A w = λ i. lt-ltb 0 (head_of A).fields (w.coming refl) i || eqb (head_of A).deleted 1

-- ---- when

next-change : (a : Air) (t : ℕ) → NextChange a t (until (count_at (timed a) t))
unfolding change count_at until ahead
next-change a t = record {
  comes = eq-eqb ((a.origin + (t + ((1 + 256 - (a.origin + t) % 256) % 128 + 1))) % 256 % 128) 2 (omega arith);
  first = λ u pos less. ne_eqb ((a.origin + (t + u)) % 256 % 128) 2 (λ e. omega arith);
}

module _ (a : Air) (hears : ℕ → Bool) (t : ℕ) (m : List ℕ) (k : Kept a hears t m) (id count : ℕ) (hid : id < ids) where
  h : Known a hears t m k.unbroken
  h = k.holds

  news-is : said (head_of (structure_at id 1 m)) ≡ heard_news (coming_to a hears id t)
  news-is = said-news _ (coming_to a hears id t) (structure_at id 0 m) (structure_at id 1 m) (h.words id hid)

  shows : shown m id count ≡ shown_at m id count
  shows = shown-is m id count h.size k.all-good

  pub tells : (shown m id count).announced ≡ cond (heard_news (coming_to a hears id t)) 1 0
  unfolding shown_at found_of announced
  tells = ap (λ (x : Shown). x.announced) shows ∙ ap (λ (x : Bool). cond x 1 0) news-is

  pub counts : heard_news (coming_to a hears id t) ≡ true → (shown m id count).frames ≡ until (count_at (timed a) t)
  unfolding shown_at found_of announced
  counts e =
      ap (λ (x : Shown). x.frames) shows
      ∙ (λ i. cond ((news-is ∙ e) i) (until (h.frames i).last) 0)

  unknown-is : (shown m id count).unknown ≡ cond (unknown (frames_of m) (then_head m id count)) 1 0
  unfolding shown_at found_of
  unknown-is = ap (λ (x : Shown). x.unknown) shows

  row_is : (frames_of m).row ≡ capped (in_row hears t)
  row_is = ap (λ (f : Frames). f.row) h.frames

  -- so many frames in a row
  pub enough-then : 255 ≤ in_row hears t → (shown m id count).unknown ≡ 0
  unfolding unknown enough capped
  enough-then e =
      unknown-is
      ∙ (λ i. cond (eqb (then_head m id count).fields 0 && (eqb (then_head m id count).certain 0 && not (full i))) 1 0)
      ∙ never (eqb (then_head m id count).fields 0) (eqb (then_head m id count).certain 0)
    where
      full : leb 255 (frames_of m).row ≡ true
      full = ap (leb 255) (row_is ∙ ap (λ (b : Bool). cond b (in_row hears t) 255) (not-below (in_row hears t) e))
        where
          not-below : (n : ℕ) → 255 ≤ n → ltb n 255 ≡ false
          not-below n q = le-ltb n 255 q

      never : (x y : Bool) → ◌≡◌ {A = ℕ} (cond (x && (y && false)) 1 0) 0
      never true true = refl
      never true false = refl
      never false y = refl

  row-long : enough (frames_of m) ≡ true → 255 ≤ in_row hears t
  unfolding enough capped
  row-long e = go (dec_lt (in_row hears t) 255) (leb-true 255 (frames_of m).row e)
    where
      go : Dec (in_row hears t < 255) → 255 ≤ (frames_of m).row → 255 ≤ in_row hears t
      go (yes q) r = absurd (omega (arith, q, r, row_is ∙ ap (λ (b : Bool). cond b (in_row hears t) 255) (lt-ltb (in_row hears t) 255 q)))
      go (no q) r = omega (arith, q)

  -- it does not say that it does not know
  known_by : (then_head m id count).fields ≡ 0 → (shown m id count).unknown ≡ 0 → (enough (frames_of m) ≡ true) ⊎ ((then_head m id count).certain ≡ 0 → ⊥)
  unfolding unknown
  known_by f e = go (enough (frames_of m)) (ℕ_discrete (then_head m id count).certain 0) refl
    where
      go : (b : Bool) → Dec ((then_head m id count).certain ≡ 0) → enough (frames_of m) ≡ b → (enough (frames_of m) ≡ true) ⊎ ((then_head m id count).certain ≡ 0 → ⊥)
      go true d q = inl q
      go false (no d) q = inr d
      go false (yes d) q =
          absurd (one-zero (cond (unknown (frames_of m) (then_head m id count)) 1 0) (sym unknown-is ∙ e)
          (λ i. cond (eqb (f i) 0 && (eqb (d i) 0 && not (q i))) 1 0))
        where
          one-zero : (x : ℕ) → x ≡ 0 → x ≡ 1 → ⊥
          one-zero x p r = omega (arith, p, r)

module _ (a : Air) (hears : ℕ → Bool) (t : ℕ) (m : List ℕ) (k : Kept a hears t m) (v id : ℕ) (hid : id < ids) (lo : t ≤ v) (hi : v ≤ t + 128)
    (zero_number : (shown m id (count_at (timed a) v)).number ≡ 0) (no_fields : shown_fields m id (count_at (timed a) v) ≡ []) where
  abbrev asked : ℕ
  asked = count_at (timed a) v

  abbrev behind : Bool
  behind = changing (frames_of m) asked && said (announced id m)

  words : Words (present_to a hears id t) (coming_to a hears id t) (structure_at id 0 m) (structure_at id 1 m)
  words = k.holds.words id hid

  -- the head that is shown has no field
  none-shown : ((then_head m id asked).whole ≡ 0) ⊎ ((then_head m id asked).whole ≡ 1) → (then_head m id asked).fields ≡ 0
  none-shown bit = go (ℕ_discrete (then_head m id asked).fields 0)
    where
      go : Dec ((then_head m id asked).fields ≡ 0) → (then_head m id asked).fields ≡ 0
      go (yes q) = q
      go (no q) = absurd (shown-some m id asked zero_number bit (omega (arith, q)) no_fields)

  -- nothing was announced, or not before that frame
  by-force : behind ≡ false → (shown m id asked).unknown ≡ 0 → Reason a hears id t v
  unfolding absent_for absent_behind announced heard_news
  by-force q e =
      let is = head-force m id asked k.holds.size k.all-good q in
      let f = none-shown (subst (λ (x : Structure). (x.whole ≡ 0) ⊎ (x.whole ≡ 1)) (sym is) (bit-front a hears (suc t) _ id _ (structure_at id 0 m) (k.holds.front id hid))) in
      go is f (known_by a hears t m k id asked hid f e)
    where
      last : absent_to a hears id t ≡ true → absent_for a hears id t v ≡ true
      last p = by (ltb (epoch (timed a) t) (epoch (timed a) v)) refl
        where
          by : (b : Bool) → ltb (epoch (timed a) t) (epoch (timed a) v) ≡ b → absent_for a hears id t v ≡ true
          by true z =
              ap (λ (b : Bool). cond b (absent_behind (coming_to a hears id t) a hears id t) (absent_to a hears id t)) z
              ∙ quiet (coming_to a hears id t) refl
            where
              unsaid : said (head_of (structure_at id 1 m)) ≡ false
              unsaid = sym (ap (λ (b : Bool). b && said (announced id m)) (changing-now a hears t m k.unbroken k.holds v lo hi ∙ z)) ∙ q

              quiet : (x : Word) → coming_to a hears id t ≡ x → absent_behind x a hears id t ≡ true
              quiet unheard z = p
              quiet absent z = absurd (subst T (sym (ap heard_news z) ∙ sym (news-is a hears t m k id asked hid) ∙ unsaid) tt)
              quiet there z = absurd (subst T (sym (ap heard_news z) ∙ sym (news-is a hears t m k id asked hid) ∙ unsaid) tt)
          by false z =
              ap (λ (b : Bool). cond b (absent_behind (coming_to a hears id t) a hears id t) (absent_to a hears id t)) z ∙ p

      go : then_head m id asked ≡ head_of (structure_at id 0 m) → (then_head m id asked).fields ≡ 0
          → (enough (frames_of m) ≡ true) ⊎ ((then_head m id asked).certain ≡ 0 → ⊥) → Reason a hears id t v
      go is f (inl z) = long (row-long a hears t m k id asked hid z)
      go is f (inr ne) =
          gone (last ((k.holds.sure id hid).gone (sym (ap (λ (x : Structure). x.fields) is) ∙ f) (λ z. ne (ap (λ (x : Structure). x.certain) is ∙ z))))

  -- the last frame of a configuration that was wholly heard
  all-heard : all_heard (frames_of m) ≡ true → (wholly_before a hears t ≡ true) × (change (timed a) (suc t) ≡ true)
  all-heard q =
      let is : (k.unbroken && change (timed a) (suc t)) ≡ true = sym (ap all_heard k.holds.frames ∙ heard_all (timed a) t k.unbroken _) ∙ q in
      (sym k.holds.wholly ∙ and_left k.unbroken _ is, and_right k.unbroken _ is)

  by-coming : behind ≡ true → (shown m id asked).unknown ≡ 0 → Reason a hears id t v
  unfolding said announced absent_for absent_behind settled_head
  by-coming q e =
      let su = all_heard (frames_of m) in
      let is = head-coming m id asked k.holds.size k.all-good q su refl in
      let f = none-shown (subst (λ (x : Structure). (x.whole ≡ 0) ⊎ (x.whole ≡ 1)) (sym is)
      (bit-settled su (head_of (structure_at id 1 m)) (bit-next a hears (suc t) _ id _ _ _ _ k.unbroken (structure_at id 1 m) (k.holds.next id hid)))) in
      go is (sym (ap (λ (x : Structure). x.fields) is) ∙ f) (known_by a hears t m k id asked hid f e)
    where
      now : ltb (epoch (timed a) t) (epoch (timed a) v) ≡ true
      now = sym (changing-now a hears t m k.unbroken k.holds v lo hi) ∙ and_left (changing (frames_of m) asked) _ q

      ended : (head_of (structure_at id 1 m)).fields ≡ 0 → coming_to a hears id t ≡ absent
      ended f =
          words.ends f
          (eqb-true (head_of (structure_at id 1 m)).deleted 1
          (sym (ap (λ (n : ℕ). ltb 0 n || eqb (head_of (structure_at id 1 m)).deleted 1) f) ∙ and_right (changing (frames_of m) asked) _ q))

      last : (head_of (structure_at id 1 m)).fields ≡ 0 → all_heard (frames_of m) ≡ true → absent_for a hears id t v ≡ true
      last f all =
          let x = all-heard all in
          ap (λ (b : Bool). cond b (absent_behind (coming_to a hears id t) a hears id t) (absent_to a hears id t)) now
          ∙ ap (λ (x : Word). absent_behind x a hears id t) (ended f) ∙ ap₂ (λ (x y : Bool). x && y) x.0 x.1

      go : then_head m id asked ≡ settled_head (all_heard (frames_of m)) (head_of (structure_at id 1 m)) → (head_of (structure_at id 1 m)).fields ≡ 0
          → (enough (frames_of m) ≡ true) ⊎ ((then_head m id asked).certain ≡ 0 → ⊥) → Reason a hears id t v
      go is f (inl z) = long (row-long a hears t m k id asked hid z)
      go is f (inr ne) = by (all_heard (frames_of m)) refl
        where
          by : (b : Bool) → all_heard (frames_of m) ≡ b → Reason a hears id t v
          by true z = gone (last f z)
          by false z =
              absurd (ne (ap (λ (x : Structure). x.certain) is ∙ ap (λ (b : Bool). cond b (head_of (structure_at id 1 m)).certain 0) z))

  pub reason : (shown m id asked).unknown ≡ 0 → Reason a hears id t v
  reason e = go behind refl
    where
      go : (b : Bool) → behind ≡ b → Reason a hears id t v
      go true q = by-coming q e
      go false q = by-force q e

-- ---- 46

module _ (a : Air) (hears : ℕ → Bool) (t : ℕ) (m : List ℕ) (k : Kept a hears t m) (v id : ℕ) (hid : id < ids) (lo : t ≤ v) (hi : v ≤ t + 128)
    (unfinished : (shown m id (count_at (timed a) v)).number ≡ 46) where
  abbrev c : ℕ
  c = count_at (timed a) v

  -- the structure has fields
  some-shown : 0 < (then_head m id c).fields
  unfolding shown_at found_of then_number
  some-shown = go (ltb 0 (then_head m id c).fields) refl
    where
      is : then_number (then_head m id c) ≡ 46
      is = sym (ap (λ (x : Shown). x.number) (shown-is m id c k.holds.size k.all-good)) ∙ unfinished

      differ : (x : ℕ) → x ≡ 0 → x ≡ 46 → ⊥
      differ x p q = omega (arith, p, q)

      go : (b : Bool) → ltb 0 (then_head m id c).fields ≡ b → 0 < (then_head m id c).fields
      go true e = ltb-true 0 (then_head m id c).fields e
      go false e =
          absurd (differ (then_number (then_head m id c)) (ap (λ (b : Bool). cond (b && eqb (then_head m id c).whole 0) 46 0) e) is)

  pub doubted : word_for a hears id t v ≡ there
  unfolding word_for over said announced settled_head heard_news
  doubted = go (changing (frames_of m) c && said (announced id m)) refl (ltb (epoch (timed a) t) (epoch (timed a) v)) refl
    where
      w : Words (present_to a hears id t) (coming_to a hears id t) (structure_at id 0 m) (structure_at id 1 m)
      w = k.holds.words id hid

      for : (b : Bool) → ltb (epoch (timed a) t) (epoch (timed a) v) ≡ b
          → word_for a hears id t v ≡ cond b (over (coming_to a hears id t) (present_to a hears id t)) (present_to a hears id t)
      for b z = ap (λ (b : Bool). cond b (over (coming_to a hears id t) (present_to a hears id t)) (present_to a hears id t)) z

      force : (changing (frames_of m) c && said (announced id m)) ≡ false → present_to a hears id t ≡ there
      force q = w.heard (subst (λ (x : Structure). 0 < x.fields) (head-force m id c k.holds.size k.all-good q) some-shown)

      come : (changing (frames_of m) c && said (announced id m)) ≡ true → coming_to a hears id t ≡ there
      come q = w.told (subst (λ (x : Structure). 0 < x.fields) (head-coming m id c k.holds.size k.all-good q (all_heard (frames_of m)) refl) some-shown)

      quiet : (x : Word) → coming_to a hears id t ≡ x → said (head_of (structure_at id 1 m)) ≡ false → present_to a hears id t ≡ there → over x (present_to a hears id t) ≡ there
      quiet unheard z s p = p
      quiet absent z s p = absurd (subst T (sym (ap heard_news z) ∙ sym (news-is a hears t m k id c hid) ∙ s) tt)
      quiet there z s p = refl

      go : (b : Bool) → (changing (frames_of m) c && said (announced id m)) ≡ b → (x : Bool) → ltb (epoch (timed a) t) (epoch (timed a) v) ≡ x → word_for a hears id t v ≡ there
      go true q true z = for true z ∙ ap (λ (y : Word). over y (present_to a hears id t)) (come q)
      go true q false z =
          absurd (subst T (sym (and_left (changing (frames_of m) c) _ q) ∙ changing-now a hears t m k.unbroken k.holds v lo hi ∙ z) tt)
      go false q true z =
          for true z
          ∙ quiet (coming_to a hears id t) refl
          (sym (ap (λ (b : Bool). b && said (announced id m)) (changing-now a hears t m k.unbroken k.holds v lo hi ∙ z)) ∙ q) (force q)
      go false q false z = for false z ∙ force q

-- ---- the theorems

pub announces : Announces ours
unfolding ours
announces = record {
  said = λ a w hears Near-by t id count ht hid. tells a hears t _ (kept_at a w hears Near-by t ht) id count hid;
  when = λ a w hears Near-by t id count ht hid e.
      subst (NextChange a t) (sym (counts a hears t _ (kept_at a w hears Near-by t ht) id count hid e)) (next-change a t);
}

pub admits : Admits ours
unfolding ours
admits = record {
  known = λ a w hears Near-by t v id ht lo hi hid number fields. reason a hears t _ (kept_at a w hears Near-by t ht) v id hid lo hi number fields;
  enough = λ a w hears Near-by t id count ht hid e. enough-then a hears t _ (kept_at a w hears Near-by t ht) id count hid (omega (arith, e));
  doubts = λ a w hears Near-by t v id ht lo hi hid number. doubted a hears t _ (kept_at a w hears Near-by t ht) v id hid lo hi number;
}
