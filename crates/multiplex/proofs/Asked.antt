-- What is shown for a frame that is asked for, up to 128 frames behind the last that was heard.
--
--   shown-good, shown-whole, shown-some    what number 0 says of the map, with fields and without
--   changing-now, next-now, same-now       which configuration runs in that frame
--   not-blank                              where a field was heard last, number 0 comes with fields
--
-- Assumes nothing.
use mathlib.Core.Path.{◌≡◌, refl, sym, ap, ap₂, ◌∙◌, subst}
use mathlib.Core.Bool.{Bool, true, false, cond, not, ◌&&◌, ◌||◌}
use mathlib.Core.List.{List, []}
use mathlib.Core.Logic.{◌⊎◌, inl, inr}
use Prim.Native.Nat.{ℕ, zero, suc, ◌+◌, ◌-◌, ◌*◌, ◌/◌, ◌≤◌, ◌<◌}
use native.Mathlib.Omega.{arith}
use native.Mathlib.Decide.{ℕ_discrete}
use borrow.Author.Tests.{eq-eqb, ne_eqb, le-ltb, lt-ltb, ltb-true, ltb-false, not-false}
use lib.Dec.{ltb, eqb}
use lib.ListN.{length}
use Rattle.bits.proofs.Rows.{refusal-passed}
use Rattle.structure.specs.Structure.{head_of, said, complete, settled_head}
use Rattle.structure.specs.declared.Structure.{Structure}
use Rattle.frames.specs.Counts.{ahead, changes, changing, all_heard}
use Rattle.frames.specs.declared.Frames.{Frames}
use Rattle.map.specs.Map.{ids, map_size, structure_at, frames_of, good, announced}
use Rattle.map.specs.Calls.{then_head, then_number, found_of, shown_at, show_answer, shown_by, shown}
use Rattle.map.specs.Answers.{Shown}
use Rattle.multiplex.specs.Broadcast.{count_at, epoch}
use Rattle.multiplex.specs.Heard.{fields_from, shown_fields}
use Rattle.multiplex.specs.Air.{Air, timed}
use Rattle.multiplex.specs.Sound.{Word, unheard, absent, there, over, coming_to, present_to, word_for}
use Rattle.multiplex.proofs.Seeing.{head-force, head-coming}
use Rattle.multiplex.proofs.Distances.{since-same, changes-epoch, epoch-either, epoch-mono}
use Rattle.multiplex.proofs.Knowing.{Front, some, all, Next, none, delete, piece, sure, full, part-head}
use Rattle.multiplex.proofs.Words.{absent-there}
use Rattle.multiplex.proofs.Listening.{Known}

-- ---- what is shown at all

module _ (m : List ℕ) (id c : ℕ) (zero_number : (shown m id c).number ≡ 0) where
  answered : show_answer m ≡ 0
  unfolding shown shown_by
  answered = go (show_answer m) zero_number
    where
      go : (n : ℕ) → (shown_by n (shown_at m id c)).number ≡ 0 → n ≡ 0
      go zero e = refl
      go (suc n) e = e

  pub shown-good : good m ≡ true
  unfolding show_answer
  shown-good =
      let first = (refusal-passed (not (eqb (length m) map_size)) 20 _ (omega arith) answered).1 in
      not-false (good m) (refusal-passed (not (good m)) 34 [] (omega arith) first).0

  pub shown-whole : (shown_fields m id c ≡ [] → ⊥) → (then_head m id c).whole ≡ 1
  unfolding shown_fields shown shown_by shown_at found_of fields_from
  shown-whole some-fields = go (ℕ_discrete (then_head m id c).whole 1)
    where
      is : shown m id c ≡ shown_at m id c
      is = ap (λ (n : ℕ). shown_by n (shown_at m id c)) answered

      go : Dec ((then_head m id c).whole ≡ 1) → (then_head m id c).whole ≡ 1
      go (yes e) = e
      go (no e) =
          absurd (some-fields (ap (λ (x : Shown). fields_from (x.len / 8) x.at m) is
          ∙ ap (λ (b : Bool). fields_from (cond b (8 * (then_head m id c).fields) 0 / 8) (shown_at m id c).at m) (ne_eqb (then_head m id c).whole 1 e)))

  -- a head that has fields and may be shown shows them
  pub shown-some : ((then_head m id c).whole ≡ 0) ⊎ ((then_head m id c).whole ≡ 1) → 0 < (then_head m id c).fields → shown_fields m id c ≡ [] → ⊥
  unfolding shown_fields shown shown_by shown_at found_of then_number fields_from
  shown-some (inl z) pos e =
      let passed : then_number (then_head m id c) ≡ 0 = sym (ap (λ (x : Shown). x.number) is) ∙ zero_number in
      let unfit : then_number (then_head m id c) ≡ 46 =
      λ i. cond (lt-ltb 0 (then_head m id c).fields pos i && eq-eqb (then_head m id c).whole 0 z i) 46 0 in
      differ (then_number (then_head m id c)) passed unfit
    where
      is : shown m id c ≡ shown_at m id c
      is = ap (λ (n : ℕ). shown_by n (shown_at m id c)) answered

      differ : (x : ℕ) → x ≡ 0 → x ≡ 46 → ⊥
      differ x p q = omega (arith, p, q)
  shown-some (inr z) pos e =
      none (then_head m id c).fields (shown_at m id c).at pos
      (ap (λ (n : ℕ). fields_from n (shown_at m id c).at m) (eighth (then_head m id c).fields
      ∙ sym (ap (λ (b : Bool). cond b (8 * (then_head m id c).fields) 0 / 8) (eq-eqb (then_head m id c).whole 1 z)))
      ∙ sym (ap (λ (x : Shown). fields_from (x.len / 8) x.at m) is) ∙ e)
    where
      is : shown m id c ≡ shown_at m id c
      is = ap (λ (n : ℕ). shown_by n (shown_at m id c)) answered

      eighth : (n : ℕ) → n ≡ 8 * n / 8
      eighth n = omega arith

      none : (n at : ℕ) → 0 < n → fields_from n at m ≡ [] → ⊥
      none zero at h q = omega (arith, h)
      none (suc n) at h q = omega (arith, ap length q)

-- ---- which configuration runs

module _ (a : Air) (hears : ℕ → Bool) (t : ℕ) (m : List ℕ) (u : Bool) (k : Known a hears t m u) (v : ℕ) (lo : t ≤ v) (hi : v ≤ t + 128) where
  abbrev c : ℕ
  c = count_at (timed a) v

  abbrev e : ℕ
  e = epoch (timed a) t

  -- a change falls before the frame that is asked for exactly where the next configuration runs then
  pub changing-now : changing (frames_of m) c ≡ ltb e (epoch (timed a) v)
  unfolding changing changes
  changing-now = ap (λ (x : Frames). changing x c) k.frames ∙ go (ℕ_discrete v t)
    where
      go : Dec (v ≡ t) → changes (count_at (timed a) t) c ≡ ltb e (epoch (timed a) v)
      go (yes q) =
          ap (λ (n : ℕ). changes (count_at (timed a) t) (count_at (timed a) n)) q
          ∙ ap (ltb (ahead 2 (count_at (timed a) t))) (since-same (count_at (timed a) t)) ∙ le-ltb (ahead 2 (count_at (timed a) t)) 0 (omega arith)
          ∙ sym (le-ltb e (epoch (timed a) v) (omega (arith, ap (epoch (timed a)) q)))
      go (no q) =
          let at : t + (v - t) ≡ v = omega arith in
          subst (λ (n : ℕ). changes (count_at (timed a) t) (count_at (timed a) n) ≡ ltb e (epoch (timed a) n)) at
          (changes-epoch (timed a) t (v - t) (omega (arith, q)) (omega arith))

module _ (a : Air) (t v : ℕ) (lo : t ≤ v) where
  abbrev now : ℕ
  now = epoch (timed a) t

  pub next-now : v ≤ t + 128 → ltb now (epoch (timed a) v) ≡ true → epoch (timed a) v ≡ suc now
  next-now hi q =
      let at : t + (v - t) ≡ v = omega arith in
      go (subst (λ (n : ℕ). (epoch (timed a) n ≡ now) ⊎ (epoch (timed a) n ≡ suc now)) at (epoch-either (timed a) t (v - t) (omega arith)))
    where
      go : (epoch (timed a) v ≡ now) ⊎ (epoch (timed a) v ≡ suc now) → epoch (timed a) v ≡ suc now
      go (inl z) = absurd (omega (arith, z, ltb-true now (epoch (timed a) v) q))
      go (inr z) = z

  pub same-now : ltb now (epoch (timed a) v) ≡ false → epoch (timed a) v ≡ now
  same-now q = omega (arith, ltb-false now (epoch (timed a) v) q, epoch-mono (timed a) t v lo)

-- ---- a field was heard last

pub bit-front : (a : Air) (hears : ℕ → Bool) (n e id due : ℕ) (s : List ℕ) → Front a hears n e id due s → ((head_of s).whole ≡ 0) ⊎ ((head_of s).whole ≡ 1)
bit-front a hears n e id due s (some p) = inl (part-head s _ due p).0
bit-front a hears n e id due s (all j l hl hj pos h q) = inr h.whole

pub bit-next : (a : Air) (hears : ℕ → Bool) (n e id due count links : ℕ) (g u : Bool) (s : List ℕ) → Next a hears n e id due count links g u s
    → ((head_of s).whole ≡ 0) ⊎ ((head_of s).whole ≡ 1)
bit-next a hears n e id due count links g u s (none em c q) = inl em.whole
bit-next a hears n e id due count links g u s (delete d c) = inl d.whole
bit-next a hears n e id due count links g u s (piece w h p) = inl (part-head s _ due p).0
bit-next a hears n e id due count links g u s (sure k pos le c d hl la h) = inl h.whole
bit-next a hears n e id due count links g u s (full l hl pos la h) = inr h.whole

pub bit-settled : (su : Bool) (h : Structure) → (h.whole ≡ 0) ⊎ (h.whole ≡ 1) → ((settled_head su h).whole ≡ 0) ⊎ ((settled_head su h).whole ≡ 1)
unfolding settled_head
bit-settled true h b = go (complete h)
  where
    go : (x : Bool) → (cond x 1 h.whole ≡ 0) ⊎ (cond x 1 h.whole ≡ 1)
    go true = inr refl
    go false = b
bit-settled false h b = b

module _ (a : Air) (hears : ℕ → Bool) (t : ℕ) (m : List ℕ) (u : Bool) (k : Known a hears t m u) (v id : ℕ) (hid : id < ids) (lo : t ≤ v) (hi : v ≤ t + 128)
    (zero_number : (shown m id (count_at (timed a) v)).number ≡ 0) (no_fields : shown_fields m id (count_at (timed a) v) ≡ []) where
  abbrev asked : ℕ
  asked = count_at (timed a) v

  gm : good m ≡ true
  gm = shown-good m id asked zero_number

  -- the structure in force has none, or the announced one
  by-force : (changing (frames_of m) asked && said (announced id m)) ≡ false → 0 < (head_of (structure_at id 0 m)).fields → ⊥
  by-force q pos =
      let is = head-force m id asked k.size gm q in
      shown-some m id asked zero_number
      (subst (λ (h : Structure). (h.whole ≡ 0) ⊎ (h.whole ≡ 1)) (sym is) (bit-front a hears (suc t) _ id _ (structure_at id 0 m) (k.front id hid)))
      (omega (arith, pos, ap (λ (h : Structure). h.fields) is)) no_fields

  by-coming : (changing (frames_of m) asked && said (announced id m)) ≡ true → 0 < (head_of (structure_at id 1 m)).fields → ⊥
  unfolding settled_head
  by-coming q pos =
      let su = all_heard (frames_of m) in
      let is = head-coming m id asked k.size gm q su refl in
      shown-some m id asked zero_number
      (subst (λ (h : Structure). (h.whole ≡ 0) ⊎ (h.whole ≡ 1)) (sym is)
      (bit-settled su (head_of (structure_at id 1 m)) (bit-next a hears (suc t) _ id _ _ _ _ u (structure_at id 1 m) (k.next id hid))))
      (omega (arith, pos, ap (λ (h : Structure). h.fields) is)) no_fields

  -- behind a change, by what was heard of the coming structure
  behind : changing (frames_of m) asked ≡ true → (p : Word) → coming_to a hears id t ≡ p → over p (present_to a hears id t) ≡ there → ⊥
  unfolding over said announced
  behind c unheard e last =
      let z = (k.words id hid).nothing e in
      by-force (ap₂ (λ (x y : Bool). x && y) c (ap₂ (λ (x y : ℕ). ltb 0 x || eqb y 1) z.0 z.1)) ((k.words id hid).present last)
  behind c absent e last = absent-there last
  behind c there e last =
      let pos = (k.words id hid).coming e in
      by-coming (ap₂ (λ (x y : Bool). x && (y || eqb (head_of (structure_at id 1 m)).deleted 1)) c (lt-ltb 0 _ pos)) pos

  pub not-blank : word_for a hears id t v ≡ there → ⊥
  unfolding word_for
  not-blank last = go (ltb (epoch (timed a) t) (epoch (timed a) v)) refl
    where
      go : (b : Bool) → ltb (epoch (timed a) t) (epoch (timed a) v) ≡ b → ⊥
      go true z = behind (changing-now a hears t m u k v lo hi ∙ z) (coming_to a hears id t) refl
          (sym (ap (λ (b : Bool). cond b (over (coming_to a hears id t) (present_to a hears id t)) (present_to a hears id t)) z) ∙ last)
      go false z = by-force (ap (λ (b : Bool). b && said (announced id m)) (changing-now a hears t m u k v lo hi ∙ z))
          ((k.words id hid).present (sym (ap (λ (b : Bool). cond b (over (coming_to a hears id t) (present_to a hears id t)) (present_to a hears id t)) z) ∙ last))
