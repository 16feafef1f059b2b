-- Whatever a map shows is a whole structure, and was announced away, or denied, in no frame that was heard.
--
--   front-shows, next-shows    by the structure in force, and by the announced one
--   never-wrong                the theorem, of our machine
--
-- Assumes nothing.
use mathlib.Core.Path.{◌≡◌, refl, sym, ap, ◌∙◌, subst}
use mathlib.Core.Bool.{Bool, true, false, cond, ◌&&◌}
use mathlib.Core.List.{List, []}
use mathlib.Core.Logic.{◌⊎◌, inl, inr}
use Prim.Native.Nat.{ℕ, suc, ◌+◌, ◌≤◌, ◌<◌}
use native.Mathlib.Omega.{arith}
use borrow.Author.Tests.{eq-eqb, lt-ltb, le-ltb}
use lib.Dec.{T, leb, ltb, eqb}
use lib.ListN.{length}
use Rattle.bits.proofs.Search.{and_left, and_right, neither_left, neither_right}
use Rattle.structure.specs.Structure.{most, head_of, said, complete, settled_head}
use Rattle.structure.specs.declared.Structure.{Structure}
use Rattle.structure.proofs.Gathering.{Holds}
use Rattle.frames.specs.Counts.{changing, all_heard}
use Rattle.map.specs.Map.{ids, structure_at, frames_of, good, announced}
use Rattle.map.specs.Calls.{then_head, shown}
use Rattle.multiplex.specs.Broadcast.{count_at, change, epoch}
use Rattle.multiplex.specs.Heard.{ours, shown_fields}
use Rattle.multiplex.specs.Air.{Air, timed, old_in, later, last_old, new_to, gone_to, Said, nothing, described, deleted, Orderly}
use Rattle.multiplex.specs.Sound.{kept, Listener, Quiet, Undenied, there, word_for, Whole, NeverWrong}
use Rattle.multiplex.proofs.Seeing.{present, head-force, seen-force, head-coming, seen-coming}
use Rattle.multiplex.proofs.Counting.{heard_all}
use Rattle.multiplex.proofs.Distances.{epoch-mono}
use Rattle.multiplex.proofs.Knowing.{Front, some, all, Next, none, delete, piece, sure, full, QuietTo, Silent, Settled, stays-so, told, ends, part-head, quiet-over}
use Rattle.multiplex.proofs.Listening.{Known}
use Rattle.multiplex.proofs.Asked.{shown-good, shown-whole, changing-now, next-now, same-now, not-blank}
use Rattle.multiplex.proofs.Soundness.{State, silent, since-one, state-at}

-- ---- by what is held

-- nothing was announced
unsaid-silent : (a : Air) (hears : ℕ → Bool) (n e id due count links : ℕ) (g u : Bool) (s : List ℕ) → Next a hears n e id due count links g u s
    → said (head_of s) ≡ false → Silent a hears n e id
unfolding said
unsaid-silent a hears n e id due count links g u s (none em x y) z = y
unsaid-silent a hears n e id due count links g u s (delete d c) z =
    absurd (subst T (sym (eq-eqb (head_of s).deleted 1 d.deleted) ∙ neither_right (ltb 0 (head_of s).fields) (eqb (head_of s).deleted 1) z) tt)
unsaid-silent a hears n e id due count links g u s (piece b p q) z = absurd (subst T (sym (lt-ltb 0 (head_of s).fields p) ∙ neither_left _ _ z) tt)
unsaid-silent a hears n e id due count links g u s (sure k pos le c d hl la h) z =
    absurd (subst T (sym (lt-ltb 0 (head_of s).fields (omega (arith, h.fields, pos))) ∙ neither_left (ltb 0 (head_of s).fields) _ z) tt)
unsaid-silent a hears n e id due count links g u s (full l hl pos la h) z =
    absurd (subst T (sym (lt-ltb 0 (head_of s).fields (omega (arith, h.fields, pos))) ∙ neither_left (ltb 0 (head_of s).fields) _ z) tt)

-- an announced structure that is shown is all there: it was known to be whole, or nothing more can come of it
record Complete (s zs : List ℕ) (su : Bool) : Type 0 where
  mark : ℕ
  links : ℕ
  some : 0 < length zs
  holds : Holds s (length zs) zs mark links
  known : (su ≡ true × (head_of s).late ≡ 0) ⊎ (mark ≡ 1)

-- a head without fields is not made whole
never-whole : (su : Bool) (h : Structure) → h.fields ≡ 0 → h.whole ≡ 0 → (settled_head su h).whole ≡ 1 → ⊥
unfolding settled_head complete
never-whole su h f w e = omega (arith, e, go su (eqb h.late 0))
  where
    never : (x y : Bool) → cond (x && (y && (false && leb h.fields most))) 1 h.whole ≡ h.whole
    never true true = refl
    never true false = refl
    never false y = refl

    go : (x y : Bool) → cond (x && (y && (ltb 0 h.fields && leb h.fields most))) 1 h.whole ≡ 0
    go x y = ap (λ (b : Bool). cond (x && (y && (b && leb h.fields most))) 1 h.whole) (le-ltb 0 h.fields (omega (arith, f))) ∙ never x y ∙ w

all_there : (a : Air) (hears : ℕ → Bool) (n e id due count links : ℕ) (g u : Bool) (s : List ℕ) (su : Bool) → Next a hears n e id due count links g u s
    → (su ≡ true → (u ≡ true) × Settled (a.config e id) (a.config (suc e) id) count g) → (settled_head su (head_of s)).whole ≡ 1
    → Complete s (a.config (suc e) id) su
unfolding settled_head
all_there a hears n e id due count links g u s su (none em x y) heard w = absurd (never-whole su (head_of s) em.fields em.whole w)
all_there a hears n e id due count links g u s su (delete d c) heard w = absurd (never-whole su (head_of s) d.fields d.whole w)
all_there a hears n e id due count links g u s true (piece b p q) heard w = absurd (subst T (sym (heard refl).0 ∙ b) tt)
all_there a hears n e id due count links g u s false (piece b p q) heard w = absurd (omega (arith, w, (part-head s _ due q).0))
all_there a hears n e id due count links g u s true (sure i pos le c d hl la h) heard w = go (heard refl).1
  where
    go : Settled (a.config e id) (a.config (suc e) id) count g → Complete s (a.config (suc e) id) true
    go (stays-so z x y) = absurd (omega (arith, pos, c, z))
    go (told p q) =
        let z : i ≡ length (a.config (suc e) id) = omega (arith, le, q, c) in
        record { mark = 0; links = links; some = p; holds = subst (λ (x : ℕ). Holds s x (a.config (suc e) id) 0 links) z h; known = inl (refl, la) }
    go (ends z x) = absurd (omega (arith, pos, le, ap length z))
all_there a hears n e id due count links g u s false (sure i pos le c d hl la h) heard w = absurd (omega (arith, w, h.whole))
all_there a hears n e id due count links g u s su (full l hl pos la h) heard w = record { mark = 1; links = l; some = pos; holds = h; known = inr refl }

module _ (a : Air) (w : Orderly a) (hears : ℕ → Bool) (t : ℕ) (m : List ℕ) (u : Bool) (k : Known a hears t m u) (v id : ℕ) (hid : id < ids)
    (lo : t ≤ v) (hi : v ≤ t + 128) (zero_number : (shown m id (count_at (timed a) v)).number ≡ 0)
    (some-fields : shown_fields m id (count_at (timed a) v) ≡ [] → ⊥) where
  abbrev c : ℕ
  c = count_at (timed a) v

  abbrev e : ℕ
  e = epoch (timed a) t

  record Shows : Type 0 where
    pub from : ℕ
    pub past : from ≤ epoch (timed a) v
    pub fields : shown_fields m id c ≡ a.config from id
    pub quiet : Quiet a hears t from (epoch (timed a) v) id
    pub undenied : Undenied a hears t from id (a.config from id)

  changing-is : changing (frames_of m) c ≡ ltb e (epoch (timed a) v)
  changing-is = changing-now a hears t m u k v lo hi

  gm : good m ≡ true
  gm = shown-good m id c zero_number

  whole-head : (then_head m id c).whole ≡ 1
  whole-head = shown-whole m id c zero_number some-fields

  quiet-shown : (j x : ℕ) → QuietTo a hears (suc t) j x id → Quiet a hears t j x id
  quiet-shown j x q y hy hh l h = q.quiet y (omega (arith, hy)) hh l h

  undenied-shown : (j x : ℕ) → QuietTo a hears (suc t) j x id → Undenied a hears t j id (a.config j id)
  undenied-shown j x q y hy hh l = q.undenied y (omega (arith, hy)) hh l

  -- ---- the structure in force

  silent-by : said (announced id m) ≡ false → Silent a hears (suc t) e id
  unfolding announced
  silent-by s = unsaid-silent a hears (suc t) e id _ _ _ _ u (structure_at id 1 m) (k.next id hid) s

  front-shows : (changing (frames_of m) c && said (announced id m)) ≡ false → Front a hears (suc t) e id (later (old_in id (a.carries t)) (last_old a id t)) (structure_at id 0 m) → Shows
  front-shows q (some p) =
      absurd (omega (arith, whole-head, ap (λ (h : Structure). h.whole) (head-force m id c k.size gm q), (part-head (structure_at id 0 m) _ _ p).0))
  front-shows q (all j l hl hj pos h quiet) = go (ltb e (epoch (timed a) v)) refl
    where
      shows : shown_fields m id c ≡ a.config j id
      shows = (seen-force m id c k.size gm q (a.config j id) (w.linked j id hid).few (present l hl pos h)).fields

      go : (b : Bool) → ltb e (epoch (timed a) v) ≡ b → Shows
      go false z =
          let on = same-now a t v lo z in
          record {
            from = j;
            past = omega (arith, hj, on);
            fields = shows;
            quiet = subst (λ (x : ℕ). Quiet a hears t j x id) (sym on) (quiet-shown j e quiet);
            undenied = undenied-shown j e quiet;
          }
      go true z =
          let on = next-now a t v lo hi z in
          let unsaid : said (announced id m) ≡ false = sym (ap (λ (b : Bool). b && said (announced id m)) (changing-is ∙ z)) ∙ q in
          record {
            from = j;
            past = omega (arith, hj, on);
            fields = shows;
            quiet = subst (λ (x : ℕ). Quiet a hears t j x id) (sym on)
                (quiet-shown j (suc e) (quiet-over a hears (suc t) j e id quiet (silent-by unsaid)));
            undenied = undenied-shown j e quiet;
          }

  -- ---- the announced one

  -- the next frame begins a configuration, and every frame of the running one was heard
  all_told : all_heard (frames_of m) ≡ true → (u ≡ true) × Settled (a.config e id) (a.config (suc e) id) (new_to a id t) (gone_to a id t)
  all_told q =
      let is : (u && change (timed a) (suc t)) ≡ true = sym (ap all_heard k.frames ∙ heard_all (timed a) t u _) ∙ q in
      let marked : u ≡ true = and_left u _ is in
      (marked, settled-by (w.said t id hid (and_right u _ is) (k.begun marked)))
    where
      settled-by : Said a t id → Settled (a.config e id) (a.config (suc e) id) (new_to a id t) (gone_to a id t)
      settled-by (nothing z g s) = stays-so z g s
      settled-by (described p x) = told p x
      settled-by (deleted z g) = ends z g

  next-shows : (changing (frames_of m) c && said (announced id m)) ≡ true → Shows
  next-shows q =
      let on : epoch (timed a) v ≡ suc e = next-now a t v lo hi (sym changing-is ∙ and_left (changing (frames_of m) c) _ q) in
      let su = all_heard (frames_of m) in
      let head = ap (λ (h : Structure). h.whole) (sym (head-coming m id c k.size gm q su refl)) ∙ whole-head in
      let f = all_there a hears (suc t) e id _ _ _ _ u (structure_at id 1 m) su (k.next id hid) all_told head in
      record {
        from = suc e;
        past = omega (arith, on);
        fields = (seen-coming m id c k.size gm q su refl (a.config (suc e) id) f.mark f.links f.known f.some (w.linked (suc e) id hid).few f.holds).fields;
        quiet = λ x hx hh l h. absurd (omega (arith, l, h, on));
        undenied = λ x hx hh l. absurd (omega (arith, l, epoch-mono (timed a) x t hx));
      }

  shows : Shows
  shows = go (changing (frames_of m) c && said (announced id m)) refl
    where
      go : (b : Bool) → (changing (frames_of m) c && said (announced id m)) ≡ b → Shows
      go true q = next-shows q
      go false q = front-shows q (k.front id hid)

-- ---- the theorem

-- what is held behind a frame that is heard
record Kept (a : Air) (hears : ℕ → Bool) (t : ℕ) : Type 0 where
  unbroken : Bool
  holds : Known a hears t (kept ours a hears (suc t)) unbroken

pub never-wrong : NeverWrong ours
unfolding ours
never-wrong = record {
  sound = λ a w hears L t v id ht lo hi hid number fields. whole a w hears t v id lo hi hid number fields (known a w hears L t ht);
  blank = λ a w hears L t v id ht lo hi hid number fields last. none a hears t v id lo hi hid number fields last (known a w hears L t ht);
}
  where
    known : (a : Air) (w : Orderly a) (hears : ℕ → Bool) (L : Listener ours a hears) (t : ℕ) → hears t ≡ true → Kept a hears t
    known a w hears L t ht = go (state-at a w hears L (suc t))
      where
        go : State a hears (suc t) (kept ours a hears (suc t)) → Kept a hears t
        go (silent z q) = absurd (q t (omega arith) ht)
        go (since-one n u l gap f any k) =
            let same : n ≡ t = omega (arith, l, gap t (omega arith) ht) in
            record { unbroken = u; holds = subst (λ (x : ℕ). Known a hears x (kept ours a hears (suc t)) u) same k }

    whole : (a : Air) (w : Orderly a) (hears : ℕ → Bool) (t v id : ℕ) → t ≤ v → v ≤ t + 128 → id < ids
        → (shown (kept ours a hears (suc t)) id (count_at (timed a) v)).number ≡ 0
        → (shown_fields (kept ours a hears (suc t)) id (count_at (timed a) v) ≡ [] → ⊥) → Kept a hears t → Whole ours a hears t v id
    whole a w hears t v id lo hi hid number fields x =
        let s = shows a w hears t (kept ours a hears (suc t)) x.unbroken x.holds v id hid lo hi number fields in
        record { from = s.from; past = s.past; fields = s.fields; quiet = s.quiet; undenied = s.undenied }

    none : (a : Air) (hears : ℕ → Bool) (t v id : ℕ) → t ≤ v → v ≤ t + 128 → id < ids
        → (shown (kept ours a hears (suc t)) id (count_at (timed a) v)).number ≡ 0
        → shown_fields (kept ours a hears (suc t)) id (count_at (timed a) v) ≡ [] → word_for a hears id t v ≡ there → Kept a hears t → ⊥
    none a hears t v id lo hi hid number fields last x =
        not-blank a hears t (kept ours a hears (suc t)) x.unbroken x.holds v id hid lo hi number fields last
