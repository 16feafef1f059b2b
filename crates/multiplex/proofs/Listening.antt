-- A map that was started anywhere in a broadcast and missed frames: what it holds from one frame that is heard to the next.
--
--   Known a hears t m u      what it holds when it has taken in the field of frame t; u: every frame of the running configuration was heard
--   Before a hears t m u     what it holds before that, behind the changes up to frame t
--   field-known              the field of frame t
--   near-known, far-known    the next frame is heard; frames are missed before it
--   first-known              nothing was heard before it
--
-- Assumes nothing.
use mathlib.Core.Path.{◌≡◌, refl, sym, ap, ap₂, ◌∙◌, subst}
use mathlib.Core.Bool.{Bool, true, false, cond, not, ◌&&◌, ◌||◌, or-false, or-true, and-false}
use mathlib.Core.List.{List, []}
use Prim.Native.Nat.{ℕ, zero, suc, ◌+◌, ◌<◌}
use native.Mathlib.Omega.{arith}
use native.Mathlib.Decide.{ℕ_discrete}
use borrow.Author.Tests.{eq-eqb, ne_eqb}
use lib.Dec.{ltb, eqb, lit<}
use lib.ListN.{length, get_or}
use Rattle.bits.proofs.Search.{clash}
use Rattle.field.specs.Field.{panning}
use Rattle.structure.specs.Structure.{structure_size, head_of, gathered, absence, deletion, certainly}
use Rattle.structure.proofs.Kept.{gathered-length, absence-length, absence-empty, deletion-length}
use Rattle.structure.proofs.Runs.{empty}
use Rattle.structure.proofs.Firsts.{open_none}
use Rattle.frames.specs.declared.Frames.{Frames}
use Rattle.map.specs.Map.{ids, map_size, structure_at, with_structure, frames_of, with_frames}
use Rattle.map.specs.Calls.{put_in, taken_in}
use Rattle.map.proofs.Places.{structure-length, structure-same, structure-other, with-structure-length, with-frames-length, structures-kept, frames-stored}
use Rattle.multiplex.specs.Broadcast.{count_at, change, epoch, begun}
use Rattle.multiplex.specs.Air.{Carries, new, old, gone, vectors, Air, timed, carried_as, field_on, new_in, old_in, gone_in, later, last_old, last_new, link_of, links_old, links_new, one, new_before, new_to, gone_before, gone_to, in_force, coming, InTurn, Orderly}
use Rattle.multiplex.specs.Sound.{in_row, announces, lists, denies, Word, unheard, absent, there, over, present_in, coming_in, coming_before, coming_to, present_before, present_to}
use Rattle.multiplex.specs.Finding.{first, found, alone_before, rounds_of, rounds_before, rounds_to, new_rounds_before, new_rounds_to, wholly_before, ready_before, ready_to}
use Rattle.multiplex.specs.Doubting.{came_before, came_to}
use Rattle.multiplex.specs.Admitting.{absent_by, absent_before, absent_to}
use Rattle.multiplex.proofs.Rounded.{rounded}
use Rattle.multiplex.proofs.Rounding.{Turns, turns-plain, turns-gone, turns-old, Sought, unbegun, sought-plain, sought-new}
use Rattle.multiplex.proofs.Words.{Words, Sure, sure-as, words-as, words-force, words-dropped, words-told, words-ends, some-old, some-new}
use Rattle.multiplex.proofs.Knowing.{Front, some, Next, delete, deletion-deleting, front-on, front-old, next-on, next-new}

-- ---- what is held

abbrev old_last : Air → ℕ → ℕ → ℕ
old_last a id t = later (old_in id (a.carries t)) (last_old a id t)

abbrev new_last : Air → ℕ → ℕ → ℕ
new_last a id t = later (new_in id (a.carries t)) (last_new a id t)

abbrev link_last : Air → ℕ → ℕ → ℕ
link_last a id t = cond (eqb (new_in id (a.carries t)) 0) (links_new a id t) (link_of (a.carries t))

abbrev old_link : Air → ℕ → ℕ → ℕ
old_link a id t = cond (eqb (old_in id (a.carries t)) 0) (links_old a id t) (link_of (a.carries t))

-- as far as the byte goes
unfoldable pub capped : ℕ → ℕ
capped n = cond (ltb n 255) n 255

pub record Known (a : Air) (hears : ℕ → Bool) (t : ℕ) (m : List ℕ) (u : Bool) : Type 0 where
  pub size : length m ≡ map_size
  pub frames : frames_of m ≡ record { last = count_at (timed a) t; heard = 1; unbroken = cond u 1 0; row = capped (in_row hears t) }
  pub begun : u ≡ true → begun (timed a) t ≡ true
  pub front : (id : ℕ) → id < ids → Front a hears (suc t) (epoch (timed a) t) id (old_last a id t) (structure_at id 0 m)
  pub next : (id : ℕ) → id < ids
      → Next a hears (suc t) (epoch (timed a) t) id (new_last a id t) (new_to a id t) (link_last a id t) (gone_to a id t) u (structure_at id 1 m)
  pub heard : hears t ≡ true
  pub words : (id : ℕ) → id < ids → Words (present_to a hears id t) (coming_to a hears id t) (structure_at id 0 m) (structure_at id 1 m)
  pub sure : (id : ℕ) → id < ids → Sure (absent_to a hears id t) (in_force a t id) (coming a t id) (structure_at id 0 m) (structure_at id 1 m)
  pub wholly : u ≡ wholly_before a hears t
  pub turns : (id : ℕ) → id < ids → Turns (ready_to a hears id t) (alone_before a hears t) (rounds_to a hears id t) (in_force a t id) (old_last a id t) (old_link a id t) (structure_at id 0 m)
  pub sought : (id : ℕ) → id < ids → Sought (new_rounds_to a hears id t) (came_to a hears id t) (coming a t id) (new_last a id t) (link_last a id t) (structure_at id 1 m)

pub record Before (a : Air) (hears : ℕ → Bool) (t : ℕ) (m : List ℕ) (u : Bool) : Type 0 where
  pub size : length m ≡ map_size
  pub begun : u ≡ true → begun (timed a) t ≡ true
  pub front : (id : ℕ) → id < ids → Front a hears t (epoch (timed a) t) id (last_old a id t) (structure_at id 0 m)
  pub next : (id : ℕ) → id < ids
      → Next a hears t (epoch (timed a) t) id (last_new a id t) (new_before a id t) (links_new a id t) (gone_before a id t) u (structure_at id 1 m)
  pub words : (id : ℕ) → id < ids → Words (present_before a hears id t) (coming_before a hears id t) (structure_at id 0 m) (structure_at id 1 m)
  pub sure : (id : ℕ) → id < ids → Sure (absent_before a hears id t) (in_force a t id) (coming a t id) (structure_at id 0 m) (structure_at id 1 m)
  pub wholly : u ≡ wholly_before a hears t
  pub turns : (id : ℕ) → id < ids
      → Turns (ready_before a hears id t) (alone_before a hears t) (rounds_before a hears id t) (in_force a t id) (last_old a id t) (links_old a id t) (structure_at id 0 m)
  pub sought : (id : ℕ) → id < ids → Sought (new_rounds_before a hears id t) (came_before a hears id t) (coming a t id) (last_new a id t) (links_new a id t) (structure_at id 1 m)

pub front-as : (a : Air) (hears : ℕ → Bool) (n e id due : ℕ) (s : List ℕ) (e' due' : ℕ) → e ≡ e' → due ≡ due'
    → Front a hears n e id due s → Front a hears n e' id due' s
front-as a hears n e id due s e' due' p q f = subst (λ (x : ℕ). Front a hears n x id due' s) p (subst (λ (x : ℕ). Front a hears n e id x s) q f)

pub next-as : (a : Air) (hears : ℕ → Bool) (n e id due count links : ℕ) (g u : Bool) (s : List ℕ) (e' due' count' links' : ℕ) (g' : Bool)
    → e ≡ e' → due ≡ due' → count ≡ count' → links ≡ links' → g ≡ g'
    → Next a hears n e id due count links g u s → Next a hears n e' id due' count' links' g' u s
next-as a hears n e id due count links g u s e' due' count' links' g' p q r v w f =
    subst (λ (x : ℕ). Next a hears n x id due' count' links' g' u s) p
    (subst (λ (x : ℕ). Next a hears n e id x count' links' g' u s) q
    (subst (λ (x : ℕ). Next a hears n e id due x links' g' u s) r
    (subst (λ (x : ℕ). Next a hears n e id due count x g' u s) v
    (subst (λ (x : Bool). Next a hears n e id due count links x u s) w f))))

-- where no field of the coming structure was carried, none was last
none_last : (a : Air) (id t : ℕ) → new_before a id t ≡ 0 → last_new a id t ≡ 0
unfolding new_before last_new later
none_last a id zero z = refl
none_last a id (suc t) z = go (change (timed a) (suc t)) (new_in id (a.carries t)) z (none_last a id t)
  where
    go : (b : Bool) (n : ℕ) → cond b 0 (new_before a id t + one n) ≡ 0 → (new_before a id t ≡ 0 → last_new a id t ≡ 0) → cond b 0 (later n (last_new a id t)) ≡ 0
    go true n z r = refl
    go false zero z r = r (omega (arith, z))
    go false (suc n) z r = absurd (omega (arith, z, ap (λ (b : Bool). new_before a id t + cond b 0 1) (ne_eqb (suc n) 0 (λ q. omega (arith, q)))))

-- nor did it begin
none-begun : (a : Air) (hears : ℕ → Bool) (id t : ℕ) → new_before a id t ≡ 0 → new_rounds_before a hears id t ≡ 0
unfolding new_before rounds_of first
none-begun a hears id zero z = refl
none-begun a hears id (suc t) z = go (hears t) (change (timed a) (suc t)) (new_in id (a.carries t)) z (none-begun a hears id t)
  where
    go : (h b : Bool) (n : ℕ) → cond b 0 (new_before a id t + one n) ≡ 0 → (new_before a id t ≡ 0 → new_rounds_before a hears id t ≡ 0)
        → cond h (cond b 0 (new_rounds_before a hears id t + first n)) 0 ≡ 0
    go false b n z r = refl
    go true true n z r = refl
    go true false zero z r = omega (arith, r (omega (arith, z)), none_first)
      where
        none_first : first 0 ≡ 0
        none_first = refl
    go true false (suc n) z r = absurd (omega (arith, z, ap (λ (b : Bool). new_before a id t + cond b 0 1) (ne_eqb (suc n) 0 (λ q. omega (arith, q)))))

-- nor come round
none-round : (a : Air) (hears : ℕ → Bool) (id t : ℕ) → new_before a id t ≡ 0 → came_before a hears id t ≡ false
unfolding new_before came_before
none-round a hears id zero z = refl
none-round a hears id (suc t) z = go (change (timed a) (suc t)) z (none-round a hears id t)
  where
    go : (b : Bool) → cond b 0 (new_before a id t + one (new_in id (a.carries t))) ≡ 0 → (new_before a id t ≡ 0 → came_before a hears id t ≡ false)
        → cond b false (rounded (came_before a hears id t) (new_rounds_before a hears id (suc t))) ≡ false
    go true e r = refl
    go false e r = ap₂ rounded (r (omega (arith, e))) (none-begun a hears id (suc t) z)

-- a frame that carries none of its fields
turns-none : (ready alone : Bool) (b : ℕ) (xs : List ℕ) (due l : ℕ) (F : List ℕ) (n v : ℕ) → n ≡ 0 → Turns ready alone b xs due l F
    → Turns (ready || found alone (b + first n)) alone (b + first n) xs (later n due) (cond (eqb n 0) l v) F
unfolding first later
turns-none ready alone b xs due l F n v z w =
    subst (λ (k : ℕ). Turns (ready || found alone (b + first k)) alone (b + first k) xs (later k due) (cond (eqb k 0) l v) F) (sym z) (turns-plain ready alone b xs due l F w)

sought-none : (c : ℕ) (g : Bool) (zs : List ℕ) (due l : ℕ) (A : List ℕ) (n v : ℕ) → n ≡ 0 → Sought c g zs due l A
    → Sought (c + first n) (rounded g (c + first n)) zs (later n due) (cond (eqb n 0) l v) A
unfolding first later
sought-none c g zs due l A n v z w =
    subst (λ (k : ℕ). Sought (c + first k) (rounded g (c + first k)) zs (later k due) (cond (eqb k 0) l v) A) (sym z) (sought-plain c g zs due l A w)

absence-certainly : certainly (head_of absence) ≡ false
unfolding certainly
absence-certainly = ap (λ (n : ℕ). eqb (head_of absence).certain 1 && ltb 0 n) absence-empty.fields ∙ and-false (eqb (head_of absence).certain 1)

-- ---- the field of a frame

module _ (a : Air) (hears : ℕ → Bool) (t id : ℕ) (c : Carries) (is : a.carries t ≡ c) where
  -- it says nothing of the component's present structure, or of what comes
  front-plain : (s : List ℕ) → old_in id c ≡ 0 → ((xs : List ℕ) → denies a t id xs c ≡ false) → Front a hears t (epoch (timed a) t) id (last_old a id t) s
      → Front a hears (suc t) (epoch (timed a) t) id (later (old_in id c) (last_old a id t)) s
  unfolding later
  front-plain s z d f =
      subst (λ (x : ℕ). Front a hears (suc t) (epoch (timed a) t) id x s) (sym (ap (λ (x : ℕ). later x (last_old a id t)) z))
      (front-on a hears t (epoch (timed a) t) id refl (last_old a id t) s (λ xs. ap (denies a t id xs) is ∙ d xs) f)

  next-plain : (u : Bool) (s : List ℕ) → new_in id c ≡ 0 → gone_in id c ≡ false
      → Next a hears t (epoch (timed a) t) id (last_new a id t) (new_before a id t) (links_new a id t) (gone_before a id t) u s
      → Next a hears (suc t) (epoch (timed a) t) id (later (new_in id c) (last_new a id t)) (new_before a id t + one (new_in id c))
      (cond (eqb (new_in id c) 0) (links_new a id t) (link_of c)) (gone_before a id t || gone_in id c) u s
  unfolding later announces
  next-plain u s z g f =
      next-as a hears (suc t) (epoch (timed a) t) id (last_new a id t) (new_before a id t) (links_new a id t) (gone_before a id t) u s
      (epoch (timed a) t) (later (new_in id c) (last_new a id t)) (new_before a id t + one (new_in id c))
      (cond (eqb (new_in id c) 0) (links_new a id t) (link_of c)) (gone_before a id t || gone_in id c) refl
      (sym (ap (λ (x : ℕ). later x (last_new a id t)) z)) (plus (new_before a id t) ∙ sym (ap (λ (x : ℕ). new_before a id t + one x) z))
      (sym (ap (λ (x : ℕ). cond (eqb x 0) (links_new a id t) (link_of c)) z))
      (sym (or-false (gone_before a id t)) ∙ sym (ap (λ (b : Bool). gone_before a id t || b) g))
      (next-on a hears t (epoch (timed a) t) id refl _ _ _ _ u s
      (ap (λ (x : Carries). gone_in id x || cond (eqb (new_in id x) 0) false true) is ∙ ap₂ (λ (b : Bool) (x : ℕ). b || cond (eqb x 0) false true) g z) f)
    where
      plus : (n : ℕ) → n ≡ n + 0
      plus n = omega arith

module _ (a : Air) (w : Orderly a) (hears : ℕ → Bool) (t : ℕ) (m : List ℕ) (u : Bool) (h : Before a hears t m u) where
  abbrev now : ℕ
  now = epoch (timed a) t

  -- what was heard of a component, and what the map has of it, when the frame is heard
  abbrev WordsAt : Carries → ℕ → List ℕ → List ℕ → Type 0
  WordsAt c id F A = Words (over (present_in id c) (present_before a hears id t)) (over (coming_in id c) (coming_before a hears id t)) F A

  abbrev TurnsAt : Carries → ℕ → List ℕ → Type 0
  TurnsAt c id F =
      Turns (ready_before a hears id t || found (alone_before a hears t) (rounds_before a hears id t + first (old_in id c))) (alone_before a hears t) (rounds_before a hears id t + first (old_in id c))
      (in_force a t id) (later (old_in id c) (last_old a id t)) (cond (eqb (old_in id c) 0) (links_old a id t) (link_of c)) F

  abbrev SoughtAt : Carries → ℕ → List ℕ → Type 0
  SoughtAt c id A =
      Sought (new_rounds_before a hears id t + first (new_in id c)) (rounded (came_before a hears id t) (new_rounds_before a hears id t + first (new_in id c))) (coming a t id) (later (new_in id c) (last_new a id t))
      (cond (eqb (new_in id c) 0) (links_new a id t) (link_of c)) A

  -- what is held when the field is taken in, but for the frames that were heard
  record Taken (c : Carries) (x : List ℕ) : Type 0 where
    pub size : length x ≡ map_size
    pub front : (id : ℕ) → id < ids → Front a hears (suc t) now id (later (old_in id c) (last_old a id t)) (structure_at id 0 x)
    pub next : (id : ℕ) → id < ids
        → Next a hears (suc t) now id (later (new_in id c) (last_new a id t)) (new_before a id t + one (new_in id c))
        (cond (eqb (new_in id c) 0) (links_new a id t) (link_of c)) (gone_before a id t || gone_in id c) u (structure_at id 1 x)
    pub words : (id : ℕ) → id < ids → WordsAt c id (structure_at id 0 x) (structure_at id 1 x)
    pub sure : (id : ℕ) → id < ids → Sure (absent_by (present_in id c) (absent_before a hears id t)) (in_force a t id) (coming a t id) (structure_at id 0 x) (structure_at id 1 x)
    pub turns : (id : ℕ) → id < ids → TurnsAt c id (structure_at id 0 x)
    pub sought : (id : ℕ) → id < ids → SoughtAt c id (structure_at id 1 x)

  -- the announced structure of one component, by its bytes
  abbrev AtIs : Carries → ℕ → List ℕ → Type 0
  AtIs c id x =
      Next a hears (suc t) now id (later (new_in id c) (last_new a id t)) (new_before a id t + one (new_in id c))
      (cond (eqb (new_in id c) 0) (links_new a id t) (link_of c)) (gone_before a id t || gone_in id c) u x

  abbrev At : Carries → ℕ → List ℕ → Type 0
  At c id x = AtIs c id (structure_at id 1 x)

  no-vectors : (j id : ℕ) → 0 < length (a.config j id) → id ≡ panning → ⊥
  no-vectors j id p z = omega (arith, p, ap length (ap (a.config j) z ∙ w.vectors j))

  -- one structure is replaced
  module _ (k v : ℕ) (hk : k < ids) (hv : v < 2) (s : List ℕ) (ls : length s ≡ structure_size) where
    put-at : structure_at k v (with_structure k v s m) ≡ s
    put-at = structure-same m h.size k v s hk hv ls

    put-off : (j x : ℕ) → x < 2 → (j ≡ k → x ≡ v → ⊥) → structure_at j x (with_structure k v s m) ≡ structure_at j x m
    put-off = structure-other m h.size k v s hk hv ls

    put-long : length (with_structure k v s m) ≡ map_size
    put-long = with-structure-length m h.size k v s hk hv ls

    -- what was heard of the others, and of the structure that stays
    words-off : (c : Carries) (id : ℕ) → id < ids → (id ≡ k → ⊥) → present_in id c ≡ unheard → coming_in id c ≡ unheard
        → WordsAt c id (structure_at id 0 (with_structure k v s m)) (structure_at id 1 (with_structure k v s m))
    unfolding over
    words-off c id hid e pu cu =
        words-as (h.words id hid) (sym (ap (λ (x : Word). over x (present_before a hears id t)) pu)) (sym (ap (λ (x : Word). over x (coming_before a hears id t)) cu))
        (sym (put-off id 0 (lit< tt) (λ p q. e p))) (sym (put-off id 1 (lit< tt) (λ p q. e p)))

  pick : {A : Type 0} (x y : ℕ) → (x ≡ y → A) → ((x ≡ y → ⊥) → A) → A
  pick {A} x y f g = go (ℕ_discrete x y)
    where
      go : Dec (x ≡ y) → A
      go (yes e) = f e
      go (no e) = g e

  -- of one structure of one component
  abbrev SureAt : Carries → ℕ → List ℕ → List ℕ → Type 0
  SureAt c id F A = Sure (absent_by (present_in id c) (absent_before a hears id t)) (in_force a t id) (coming a t id) F A

  sure-by : (c : Carries) (id : ℕ) (F A : List ℕ) → present_in id c ≡ unheard → Sure (absent_before a hears id t) (in_force a t id) (coming a t id) F A → SureAt c id F A
  unfolding absent_by
  sure-by c id F A z w =
      subst (λ (v : Word). Sure (absent_by v (absent_before a hears id t)) (in_force a t id) (coming a t id) F A) (sym z) w

  module _ (k : ℕ) (hk : k < ids) (s : List ℕ) (ls : length s ≡ structure_size) (c : Carries) where
    sure-force : ((id : ℕ) → (id ≡ k → ⊥) → present_in id c ≡ unheard) → (certainly (head_of s) ≡ true → 0 < length (in_force a t k))
        → ((head_of s).fields ≡ 0 → ((head_of s).certain ≡ 0 → ⊥) → absent_by (present_in k c) (absent_before a hears k t) ≡ true) → (id : ℕ) → id < ids
        → SureAt c id (structure_at id 0 (with_structure k 0 s m)) (structure_at id 1 (with_structure k 0 s m))
    sure-force off x y id hid = pick id k
        (λ e. subst (λ (j : ℕ). SureAt c j (structure_at j 0 (with_structure k 0 s m)) (structure_at j 1 (with_structure k 0 s m))) (sym e)
        (sure-as (sym (put-at k 0 hk (lit< tt) s ls)) (sym (put-off k 0 hk (lit< tt) s ls k 1 (lit< tt) (λ p q. omega (arith, q))))
        (record { front = x; next = (h.sure k hk).next; gone = y })))
        (λ e. sure-by c id _ _ (off id e)
        (sure-as (sym (put-off k 0 hk (lit< tt) s ls id 0 (lit< tt) (λ p q. e p))) (sym (put-off k 0 hk (lit< tt) s ls id 1 (lit< tt) (λ p q. e p))) (h.sure id hid)))

    sure-coming : ((id : ℕ) → present_in id c ≡ unheard) → (0 < (head_of s).fields → 0 < length (coming a t k)) → (id : ℕ) → id < ids
        → SureAt c id (structure_at id 0 (with_structure k 1 s m)) (structure_at id 1 (with_structure k 1 s m))
    sure-coming off x id hid = pick id k
        (λ e. subst (λ (j : ℕ). SureAt c j (structure_at j 0 (with_structure k 1 s m)) (structure_at j 1 (with_structure k 1 s m))) (sym e)
        (sure-by c k _ _ (off k)
        (sure-as (sym (put-off k 1 hk (lit< tt) s ls k 0 (lit< tt) (λ p q. omega (arith, q)))) (sym (put-at k 1 hk (lit< tt) s ls))
        (record { front = (h.sure k hk).front; next = x; gone = (h.sure k hk).gone }))))
        (λ e. sure-by c id _ _ (off id)
        (sure-as (sym (put-off k 1 hk (lit< tt) s ls id 0 (lit< tt) (λ p q. e p))) (sym (put-off k 1 hk (lit< tt) s ls id 1 (lit< tt) (λ p q. e p))) (h.sure id hid)))

  turns-off : (c : Carries) (id : ℕ) → id < ids → (F : List ℕ) → old_in id c ≡ 0 → structure_at id 0 m ≡ F → TurnsAt c id F
  turns-off c id hid F z is =
      subst (TurnsAt c id) is
      (turns-none (ready_before a hears id t) (alone_before a hears t) (rounds_before a hears id t) (in_force a t id) (last_old a id t) (links_old a id t) (structure_at id 0 m)
      (old_in id c) (link_of c) z (h.turns id hid))

  sought-off : (c : Carries) (id : ℕ) → id < ids → (A : List ℕ) → new_in id c ≡ 0 → structure_at id 1 m ≡ A → SoughtAt c id A
  sought-off c id hid A z is =
      subst (SoughtAt c id) is
      (sought-none (new_rounds_before a hears id t) (came_before a hears id t) (coming a t id) (last_new a id t) (links_new a id t) (structure_at id 1 m) (new_in id c) (link_of c) z (h.sought id hid))

  abbrev gather : ℕ → ℕ → ℕ → ℕ → List ℕ
  gather k v t l = gathered (structure_at k v m) t l

  gather-long : (k v t l : ℕ) → k < ids → v < 2 → length (gather k v t l) ≡ structure_size
  gather-long k v t l hk hv = gathered-length (structure_at k v m) t l (structure-length m h.size k v hk hv)

  taken-new : (k i l : ℕ) → a.carries t ≡ new k i l → InTurn a t (new k i l)
      → Taken (new k i l) (with_structure k 1 (gather k 1 (get_or (coming a t k) i 0) l) m)
  unfolding denies new_in old_in gone_in link_of later InTurn over present_in coming_in first
  taken-new k i l is law =
      let hk = law.0 in
      let s = gather k 1 (get_or (coming a t k) i 0) l in
      let ls = gather-long k 1 (get_or (coming a t k) i 0) l hk (lit< tt) in
      record {
        size = put-long k 1 hk (lit< tt) s ls;
        front = λ id hid.
            subst (Front a hears (suc t) now id (last_old a id t)) (sym (put-off k 1 hk (lit< tt) s ls id 0 (lit< tt) (λ p q. omega (arith, q))))
            (front-plain a hears t id (new k i l) is (structure_at id 0 m) refl (λ xs. refl) (h.front id hid));
        next = λ id hid. pick id k
            (λ e. subst (λ (j : ℕ). At (new k i l) j (with_structure k 1 s m)) (sym e) (here hk ls))
            (λ e. subst (λ (x : List ℕ). AtIs (new k i l) id x) (sym (put-off k 1 hk (lit< tt) s ls id 1 (lit< tt) (λ p q. e p)))
            (next-plain a hears t id (new k i l) is u (structure_at id 1 m) (ap (λ (b : Bool). cond b (suc i) 0) (ne_eqb k id (λ q. e (sym q)))) refl (h.next id hid)));
        words = λ id hid. pick id k
            (λ e. subst (λ (j : ℕ). WordsAt (new k i l) j (structure_at j 0 (with_structure k 1 s m)) (structure_at j 1 (with_structure k 1 s m))) (sym e) (heard-new hk ls))
            (λ e. words-off k 1 hk (lit< tt) s ls (new k i l) id hid e refl (ap (λ (b : Bool). cond b there unheard) (ne_eqb k id (λ q. e (sym q)))));
        sure = sure-coming k hk s ls (new k i l) (λ id. refl) (λ _. omega (arith, law.1.0));
        turns = λ id hid. turns-off (new k i l) id hid _ refl (sym (put-off k 1 hk (lit< tt) s ls id 0 (lit< tt) (λ p q. omega (arith, q))));
        sought = λ id hid. pick id k
            (λ e. subst (λ (j : ℕ). SoughtAt (new k i l) j (structure_at j 1 (with_structure k 1 s m))) (sym e) (subst (SoughtAt (new k i l) k) (sym (put-at k 1 hk (lit< tt) s ls)) (sought-here hk)))
            (λ e. sought-off (new k i l) id hid _ (ap (λ (b : Bool). cond b (suc i) 0) (ne_eqb k id (λ q. e (sym q)))) (sym (put-off k 1 hk (lit< tt) s ls id 1 (lit< tt) (λ p q. e p))));
      }
    where
      sought-here : (hk : k < ids) → SoughtAt (new k i l) k (gather k 1 (get_or (coming a t k) i 0) l)
      sought-here hk =
          let yes-k : suc i ≡ new_in k (new k i l) = sym (ap (λ (b : Bool). cond b (suc i) 0) (eq-eqb k k refl)) in
          subst (λ (x : ℕ). Sought (new_rounds_before a hears k t + first x) (rounded (came_before a hears k t) (new_rounds_before a hears k t + first x)) (coming a t k) (later x (last_new a k t)) (cond (eqb x 0) (links_new a k t) l) (gather k 1 (get_or (coming a t k) i 0) l))
          yes-k
          (subst (λ (b : Bool). Sought (new_rounds_before a hears k t + first (suc i)) (rounded (came_before a hears k t) (new_rounds_before a hears k t + first (suc i))) (coming a t k) (suc i) (cond b (links_new a k t) l) (gather k 1 (get_or (coming a t k) i 0) l))
          (sym (ne_eqb (suc i) 0 (λ z. omega (arith, z))))
          (sought-new (coming a t k) (w.linked (suc now) k hk) i law.1.0 l (omega (arith, law.1.1.0)) (last_new a k t) (links_new a k t) law.1.1.1.0
          a hears t now k (new_before a k t) (gone_before a k t) u refl (new_rounds_before a hears k t) (came_before a hears k t) (structure_at k 1 m) (h.next k hk) (h.sought k hk)))

      heard-new : (hk : k < ids) → length (gather k 1 (get_or (coming a t k) i 0) l) ≡ structure_size
          → WordsAt (new k i l) k (structure_at k 0 (with_structure k 1 (gather k 1 (get_or (coming a t k) i 0) l) m))
          (structure_at k 1 (with_structure k 1 (gather k 1 (get_or (coming a t k) i 0) l) m))
      heard-new hk ls =
          let s = gather k 1 (get_or (coming a t k) i 0) l in
          let some-s = some-new a hears t now k _ _ _ _ u (structure_at k 1 m) (get_or (coming a t k) i 0) l (h.next k hk) (omega (arith, law.1.0))
          (omega (arith, ((w.linked (suc now) k hk).fit i law.1.0).width)) in
          words-as (words-told _ _ _ _ s (h.words k hk) some-s) refl
          (sym (ap (λ (b : Bool). over (cond b there unheard) (coming_before a hears k t)) (eq-eqb k k refl)))
          (sym (put-off k 1 hk (lit< tt) s ls k 0 (lit< tt) (λ p q. omega (arith, q)))) (sym (put-at k 1 hk (lit< tt) s ls))

      here : (hk : k < ids) → length (gather k 1 (get_or (coming a t k) i 0) l) ≡ structure_size
          → At (new k i l) k (with_structure k 1 (gather k 1 (get_or (coming a t k) i 0) l) m)
      here hk ls =
          let yes-k : new_in k (new k i l) ≡ suc i = ap (λ (b : Bool). cond b (suc i) 0) (eq-eqb k k refl) in
          let some-k : eqb (new_in k (new k i l)) 0 ≡ false = ap (λ (x : ℕ). eqb x 0) yes-k ∙ ne_eqb (suc i) 0 (λ z. omega (arith, z)) in
          subst (λ (x : List ℕ). AtIs (new k i l) k x) (sym (put-at k 1 hk (lit< tt) _ ls))
          (next-as a hears (suc t) now k (suc i) (new_before a k t + 1) l (gone_before a k t) u _ now (later (new_in k (new k i l)) (last_new a k t))
          (new_before a k t + one (new_in k (new k i l))) (cond (eqb (new_in k (new k i l)) 0) (links_new a k t) l) (gone_before a k t || false) refl
          (sym (ap (λ (x : ℕ). later x (last_new a k t)) yes-k)) (sym (ap (λ (b : Bool). new_before a k t + cond b 0 1) some-k))
          (sym (ap (λ (b : Bool). cond b (links_new a k t) l) some-k)) (sym (or-false (gone_before a k t)))
          (next-new a hears t now k refl (w.linked (suc now) k hk) i l law.1.0 (omega (arith, law.1.1.0)) _ _ _ _ u (structure_at k 1 m)
          law.1.1.1.0 (λ b z. law.1.1.1.1 z (h.begun b)) (h.next k hk)))

  taken-old : (k i l : ℕ) → a.carries t ≡ old k i l → InTurn a t (old k i l)
      → Taken (old k i l) (with_structure k 0 (gather k 0 (get_or (in_force a t k) i 0) l) m)
  unfolding denies new_in old_in gone_in link_of later InTurn over present_in coming_in first
  taken-old k i l is law =
      let hk = law.0 in
      let s = gather k 0 (get_or (in_force a t k) i 0) l in
      let ls = gather-long k 0 (get_or (in_force a t k) i 0) l hk (lit< tt) in
      record {
        size = put-long k 0 hk (lit< tt) s ls;
        front = λ id hid. pick id k
            (λ e. subst (λ (j : ℕ). Front a hears (suc t) now j (later (old_in j (old k i l)) (last_old a j t)) (structure_at j 0 (with_structure k 0 s m))) (sym e)
            (here hk ls))
            (λ e. subst (Front a hears (suc t) now id (later (old_in id (old k i l)) (last_old a id t)))
            (sym (put-off k 0 hk (lit< tt) s ls id 0 (lit< tt) (λ p q. e p)))
            (front-plain a hears t id (old k i l) is (structure_at id 0 m) (ap (λ (b : Bool). cond b (suc i) 0) (ne_eqb k id (λ q. e (sym q))))
            (λ xs. ap (λ (b : Bool). b && not (lists xs (get_or (in_force a t id) i 0))) (ne_eqb k id (λ q. e (sym q)))) (h.front id hid)));
        next = λ id hid.
            subst (λ (x : List ℕ). AtIs (old k i l) id x) (sym (put-off k 0 hk (lit< tt) s ls id 1 (lit< tt) (λ p q. omega (arith, q))))
            (next-plain a hears t id (old k i l) is u (structure_at id 1 m) refl refl (h.next id hid));
        words = λ id hid. pick id k
            (λ e. subst (λ (j : ℕ). WordsAt (old k i l) j (structure_at j 0 (with_structure k 0 s m)) (structure_at j 1 (with_structure k 0 s m))) (sym e) (heard-old hk ls))
            (λ e. words-off k 0 hk (lit< tt) s ls (old k i l) id hid e (ap (λ (b : Bool). cond b there unheard) (ne_eqb k id (λ q. e (sym q)))) refl);
        sure = sure-force k hk s ls (old k i l) (λ id e. ap (λ (b : Bool). cond b there unheard) (ne_eqb k id (λ q. e (sym q)))) (λ _. omega (arith, law.1.0))
            (λ z c. absurd (omega (
              arith,
              z,
              some-old a hears t now k _ (structure_at k 0 m) (get_or (in_force a t k) i 0) l (h.front k hk)
                  (omega (arith, ((w.linked now k hk).fit i law.1.0).width)),
            )));
        turns = λ id hid. pick id k
            (λ e. subst (λ (j : ℕ). TurnsAt (old k i l) j (structure_at j 0 (with_structure k 0 s m))) (sym e) (subst (TurnsAt (old k i l) k) (sym (put-at k 0 hk (lit< tt) s ls)) (turns-here hk)))
            (λ e. turns-off (old k i l) id hid _ (ap (λ (b : Bool). cond b (suc i) 0) (ne_eqb k id (λ q. e (sym q)))) (sym (put-off k 0 hk (lit< tt) s ls id 0 (lit< tt) (λ p q. e p))));
        sought = λ id hid. sought-off (old k i l) id hid _ refl (sym (put-off k 0 hk (lit< tt) s ls id 1 (lit< tt) (λ p q. omega (arith, q))));
      }
    where
      turns-here : (hk : k < ids) → TurnsAt (old k i l) k (gather k 0 (get_or (in_force a t k) i 0) l)
      turns-here hk =
          let yes-k : suc i ≡ old_in k (old k i l) = sym (ap (λ (b : Bool). cond b (suc i) 0) (eq-eqb k k refl)) in
          subst (λ (x : ℕ). Turns (ready_before a hears k t || found (alone_before a hears t) (rounds_before a hears k t + first x)) (alone_before a hears t) (rounds_before a hears k t + first x) (in_force a t k)
          (later x (last_old a k t)) (cond (eqb x 0) (links_old a k t) l) (gather k 0 (get_or (in_force a t k) i 0) l)) yes-k
          (subst (λ (b : Bool). Turns (ready_before a hears k t || found (alone_before a hears t) (rounds_before a hears k t + first (suc i))) (alone_before a hears t) (rounds_before a hears k t + first (suc i)) (in_force a t k)
          (suc i) (cond b (links_old a k t) l) (gather k 0 (get_or (in_force a t k) i 0) l)) (sym (ne_eqb (suc i) 0 (λ z. omega (arith, z))))
          (turns-old (in_force a t k) (w.linked now k hk) i law.1.0 l (omega (arith, law.1.1.0)) (last_old a k t) (links_old a k t) law.1.1.1
          a hears t now k refl (λ j. w.linked j k hk) (ready_before a hears k t) (alone_before a hears t) (rounds_before a hears k t) (structure_at k 0 m) (h.front k hk) (h.turns k hk)))

      heard-old : (hk : k < ids) → length (gather k 0 (get_or (in_force a t k) i 0) l) ≡ structure_size
          → WordsAt (old k i l) k (structure_at k 0 (with_structure k 0 (gather k 0 (get_or (in_force a t k) i 0) l) m))
          (structure_at k 1 (with_structure k 0 (gather k 0 (get_or (in_force a t k) i 0) l) m))
      heard-old hk ls =
          let s = gather k 0 (get_or (in_force a t k) i 0) l in
          let some-s = some-old a hears t now k _ (structure_at k 0 m) (get_or (in_force a t k) i 0) l (h.front k hk)
          (omega (arith, ((w.linked now k hk).fit i law.1.0).width)) in
          words-as (words-force _ _ _ _ s (h.words k hk) some-s)
          (sym (ap (λ (b : Bool). over (cond b there unheard) (present_before a hears k t)) (eq-eqb k k refl))) refl
          (sym (put-at k 0 hk (lit< tt) s ls)) (sym (put-off k 0 hk (lit< tt) s ls k 1 (lit< tt) (λ p q. omega (arith, q))))

      here : (hk : k < ids) → length (gather k 0 (get_or (in_force a t k) i 0) l) ≡ structure_size
          → Front a hears (suc t) now k (later (old_in k (old k i l)) (last_old a k t)) (structure_at k 0 (with_structure k 0 (gather k 0 (get_or (in_force a t k) i 0) l) m))
      here hk ls =
          let yes-k : old_in k (old k i l) ≡ suc i = ap (λ (b : Bool). cond b (suc i) 0) (eq-eqb k k refl) in
          subst (Front a hears (suc t) now k (later (old_in k (old k i l)) (last_old a k t))) (sym (put-at k 0 hk (lit< tt) _ ls))
          (subst (λ (x : ℕ). Front a hears (suc t) now k x (gather k 0 (get_or (in_force a t k) i 0) l)) (sym (ap (λ (x : ℕ). later x (last_old a k t)) yes-k))
          (front-old a hears t now k refl (w.linked now k hk) i l (last_old a k t) (structure_at k 0 m) is law.1.0 (omega (arith, law.1.1.0))
          (λ j e. (law.1.1.1 j e).0) (h.front k hk)))

  -- all ones: at once, or by the next change
  taken-gone : (k tdms l : ℕ) → a.carries t ≡ gone 0 k tdms l → k < ids → in_force a t k ≡ [] → Taken (gone 0 k tdms l) (with_structure k 0 absence m)
  unfolding denies new_in old_in gone_in link_of later over present_in coming_in first absent_by
  taken-gone k tdms l is hk none =
      let ls = absence-length in
      record {
        size = put-long k 0 hk (lit< tt) _ ls;
        front = λ id hid. pick id k
            (λ e. subst (λ (j : ℕ). Front a hears (suc t) now j (last_old a j t) (structure_at j 0 (with_structure k 0 absence m))) (sym e)
            (subst (Front a hears (suc t) now k (last_old a k t)) (sym (put-at k 0 hk (lit< tt) _ ls)) (some (empty absence-empty))))
            (λ e. subst (Front a hears (suc t) now id (last_old a id t)) (sym (put-off k 0 hk (lit< tt) _ ls id 0 (lit< tt) (λ p q. e p)))
            (front-plain a hears t id (gone 0 k tdms l) is (structure_at id 0 m) refl (λ xs. ne_eqb k id (λ q. e (sym q))) (h.front id hid)));
        next = λ id hid.
            subst (λ (x : List ℕ). AtIs (gone 0 k tdms l) id x) (sym (put-off k 0 hk (lit< tt) _ ls id 1 (lit< tt) (λ p q. omega (arith, q))))
            (next-plain a hears t id (gone 0 k tdms l) is u (structure_at id 1 m) refl refl (h.next id hid));
        words = λ id hid. pick id k
            (λ e. subst (λ (j : ℕ). WordsAt (gone 0 k tdms l) j (structure_at j 0 (with_structure k 0 absence m)) (structure_at j 1 (with_structure k 0 absence m))) (sym e)
            (words-as (words-dropped _ _ _ _ absence (h.words k hk) absence-empty.fields)
            (sym (ap (λ (b : Bool). over (cond b absent unheard) (present_before a hears k t)) (eq-eqb k k refl))) refl
            (sym (put-at k 0 hk (lit< tt) _ ls)) (sym (put-off k 0 hk (lit< tt) _ ls k 1 (lit< tt) (λ p q. omega (arith, q))))))
            (λ e. words-off k 0 hk (lit< tt) _ ls (gone 0 k tdms l) id hid e (ap (λ (b : Bool). cond b absent unheard) (ne_eqb k id (λ q. e (sym q)))) refl);
        sure = sure-force k hk absence ls (gone 0 k tdms l) (λ id e. ap (λ (b : Bool). cond b absent unheard) (ne_eqb k id (λ q. e (sym q)))) (λ c. clash (sym c ∙ absence-certainly))
            (λ z c. ap (λ (b : Bool). absent_by (cond b absent unheard) (absent_before a hears k t)) (eq-eqb k k refl));
        turns = λ id hid. pick id k
            (λ e. subst (λ (j : ℕ). TurnsAt (gone 0 k tdms l) j (structure_at j 0 (with_structure k 0 absence m))) (sym e)
            (subst (TurnsAt (gone 0 k tdms l) k) (sym (put-at k 0 hk (lit< tt) _ ls))
            (turns-gone (ready_before a hears k t) (alone_before a hears t) (rounds_before a hears k t) (in_force a t k) (last_old a k t) (links_old a k t) absence none absence-empty)))
            (λ e. turns-off (gone 0 k tdms l) id hid _ refl (sym (put-off k 0 hk (lit< tt) _ ls id 0 (lit< tt) (λ p q. e p))));
        sought = λ id hid. sought-off (gone 0 k tdms l) id hid _ refl (sym (put-off k 0 hk (lit< tt) _ ls id 1 (lit< tt) (λ p q. omega (arith, q))));
      }

  taken-ends : (k tdms l : ℕ) → a.carries t ≡ gone 1 k tdms l → k < ids → new_before a k t ≡ 0 → Taken (gone 1 k tdms l) (with_structure k 1 deletion m)
  unfolding denies new_in old_in gone_in link_of later over present_in coming_in first
  taken-ends k tdms l is hk z =
      record {
        size = put-long k 1 hk (lit< tt) _ deletion-length;
        front = λ id hid.
            subst (Front a hears (suc t) now id (last_old a id t)) (sym (put-off k 1 hk (lit< tt) _ deletion-length id 0 (lit< tt) (λ p q. omega (arith, q))))
            (front-plain a hears t id (gone 1 k tdms l) is (structure_at id 0 m) refl (λ xs. refl) (h.front id hid));
        next = λ id hid. pick id k
            (λ e. subst (λ (j : ℕ). At (gone 1 k tdms l) j (with_structure k 1 deletion m)) (sym e)
            (subst (AtIs (gone 1 k tdms l) k) (sym (put-at k 1 hk (lit< tt) _ deletion-length))
            (delete deletion-deleting (λ _. (plain (new_before a k t) z, (all-gone, none_last a k t z))))))
            (λ e. subst (λ (x : List ℕ). AtIs (gone 1 k tdms l) id x) (sym (put-off k 1 hk (lit< tt) _ deletion-length id 1 (lit< tt) (λ p q. e p)))
            (next-plain a hears t id (gone 1 k tdms l) is u (structure_at id 1 m) refl (ne_eqb k id (λ q. e (sym q))) (h.next id hid)));
        words = λ id hid. pick id k
            (λ e. subst (λ (j : ℕ). WordsAt (gone 1 k tdms l) j (structure_at j 0 (with_structure k 1 deletion m)) (structure_at j 1 (with_structure k 1 deletion m))) (sym e)
            (words-as (words-ends _ _ _ _ deletion (h.words k hk) deletion-deleting.fields deletion-deleting.deleted) refl
            (sym (ap (λ (b : Bool). over (cond b absent unheard) (coming_before a hears k t)) (eq-eqb k k refl)))
            (sym (put-off k 1 hk (lit< tt) _ deletion-length k 0 (lit< tt) (λ p q. omega (arith, q)))) (sym (put-at k 1 hk (lit< tt) _ deletion-length))))
            (λ e. words-off k 1 hk (lit< tt) _ deletion-length (gone 1 k tdms l) id hid e refl (ap (λ (b : Bool). cond b absent unheard) (ne_eqb k id (λ q. e (sym q)))));
        sure = sure-coming k hk deletion deletion-length (gone 1 k tdms l) (λ id. refl) (λ p. absurd (omega (arith, p, deletion-deleting.fields)));
        turns = λ id hid. turns-off (gone 1 k tdms l) id hid _ refl (sym (put-off k 1 hk (lit< tt) _ deletion-length id 0 (lit< tt) (λ p q. omega (arith, q))));
        sought = λ id hid. pick id k
            (λ e. subst (λ (j : ℕ). SoughtAt (gone 1 k tdms l) j (structure_at j 1 (with_structure k 1 deletion m))) (sym e)
            (subst (SoughtAt (gone 1 k tdms l) k) (sym (put-at k 1 hk (lit< tt) _ deletion-length))
            (unbegun (plain (new_rounds_before a hears k t) (none-begun a hears k t z)) not_round
            (open_none (coming a t k) deletion deletion-deleting.fields deletion-deleting.whole))))
            (λ e. sought-off (gone 1 k tdms l) id hid _ refl (sym (put-off k 1 hk (lit< tt) _ deletion-length id 1 (lit< tt) (λ p q. e p))));
      }
    where
      plain : (x : ℕ) → x ≡ 0 → x + 0 ≡ 0
      plain x e = omega (arith, e)

      not_round : rounded (came_before a hears k t) (new_rounds_before a hears k t + 0) ≡ false
      not_round = ap₂ (λ (x : Bool) (n : ℕ). rounded x (n + 0)) (none-round a hears k t z) (none-begun a hears k t z)

      all-gone : (gone_before a k t || eqb k k) ≡ true
      all-gone = ap (λ (b : Bool). gone_before a k t || b) (eq-eqb k k refl) ∙ or-true (gone_before a k t)

  taken-vectors : (flag tdms l : ℕ) → a.carries t ≡ vectors flag tdms l → Taken (vectors flag tdms l) m
  unfolding denies new_in old_in gone_in link_of later over present_in coming_in first
  taken-vectors flag tdms l is = record {
    size = h.size;
    front = λ id hid. front-plain a hears t id (vectors flag tdms l) is (structure_at id 0 m) refl (λ xs. refl) (h.front id hid);
    next = λ id hid. next-plain a hears t id (vectors flag tdms l) is u (structure_at id 1 m) refl refl (h.next id hid);
    words = h.words;
    sure = λ id hid. sure-by (vectors flag tdms l) id _ _ refl (h.sure id hid);
    turns = λ id hid. turns-off (vectors flag tdms l) id hid _ refl refl;
    sought = λ id hid. sought-off (vectors flag tdms l) id hid _ refl refl;
  }

  -- whatever the frame carries
  taken_as : (c : Carries) → a.carries t ≡ c → InTurn a t c → Taken c (taken_in (carried_as a t c) m)
  unfolding carried_as taken_in put_in InTurn
  taken_as (new k i l) is law =
      let x = get_or (coming a t k) i 0 in
      let go : taken_in (carried_as a t (new k i l)) m ≡ with_structure k 1 (gather k 1 x l) m =
      (λ j. cond (ne_eqb k panning (no-vectors (suc now) k (omega (arith, law.1.0))) j) m
      (with_structure k 1 (cond (((w.linked (suc now) k law.0).fit i law.1.0).stays j) deletion (gather k 1 x l)) m)) in
      subst (Taken (new k i l)) (sym go) (taken-new k i l is law)
  taken_as (old k i l) is law =
      let x = get_or (in_force a t k) i 0 in
      let go : taken_in (carried_as a t (old k i l)) m ≡ with_structure k 0 (gather k 0 x l) m =
      (λ j. cond (ne_eqb k panning (no-vectors now k (omega (arith, law.1.0))) j) m
      (with_structure k 0 (cond (((w.linked now k law.0).fit i law.1.0).stays j) absence (gather k 0 x l)) m)) in
      subst (Taken (old k i l)) (sym go) (taken-old k i l is law)
  taken_as (gone zero k tdms l) is law =
      let go : taken_in (carried_as a t (gone 0 k tdms l)) m ≡ with_structure k 0 absence m =
      (λ j. cond (ne_eqb k panning law.1.0 j) m (with_structure k 0 (cond (law.1.1.1.1.0 j) absence (gather k 0 tdms l)) m)) in
      subst (Taken (gone 0 k tdms l)) (sym go) (taken-gone k tdms l is law.0 (law.1.1.0 refl))
  taken_as (gone (suc zero) k tdms l) is law =
      let go : taken_in (carried_as a t (gone 1 k tdms l)) m ≡ with_structure k 1 deletion m =
      (λ j. cond (ne_eqb k panning law.1.0 j) m (with_structure k 1 (cond (law.1.1.1.1.0 j) deletion (gather k 1 tdms l)) m)) in
      subst (Taken (gone 1 k tdms l)) (sym go) (taken-ends k tdms l is law.0 (law.1.1.1.0 refl))
  taken_as (gone (suc (suc f)) k tdms l) is law = absurd (omega (arith, law.1.1.1.1.1.1.flags))
  taken_as (vectors flag tdms l) is law = taken-vectors flag tdms l is

  sure-heard : hears t ≡ true → (id : ℕ) {F A : List ℕ} → SureAt (a.carries t) id F A → Sure (absent_to a hears id t) (in_force a t id) (coming a t id) F A
  sure-heard heard id {F} {A} w =
      subst (λ (b : Bool). Sure (absent_by (cond b (present_in id (a.carries t)) unheard) (absent_before a hears id t)) (in_force a t id) (coming a t id) F A) (sym heard) w

  pub field-known : hears t ≡ true → (f : Frames) → f ≡ record { last = count_at (timed a) t; heard = 1; unbroken = cond u 1 0; row = capped (in_row hears t) }
      → Known a hears t (with_frames f (taken_in (field_on a t) m)) u
  unfolding field_on
  field-known heard f e =
      let k = taken_as (a.carries t) refl (w.turns t) in
      let x = taken_in (carried_as a t (a.carries t)) m in
      record {
        size = with-frames-length x k.size f;
        frames = frames-stored x k.size f ∙ e;
        begun = h.begun;
        front = λ id hid. subst (Front a hears (suc t) now id _) (sym (structures-kept x k.size f id 0 hid (lit< tt))) (k.front id hid);
        next = λ id hid. subst (λ (y : List ℕ). AtIs (a.carries t) id y) (sym (structures-kept x k.size f id 1 hid (lit< tt))) (k.next id hid);
        heard = heard;
        words = λ id hid. words-as (k.words id hid)
            (sym (ap (λ (b : Bool). over (cond b (present_in id (a.carries t)) unheard) (present_before a hears id t)) heard))
            (sym (ap (λ (b : Bool). over (cond b (coming_in id (a.carries t)) unheard) (coming_before a hears id t)) heard))
            (sym (structures-kept x k.size f id 0 hid (lit< tt))) (sym (structures-kept x k.size f id 1 hid (lit< tt)));
        sure = λ id hid. sure-heard heard id (sure-as (sym (structures-kept x k.size f id 0 hid (lit< tt))) (sym (structures-kept x k.size f id 1 hid (lit< tt))) (k.sure id hid));
        wholly = h.wholly;
        turns = λ id hid. subst (TurnsAt (a.carries t) id) (sym (structures-kept x k.size f id 0 hid (lit< tt))) (k.turns id hid);
        sought = λ id hid. subst (SoughtAt (a.carries t) id) (sym (structures-kept x k.size f id 1 hid (lit< tt))) (k.sought id hid);
      }
