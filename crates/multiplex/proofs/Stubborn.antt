-- The machine `stubborn` keeps all that "never sure without reason" says, but for the sentence that what was denied is shown no longer. That it does not keep
-- (proofs/Denied.antt): so it does not follow from the others.
--
--   Rest                what `Whole` says, but for that sentence
--   Seven, seven-old    a present field of component 7 is one of its structure
--   alone               the same field in two frames one after the other, of one configuration, is all of the structure
--   Hold, hold_at       what the machine keeps before a frame
--   stubborn-rest, stubborn-blank
--
-- Assumes nothing.
use mathlib.Core.Path.{◌≡◌, refl, sym, ap, ap₂, ◌∙◌, subst}
use mathlib.Core.Bool.{Bool, true, false, cond, not, ◌&&◌, ◌||◌}
use mathlib.Core.List.{List, [], ◌∷◌}
use Prim.Native.Nat.{ℕ, zero, suc, ◌+◌, ◌-◌, ◌≤◌, ◌<◌}
use native.Mathlib.Omega.{arith}
use native.Mathlib.Decide.{ℕ_discrete, dec_lt}
use borrow.Author.Tests.{eq-eqb, ne_eqb, eqb-true, ltb-false, not-true}
use lib.Dec.{ltb, eqb}
use lib.ListN.{length, get_or}
use Rattle.bits.proofs.Search.{and_left, and_right, clash}
use Rattle.field.specs.Field.{field_of, field_bytes, key}
use Rattle.field.specs.declared.Field.{Field}
use Rattle.structure.proofs.Runs.{rises-to}
use Rattle.frames.specs.Counts.{since, changes}
use Rattle.map.specs.Map.{ids}
use Rattle.multiplex.specs.Broadcast.{count_at, epoch}
use Rattle.multiplex.specs.Heard.{Machine}
use Rattle.multiplex.specs.Empty.{seven, together, held, surely, stubborn}
use Rattle.multiplex.specs.Air.{Carries, new, old, gone, vectors, Air, timed, in_force, carried_as, field_on, new_in, old_in, gone_in, turn, later, last_old, InTurn, Orderly}
use Rattle.multiplex.specs.Sound.{kept, missed_before, any_before, Listener, announces, Quiet, there, word_for}
use Rattle.multiplex.proofs.Distances.{since-is, changes-epoch, epoch-mono}
use Rattle.multiplex.proofs.Knowing.{linked-fields}
use Rattle.multiplex.proofs.Reaching.{same-eq}
use Rattle.multiplex.proofs.Soundness.{read_back}

pub record Rest (M : Machine) (a : Air) (hears : ℕ → Bool) (t u id : ℕ) : Type 0 where
  pub from : ℕ
  pub past : from ≤ epoch (timed a) u
  pub fields : M.fields (kept M a hears (suc t)) id (count_at (timed a) u) ≡ a.config from id
  pub quiet : Quiet a hears t from (epoch (timed a) u) id

-- ---- a present field

record Seven (c : Carries) : Type 0 where
  place : ℕ
  links : ℕ
  is : c ≡ old 7 place links

seven-old : (a : Air) (t : ℕ) (c : Carries) → InTurn a t c → seven (carried_as a t c) ≡ true → Seven c
unfolding seven carried_as InTurn
seven-old a t (new k i l) law e = clash (sym e)
seven-old a t (old k i l) law e = record { place = i; links = l; is = ap (λ (x : ℕ). old x i l) (eqb-true k 7 (and_left (eqb k 7) _ e)) }
seven-old a t (gone flag k tdms l) law e =
    clash (sym (and_right (eqb k 7) _ (and_right (eqb flag 0) _ e)) ∙ ap not law.1.1.1.1.0)
seven-old a t (vectors flag tdms l) law e = clash (sym (and_right (eqb flag 0) _ e))

counted : (a : Air) (t : ℕ) (c : Carries) → (carried_as a t c).count ≡ count_at (timed a) t
unfolding carried_as
counted a t (new k i l) = refl
counted a t (old k i l) = refl
counted a t (gone flag k tdms l) = refl
counted a t (vectors flag tdms l) = refl

-- a field without the update flag announces nothing
present-unannounced : (a : Air) (t : ℕ) (c : Carries) → eqb (carried_as a t c).flag 0 ≡ true → announces 7 c ≡ false
unfolding carried_as announces new_in gone_in
present-unannounced a t (new k i l) e = clash (sym e)
present-unannounced a t (old k i l) e = refl
present-unannounced a t (gone flag k tdms l) e =
    ap (λ (n : ℕ). (eqb n 1 && eqb k 7) || false) (eqb-true flag 0 e)
present-unannounced a t (vectors flag tdms l) e = refl

-- ---- the same field twice

single : (xs : List ℕ) (i : ℕ) → length xs ≡ 1 → i ≡ 0 → xs ≡ get_or xs i 0 ∷ []
single [] i e z = absurd (omega (arith, e))
single (x ∷ []) i e z = ap (λ (n : ℕ). get_or (x ∷ []) n 0 ∷ []) (sym z)
single (x ∷ y ∷ xs) i e z = absurd (omega (arith, e))

module _ (a : Air) (w : Orderly a) (t i l j m : ℕ) (this : a.carries t ≡ old 7 i l) (next : a.carries (suc t) ≡ old 7 j m)
    (stays : epoch (timed a) (suc t) ≡ epoch (timed a) t) (alike : get_or (in_force a (suc t) 7) j 0 ≡ get_or (in_force a t 7) i 0) where
  abbrev xs : List ℕ
  xs = in_force a t 7

  held_on : in_force a (suc t) 7 ≡ xs
  held_on = ap (λ (x : ℕ). a.config x 7) stays

  within : i < length xs
  unfolding InTurn
  within = (subst (InTurn a t) this (w.turns t)).1.0

  last : last_old a 7 (suc t) ≡ suc i
  unfolding last_old old_in later
  last =
      (λ k. cond (same-eq xs (in_force a (suc t) 7) (sym held_on) k) (later (old_in 7 (this k)) (last_old a 7 t)) 0)

  in-turn : j ≡ turn (length xs) i
  unfolding InTurn
  in-turn = ((subst (InTurn a (suc t)) next (w.turns (suc t))).1.1.1 i last).0 ∙ ap (λ (ys : List ℕ). turn (length ys) i) held_on

  same_key : (n : ℕ) → j ≡ n → key (get_or xs n 0) ≡ key (get_or xs i 0)
  same_key n e = ap key (sym (ap₂ (λ (ys : List ℕ) (x : ℕ). get_or ys x 0) held_on e) ∙ alike)

  alone : xs ≡ get_or xs i 0 ∷ []
  unfolding turn
  alone = go (ℕ_discrete (suc i) (length xs))
    where
      rises : (x y : ℕ) → x < y → y < length xs → key (get_or xs x 0) < key (get_or xs y 0)
      rises = rises-to xs (linked-fields xs (w.linked (epoch (timed a) t) 7 (omega arith)))

      go : Dec (suc i ≡ length xs) → xs ≡ get_or xs i 0 ∷ []
      go (yes e) = first (ℕ_discrete i 0)
        where
          first : Dec (i ≡ 0) → xs ≡ get_or xs i 0 ∷ []
          first (yes z) = single xs i (omega (arith, e, z)) z
          first (no z) =
              absurd (omega (
                arith,
                rises 0 i (omega (arith, z)) within,
                same_key 0 (in-turn ∙ ap (λ (b : Bool). cond b 0 (suc i)) (eq-eqb (suc i) (length xs) e)),
              ))
      go (no e) =
          absurd (omega (
            arith,
            rises i (suc i) (omega arith) (omega (arith, within, e)),
            same_key (suc i) (in-turn ∙ ap (λ (b : Bool). cond b 0 (suc i)) (ne_eqb (suc i) (length xs) e)),
          ))

-- ---- what it keeps

data Hold (a : Air) (hears : ℕ → Bool) (n : ℕ) (m : List ℕ) : Type 0 where
  -- nothing was heard
  none : m ≡ [] → ((v : ℕ) → v < n → hears v ≡ true → ⊥) → Hold a hears n m
  -- one frame
  one : (t i l : ℕ) → t < n → ((v : ℕ) → v < n → hears v ≡ true → v ≡ t) → missed_before hears n ≡ n - suc t → any_before hears n ≡ true
      → a.carries t ≡ old 7 i l → m ≡ 0 ∷ count_at (timed a) t ∷ get_or (in_force a t 7) i 0 ∷ [] → Hold a hears n m
  -- all of a structure that was in force, and nothing was ever announced
  sure : (t x : ℕ) → t < n → in_force a t 7 ≡ x ∷ [] → ((v : ℕ) → v < n → hears v ≡ true → announces 7 (a.carries v) ≡ false) → m ≡ 1 ∷ x ∷ []
      → Hold a hears n m
  lost : m ≡ 2 ∷ [] → Hold a hears n m

-- a frame before n, or n itself
by_place : {A : Type 0} (v n : ℕ) → v < suc n → (v < n → A) → (v ≡ n → A) → A
by_place {A} v n h f g = go (dec_lt v n)
  where
    go : Dec (v < n) → A
    go (yes q) = f q
    go (no q) = g (omega (arith, h, q))

module _ (a : Air) (hears : ℕ → Bool) (n : ℕ) where
  missed : hears n ≡ false → (m : List ℕ) → Hold a hears n m → Hold a hears (suc n) m
  unfolding missed_before any_before
  missed e m (none z q) = none z (λ v hv hh. by_place v n hv (λ h. q v h hh) (λ h. unheard v h hh))
    where
      unheard : (v : ℕ) → v ≡ n → hears v ≡ true → ⊥
      unheard v h hh = clash (sym hh ∙ ap hears h ∙ e)
  missed e m (one t i l lo only c any is z) =
      one t i l (omega (arith, lo)) (λ v hv hh. by_place v n hv (λ h. only v h hh) (λ h. clash (sym hh ∙ ap hears h ∙ e)))
      (ap (λ (b : Bool). cond b 0 (suc (missed_before hears n))) e ∙ ap suc c ∙ minus n t lo) (ap₂ (λ (x y : Bool). x || y) e any) is z
    where
      minus : (x y : ℕ) → y < x → suc (x - suc y) ≡ suc x - suc y
      minus x y h = omega arith
  missed e m (sure t x lo is q z) =
      sure t x (omega (arith, lo)) is (λ v hv hh. by_place v n hv (λ h. q v h hh) (λ h. clash (sym hh ∙ ap hears h ∙ e))) z
  missed e m (lost z) = lost z

module _ (a : Air) (w : Orderly a) (hears : ℕ → Bool) (L : Listener stubborn a hears) (n : ℕ) where
  abbrev Then : List ℕ → Type 0
  Then m = Hold a hears (suc n) m

  -- the first frame
  first-heard : hears n ≡ true → ((v : ℕ) → v < n → hears v ≡ true → ⊥) → Then (held [] (field_on a n))
  unfolding held field_on missed_before any_before carried_as
  first-heard e q = go (seven (carried_as a n (a.carries n))) refl
    where
      r : Field
      r = carried_as a n (a.carries n)

      keeps : Seven (a.carries n) → Then (0 ∷ r.count ∷ r.tdms ∷ [])
      keeps s =
          one n s.place s.links (omega arith) (λ v hv hh. by_place v n hv (λ h. absurd (q v h hh)) (λ h. h))
          (ap (λ (b : Bool). cond b 0 (suc (missed_before hears n))) e ∙ nothing n) (ap (λ (b : Bool). b || any_before hears n) e) s.is
          (ap (λ (c : Carries). 0 ∷ (carried_as a n c).count ∷ (carried_as a n c).tdms ∷ []) s.is)
        where
          nothing : (x : ℕ) → 0 ≡ suc x - suc x
          nothing x = omega arith

      go : (b : Bool) → seven r ≡ b → Then (cond (seven r) (0 ∷ r.count ∷ r.tdms ∷ []) (2 ∷ []))
      go true z = subst (λ (b : Bool). Then (cond b (0 ∷ r.count ∷ r.tdms ∷ []) (2 ∷ []))) (sym z) (keeps (seven-old a n (a.carries n) (w.turns n) z))
      go false z = lost (ap (λ (b : Bool). cond b (0 ∷ r.count ∷ r.tdms ∷ []) (2 ∷ [])) z)

  -- the second
  module _ (heard : hears n ≡ true) (t i l : ℕ) (lo : t < n) (only : (v : ℕ) → v < n → hears v ≡ true → v ≡ t) (c : missed_before hears n ≡ n - suc t)
      (any : any_before hears n ≡ true) (is : a.carries t ≡ old 7 i l) where
    abbrev x : ℕ
    x = get_or (in_force a t 7) i 0

    abbrev r : Field
    r = carried_as a n (a.carries n)

    near : n - t ≤ 128
    near = omega (arith, L.near n heard any, c, lo)

    next-frame : since (count_at (timed a) t) (count_at (timed a) n) ≡ 1 → n ≡ suc t
    next-frame z =
        let at : t + (n - t) ≡ n = omega (arith, lo) in
        let d = subst (λ (v : ℕ). since (count_at (timed a) t) (count_at (timed a) v) ≡ n - t) at (since-is (timed a) t (n - t) (omega (arith, lo)) near) in
        omega (arith, d, z, lo)

    one-config : changes (count_at (timed a) t) (count_at (timed a) n) ≡ false → epoch (timed a) n ≡ epoch (timed a) t
    one-config z =
        let at : t + (n - t) ≡ n = omega (arith, lo) in
        let d = subst (λ (v : ℕ). changes (count_at (timed a) t) (count_at (timed a) v) ≡ ltb (epoch (timed a) t) (epoch (timed a) v)) at
        (changes-epoch (timed a) t (n - t) (omega (arith, lo)) near) in
        omega (arith, ltb-false (epoch (timed a) t) (epoch (timed a) n) (sym d ∙ z), epoch-mono (timed a) t n (omega (arith, lo)))

    sure-now : Seven (a.carries n) → r.tdms ≡ x → together (count_at (timed a) t) (count_at (timed a) n) ≡ true → Then (1 ∷ r.tdms ∷ [])
    unfolding together carried_as announces new_in gone_in
    sure-now s e z =
        let on : n ≡ suc t = next-frame (eqb-true _ 1 (and_left (eqb (since (count_at (timed a) t) (count_at (timed a) n)) 1) _ z)) in
        let stays = one-config (not-true _ (and_right (eqb (since (count_at (timed a) t) (count_at (timed a) n)) 1) _ z)) in
        let same-field : get_or (in_force a n 7) s.place 0 ≡ x = sym (ap (λ (k : Carries). (carried_as a n k).tdms) s.is) ∙ e in
        let all = alone a w t i l s.place s.links is (ap a.carries (sym on) ∙ s.is) (ap (epoch (timed a)) (sym on) ∙ stays)
        (ap (λ (v : ℕ). get_or (in_force a v 7) s.place 0) (sym on) ∙ same-field) in
        sure t r.tdms (omega (arith, lo)) (all ∙ ap (λ (y : ℕ). y ∷ []) (sym e))
        (λ v hv hh. by_place v n hv (λ h. ap (λ (y : ℕ). announces 7 (a.carries y)) (only v h hh) ∙ ap (announces 7) is)
        (λ h. ap (λ (y : ℕ). announces 7 (a.carries y)) h ∙ ap (announces 7) s.is)) refl

    second-heard : Then (held (0 ∷ count_at (timed a) t ∷ x ∷ []) (field_on a n))
    unfolding held field_on
    second-heard = go test refl
      where
        test : Bool
        test = seven r && (eqb r.tdms x && together (count_at (timed a) t) r.count)

        go : (b : Bool) → test ≡ b → Then (cond test (1 ∷ r.tdms ∷ []) (2 ∷ []))
        go true z =
            let z1 = and_right (seven r) _ z in
            subst (λ (b : Bool). Then (cond b (1 ∷ r.tdms ∷ []) (2 ∷ []))) (sym z)
            (sure-now (seven-old a n (a.carries n) (w.turns n) (and_left (seven r) _ z)) (eqb-true r.tdms x (and_left (eqb r.tdms x) _ z1))
            (sym (ap (together (count_at (timed a) t)) (counted a n (a.carries n))) ∙ and_right (eqb r.tdms x) _ z1))
        go false z = lost (ap (λ (b : Bool). cond b (1 ∷ r.tdms ∷ []) (2 ∷ [])) z)

  -- any later one
  later-heard : (t x : ℕ) → t < n → in_force a t 7 ≡ x ∷ [] → ((v : ℕ) → v < n → hears v ≡ true → announces 7 (a.carries v) ≡ false)
      → Then (held (1 ∷ x ∷ []) (field_on a n))
  unfolding held field_on
  later-heard t x lo is q = go (eqb r.flag 0) refl
    where
      r : Field
      r = carried_as a n (a.carries n)

      go : (b : Bool) → eqb r.flag 0 ≡ b → Then (cond (eqb r.flag 0) (1 ∷ x ∷ []) (2 ∷ []))
      go true z =
          subst (λ (b : Bool). Then (cond b (1 ∷ x ∷ []) (2 ∷ []))) (sym z)
          (sure t x (omega (arith, lo)) is
          (λ v hv hh. by_place v n hv (λ h. q v h hh) (λ h. ap (λ (y : ℕ). announces 7 (a.carries y)) h ∙ present-unannounced a n (a.carries n) z)) refl)
      go false z = lost (ap (λ (b : Bool). cond b (1 ∷ x ∷ []) (2 ∷ [])) z)

  heard-one : hears n ≡ true → (m : List ℕ) → Hold a hears n m → Then (held m (field_on a n))
  unfolding held
  heard-one e m (none z q) = subst (λ (y : List ℕ). Then (held y (field_on a n))) (sym z) (first-heard e q)
  heard-one e m (one t i l lo only c any is z) = subst (λ (y : List ℕ). Then (held y (field_on a n))) (sym z) (second-heard e t i l lo only c any is)
  heard-one e m (sure t x lo is q z) = subst (λ (y : List ℕ). Then (held y (field_on a n))) (sym z) (later-heard t x lo is q)
  heard-one e m (lost z) = lost (ap (λ (y : List ℕ). held y (field_on a n)) z)

hold_at : (a : Air) (w : Orderly a) (hears : ℕ → Bool) (L : Listener stubborn a hears) (n : ℕ) → Hold a hears n (kept stubborn a hears n)
unfolding kept stubborn
hold_at a w hears L zero = none refl (λ v hv hh. omega arith)
hold_at a w hears L (suc n) = go (hears n) refl (hold_at a w hears L n)
  where
    m : List ℕ
    m = kept stubborn a hears n

    go : (b : Bool) → hears n ≡ b → Hold a hears n m → Hold a hears (suc n) (cond (hears n) (held m (field_of (field_bytes (field_on a n)))) m)
    go true e h =
        subst (λ (y : List ℕ). Hold a hears (suc n) y) (sym (λ i. cond (e i) (held m (read_back a w n i)) m)) (heard-one a w hears L n e m h)
    go false e h = subst (λ (b : Bool). Hold a hears (suc n) (cond b (held m (field_of (field_bytes (field_on a n)))) m)) (sym e) (missed a hears n e m h)

-- ---- what it shows

module _ (a : Air) (hears : ℕ → Bool) (t u id : ℕ) where
  abbrev m : List ℕ
  m = kept stubborn a hears (suc t)

  number-sure : stubborn.number m id (count_at (timed a) u) ≡ 0 → surely m id ≡ true
  unfolding stubborn
  number-sure z = go (surely m id) z
    where
      go : (b : Bool) → ◌≡◌ {A = ℕ} (cond b 0 46) 0 → b ≡ true
      go true e = refl
      go false e = absurd (omega (arith, e))

  not-sure : (k : ℕ) (xs : List ℕ) → (k ≡ 1 → ⊥) → m ≡ k ∷ xs → {A : Type 0} → surely m id ≡ true → A
  not-sure k xs ne z {A} e = absurd (ne (eqb-true k 1 (ap (λ (y : List ℕ). eqb (get_or y 0 0) 1) (sym z) ∙ and_left (eqb (get_or m 0 0) 1) _ e)))

  rest : t ≤ u → surely m id ≡ true → Hold a hears (suc t) m → Rest stubborn a hears t u id
  unfolding stubborn
  rest later-on e (none z q) = clash (sym e ∙ ap (λ (y : List ℕ). surely y id) z)
  rest later-on e (one v i l lo only c any is z) = not-sure 0 _ (λ q. omega (arith, q)) z e
  rest later-on e (sure v x lo is q z) =
      let seven-asked : id ≡ 7 = eqb-true id 7 (and_right (eqb (get_or m 0 0) 1) _ e) in
      record {
        from = epoch (timed a) v;
        past = epoch-mono (timed a) v u (omega (arith, lo, later-on));
        fields = ap (λ (b : Bool). cond b (get_or m 1 0 ∷ []) []) e ∙ ap (λ (y : List ℕ). get_or y 1 0 ∷ []) z ∙ sym is
            ∙ ap (a.config (epoch (timed a) v)) (sym seven-asked);
        quiet = λ y hy hh l h. ap (λ (k : ℕ). announces k (a.carries y)) seven-asked ∙ q y (omega (arith, hy)) hh;
      }
  rest later-on e (lost z) = not-sure 2 _ (λ q. omega (arith, q)) z e

pub stubborn-rest : (a : Air) → Orderly a → (hears : ℕ → Bool) → Listener stubborn a hears → (t u id : ℕ) → hears t ≡ true → t ≤ u → u ≤ t + 128 → id < ids
    → stubborn.number (kept stubborn a hears (suc t)) id (count_at (timed a) u) ≡ 0
    → (stubborn.fields (kept stubborn a hears (suc t)) id (count_at (timed a) u) ≡ [] → ⊥) → Rest stubborn a hears t u id
stubborn-rest a w hears L t u id ht lo hi hid number fields =
    rest a hears t u id lo (number-sure a hears t u id number) (hold_at a w hears L (suc t))

-- it never says 0 without fields
pub stubborn-blank : (a : Air) → Orderly a → (hears : ℕ → Bool) → Listener stubborn a hears → (t u id : ℕ) → hears t ≡ true → t ≤ u → u ≤ t + 128 → id < ids
    → stubborn.number (kept stubborn a hears (suc t)) id (count_at (timed a) u) ≡ 0
    → stubborn.fields (kept stubborn a hears (suc t)) id (count_at (timed a) u) ≡ [] → word_for a hears id t u ≡ there → ⊥
unfolding stubborn
stubborn-blank a w hears L t u id ht lo hi hid number fields last =
    let e = number-sure a hears t u id number in
    omega (arith, ap length (sym (ap (λ (b : Bool). cond b (get_or (kept stubborn a hears (suc t)) 1 0 ∷ []) []) e) ∙ fields))
