-- Demand 3, fresh exactly while it is: what ask shows is what the answers and the ends of subframes tell.
--
--   Aged age n         the age is the number n of subframes that ended, or both have come to 1500
--   Tells limit h t    the entries t tell the head h: whether there is a group, whether a gap is marked, whether packets of an
--                      unfinished group are held, and, where there is a group, its age
--   tells-*            each event keeps that: a packet by any row of its table, a refused one, which drops or is a control packet, the
--                      end of a subframe
--   tells-shown        where it holds, ask shows what the entries call for
--   freshness          so it is after any events whatever, from any slot that has no group, no gap marked and nothing held, whatever
--                      the packets of a group; freshness-four: from follow on
--
-- Assumes nothing.
use mathlib.Core.Path.{◌≡◌, refl, sym, ap, ◌∙◌, subst}
use mathlib.Core.Bool.{Bool, true, false, cond, not, ◌&&◌, ◌||◌}
use mathlib.Core.List.{List, [], ◌∷◌}
use mathlib.Core.Logic.{◌⊎◌, inl, inr}
use Prim.Native.Nat.{ℕ, suc, ◌+◌, ◌≤◌}
use native.Mathlib.Omega.{arith}
use lib.Dec.{leb, ltb, eqb}
use borrow.Author.Tests.{eqb-true, ltb-true, ltb-false, lt-ltb, le-leb}
use Rattle.bits.proofs.Search.{clash}
use Rattle.head.specs.Head.{new_head, dropped_head, aged_head, ask_number}
use Rattle.head.specs.Move.{Move, started, held, whole, out_of_step, move_of, move_number, moved_head}
use Rattle.head.specs.declared.Head.{Head}
use Rattle.head.specs.declared.Wish.{Wish}
use Rattle.faults.specs.Faults.{Fault, type_control, number, drops, number_drops}
use Rattle.faults.proofs.Laws.{drops-or-control, number-drops, no_whole, no_part}
use Rattle.history.specs.Followed.{Followed, Event, packet, refused, ended, moved, dropped, aged, after, answer, followed, run}
use Rattle.history.specs.Transcript.{Entry, answered, subframe, entry, told, is_whole, any_whole, since_whole, ends, before, marks, marked, called}
use Rattle.history.proofs.Laws.{after-refused}

abbrev pub Aged : ℕ → ℕ → Type 0
Aged age n = (age ≡ n) ⊎ ((1500 ≤ age) × (age ≤ n))

pub aged-limit : (limit age n : ℕ) → limit ≤ 1500 → Aged age n → leb limit age ≡ leb limit n
aged-limit limit age n k (inl e) = ap (leb limit) e
aged-limit limit age n k (inr (p, q)) = le-leb limit age (omega arith) ∙ sym (le-leb limit n (omega arith))

pub aged-next : (group age n : ℕ) → group ≡ 1 → Aged age n → Aged (cond (eqb group 1 && ltb age 1500) (age + 1) age) (suc n)
aged-next group age n g a = rw g (go (ltb age 1500) refl a)
  where
    go : (b : Bool) → ltb age 1500 ≡ b → Aged age n → Aged (cond b (age + 1) age) (suc n)
    go true e (inl p) = inl (omega arith)
    go true e (inr (p, q)) = absurd (omega (arith, ltb-true age 1500 e))
    go false e (inl p) = inr (ltb-false age 1500 e, omega arith)
    go false e (inr (p, q)) = inr (p, omega arith)

pub record Tells (limit : ℕ) (h : Head) (t : List Entry) : Type 0 where
  pub limited : h.wish.limit ≡ limit
  pub grouped : h.group ≡ cond (any_whole t) 1 0
  pub gapped : h.gap ≡ cond (marked (since_whole t)) 1 0
  pub awaits : ltb 0 h.awaited ≡ (eqb (before (since_whole t)) 1 || eqb (before (since_whole t)) 2)
  pub age : any_whole t ≡ true → Aged h.age (ends (since_whole t))

pub tells_none : (h : Head) → h.awaited ≡ 0 → h.group ≡ 0 → h.gap ≡ 0 → Tells h.wish.limit h []
unfolding any_whole since_whole marked before ends
tells_none h w g m = record { limited = refl; grouped = g; gapped = m; awaits = rw w; age = λ e. none e }
  where
    none : false ≡ true → Aged h.age 0
    none e =
        let z : ◌≡◌ {A = ℕ} 0 1 = cc in
        absurd (omega arith)

pub tells-new : (w : Wish) → Tells w.limit (new_head w) []
tells-new w = tells_none (new_head w) refl refl refl

cond-or : (a b : Bool) → cond a 1 (cond b 1 0) ≡ cond {A = ℕ} (a || b) 1 0
cond-or true b = refl
cond-or false b = refl

-- a number that drops is not a control packet's
not-control : (n : ℕ) → number_drops n ≡ true → eqb n (number type_control) ≡ false
unfolding number_drops
not-control n d = go (eqb n (number type_control)) refl
  where
    go : (b : Bool) → eqb n (number type_control) ≡ b → b ≡ false
    go true e = clash (sym (subst (λ (k : ℕ). number_drops k ≡ true) (eqb-true n (number type_control) e) d))
    go false e = refl

module _ (limit : ℕ) (h : Head) (t : List Entry) (s : Tells limit h t) where
  -- a control packet is passed over
  tells-control : Tells limit h (answered (number type_control) ∷ t)
  unfolding any_whole is_whole since_whole marked marks number_drops before ends
  tells-control = record { limited = s.limited; grouped = s.grouped; gapped = s.gapped; awaits = s.awaits; age = s.age }

  tells-dropped : (n : ℕ) → eqb n 3 ≡ false → (eqb n 1 || eqb n 2) ≡ false → number_drops n ≡ true → Tells limit (dropped_head h) (answered n ∷ t)
  unfolding any_whole is_whole since_whole marked marks before ends
  tells-dropped n e u d = record {
    limited = s.limited;
    grouped = rw e s.grouped;
    gapped = rw (e, d);
    awaits = rw (e, not-control n d, u);
    age = rw e s.age;
  }

  tells-moved : (mv : Move) → Tells limit (moved_head mv h) (answered (move_number mv) ∷ t)
  unfolding moved_head move_number any_whole is_whole since_whole marked marks number_drops before ends
  tells-moved started = record {
    limited = s.limited;
    grouped = s.grouped;
    gapped = rw (s.awaits, s.gapped) (cond-or (eqb (before (since_whole t)) 1 || eqb (before (since_whole t)) 2) (marked (since_whole t)));
    awaits = refl;
    age = s.age;
  }
  tells-moved held = record {
    limited = s.limited;
    grouped = s.grouped;
    gapped = s.gapped;
    awaits = lt-ltb 0 (h.awaited + 1) (omega arith);
    age = s.age;
  }
  tells-moved whole = record { limited = s.limited; grouped = refl; gapped = refl; awaits = refl; age = λ e. inl refl }
  tells-moved out_of_step = tells-dropped 32 refl refl refl

  tells-aged : Tells limit (aged_head h) (subframe ∷ t)
  unfolding any_whole is_whole since_whole marked marks before ends
  tells-aged = record {
    limited = s.limited;
    grouped = s.grouped;
    gapped = s.gapped;
    awaits = s.awaits;
    age = λ e. aged-next h.group h.age (ends (since_whole t)) (s.grouped ∙ ap (λ (b : Bool). cond b 1 0) e) (s.age e);
  }

  tells-shown : limit ≤ 1500 → ask_number h ≡ called limit t
  unfolding ask_number called
  tells-shown k = rw (s.grouped, s.gapped, s.limited) (go (any_whole t) (marked (since_whole t)) refl)
    where
      go : (w m : Bool) → any_whole t ≡ w
          → cond (eqb (cond w 1 0) 0) 4 (cond (leb limit h.age) 7 (cond (eqb (cond m 1 0) 1) 6 5))
          ≡ cond {A = ℕ} (not w) 4 (cond (leb limit (ends (since_whole t))) 7 (cond m 6 5))
      go false m e = refl
      go true true e = ap (λ (b : Bool). cond b 7 6) (aged-limit limit h.age (ends (since_whole t)) k (s.age e))
      go true false e = ap (λ (b : Bool). cond b 7 5) (aged-limit limit h.age (ends (since_whole t)) k (s.age e))

tells-refused : (limit : ℕ) (f : Followed) (t : List Entry) → Tells limit f.head t → (r : Fault) → (drops r ≡ true) ⊎ (r ≡ type_control)
    → Tells limit (after (refused r) f).head (answered (number r) ∷ t)
unfolding after dropped
tells-refused limit f t s r (inl e) =
    subst (λ (g : Followed). Tells limit g.head (answered (number r) ∷ t)) (after-refused r f e)
    (tells-dropped limit f.head t s (number r) (no_whole r) (no_part r) (number-drops r ∙ e))
tells-refused limit f t s r (inr e) =
    subst (λ (x : Fault). Tells limit (after (refused x) f).head (answered (number x) ∷ t)) (sym e) (tells-control limit f.head t s)

tells-after : (limit : ℕ) (f : Followed) (t : List Entry) → Tells limit f.head t
    → (e : Event) → Tells limit (after e f).head (entry e f ∷ t)
unfolding after entry answer moved dropped aged
tells-after limit f t s (packet c bytes) = tells-moved limit f.head t s (move_of f.per f.needs f.head.awaited c)
tells-after limit f t s (refused r) = tells-refused limit f t s r (drops-or-control r)
tells-after limit f t s ended = tells-aged limit f.head t s

pub tells-run : (limit : ℕ) → limit ≤ 1500 → (es : List Event) (f : Followed) (t : List Entry) → Tells limit f.head t
    → ask_number (run es f).head ≡ called limit (told es f t)
unfolding run told
tells-run limit k [] f t s = tells-shown limit f.head t s k
tells-run limit k (e ∷ es) f t s = tells-run limit k es (after e f) (entry e f ∷ t) (tells-after limit f t s e)

pub freshness : (f : Followed) → f.head.awaited ≡ 0 → f.head.group ≡ 0 → f.head.gap ≡ 0 → f.head.wish.limit ≤ 1500 → (es : List Event)
    → ask_number (run es f).head ≡ called f.head.wish.limit (told es f [])
freshness f w g m k es = tells-run f.head.wish.limit k es f [] (tells_none f.head w g m)

pub freshness-four : (w : Wish) → 1 ≤ w.limit → w.limit ≤ 1500 → (es : List Event)
    → ask_number (run es (followed w)).head ≡ called w.limit (told es (followed w) [])
unfolding followed
freshness-four w h k es = freshness (followed w) refl refl refl k es
