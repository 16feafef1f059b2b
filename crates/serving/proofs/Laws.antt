-- Laws of serving records.
--
--   As, taken-as                 a kind's byte, by the kind that it is taken for
--   served-ask                   one record's call, where it is ask
--   Stops, stops-there, pass-stop, pass_on    a pass stops, or serves a record and goes on behind it
--   Waits                        it stops, and more bytes may come
--   pass-enough                  a pass that may serve as many records as there are bytes comes to the end, however many more it may
--   passed, passed_on            such a pass: its first record and the rest
--   lent-part, lent_length       the body that is lent to the call
--   ahead, loop-turn, loop-end   answers already given: the loop's turn and its end
--
-- Assumes nothing.
use mathlib.Core.Path.{◌≡◌, refl, sym, ap, ◌∙◌, subst}
use mathlib.Core.Bool.{Bool, false, cond}
use mathlib.Core.List.{List, [], ◌∷◌, ◌++◌, append-nil}
use Prim.Native.Nat.{ℕ, zero, suc, ◌+◌, ◌-◌, ◌≤◌, ◌<◌}
use native.Mathlib.Omega.{arith}
use borrow.Author.Tests.{ne_eqb}
use native.Mathlib.Numerals.{add-one}
use lib.ListN.{length, take, drop, set}
use lib.Seq.{append_snoc, take-suc-set}
use Rattle.runs.specs.Part.{part}
use Rattle.runs.proofs.Parts.{part_length}
use Rattle.asking.specs.Asking.{asked}
use Rattle.std.specs.Prelude.{Result, Ok, Err}
use Rattle.std.specs.Result.{result_unwrap_or}
use Rattle.records.specs.Kinds.{kind_number, HasNumber}
use Rattle.records.specs.declared.kind.Kind.{Kind}
use Rattle.records.specs.declared.kind.Kind.TheVariants.{Packet, SubframeEnd, Follow, Leave, Ask}
use Rattle.records.specs.declared.kind.UnknownKind.{UnknownKind}
use Rattle.records.specs.declared.Step.{Step}
use Rattle.records.specs.declared.Step.TheVariants.{Record, End, More, Bad}
use Rattle.runs.specs.Numbers.{two_at}
use Rattle.records.specs.Format.{body_size, step_at}
use Rattle.records.proofs.Laws.{kind_at, step_end, Stands, ended, waits, bad, whole, stands}
use Rattle.serving.specs.Served.{served_answer, served_after, Pass, stopped, behind, on_step, pass}

-- ---- one record's call

-- what is known of a kind's byte, where a byte of no kind is taken for ask's
abbrev pub As : ℕ → Kind → Type 0
As n Packet = n ≡ 1
As n SubframeEnd = n ≡ 2
As n Follow = n ≡ 3
As n Leave = n ≡ 4
As n Ask = (n ≡ 1 → ⊥) × (n ≡ 2 → ⊥) × (n ≡ 3 → ⊥) × (n ≡ 4 → ⊥)

pub taken-as : (n : ℕ) (r : Result Kind UnknownKind) (kind : Kind) → HasNumber n r → kind ≡ result_unwrap_or r Ask → As n kind
taken-as n (Ok k) kind h e = subst (As n) (sym e) (go k h)
  where
    go : (k : Kind) → n ≡ kind_number k → As n k
    go Packet h = h
    go SubframeEnd h = h
    go Follow h = h
    go Leave h = h
    go Ask h = (λ q. omega (arith, h, q), λ q. omega (arith, h, q), λ q. omega (arith, h, q), λ q. omega (arith, h, q))
taken-as n (Err unknown) kind h e = subst (As n) (sym e) (h Packet, h SubframeEnd, h Follow, h Leave)

fifth : {A : Type 0} {a b c d : Bool} (v w x y z : A) → a ≡ false → b ≡ false → c ≡ false → d ≡ false
    → cond a v (cond b w (cond c x (cond d y z))) ≡ z
fifth v w x y z e f g h = λ i. cond (e i) v (cond (f i) w (cond (g i) x (cond (h i) y z)))

module _ (kind : ℕ) (b t : List ℕ) (r : ℕ) (u : List ℕ) where
  pub served-ask : (kind ≡ 1 → ⊥) → (kind ≡ 2 → ⊥) → (kind ≡ 3 → ⊥) → (kind ≡ 4 → ⊥) → r ≡ (asked t (two_at 0 b)).number → u ≡ t
      → (r ≡ served_answer kind b t) × (u ≡ served_after kind b t)
  unfolding served_answer served_after
  served-ask one two three four p q =
      let a = ne_eqb kind 1 one in
      let b = ne_eqb kind 2 two in
      let c = ne_eqb kind 3 three in
      let d = ne_eqb kind 4 four in
      (p ∙ sym (fifth _ _ _ _ _ a b c d), q ∙ sym (fifth _ _ _ _ _ a b c d))

-- ---- passes

-- it stops, and waits for more bytes
abbrev pub Waits : Step → Type 0
Waits (Record kind body) = ⊥
Waits End = Unit
Waits More = Unit
Waits Bad = ⊥

abbrev pub Stops : Step → Type 0
Stops (Record kind body) = ⊥
Stops End = Unit
Stops More = Unit
Stops Bad = Unit

pub stops-there : (x : Step) → ((kind body : ℕ) → x ≡ Record kind body → ⊥) → Stops x
stops-there (Record kind body) h = h kind body refl
stops-there End h = tt
stops-there More h = tt
stops-there Bad h = tt

-- the pass behind a record
abbrev pub further : ℕ → List ℕ → List ℕ → ℕ → ℕ → Pass
further n s t kind body =
    behind (served_answer kind (part body (body_size kind) s) t)
    (pass n s (body + body_size kind) (served_after kind (part body (body_size kind) s) t))

module _ (s : List ℕ) (at : ℕ) (t : List ℕ) where
  pub pass-stop : (n : ℕ) (x : Step) → Stops x → step_at s at ≡ x → pass n s at t ≡ stopped t at x
  unfolding pass on_step
  pass-stop zero x q e = ap (stopped t at) e
  pass-stop (suc n) (Record kind body) q e = absurd q
  pass-stop (suc n) End q e = ap (λ (x : Step). on_step x (further n s t) (stopped t at)) e
  pass-stop (suc n) More q e = ap (λ (x : Step). on_step x (further n s t) (stopped t at)) e
  pass-stop (suc n) Bad q e = ap (λ (x : Step). on_step x (further n s t) (stopped t at)) e

  pub pass_on : (n kind body : ℕ) → step_at s at ≡ Record kind body → pass (suc n) s at t ≡ further n s t kind body
  unfolding pass on_step
  pass_on n kind body e = ap (λ (x : Step). on_step x (further n s t) (stopped t at)) e

pub pass-enough : (n m : ℕ) (s : List ℕ) (at : ℕ) (t : List ℕ) → length s ≤ at + n → length s ≤ at + m → pass n s at t ≡ pass m s at t
pass-enough zero m s at t h k =
    let e = step_end s at (omega arith) in
    pass-stop s at t zero End tt e ∙ sym (pass-stop s at t m End tt e)
pass-enough (suc n) zero s at t h k =
    let e = step_end s at (omega arith) in
    pass-stop s at t (suc n) End tt e ∙ sym (pass-stop s at t zero End tt e)
pass-enough (suc n) (suc m) s at t h k = go (stands s at) (λ x u l. pass-enough n m s x u (omega arith) (omega arith))
  where
    go : Stands s at → ((x : ℕ) (u : List ℕ) → at < x → pass n s x u ≡ pass m s x u) → pass (suc n) s at t ≡ pass (suc m) s at t
    go (ended l e) on = pass-stop s at t (suc n) End tt e ∙ sym (pass-stop s at t (suc m) End tt e)
    go (waits l e) on = pass-stop s at t (suc n) More tt e ∙ sym (pass-stop s at t (suc m) More tt e)
    go (bad l g e) on = pass-stop s at t (suc n) Bad tt e ∙ sym (pass-stop s at t (suc m) Bad tt e)
    go (whole g l e) on =
        let kind = kind_at s at in
        let b = part (at + 4) (body_size kind) s in
        pass_on s at t n kind (at + 4) e
        ∙ ap (behind (served_answer kind b t)) (on (at + 4 + body_size kind) (served_after kind b t) (omega arith))
        ∙ sym (pass_on s at t m kind (at + 4) e)

-- a pass that comes to the end
abbrev pub passed : List ℕ → ℕ → List ℕ → Pass
passed s at t = pass (length s) s at t

pub passed_on : (s : List ℕ) (at : ℕ) (t : List ℕ) (kind body : ℕ) → step_at s at ≡ Record kind body
    → let b = part body (body_size kind) s in
    passed s at t ≡ behind (served_answer kind b t) (passed s (body + body_size kind) (served_after kind b t))
passed_on s at t kind body e = pass-enough (length s) (suc (length s)) s at t (omega arith) (omega arith) ∙ pass_on s at t (length s) kind body e

-- ---- the loop

module _ (s : List ℕ) (kind body n : ℕ) (e : n ≡ body_size kind) where
  pub lent-part : take (body + n - body) (drop body s) ≡ part body (body_size kind) s
  unfolding part
  lent-part =
      let same : body + n - body ≡ body_size kind = omega (arith, e) in
      ap (λ (x : ℕ). take x (drop body s)) same

  pub lent_length : body + body_size kind ≤ length s → length (take (body + n - body) (drop body s)) ≡ body_size kind
  lent_length h = ap length lent-part ∙ part_length body (body_size kind) s h

-- answers already given
abbrev pub ahead : List ℕ → Pass → Pass
ahead given p = record { answers = given ++ p.answers; state = p.state; at = p.at; last = p.last }

module _ (p : Pass) (s t given : List ℕ) (count place : ℕ) (inv : p ≡ ahead (take count given) (passed s place t)) where
  pub loop-turn : (kind body n : ℕ) (r : ℕ) (u : List ℕ) → step_at s place ≡ Record kind body → n ≡ body_size kind → count < length given
      → let b = take (body + n - body) (drop body s) in
      (r ≡ served_answer kind b t) × (u ≡ served_after kind b t) → p ≡ ahead (take (count + 1) (set given count r)) (passed s (body + n) u)
  loop-turn kind body n r u stood size room served =
      let b : take (body + n - body) (drop body s) ≡ part body (body_size kind) s = lent-part s kind body n size in
      let er : r ≡ served_answer kind (part body (body_size kind) s) t = served.0 ∙ ap (λ (x : List ℕ). served_answer kind x t) b in
      let eu : u ≡ served_after kind (part body (body_size kind) s) t = served.1 ∙ ap (λ (x : List ℕ). served_after kind x t) b in
      let more : take (count + 1) (set given count r) ≡ take count given ++ (r ∷ []) =
      ap (λ (k : ℕ). take k (set given count r)) (add-one count) ∙ take-suc-set given count r room in
      let rest = passed s (body + n) u in
      inv ∙ ap (ahead (take count given)) (passed_on s place t kind body stood)
      ∙ (λ i. ahead (take count given) (behind (sym er i) (passed s (body + sym size i) (sym eu i))))
      ∙ (λ i. record {
        answers = sym (append_snoc (take count given) r rest.answers) i;
        state = rest.state;
        at = rest.at;
        last = rest.last;
      })
      ∙ ap (λ (x : List ℕ). ahead x rest) (sym more)

  pub loop-end : (x : Step) → Stops x → step_at s place ≡ x → count ≤ length given → place ≤ length s
      → (x ≡ p.last) × (t ≡ p.state) × (take count given ≡ p.answers) × (count ≤ length given) × (place ≡ p.at) × (place ≤ length s)
  loop-end x q stood room within =
      let e : p ≡ ahead (take count given) (stopped t place x) = inv ∙ ap (ahead (take count given)) (pass-stop s place t (length s) x q stood) in (
        sym (ap (λ (y : Pass). y.last) e),
        sym (ap (λ (y : Pass). y.state) e),
        sym (ap (λ (y : Pass). y.answers) e ∙ append-nil (take count given)),
        room,
        sym (ap (λ (y : Pass). y.at) e),
        within,
      )
