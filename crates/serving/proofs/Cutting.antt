-- A file may be cut anywhere.
--
--   said-shift, said-front       what is printed of a pass from further on; and of a front, and then of what is left with what follows
--   came                         a pass that may serve enough records comes to a place where no record stands
--   cut-anywhere, chunks-file    the answers do not depend on how a file is cut into chunks
--
-- Assumes nothing.
use mathlib.Core.Path.{◌≡◌, refl, sym, ap, ◌∙◌, subst}
use mathlib.Core.List.{List, [], ◌∷◌, ◌++◌, append-nil, append_assoc}
use Prim.Native.Nat.{ℕ, zero, suc, ◌+◌, ◌≤◌, ◌<◌}
use native.Mathlib.Omega.{arith}
use native.Mathlib.Nat.{add-zero, add_assoc}
use lib.ListN.{length, take, drop, length-append, length-drop}
use lib.Seq.{drop-append-le, drop-drop}
use Rattle.runs.specs.Part.{part}
use Rattle.runs.proofs.Parts.{part-front}
use Rattle.table.specs.State.{started_state}
use Rattle.records.specs.declared.Step.{Step}
use Rattle.records.specs.declared.Step.TheVariants.{Record, End, More, Bad}
use Rattle.records.specs.Format.{body_size, step_at}
use Rattle.records.proofs.Laws.{kind_at, step_end, Stands, ended, waits, bad, whole, stands}
use Rattle.records.proofs.Cutting.{shifted, step-shift, front-bad, front-record}
use Rattle.serving.specs.Served.{served_answer, served_after, Pass, stopped, on_step, pass, ending, file_from, file_answers, cut, on_bad, chunks_from, chunk_answers, joined}
use Rattle.serving.proofs.Laws.{Stops, further, pass-stop, pass_on, pass-enough, passed, passed_on, Waits}

-- ---- what is printed

-- no record, and none that is bad
abbrev said : Pass → List ℕ
said p = p.answers ++ ending p.last

ending-shift : (k : ℕ) (x : Step) → ending (shifted k x) ≡ ending x
unfolding ending
ending-shift k (Record kind body) = refl
ending-shift k End = refl
ending-shift k More = refl
ending-shift k Bad = refl

part-shift : (k body n : ℕ) (s : List ℕ) → part (k + body) n s ≡ part body n (drop k s)
unfolding part
part-shift k body n s = ap (take n) (sym (drop-drop body k s))

-- a turn, where what follows is printed alike
turn-shift : (n k : ℕ) (s : List ℕ) (at : ℕ) (t : List ℕ)
    → ((place : ℕ) (u : List ℕ) → said (pass n s (k + place) u) ≡ said (pass n (drop k s) place u))
    → (x : Step) → said (on_step (shifted k x) (further n s t) (stopped t (k + at))) ≡ said (on_step x (further n (drop k s) t) (stopped t at))
unfolding on_step
turn-shift n k s at t on (Record kind body) =
    let same : part (k + body) (body_size kind) s ≡ part body (body_size kind) (drop k s) = part-shift k body (body_size kind) s in
    let place = add_assoc k body (body_size kind) in
    (λ i. served_answer kind (same i) t ∷ said (pass n s (place i) (served_after kind (same i) t)))
    ∙ ap (λ (x : List ℕ). served_answer kind (part body (body_size kind) (drop k s)) t ∷ x) (on (body + body_size kind) _)
turn-shift n k s at t on End = refl
turn-shift n k s at t on More = refl
turn-shift n k s at t on Bad = refl

said-shift : (n k : ℕ) (s : List ℕ) (at : ℕ) (t : List ℕ) → said (pass n s (k + at) t) ≡ said (pass n (drop k s) at t)
unfolding pass
said-shift zero k s at t = ap ending (step-shift k s at) ∙ ending-shift k (step_at (drop k s) at)
said-shift (suc n) k s at t =
    ap (λ (x : Step). said (on_step x (further n s t) (stopped t (k + at)))) (step-shift k s at)
    ∙ turn-shift n k s at t (λ place u. said-shift n k s place u) (step_at (drop k s) at)

-- ---- a front, and then what is left

-- what is printed of a pass over xs, and then of the rest of xs with ys behind it
abbrev resumed : List ℕ → List ℕ → Pass → List ℕ
resumed xs ys p = p.answers ++ on_bad p.last (said (passed (xs ++ ys) p.at p.state))

front-ended : (n : ℕ) (xs ys : List ℕ) (at : ℕ) (t : List ℕ) (x : Step) → Waits x → step_at xs at ≡ x
    → said (passed (xs ++ ys) at t) ≡ resumed xs ys (pass n xs at t)
unfolding on_bad
front-ended n xs ys at t (Record kind body) w e = absurd w
front-ended n xs ys at t End w e = ap (resumed xs ys) (sym (pass-stop xs at t n End tt e))
front-ended n xs ys at t More w e = ap (resumed xs ys) (sym (pass-stop xs at t n More tt e))
front-ended n xs ys at t Bad w e = absurd w

front-broken : (n : ℕ) (xs ys : List ℕ) (at : ℕ) (t : List ℕ) → step_at xs at ≡ Bad → step_at (xs ++ ys) at ≡ Bad
    → said (passed (xs ++ ys) at t) ≡ resumed xs ys (pass n xs at t)
unfolding on_bad ending
front-broken n xs ys at t e f =
    ap said (pass-stop (xs ++ ys) at t (length (xs ++ ys)) Bad tt f) ∙ ap (resumed xs ys) (sym (pass-stop xs at t n Bad tt e))

front-on : (n : ℕ) (xs ys : List ℕ) (at : ℕ) (t : List ℕ) (kind : ℕ) → at + 4 + body_size kind ≤ length xs → step_at xs at ≡ Record kind (at + 4)
    → step_at (xs ++ ys) at ≡ Record kind (at + 4)
    → ((place : ℕ) (u : List ℕ) → at < place → said (passed (xs ++ ys) place u) ≡ resumed xs ys (pass n xs place u))
    → said (passed (xs ++ ys) at t) ≡ resumed xs ys (pass (suc n) xs at t)
front-on n xs ys at t kind h e f on =
    let b : part (at + 4) (body_size kind) (xs ++ ys) ≡ part (at + 4) (body_size kind) xs = part-front (at + 4) (body_size kind) xs ys h in
    let mine = part (at + 4) (body_size kind) xs in
    ap said (passed_on (xs ++ ys) at t kind (at + 4) f)
    ∙ (λ i. served_answer kind (b i) t ∷ said (passed (xs ++ ys) (at + 4 + body_size kind) (served_after kind (b i) t)))
    ∙ ap (λ (x : List ℕ). served_answer kind mine t ∷ x) (on (at + 4 + body_size kind) (served_after kind mine t) (omega arith))
    ∙ ap (resumed xs ys) (sym (pass_on xs at t n kind (at + 4) e))

said-front : (n : ℕ) (xs ys : List ℕ) (at : ℕ) (t : List ℕ) → length xs ≤ at + n
    → said (passed (xs ++ ys) at t) ≡ resumed xs ys (pass n xs at t)
said-front zero xs ys at t h = front-ended zero xs ys at t End tt (step_end xs at (omega arith))
said-front (suc n) xs ys at t h = go (stands xs at) (λ place u l. said-front n xs ys place u (omega arith))
  where
    go : Stands xs at → ((place : ℕ) (u : List ℕ) → at < place → said (passed (xs ++ ys) place u) ≡ resumed xs ys (pass n xs place u))
        → said (passed (xs ++ ys) at t) ≡ resumed xs ys (pass (suc n) xs at t)
    go (ended l e) on = front-ended (suc n) xs ys at t End tt e
    go (waits l e) on = front-ended (suc n) xs ys at t More tt e
    go (bad l g e) on = front-broken (suc n) xs ys at t e (front-bad xs ys at l g)
    go (whole g l e) on = front-on n xs ys at t (kind_at xs at) l e (front-record xs ys at (omega arith) g l) on

-- where a pass that may serve enough records comes to
record Came (s : List ℕ) (p : Pass) : Type 0 where
  pub within : p.at ≤ length s
  pub there : p.last ≡ step_at s p.at
  pub stops : Stops p.last

came-stop : (n : ℕ) (s : List ℕ) (at : ℕ) (t : List ℕ) (x : Step) → Stops x → step_at s at ≡ x → at ≤ length s → Came s (pass n s at t)
came-stop n s at t x q e h = subst (Came s) (sym (pass-stop s at t n x q e)) (record { within = h; there = sym e; stops = q })

came : (n : ℕ) (s : List ℕ) (at : ℕ) (t : List ℕ) → length s ≤ at + n → at ≤ length s → Came s (pass n s at t)
came zero s at t h k = came-stop zero s at t End tt (step_end s at (omega arith)) k
came (suc n) s at t h k = go (stands s at) (λ place u l m. came n s place u (omega arith) m)
  where
    go : Stands s at → ((place : ℕ) (u : List ℕ) → at < place → place ≤ length s → Came s (pass n s place u)) → Came s (pass (suc n) s at t)
    go (ended l e) on = came-stop (suc n) s at t End tt e k
    go (waits l e) on = came-stop (suc n) s at t More tt e k
    go (bad l g e) on = came-stop (suc n) s at t Bad tt e k
    go (whole g l e) on =
        let kind = kind_at s at in
        let c = on (at + 4 + body_size kind) (served_after kind (part (at + 4) (body_size kind) s) t) (omega arith) l in
        subst (Came s) (sym (pass_on s at t n kind (at + 4) e)) (record { within = c.within; there = c.there; stops = c.stops })

-- ---- any cut

waits-stops : (x : Step) → Waits x → Stops x
waits-stops (Record kind body) w = w
waits-stops End w = w
waits-stops More w = w
waits-stops Bad w = tt

waits-shift : (k : ℕ) (x : Step) → Waits (shifted k x) → Waits x
waits-shift k (Record kind body) w = w
waits-shift k End w = w
waits-shift k More w = w
waits-shift k Bad w = w

-- the rest of a file that is no bad record
rest-same : (x : Step) (u v : List ℕ) → Stops x → (Waits x → u ≡ v) → on_bad x u ≡ on_bad x v
unfolding on_bad
rest-same (Record kind body) u v q e = absurd q
rest-same End u v q e = e tt
rest-same More u v q e = e tt
rest-same Bad u v q e = refl

-- "35 where it is cut": what is left at the end of the file
cut-ending : (carried : List ℕ) → Waits (step_at carried 0) → cut carried ≡ ending (step_at carried 0)
unfolding cut ending
cut-ending carried w = go carried w (stands carried 0)
  where
    go : (carried : List ℕ) → Waits (step_at carried 0) → Stands carried 0 → cut carried ≡ ending (step_at carried 0)
    go [] w (ended l e) = sym (ap ending e)
    go (b ∷ carried) w (ended l e) = absurd (omega arith)
    go [] w (waits l e) = absurd (omega arith)
    go (b ∷ carried) w (waits l e) = sym (ap ending e)
    go carried w (bad l g e) = absurd (subst Waits e w)
    go carried w (whole g l e) = absurd (subst Waits e w)

-- what is left, with what follows, as a file of its own
left-file : (s ys : List ℕ) (at : ℕ) (t : List ℕ) → at ≤ length s → said (passed (s ++ ys) at t) ≡ file_from (drop at s ++ ys) t
unfolding file_from
left-file s ys at t h =
    let n = length (s ++ ys) in
    let left = drop at s ++ ys in
    ap (λ (k : ℕ). said (pass n (s ++ ys) k t)) (sym (add-zero at))
    ∙ said-shift n at (s ++ ys) 0 t
    ∙ ap (λ (x : List ℕ). said (pass n x 0 t)) (drop-append-le at s ys h)
    ∙ ap said (pass-enough n (length left) left 0 t (omega (arith, length-append s ys, length-append (drop at s) ys, length-drop at s)) (omega arith))

carried_on : (cs : List (List ℕ)) (carried t : List ℕ) → Waits (step_at carried 0) → chunks_from cs carried t ≡ file_from (carried ++ joined cs) t
unfolding chunks_from joined file_from
carried_on [] carried t w =
    cut-ending carried w
    ∙ ap said (sym (pass-stop carried 0 t (length carried) (step_at carried 0) (waits-stops (step_at carried 0) w) refl))
    ∙ ap (λ (x : List ℕ). file_from x t) (sym (append-nil carried))
carried_on (c ∷ cs) carried t w =
    let s = carried ++ c in
    let p = passed s 0 t in
    let there = came (length s) s 0 t (omega arith) (omega arith) in
    let next : Waits p.last → Waits (step_at (drop p.at s) 0) =
    λ q. waits-shift p.at (step_at (drop p.at s) 0)
    (subst Waits (there.there ∙ ap (step_at s) (sym (add-zero p.at)) ∙ step-shift p.at s 0) q) in
    ap (λ (x : List ℕ). p.answers ++ x)
    (rest-same p.last _ _ there.stops
    (λ q. carried_on cs (drop p.at s) p.state (next q) ∙ sym (left-file s (joined cs) p.at p.state there.within)))
    ∙ sym (said-front (length s) s (joined cs) 0 t (omega arith))
    ∙ ap (λ (x : List ℕ). file_from x t) (append_assoc carried c (joined cs))

pub cut-anywhere : (cs : List (List ℕ)) (t : List ℕ) → chunks_from cs [] t ≡ file_from (joined cs) t
cut-anywhere cs t = carried_on cs [] t (subst Waits (sym (step_end [] 0 (omega arith))) tt)

pub chunks-file : (cs : List (List ℕ)) → chunk_answers cs ≡ file_answers (joined cs)
unfolding chunk_answers file_answers
chunks-file cs = cut-anywhere cs started_state
