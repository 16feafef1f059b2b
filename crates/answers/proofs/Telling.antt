-- What the program prints is the text of the file's answers.
--
--   after-snoc, said-snoc       the progress after one chunk more, and what is said for it
--   said-whole                  the heading, what is said for chunks and the end's line: the whole text of the file's answers
--   Begins                      a list of bytes begins another
--   said-begins                 what is said for the chunks so far is a beginning of the text, whatever follows
--   said-stopped                and all of it behind a bad record
--
-- Assumes nothing.
use mathlib.Core.Path.{◌≡◌, refl, sym, ap, ◌∙◌}
use mathlib.Core.Bool.{Bool, true, false, cond}
use mathlib.Core.List.{List, [], ◌∷◌, ◌++◌, append-nil, append_assoc}
use Prim.Native.Nat.{ℕ, ◌+◌}
use lib.ListN.{length, drop}
use Rattle.table.specs.State.{started_state}
use Rattle.records.specs.declared.Step.{Step}
use Rattle.records.specs.declared.Step.TheVariants.{Record, End, More, Bad}
use Rattle.serving.specs.Served.{pass, on_bad, cut, chunks_from, chunk_answers, file_answers, joined}
use Rattle.serving.proofs.Cutting.{chunks-file}
use Rattle.answers.specs.Text.{lines, heading, text}
use Rattle.answers.specs.Said.{Progress, begun, goes, spoken, printed, turned, onward, at_end, after_from, said_from, after, said}
use Rattle.answers.proofs.Numbers.{lines-append}

-- ---- lists of chunks

after_on : (p : Progress) (cs ds : List (List ℕ)) → after_from p (cs ++ ds) ≡ after_from (after_from p cs) ds
unfolding after_from
after_on p [] ds = refl
after_on p (c ∷ cs) ds = after_on (onward p c) cs ds

said-on : (p : Progress) (cs ds : List (List ℕ)) → said_from p (cs ++ ds) ≡ said_from p cs ++ said_from (after_from p cs) ds
unfolding said_from after_from
said-on p [] ds = refl
said-on p (c ∷ cs) ds =
    ap (λ (x : List ℕ). printed p c ++ x) (said-on (onward p c) cs ds)
    ∙ sym (append_assoc (printed p c) (said_from (onward p c) cs) (said_from (after_from (onward p c) cs) ds))

pub after-snoc : (cs : List (List ℕ)) (c : List ℕ) → after (cs ++ (c ∷ [])) ≡ onward (after cs) c
unfolding after after_from
after-snoc cs c = after_on begun cs (c ∷ [])

pub said-snoc : (cs : List (List ℕ)) (c : List ℕ) → said (cs ++ (c ∷ [])) ≡ said cs ++ printed (after cs) c
unfolding said after said_from
said-snoc cs c =
    said-on begun cs (c ∷ []) ∙ ap (λ (x : List ℕ). said_from begun cs ++ x) (append-nil (printed (after_from begun cs) c))

-- ---- where it does not go on

onward-stopped : (p : Progress) (c : List ℕ) → p.going ≡ false → onward p c ≡ p
unfolding onward
onward-stopped p c e = ap (λ (b : Bool). cond b (turned p.state (p.kept ++ c) p.number) p) e

after-stopped : (p : Progress) (cs : List (List ℕ)) → p.going ≡ false → after_from p cs ≡ p
unfolding after_from
after-stopped p [] e = refl
after-stopped p (c ∷ cs) e = ap (λ (q : Progress). after_from q cs) (onward-stopped p c e) ∙ after-stopped p cs e

said-none : (p : Progress) (cs : List (List ℕ)) → p.going ≡ false → said_from p cs ≡ []
unfolding said_from printed
said-none p [] e = refl
said-none p (c ∷ cs) e =
    (λ i. cond (e i) (lines p.number (spoken p.state (p.kept ++ c))) [] ++ said_from (onward-stopped p c e i) cs)
    ∙ said-none p cs e

end_none : (p : Progress) → p.going ≡ false → at_end p ≡ []
unfolding at_end
end_none p e = ap (λ (b : Bool). cond b (lines p.number (cut p.kept)) []) e

-- what is said from here on, with the end's line
abbrev rest : Progress → List (List ℕ) → List ℕ
rest p cs = said_from p cs ++ at_end (after_from p cs)

rest-none : (p : Progress) (cs : List (List ℕ)) → p.going ≡ false → rest p cs ≡ []
rest-none p cs e =
    ap (λ (x : List ℕ). x ++ at_end (after_from p cs)) (said-none p cs e)
    ∙ ap at_end (after-stopped p cs e) ∙ end_none p e

-- ---- a file

abbrev standing : List ℕ → List ℕ → ℕ → Bool → Progress
standing t kept k going = record { state = t; kept = kept; number = k; going = going }

module _ (cs : List (List ℕ)) (k : ℕ) (ns left u : List ℕ)
    (on : (j : ℕ) → rest (standing u left j true) cs ≡ lines j (chunks_from cs left u)) where
  goes_on : (lines k (ns ++ []) ++ said_from (standing u left (k + length (ns ++ [])) true) cs)
      ++ at_end (after_from (standing u left (k + length (ns ++ [])) true) cs) ≡ lines k (ns ++ chunks_from cs left u)
  goes_on =
      append_assoc (lines k (ns ++ [])) _ _
      ∙ ap (λ (x : List ℕ). lines k (ns ++ []) ++ x) (on (k + length (ns ++ [])))
      ∙ sym (lines-append k (ns ++ []) (chunks_from cs left u))
      ∙ ap (λ (x : List ℕ). lines k (x ++ chunks_from cs left u)) (append-nil ns)

  said-step : (x : Step) → (lines k (ns ++ on_bad x []) ++ said_from (standing u left (k + length (ns ++ on_bad x [])) (goes x)) cs)
      ++ at_end (after_from (standing u left (k + length (ns ++ on_bad x [])) (goes x)) cs) ≡ lines k (ns ++ on_bad x (chunks_from cs left u))
  unfolding on_bad goes
  said-step (Record kind body) = goes_on
  said-step End = goes_on
  said-step More = goes_on
  said-step Bad =
      append_assoc (lines k (ns ++ (35 ∷ []))) _ _
      ∙ ap (λ (x : List ℕ). lines k (ns ++ (35 ∷ [])) ++ x) (rest-none (standing u left (k + length (ns ++ (35 ∷ []))) false) cs refl)
      ∙ append-nil (lines k (ns ++ (35 ∷ [])))

said-from : (cs : List (List ℕ)) (t kept : List ℕ) (k : ℕ) → rest (standing t kept k true) cs ≡ lines k (chunks_from cs kept t)
unfolding said_from after_from printed onward turned spoken at_end chunks_from
said-from [] t kept k = refl
said-from (c ∷ cs) t kept k =
    let s = kept ++ c in
    let p = pass (length s) s 0 t in
    said-step cs k p.answers (drop p.at s) p.state (λ j. said-from cs p.state (drop p.at s) j) p.last

pub said-whole : (cs : List (List ℕ)) → heading ++ (said cs ++ at_end (after cs)) ≡ text (file_answers (joined cs))
unfolding said after begun text chunk_answers
said-whole cs = ap (λ (x : List ℕ). heading ++ x) (said-from cs started_state [] 1 ∙ ap (lines 1) (chunks-file cs))

-- ---- the reads so far

pub record Begins (xs ys : List ℕ) : Type 0 where
  pub behind : List ℕ
  pub so : ys ≡ xs ++ behind

split : (cs ds : List (List ℕ)) → text (file_answers (joined (cs ++ ds))) ≡ (heading ++ said cs) ++ rest (after cs) ds
unfolding said after
split cs ds =
    sym (said-whole (cs ++ ds))
    ∙ ap (λ (x : List ℕ). heading ++ (x ++ at_end (after_from begun (cs ++ ds)))) (said-on begun cs ds)
    ∙ ap (λ (q : Progress). heading ++ ((said_from begun cs ++ said_from (after_from begun cs) ds) ++ at_end q)) (after_on begun cs ds)
    ∙ simp append_assoc

pub said-begins : (cs ds : List (List ℕ)) → Begins (heading ++ said cs) (text (file_answers (joined (cs ++ ds))))
said-begins cs ds = record { behind = rest (after cs) ds; so = split cs ds }

pub said-stopped : (cs ds : List (List ℕ)) → (after cs).going ≡ false → text (file_answers (joined (cs ++ ds))) ≡ heading ++ said cs
said-stopped cs ds e =
    split cs ds ∙ ap (λ (x : List ℕ). (heading ++ said cs) ++ x) (rest-none (after cs) ds e) ∙ append-nil (heading ++ said cs)
