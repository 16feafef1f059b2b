-- What the writes take of an output: each is offered what is not taken yet, and takes so many first bytes of that.
--
--   wrote out ns, left out ns     what writes that took so many bytes each wrote in order, and what is left
--   wrote-begins                  what is taken is a beginning of the output
--   wrote-all                     and all of it where nothing is left
--   written-begins, ended-begins  so what has been printed of a chunk's lines, or of the end's, is a beginning of the text of the file's
--                                 answers, whatever follows
--
-- Assumes nothing.
use mathlib.Core.Path.{◌≡◌, refl, sym, ap, ◌∙◌}
use mathlib.Core.List.{List, [], ◌∷◌, ◌++◌, append-nil, append_assoc}
use Prim.Native.Nat.{ℕ}
use lib.ListN.{take, drop, take-append-drop}
use lib.Seq.{append_snoc}
use Rattle.serving.specs.Served.{file_answers, joined}
use Rattle.answers.specs.Text.{heading, text}
use Rattle.answers.specs.Said.{printed, at_end, after, said}
use Rattle.answers.proofs.Telling.{Begins, said-whole, said-begins, said-snoc}

unfoldable pub wrote : List ℕ → List ℕ → List ℕ
wrote out [] = []
wrote out (n ∷ ns) = take n out ++ wrote (drop n out) ns

unfoldable pub left : List ℕ → List ℕ → List ℕ
left out [] = out
left out (n ∷ ns) = left (drop n out) ns

wrote-left : (out ns : List ℕ) → out ≡ wrote out ns ++ left out ns
unfolding wrote left
wrote-left out [] = refl
wrote-left out (n ∷ ns) =
    sym (take-append-drop n out) ∙ ap (λ (x : List ℕ). take n out ++ x) (wrote-left (drop n out) ns)
    ∙ sym (append_assoc (take n out) (wrote (drop n out) ns) (left (drop n out) ns))

pub wrote-begins : (out ns : List ℕ) → Begins (wrote out ns) out
wrote-begins out ns = record { behind = left out ns; so = wrote-left out ns }

pub wrote-all : (out ns : List ℕ) → left out ns ≡ [] → wrote out ns ≡ out
wrote-all out ns e = sym (wrote-left out ns ∙ ap (λ (x : List ℕ). wrote out ns ++ x) e ∙ append-nil (wrote out ns))

-- a beginning of what stands behind other bytes, with these, begins the whole
begins-behind : (front xs ys zs : List ℕ) → Begins xs ys → Begins (front ++ ys) zs → Begins (front ++ xs) zs
begins-behind front xs ys zs b w = record {
  behind = b.behind ++ w.behind;
  so = w.so ∙ ap (λ (x : List ℕ). (front ++ x) ++ w.behind) b.so ∙ simp append_assoc;
}

pub written-begins : (cs : List (List ℕ)) (c : List ℕ) (ds : List (List ℕ)) (ns : List ℕ)
    → Begins ((heading ++ said cs) ++ wrote (printed (after cs) c) ns) (text (file_answers (joined (cs ++ (c ∷ ds)))))
written-begins cs c ds ns =
    let more = said-begins (cs ++ (c ∷ [])) ds in
    begins-behind (heading ++ said cs) _ _ _ (wrote-begins (printed (after cs) c) ns)
    (record {
      behind = more.behind;
      so =
          ap (λ (x : List (List ℕ)). text (file_answers (joined x))) (sym (append_snoc cs c ds))
          ∙ more.so
          ∙ ap (λ (x : List ℕ). (heading ++ x) ++ more.behind) (said-snoc cs c)
          ∙ simp append_assoc;
    })

pub ended-begins : (cs : List (List ℕ)) (ns : List ℕ)
    → Begins ((heading ++ said cs) ++ wrote (at_end (after cs)) ns) (text (file_answers (joined cs)))
ended-begins cs ns =
    begins-behind (heading ++ said cs) _ _ _ (wrote-begins (at_end (after cs)) ns)
    (record { behind = []; so = sym (said-whole cs) ∙ simp (append_assoc, append-nil) })
