-- The record program's answers by number: section 7's 49 bytes are answered 0, 4, 25, 0, 0, 27, 22; a cut file, a bad one and an empty one. Bytes
-- and answers are the paper's.
--
--   bodies            each kind's body as the numbers of its call, highest byte first
--   sample-calls      the calls that the 49 bytes are, on any state
--   sample-answers    and their answers on the started state
--   cut-answers, bad-answers, empty-answers    35 behind the first record, and nothing behind 35
--
-- Assumes nothing.
use mathlib.Core.Path.{◌≡◌, refl, ap, ◌∙◌}
use mathlib.Core.List.{List, [], ◌∷◌, ◌++◌}
use Prim.Native.Nat.{ℕ}
use native.Mathlib.Omega.{arith}
use lib.Dec.{lit<, lit≤}
use lib.ListN.{take}
use Rattle.bits.specs.Bits.{blank}
use Rattle.bits.specs.Search.{first}
use Rattle.bits.proofs.Rows.{done_refused}
use Rattle.runs.specs.Part.{part}
use Rattle.bits.specs.Rows.{refusal}
use Rattle.head.specs.Head.{wish_of, wish_answer}
use Rattle.table.specs.Calls.{follow_answer, follow_after, leave_answer, leave_after, end_answer, end_after}
use Rattle.table.proofs.Looking.{follow-wish}
use Rattle.table.proofs.Shows.{Shows, with, end-done, end-shows, leave-shows}
use Rattle.table.proofs.Vectors.{started, followed, followed-17, followed-shows, one, known, unknown, again}
use Rattle.asking.specs.Asking.{asked}
use Rattle.asking.proofs.Vectors.{refused, nothing_yet}
use Rattle.adapter.specs.Calls.{packet_answer}
use Rattle.runs.specs.Numbers.{two_at}
use Rattle.records.specs.Format.{body_size, good_head, step_at}
use Rattle.records.proofs.Vectors.{sample}
use Rattle.serving.specs.Served.{served_answer, served_after, on_step, pass, ending, file_from, file_answers}

-- ---- one record's call: address 2, protection 1, limit 2

pub bodies : (t : List ℕ) → (served_answer 1 (blank 94) t ∷ served_answer 2 [] t ∷ served_answer 3 (0x00 ∷ 0x11 ∷ 0x01 ∷ 0x00 ∷ 0x02 ∷ []) t
    ∷ served_answer 3 (0x03 ∷ 0xFE ∷ 0x00 ∷ 0x05 ∷ 0xDC ∷ []) t ∷ served_answer 4 (0x03 ∷ 0xFE ∷ []) t ∷ served_answer 5 (0x03 ∷ 0xFE ∷ []) t ∷ [])
    ≡ (packet_answer t (blank 94) ∷ end_answer t ∷ follow_answer t (wish_of 17 1 2) ∷ follow_answer t (wish_of 1022 0 1500) ∷ leave_answer t 1022 ∷ (asked t 1022).number ∷ [])
unfolding served_answer two_at
bodies t = refl

-- ---- the sample: follow 17, ask 17, follow 17, subframe end, leave 17, ask 17, follow 0

-- the last four of its calls
abbrev later : List ℕ → List ℕ
later u =
    end_answer u ∷ leave_answer (end_after u) 17 ∷ (asked (leave_after (end_after u) 17) 17).number
    ∷ follow_answer (leave_after (end_after u) 17) (wish_of 0 1 2) ∷ []

pub sample-calls : (t : List ℕ)
    → file_from sample t
    ≡ (follow_answer t (wish_of 17 1 2) ∷ (asked (follow_after t (wish_of 17 1 2)) 17).number ∷ follow_answer (follow_after t (wish_of 17 1 2)) (wish_of 17 1 2)
    ∷ later (follow_after (follow_after t (wish_of 17 1 2)) (wish_of 17 1 2)))
unfolding file_from pass on_step ending served_answer served_after step_at good_head two_at body_size part
sample-calls t = refl

second : follow_answer followed (wish_of 17 1 2) ≡ 25
unfolding first wish_answer refusal
second = again followed one followed-shows (wish_of 17 1 2) refl (lit< tt)

-- refused, it changes nothing
unchanged : follow_after followed (wish_of 17 1 2) ≡ followed
unfolding follow_after
unchanged = done_refused (follow_answer followed (wish_of 17 1 2)) _ followed (λ z. omega (arith, z, second))

aged : Shows (end_after followed) one
aged = end-shows followed one followed-shows

left : leave_answer (end_after followed) 17 ≡ 0
unfolding first
left = known (end_after followed) one aged 17 refl (lit< tt)

-- slot 0 is free again
abbrev gone : ℕ → ℕ
gone = with one 0 0

after : Shows (leave_after (end_after followed) 17) gone
unfolding first
after = leave-shows (end_after followed) one aged 17 left

later-answers : later followed ≡ (0 ∷ 0 ∷ 27 ∷ 22 ∷ [])
unfolding first wish_answer refusal
later-answers =
    let u = leave_after (end_after followed) 17 in
    let absent = refused u 17 27 (unknown u gone after 17 refl (lit≤ tt)) (λ q. omega (arith, q)) in
    λ i. end-done followed one followed-shows i ∷ left i ∷ (absent i).number ∷ follow-wish u (wish_of 0 1 2) after.passed (λ z. omega (arith, z)) i ∷ []

pub sample-answers : file_answers sample ≡ (0 ∷ 4 ∷ 25 ∷ 0 ∷ 0 ∷ 27 ∷ 22 ∷ [])
unfolding file_answers
sample-answers =
    sample-calls started
    ∙ ap (λ (u : List ℕ). follow_answer started (wish_of 17 1 2) ∷ (asked followed 17).number ∷ follow_answer followed (wish_of 17 1 2) ∷ later u) unchanged
    ∙ (λ i. followed-17 i ∷ (nothing_yet i).number ∷ second i ∷ later-answers i)

-- ---- cut, bad, empty

-- the first record, and one byte more
pub cut-answers : file_answers (take 10 sample) ≡ (0 ∷ 35 ∷ [])
unfolding file_answers file_from pass on_step ending served_answer served_after step_at good_head two_at body_size part
cut-answers = ap (λ (n : ℕ). n ∷ 35 ∷ []) followed-17

-- the first record, then version 2, then a good one
pub bad-answers : file_answers (take 9 sample ++ (0x00 ∷ 0x02 ∷ 0x02 ∷ 0x02 ∷ 0x00 ∷ 0x02 ∷ 0x01 ∷ 0x02 ∷ [])) ≡ (0 ∷ 35 ∷ [])
unfolding file_answers file_from pass on_step ending served_answer served_after step_at good_head two_at body_size part
bad-answers = ap (λ (n : ℕ). n ∷ 35 ∷ []) followed-17

pub empty-answers : file_answers [] ≡ []
unfolding file_answers file_from pass ending step_at
empty-answers = refl
