use Rattle.std.proofs.Common.{ℕ, ◌≡◌, ◌+◌, ◌-◌, ◌<◌, List, length, get_or, take, drop, not, ◌&&◌, eqb, ap, ◌∙◌, arith, length-take, length-drop}
use Rattle.std.proofs.lemmas.List.{get_or-take, get_or-drop}
use Rattle.bits.specs.Search.{all}
use Rattle.bits.proofs.Search.{all-next, all_end}
use Rattle.table.proofs.Apart.{differs}
use Rattle.table.proofs.look.last.Goals as goal

-- the sixteen behind place k
module _ (xs : List ℕ) (k : ℕ) where
  abbrev behind : List ℕ
  behind = take (k + 1 + 16 - (k + 1)) (drop (k + 1) xs)

  behind-length : length xs ≡ 32 → k < 16 → length behind ≡ 16
  behind-length l h = omega (arith, length-take (k + 1 + 16 - (k + 1)) (drop (k + 1) xs), length-drop (k + 1) xs)

  behind-read : (j : ℕ) → j < 16 → get_or behind j 0 ≡ get_or xs (k + 1 + j) 0
  behind-read j h = get_or-take (k + 1 + 16 - (k + 1)) (drop (k + 1) xs) j 0 (omega arith) ∙ get_or-drop (k + 1) xs j 0

pub loop-other-preserved : goal.loop-other-preserved
loop-other-preserved c =
    let xs = c.args.addresses.now in
    let k = c.args.k in
    let at = c.loop-other in
    let j = at.other-index in
    let l : j < 16 = omega (arith, behind-length xs k c.requires.addresses_len c.requires.k_lt_slots) in
    all-next (differs xs k) at.alone (all (differs xs k) 16 (k + 1)) (16 - j) (k + 1 + j) _ (16 - (j + 1)) (k + 1 + (j + 1)) (omega arith) (omega arith)
    (ap (λ (x : ℕ). at.alone && not (eqb x (get_or xs k 0))) (behind-read xs k j l)) at.invariant

pub returns : goal.returns
returns c =
    let xs = c.args.addresses.now in
    let k = c.args.k in
    let at = c.loop-other in
    all_end (differs xs k) at.alone (all (differs xs k) 16 (k + 1)) (16 - at.other-index) (k + 1 + at.other-index)
    (omega (arith, behind-length xs k c.requires.addresses_len c.requires.k_lt_slots)) at.invariant
