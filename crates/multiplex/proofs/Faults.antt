-- Each of the small readers that leave one thing unheeded (specs/Faulty.antt) is wrong.
--
--   never-46-not            it shows the first of two fields, behind the one frame that it has heard
--   blocks-not              it holds the same for a repetition, since it came in five blocks
--   gaps-not                the first field comes again, and the frame between was missed
--   late-start-not          it is started with the second of two fields, and the next one has another LINKS
--   grown, links-not        a component with one field has two more from a change on: it links a field of one repetition with one of another
--   old-ahead-not           asked for a frame behind the change that was announced, it shows the old structure
--   modulo-256-not          the change comes in 5 frames, not in 133
--   careful-doubts, careful-when     the one that heeds everything says 46 in each of these cases, and 5 frames
--
-- Assumes nothing.
use mathlib.Core.Path.{◌≡◌, refl, sym, ap, ap₂, ◌∙◌, subst}
use mathlib.Core.Bool.{Bool, true, false, cond, ◌||◌}
use mathlib.Core.List.{List, [], ◌∷◌}
use Prim.Native.Nat.{ℕ, zero, suc, ◌/◌, ◌%◌, ◌<◌}
use native.Mathlib.Omega.{arith}
use native.Mathlib.Decide.{ℕ_discrete}
use borrow.Author.Tests.{ne_eqb}
use lib.Dec.{T, eqb, lit<, lit≤}
use lib.ListN.{length, get_or}
use Rattle.bits.specs.Bits.{bits_of, number, sent, numbers_in}
use Rattle.field.specs.Field.{tdms_of, fln1, lln1, fln2, lln2, fcp, lcp, bad_pair, bad_tdms, deletes, key, bits_at, field_of, field_bits, field_bytes}
use Rattle.frames.specs.Counts.{ahead, since, changes, until}
use Rattle.multiplex.specs.Broadcast.{count_at, change, epoch, Linked}
use Rattle.multiplex.specs.Example.{one, two, other, structures, pick, told as carried, example}
use Rattle.multiplex.specs.Empty.{seven}
use Rattle.multiplex.specs.Faulty.{Heeds, announced, absent, anew, goes_on, joined, missed, heeded, times, listed, distance, sure, reader, careful, endless, startless, linkless, gapless, blockless, newsless, wrapless}
use Rattle.multiplex.specs.Air.{Carries, old, Air, timed, in_force, carried_as, field_on, new_in, old_in, gone_in, turn, later, same, last_old, link_of, links_old, InTurn, Orderly}
use Rattle.multiplex.specs.Sound.{kept, missed_before, Listener, announces, lists, over, coming_in, coming_before, Quiet, NeverWrong}
use Rattle.multiplex.specs.Finding.{Near, every}
use Rattle.multiplex.specs.Announcing.{heard_news, Announces}
use Rattle.multiplex.proofs.Distances.{epoch-mono}
use Rattle.multiplex.proofs.Keeping.{none-linked, one-linked, three-linked, fitting, few-seven}
use Rattle.multiplex.proofs.Steady.{lists as both, steady, steady-orderly}
use Rattle.multiplex.proofs.Denied.{not_first, unsaid}
use Rattle.multiplex.proofs.Examples.{in_place, example-orderly, near-every}
use Rattle.multiplex.proofs.Rounding.{same-all}

-- ---- what is heard

-- all but frame 1
unfoldable pub but-one : ℕ → Bool
but-one zero = true
but-one (suc zero) = false
but-one (suc (suc t)) = true

near-but-one : Near but-one
unfolding missed_before but-one
near-but-one zero h b = lit≤ tt
near-but-one (suc zero) h b = lit≤ tt
near-but-one (suc (suc zero)) h b = lit≤ tt
near-but-one (suc (suc (suc t))) h b = lit≤ tt

-- from frame 1 on
unfoldable pub from_one : ℕ → Bool
from_one zero = false
from_one (suc t) = true

near-from-one : Near from_one
unfolding missed_before from_one
near-from-one zero h b = lit≤ tt
near-from-one (suc zero) h b = lit≤ tt
near-from-one (suc (suc t)) h b = lit≤ tt

listening : (h : Heeds) (a : Air) (hears : ℕ → Bool) → Near hears → Listener (reader h) a hears
unfolding reader
listening h a hears near = record { taken = λ t e. refl; near = near }

-- ---- what is shown

-- where it shows a list of which no configuration has the length
module _ (h : Heeds) (a : Air) (w : Orderly a) (hears : ℕ → Bool) (near : Near hears) (t n : ℕ) (heard : hears t ≡ true)
    (number : (reader h).number (kept (reader h) a hears (suc t)) 7 (count_at (timed a) t) ≡ 0)
    (fields : length ((reader h).fields (kept (reader h) a hears (suc t)) 7 (count_at (timed a) t)) ≡ n)
    (some : 0 < n) (none : (j : ℕ) → length (a.config j 7) ≡ n → ⊥) where
  refuted : NeverWrong (reader h) → ⊥
  refuted s =
      let x = s.sound a w hears (listening h a hears near) t t 7 heard (omega arith) (omega arith) (lit< tt) number
      (λ e. omega (arith, ap length e, fields, some)) in
      none x.from (sym (ap length x.fields) ∙ fields)

two_fields : (j : ℕ) → length (steady.config j 7) ≡ 1 → ⊥
unfolding steady both
two_fields j e = omega (arith, e)

pub never-46-not : NeverWrong (reader endless) → ⊥
unfolding reader times heeded anew announced seven listed kept steady both field_on carried_as count_at epoch change tdms_of deletes field_of bits_at field_bytes field_bits bits_of number sent numbers_in since ahead
never-46-not = refuted endless steady steady-orderly every near-every 0 1 refl refl refl (lit< tt) two_fields

pub blocks-not : NeverWrong (reader blockless) → ⊥
unfolding reader times heeded joined missed absent anew announced seven listed lists kept steady both field_on carried_as count_at epoch change tdms_of deletes field_of bits_at field_bytes field_bits bits_of number sent numbers_in since ahead
blocks-not = refuted blockless steady steady-orderly every near-every 0 1 refl refl refl (lit< tt) two_fields

pub gaps-not : NeverWrong (reader gapless) → ⊥
unfolding reader times heeded joined missed absent anew announced seven listed lists kept but-one steady both field_on carried_as count_at epoch change tdms_of deletes field_of bits_at field_bytes field_bits bits_of number sent numbers_in since ahead
gaps-not = refuted gapless steady steady-orderly but-one near-but-one 2 1 refl refl refl (lit< tt) two_fields

pub late-start-not : NeverWrong (reader startless) → ⊥
unfolding reader times heeded joined goes_on missed absent anew announced seven listed lists kept from_one steady both field_on carried_as count_at epoch change tdms_of deletes key fln1 fcp field_of bits_at field_bytes field_bits bits_of number sent numbers_in since ahead
late-start-not = refuted startless steady steady-orderly from_one near-from-one 2 1 refl refl refl (lit< tt) two_fields

-- ---- LINKS ignored

unfoldable pub growing : ℕ → List ℕ
growing zero = one ∷ []
growing (suc j) = one ∷ two ∷ other ∷ []

-- from the change on its fields come in turn, from the last one on
unfoldable pub sprouting : ℕ → Carries
sprouting zero = old 7 0 0
sprouting (suc zero) = old 7 0 1
sprouting (suc (suc t)) = old 7 (suc (suc t) % 3) (suc (suc t) / 3 % 2)

unfoldable pub grown : Air
grown = record { origin = 0; config = λ j id. cond (eqb id 7) (growing j) []; carries = sprouting }

growing-linked : (j : ℕ) → Linked (growing j)
unfolding growing tdms_of key bad_tdms bad_pair fln1 lln1 fln2 lln2 fcp lcp deletes
growing-linked zero = one-linked one (fitting one tt refl refl)
growing-linked (suc j) =
    three-linked one two other (fitting one tt refl refl) (fitting two tt refl refl) (fitting other tt refl refl) (lit< tt) (lit< tt)

grown-linked : (j id : ℕ) → Linked (grown.config j id)
unfolding grown
grown-linked j id = go (eqb id 7)
  where
    go : (b : Bool) → Linked (cond b (growing j) [])
    go true = growing-linked j
    go false = none-linked

-- the second configuration begins with frame 2
second-on : (t : ℕ) → 0 < epoch (timed grown) (suc (suc t))
unfolding epoch change count_at grown
second-on t = omega (arith, in-2, epoch-mono (timed grown) 2 (suc (suc t)) (omega arith))
  where
    in-2 : epoch (timed grown) 2 ≡ 1
    in-2 = refl

three-there : (j : ℕ) → 0 < j → grown.config j 7 ≡ one ∷ two ∷ other ∷ []
unfolding grown growing
three-there zero h = absurd (omega arith)
three-there (suc j) h = refl

in_three : (t : ℕ) → in_force grown (suc (suc t)) 7 ≡ one ∷ two ∷ other ∷ []
in_three t = three-there (epoch (timed grown) (suc (suc t))) (second-on t)

last-is : (t : ℕ) → last_old grown 7 (suc (suc (suc t))) ≡ suc (suc (suc t) % 3)
unfolding last_old old_in later grown sprouting
last-is t =
    (λ i. cond (same (in_three t i) (in_three (suc t) i)) (suc (suc (suc t) % 3)) 0)
    ∙ ap (λ (b : Bool). cond b (suc (suc (suc t) % 3)) 0) (same-all (one ∷ two ∷ other ∷ []))

links-is : (t : ℕ) → links_old grown 7 (suc (suc (suc t))) ≡ suc (suc t) / 3 % 2
unfolding links_old old_in link_of grown sprouting
links-is t =
    ap (λ (b : Bool). cond b (links_old grown 7 (suc (suc t))) (suc (suc t) / 3 % 2))
    (ne_eqb (suc (suc (suc t) % 3)) 0 (λ q. absurd (omega (arith, q))))

next_place : (t : ℕ) → suc t % 3 ≡ turn 3 (t % 3)
unfolding turn
next_place t = go (ℕ_discrete (t % 3) 2)
  where
    go : Dec (t % 3 ≡ 2) → suc t % 3 ≡ cond (eqb (suc (t % 3)) 3) 0 (suc (t % 3))
    go (yes q) =
        let here : suc t % 3 ≡ 0 = omega (arith, q) in
        here ∙ sym (ap (λ (n : ℕ). cond (eqb (suc n) 3) 0 (suc n)) q)
    go (no q) =
        let here : suc t % 3 ≡ suc (t % 3) = omega (arith, q) in
        here ∙ sym (ap (λ (b : Bool). cond b 0 (suc (t % 3))) (ne_eqb (suc (t % 3)) 3 (λ z. absurd (omega (arith, z, q)))))

grown-turns : (t : ℕ) → InTurn grown t (sprouting t)
unfolding InTurn sprouting turn last_old old_in later same grown growing epoch change count_at tdms_of
grown-turns zero = (lit< tt, (lit< tt, (lit< tt, λ k e. absurd (omega (arith, e)))))
grown-turns (suc zero) = (lit< tt, (lit< tt, (lit< tt, in_place 0 1 0 1 _ refl (λ e. absurd (omega (arith, e))))))
grown-turns (suc (suc zero)) = (lit< tt, (lit< tt, (lit< tt, λ k e. absurd (omega (arith, e)))))
grown-turns (suc (suc (suc t))) = (lit< tt, (within, (omega arith, turns)))
  where
    v : ℕ
    v = suc (suc t)

    within : suc v % 3 < length (in_force grown (suc v) 7)
    within = omega (arith, ap length (in_three (suc t)))

    turns : (k : ℕ) → last_old grown 7 (suc v) ≡ suc k
        → (suc v % 3 ≡ turn (length (in_force grown (suc v) 7)) k) × (suc v % 3 ≡ suc k → suc v / 3 % 2 ≡ links_old grown 7 (suc v))
    turns k e =
        let at : v % 3 ≡ k = omega (arith, last-is t, e) in
        (next_place v ∙ ap₂ (λ (x : ℕ) (xs : List ℕ). turn (length xs) x) at (sym (in_three (suc t))), λ z. same-third k at z ∙ sym (links-is t))
      where
        same-third : (k : ℕ) → v % 3 ≡ k → suc v % 3 ≡ suc k → suc v / 3 % 2 ≡ v / 3 % 2
        same-third k a z =
            let third : suc v / 3 ≡ v / 3 = omega (arith, a, z) in
            ap (λ (n : ℕ). n % 2) third

silent : (id t : ℕ) → (new_in id (grown.carries t) ≡ 0) × (gone_in id (grown.carries t) ≡ false)
unfolding grown sprouting new_in gone_in
silent id zero = (refl, refl)
silent id (suc zero) = (refl, refl)
silent id (suc (suc t)) = (refl, refl)

stays : (j id : ℕ) → 0 < j → grown.config (suc j) id ≡ grown.config j id
unfolding grown growing
stays zero id h = absurd (omega arith)
stays (suc j) id h = refl

pub grown-orderly : Orderly grown
unfolding grown change count_at
grown-orderly = record {
  linked = λ j id hid. grown-linked j id;
  few = λ j. few-seven (grown.config j) (λ id e. ap (λ (b : Bool). cond b (growing j) []) (ne_eqb id 7 e));
  vectors = λ j. refl;
  turns = grown-turns;
  said = λ t id hid c b. unsaid grown id (silent id) t (stays (epoch (timed grown) t) id (not_first grown refl t b));
}

one-or-three : (j : ℕ) → length (grown.config j 7) ≡ 2 → ⊥
unfolding grown growing
one-or-three zero e = omega (arith, e)
one-or-three (suc j) e = omega (arith, e)

pub links-not : NeverWrong (reader linkless) → ⊥
unfolding reader times heeded joined goes_on missed absent anew announced seven listed lists kept from_one grown growing sprouting field_on carried_as count_at epoch change tdms_of deletes key fln1 fcp field_of bits_at field_bytes field_bits bits_of number sent numbers_in since ahead
links-not = refuted linkless grown grown-orderly from_one near-from-one 3 2 refl refl refl (lit< tt) one-or-three

-- ---- the old structure ahead of the change

old-shown : kept (reader newsless) example every 10 ≡ 1 ∷ 134 ∷ 1 ∷ one ∷ two ∷ []
unfolding reader times heeded joined goes_on missed absent anew announced seven listed lists kept example structures carried pick field_on carried_as count_at epoch change tdms_of deletes key fln1 fcp field_of bits_at field_bytes field_bits bits_of number sent numbers_in since ahead
old-shown = refl

in-6 : epoch (timed example) 6 ≡ 1
unfolding epoch change count_at example
in-6 = refl

in-133 : epoch (timed example) 133 ≡ 2
unfolding epoch change count_at example
in-133 = refl

tells : announces 7 (example.carries 6) ≡ true
unfolding announces example carried pick new_in gone_in
tells = refl

keys : (key one < key two) × (key two < key other)
unfolding tdms_of key fln1 fcp
keys = (lit< tt, lit< tt)

pub old-ahead-not : NeverWrong (reader newsless) → ⊥
unfolding reader listed example structures
old-ahead-not s =
    let w = s.sound example example-orderly every (listening newsless example every near-every) 9 133 7 refl (omega arith) (omega arith) (lit< tt)
    (ap (λ (m : List ℕ). cond (sure newsless m 7 || false) 0 46) old-shown) (λ e. omega (arith, ap length (sym shown ∙ e))) in
    go w.from (sym shown ∙ w.fields) w.quiet
  where
    shown : (reader newsless).fields (kept (reader newsless) example every 10) 7 (count_at (timed example) 133) ≡ one ∷ two ∷ []
    shown = ap (λ (m : List ℕ). cond (sure newsless m 7) (listed m) []) old-shown

    go : (j : ℕ) → one ∷ two ∷ [] ≡ structures j → Quiet example every 9 j (epoch (timed example) 133) 7 → ⊥
    go zero e q = omega (arith, ap length e)
    go (suc zero) e q = subst T (sym tells ∙ q 6 (omega arith) refl (omega (arith, in-6)) (omega (arith, in-6, in-133))) tt
    go (suc (suc zero)) e q = omega (arith, keys.1, ap (λ (xs : List ℕ). key (get_or xs 1 0)) e)
    go (suc (suc (suc j))) e q = omega (arith, ap length e)

-- ---- distances modulo 256

told_in : ((reader wrapless).announced (kept (reader wrapless) example every 1) 7 0 ≡ 1)
    × ((reader wrapless).frames (kept (reader wrapless) example every 1) 7 0 ≡ 133)
unfolding reader times heeded changes anew announced seven distance kept example structures carried pick field_on carried_as count_at epoch change tdms_of deletes field_of bits_at field_bytes field_bits bits_of number sent numbers_in since ahead
told_in = (refl, refl)

pub modulo-256-not : Announces (reader wrapless) → ⊥
unfolding coming_before coming_in heard_news over example carried pick change count_at
modulo-256-not n =
    let x = n.when example example-orderly every near-every 0 7 0 refl (lit< tt) refl in
    subst T (x.first 5 (lit< tt) (omega (arith, told_in.1))) tt

-- ---- heeding everything

pub careful-doubts : ((reader careful).number (kept (reader careful) steady every 1) 7 0 ≡ 46)
    × (((reader careful).number (kept (reader careful) steady but-one 3) 7 2 ≡ 46)
    × (((reader careful).number (kept (reader careful) steady from_one 3) 7 2 ≡ 46)
    × (((reader careful).number (kept (reader careful) grown from_one 4) 7 3 ≡ 46)
    × ((reader careful).number (kept (reader careful) example every 10) 7 2 ≡ 46))))
unfolding reader times heeded joined goes_on missed changes absent anew announced seven listed lists kept but-one from_one steady both grown growing sprouting example structures carried pick field_on carried_as count_at epoch change tdms_of deletes key fln1 fcp field_of bits_at field_bytes field_bits bits_of number sent numbers_in since ahead
careful-doubts = (refl, (refl, (refl, (refl, refl))))

pub careful-when : (reader careful).frames (kept (reader careful) example every 1) 7 0 ≡ 5
unfolding reader times heeded changes anew announced seven distance until kept example structures carried pick field_on carried_as count_at epoch change tdms_of deletes field_of bits_at field_bytes field_bits bits_of number sent numbers_in since ahead
careful-when = refl
