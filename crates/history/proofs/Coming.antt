-- Up to the last packet of a group that is readable. Of groups of more than one packet, all of which are needed.
--
--   From per i c h            the packets of group i from index c on all come in h
--   moved-next                where the index that is awaited comes, or 0, the next one is awaited
--   Coming per i h n c a      all of group i from packet c on is still to come; where that is not packet 0, it is the next and a, the
--                             index that is awaited
--   coming-*                  how an arrival changes that
--   awaits-last               so before the last packet of a group that is readable the slot awaits it, whatever it held at first
--
-- Assumes nothing.
use mathlib.Core.Path.{◌≡◌, refl, sym, ap, ◌∙◌, subst}
use mathlib.Core.List.{List, [], ◌∷◌, ◌++◌}
use mathlib.Core.Logic.{◌⊎◌, inl, inr}
use Prim.Native.Nat.{ℕ, suc, ◌+◌, ◌-◌, ◌*◌, ◌%◌, ◌≤◌, ◌<◌}
use native.Mathlib.Omega.{arith}
use Rattle.head.specs.Move.{Move, started, held, whole, out_of_step, move_of, moved_head}
use Rattle.head.specs.declared.Head.{Head}
use Rattle.head.proofs.Moves.{Row, move_row}
use Rattle.faults.specs.Faults.{Fault}
use Rattle.history.specs.Followed.{Followed, moved, dropped, aged, after, run}
use Rattle.history.specs.Sent.{Sent, Arrival, came, damaged, control, subframe_end, event, events, InOrder, CameIn}
use Rattle.history.proofs.Laws.{after-refused}
use Rattle.history.proofs.Full.{damaged-other, control-other, end-other, came-later}

pub came-right : (i c : ℕ) (b h : List Arrival) → CameIn i c h → CameIn i c (b ++ h)
unfolding CameIn
came-right i c [] h x = x
came-right i c (a ∷ b) h x = inr (came-right i c b h x)

unfoldable pub From : ℕ → ℕ → ℕ → List Arrival → Type 0
From per i c h = (d : ℕ) → c ≤ d → d < per → CameIn i d h

-- an arrival that is no such packet does not count
from_past : (per i c e : ℕ) (x : Arrival) (h : List Arrival) → ((d : ℕ) → e ≤ d → x ≡ came i d → ⊥) → c ≤ e → From per i c (x ∷ h)
    → From per i e h
unfolding From CameIn
from_past per i c e x h other m w d l k = go (w d (omega arith) k)
  where
    go : (x ≡ came i d) ⊎ CameIn i d h → CameIn i d h
    go (inl y) = absurd (other d l y)
    go (inr y) = y

moved-next : (per needs : ℕ) (h : Head) (c : ℕ) → c < per → c + 1 < needs → (0 < c → h.awaited ≡ c)
    → (moved_head (move_of per needs h.awaited c) h).awaited ≡ suc c
unfolding moved_head
moved-next per needs h c k l w = go (move_of per needs h.awaited c) (move_row per needs h.awaited c k)
  where
    go : (mv : Move) → Row needs h.awaited c mv → (moved_head mv h).awaited ≡ suc c
    go started (z, r) = omega arith
    go held (e, r, m) = omega arith
    go whole (e, r) = absurd (omega arith)
    go out_of_step (r, e) = absurd (e (sym (w r)))

pub record Coming (per i : ℕ) (h : List Arrival) (n c a : ℕ) : Type 0 where
  pub order : InOrder per (per - 1) n h
  pub most : c < per
  pub awaits : 0 < c → (a ≡ c) × (n ≡ per * i + c)
  pub from : From per i c h

module _ (per i : ℕ) (h : List Arrival) (n c a : ℕ) where
  -- another packet is behind the group or, where none of the group came yet, before it
  coming-past : (x : Arrival) (k b : ℕ) → n ≤ k → InOrder per (per - 1) (suc k) h → ((d : ℕ) → x ≡ came i d → k ≡ per * i + d)
      → CameIn i c h → Coming per i (x ∷ h) n c a → Coming per i h (suc k) c b
  coming-past x k b o os number y s =
      let late = came-later per (per - 1) (suc k) h os i c y in
      record {
        order = os;
        most = s.most;
        awaits = λ l. absurd (let e = (s.awaits l).1 in omega arith);
        from = from_past per i c c x h (λ d l e. let z = number d e in omega arith) (omega arith) s.from;
      }

  coming-came : (j d b : ℕ) → ((0 < d → a ≡ d) → d + 1 < per → b ≡ suc d) → CameIn i (per - 1) h → Coming per i (came j d ∷ h) n c a
      → (e : ℕ) × Coming per i h (suc (per * j + d)) e b
  unfolding InOrder CameIn From
  coming-came j d b then last s = go (s.from c (omega arith) s.most)
    where
      go : (came j d ≡ came i c) ⊎ CameIn i c h → (e : ℕ) × Coming per i h (suc (per * j + d)) e b
      go (inl e) =
          let p : j ≡ i = cc in
          let r : d ≡ c = cc in
          let same = ap (λ (x : ℕ). per * x) p in
          let late = came-later per (per - 1) (suc (per * j + d)) h s.order.1 i (per - 1) last in
          let awaits = then (λ l. (s.awaits (omega arith)).0 ∙ sym r) (omega (arith, s.most)) in (
            suc c,
            record {
              order = s.order.1;
              most = omega (arith, s.most);
              awaits = λ l. (awaits ∙ ap suc r, omega arith);
              from = from_past per i c (suc c) (came j d) h (λ k l y. (let q : d ≡ k = cc in omega arith)) (omega arith) s.from;
            },
          )
      go (inr y) = (
        c,
        coming-past (came j d) (per * j + d) b s.order.0.once s.order.1
            (λ k e. (let p : j ≡ i = cc in let r : d ≡ k = cc in omega (arith, ap (λ (x : ℕ). per * x) p))) y s,
      )

  coming-damaged : (j d : ℕ) (r : Fault) → Coming per i (damaged j d r ∷ h) n c a → Coming per i h (suc (per * j + d)) c 0
  unfolding InOrder CameIn From
  coming-damaged j d r s = go (s.from c (omega arith) s.most)
    where
      go : (damaged j d r ≡ came i c) ⊎ CameIn i c h → Coming per i h (suc (per * j + d)) c 0
      go (inl e) = absurd (damaged-other j d r i c e)
      go (inr y) =
          coming-past (damaged j d r) (per * j + d) 0 s.order.0.once s.order.2 (λ k e. absurd (damaged-other j d r i k e)) y s

  -- an arrival that is no packet of a group
  coming-none : (x : Arrival) → ((j d : ℕ) → x ≡ came j d → ⊥) → InOrder per (per - 1) n h → Coming per i (x ∷ h) n c a → Coming per i h n c a
  coming-none x other o s = record {
    order = o;
    most = s.most;
    awaits = s.awaits;
    from = from_past per i c c x h (λ d l. other i d) (omega arith) s.from;
  }

pub awaits-last : (sent : Sent) (i : ℕ) (b l : List Arrival) (n c : ℕ) (f : Followed) → f.needs ≡ f.per → 1 < f.per
    → Coming f.per i (b ++ (came i (f.per - 1) ∷ l)) n c f.head.awaited
    → ((run (events sent b) f).head.awaited ≡ f.per - 1) × InOrder f.per (f.per - 1) (suc (f.per * i + (f.per - 1))) l
unfolding InOrder CameIn From run events event after moved dropped aged
awaits-last sent i [] l n c f all wide s = (go (s.from c (omega arith) s.most), s.order.1)
  where
    last : ℕ
    last = f.per - 1

    go : (came i last ≡ came i c) ⊎ CameIn i c l → f.head.awaited ≡ last
    go (inl e) =
        let p : last ≡ c = cc in
        (s.awaits (omega arith)).0 ∙ sym p
    go (inr x) = absurd (omega (arith, s.most, came-later f.per last (suc (f.per * i + last)) l s.order.1 i c x))
awaits-last sent i (came j d ∷ b) l n c f all wide s =
    let per = f.per in
    let mv = move_of per f.needs f.head.awaited d in
    let (e, t) = coming-came per i (b ++ (came i (per - 1) ∷ l)) n c f.head.awaited j d (moved_head mv f.head).awaited
    (λ w k. moved-next per f.needs f.head d (omega arith) (omega arith) w)
    (came-right i (per - 1) b (came i (per - 1) ∷ l) (inl refl)) s in
    awaits-last sent i b l (suc (per * j + d)) e (moved mv (d % per) (sent j d) f) all wide t
awaits-last sent i (damaged j d r ∷ b) l n c f all wide s =
    let per = f.per in
    subst (λ (g : Followed). ((run (events sent b) g).head.awaited ≡ per - 1) × InOrder per (per - 1) (suc (per * i + (per - 1))) l)
    (after-refused r f s.order.1)
    (awaits-last sent i b l (suc (per * j + d)) c (dropped f) all wide
    (coming-damaged per i (b ++ (came i (per - 1) ∷ l)) n c f.head.awaited j d r s))
awaits-last sent i (control ∷ b) l n c f all wide s =
    awaits-last sent i b l n c f all wide
    (coming-none f.per i (b ++ (came i (f.per - 1) ∷ l)) n c f.head.awaited control control-other s.order s)
awaits-last sent i (subframe_end ∷ b) l n c f all wide s =
    awaits-last sent i b l n c (aged f) all wide
    (coming-none f.per i (b ++ (came i (f.per - 1) ∷ l)) n c f.head.awaited subframe_end end-other s.order s)
