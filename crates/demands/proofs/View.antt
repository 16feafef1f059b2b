-- A slot's bytes as a followed address, and what a packet, a drop, a subframe's end and a follow make of it: what the
-- crate history says.
--
--   view-moved       a readable data packet moves it by section 4's table
--   view-dropped, view-aged, view-new
--
-- Assumes nothing.
use mathlib.Core.Path.{◌≡◌, refl, sym, ap, ap₂, ◌∙◌}
use mathlib.Core.Bool.{Bool, true, false, cond}
use mathlib.Core.List.{List, [], ◌++◌}
use mathlib.Core.Logic.{◌⊎◌, inl, inr}
use Prim.Native.Nat.{ℕ, zero, suc, ◌+◌, ◌*◌}
use native.Mathlib.Nat.{zero-mul}
use native.Mathlib.Omega.{arith}
use lib.Dec.{eqb}
use lib.ListN.{length}
use Rattle.runs.specs.Part.{part}
use Rattle.slot.specs.Slot.{slot_size, head_of, with_head, unfinished, stored}
use Rattle.head.specs.Head.{new_head, dropped_head, aged_head, good_head}
use Rattle.head.specs.Move.{Move, started, held, whole, out_of_step, per_of, needs_of, moved_head}
use Rattle.head.specs.declared.Head.{Head}
use Rattle.head.specs.declared.Wish.{Wish}
use Rattle.head.proofs.Moves.{moved-sizes, dropped-sizes, aged-sizes}
use Rattle.slot.proofs.Goods.{good-load}
use Rattle.head.proofs.Bounds.{good-aged}
use Rattle.slot.proofs.Heads.{store-unfinished, store_stored}
use Rattle.asking.specs.Asking.{group_length}
use Rattle.history.specs.Followed.{moved, begun, joined, last_of, dropped, aged, followed}
use Rattle.group.specs.Group.{block_of, begun_room, slot_moved, slot_dropped}
use Rattle.group.proofs.Laws.{Fits, moved-head, started-room, started-stored, held-room, held-stored, whole-group, dropped-head, dropped-stored}
use Rattle.group.proofs.Doing.{out-drops}
use Rattle.demands.specs.Seen.{last_in, held_in, seen_in}

-- a view by its parts
view-is : (x : List ℕ) (p m : ℕ) (h : Head) (u v : List ℕ) → head_of x ≡ h → (per_of h ≡ p) × (needs_of h ≡ m) → held_in h (unfinished x) ≡ u
    → last_in h (stored x) ≡ v → seen_in x ≡ record { per = p; needs = m; head = h; unfinished = u; last = v }
unfolding seen_in
view-is x p m h u v eh ep eu ev =
    ap (λ (g : Head). record { per = per_of g; needs = needs_of g; head = g; unfinished = held_in g (unfinished x); last = last_in g (stored x) }) eh
    ∙ (λ i. record { per = ep.0 i; needs = ep.1 i; head = h; unfinished = eu i; last = ev i })

-- nothing is held where 0 is awaited
held_none : (h : Head) (room : List ℕ) → h.awaited ≡ 0 → held_in h room ≡ []
unfolding held_in part
held_none h room e = ap (λ (n : ℕ). part 0 n room) (ap (λ (a : ℕ). a * block_of h) e ∙ zero-mul (block_of h))

-- a group is four packets
pub group-four : (h : Head) → group_length h ≡ 4 * block_of h
unfolding group_length block_of
group-four h = go (eqb h.wish.protection 1)
  where
    go : (b : Bool) → cond b 180 360 ≡ 4 * cond b 45 90
    go true = refl
    go false = refl

-- a head with the same marks shows the same
last-same : (g h : Head) (r t : List ℕ) → g.group ≡ h.group → g.wish.protection ≡ h.wish.protection → r ≡ t → last_in g r ≡ last_in h t
unfolding last_in group_length
last-same g h r t eg ep er =
    λ i. cond (eqb (eg i) 0) [] (part 0 (cond (eqb (ep i) 1) 180 360) (er i))

-- a block is as long for a head with the same protection
block_same : (g h : Head) → g.wish.protection ≡ h.wish.protection → block_of g ≡ block_of h
unfolding block_of
block_same g h e = ap (λ (p : ℕ). cond (eqb p 1) 45 90) e

held_by : (h : Head) (room : List ℕ) (n : ℕ) → h.awaited * block_of h ≡ n → held_in h room ≡ part 0 n room
unfolding held_in
held_by h room n e = ap (λ (m : ℕ). part 0 m room) e

last-by : (h : Head) (room : List ℕ) (n : ℕ) → h.group ≡ 1 → 4 * block_of h ≡ n → last_in h room ≡ part 0 n room
unfolding last_in
last-by h room n e en =
    ap₂ (λ (m k : ℕ). cond (eqb m 0) [] (part 0 k room)) e (group-four h ∙ en)

dropped-view : (x : List ℕ) → length x ≡ slot_size → good_head (head_of x) ≡ true → let h = head_of x in
    seen_in (slot_dropped x)
    ≡ record { per = per_of h; needs = needs_of h; head = dropped_head h; unfinished = []; last = last_in h (stored x) }
dropped-view x l g =
    let h = head_of x in
    view-is (slot_dropped x) (per_of h) (needs_of h) (dropped_head h) [] _ (dropped-head x l g) (dropped-sizes h) (held_none (dropped_head h) _ refl)
    (last-same (dropped_head h) h _ _ refl refl (dropped-stored x l g))

pub view-dropped : (x : List ℕ) → length x ≡ slot_size → good_head (head_of x) ≡ true → seen_in (slot_dropped x) ≡ dropped (seen_in x)
unfolding dropped seen_in
view-dropped x l g = dropped-view x l g

-- what a packet is joined on to: nothing where it is the first, otherwise what is held
begun-view : (c : ℕ) (b x : List ℕ) → (c ≡ 0) ⊎ (c ≡ (head_of x).awaited) → length b ≡ block_of (head_of x)
    → part 0 (c * length b) (begun_room c (unfinished x)) ≡ begun c (held_in (head_of x) (unfinished x))
unfolding begun begun_room part
begun-view zero b x at e = ap (λ (n : ℕ). part 0 n (begun_room 0 (unfinished x))) (zero-mul (length b))
begun-view (suc c) b x (inl z) e = absurd (omega arith)
begun-view (suc c) b x (inr p) e =
    sym (held_by (head_of x) (unfinished x) (suc c * length b) (ap₂ (λ (i j : ℕ). i * j) (sym p) (sym e)))

-- all four are needed
pub needs-four : (h : Head) → needs_of h ≡ 4
unfolding needs_of per_of
needs-four h = refl

pub view-moved : (mv : Move) (c : ℕ) (b x : List ℕ) → Fits mv c b x → seen_in (slot_moved mv c b x) ≡ moved mv c b (seen_in x)
unfolding moved joined last_of seen_in moved_head
view-moved started c b x f =
    let h = moved_head started (head_of x) in
    let m : h.awaited * block_of h ≡ (c + 1) * length b =
    ap₂ (λ (i j : ℕ). (i + 1) * j) (sym f.row.0) (block_same h (head_of x) refl ∙ sym f.block) in
    view-is (slot_moved started c b x) _ _ h _ _ (moved-head started c b x f) (moved-sizes started (head_of x))
    (held_by h _ ((c + 1) * length b) m ∙ started-room c b x f ((c + 1) * length b) refl
    ∙ ap (λ (y : List ℕ). y ++ b) (begun-view c b x (inl f.row.0) f.block))
    (last-same h (head_of x) _ _ refl refl (started-stored c b x f))
view-moved held c b x f =
    let h = moved_head held (head_of x) in
    let m : h.awaited * block_of h ≡ (c + 1) * length b =
    ap₂ (λ (i j : ℕ). (i + 1) * j) (sym f.row.0) (block_same h (head_of x) refl ∙ sym f.block) in
    view-is (slot_moved held c b x) _ _ h _ _ (moved-head held c b x f) (moved-sizes held (head_of x))
    (held_by h _ ((c + 1) * length b) m ∙ held-room c b x f ((c + 1) * length b) refl
    ∙ ap (λ (y : List ℕ). y ++ b) (begun-view c b x (inr f.row.0) f.block))
    (last-same h (head_of x) _ _ refl refl (held-stored c b x f))
view-moved whole c b x f =
    let h = moved_head whole (head_of x) in
    let four : 4 ≡ c + 1 = omega (arith, f.place, f.row.1, needs-four (head_of x)) in
    view-is (slot_moved whole c b x) _ _ h [] _ (moved-head whole c b x f) (moved-sizes whole (head_of x)) (held_none h _ refl)
    (last-by h _ ((c + 1) * length b) refl (ap₂ (λ (i j : ℕ). i * j) four (block_same h (head_of x) refl ∙ sym f.block))
    ∙ whole-group c b x f ((c + 1) * length b) refl ∙ ap (λ (y : List ℕ). y ++ b) (begun-view c b x f.row.0 f.block))
view-moved out_of_step c b x f = ap seen_in (sym (out-drops c b x)) ∙ dropped-view x f.size f.good

pub view-aged : (x : List ℕ) → length x ≡ slot_size → good_head (head_of x) ≡ true → seen_in (with_head (aged_head (head_of x)) x) ≡ aged (seen_in x)
unfolding aged seen_in
view-aged x l g =
    let h = aged_head (head_of x) in
    view-is (with_head h x) _ _ h _ _ (good-load h (good-aged (head_of x) g) x l) (aged-sizes (head_of x))
    (held_by h _ ((head_of x).awaited * block_of (head_of x)) (ap (λ (k : ℕ). (head_of x).awaited * k) (block_same h (head_of x) refl))
    ∙ ap (part 0 ((head_of x).awaited * block_of (head_of x))) (store-unfinished h x l)
    ∙ sym (held_by (head_of x) (unfinished x) ((head_of x).awaited * block_of (head_of x)) refl))
    (last-same h (head_of x) _ _ refl refl (store_stored h x l))

pub view-new : (w : Wish) (x : List ℕ) → length x ≡ slot_size → good_head (new_head w) ≡ true → seen_in (with_head (new_head w) x) ≡ followed w
unfolding followed last_in
view-new w x lx g =
    view-is (with_head (new_head w) x) _ _ (new_head w) [] [] (good-load (new_head w) g x lx) (refl, refl) (held_none (new_head w) _ refl) refl
