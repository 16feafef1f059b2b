use Rattle.std.proofs.Common.{ℕ, ◌+◌, ◌-◌, ◌%◌, ◌≡◌, Bool, ◌&&◌, leb, refl, sym, ap, ap₂, subst, ◌∙◌, arith, length-set}
use Rattle.bits.specs.Search.{all}
use Rattle.bits.proofs.Search.{all-next, all_end}
use Rattle.head.specs.declared.Head.{Head}
use Rattle.slot.specs.Slot.{head_of, good_slot}
use Rattle.table.proofs.Looking.{slot-part}
use Rattle.table.proofs.States.{address_is}
use Rattle.table.proofs.Apart.{Gathered, gathered_none, gathered_next, good_slot_at, good-apart}
use Rattle.table.proofs.look.is_good.Goals as goal

pub loop-k-init : goal.loop-k-init
loop-k-init c = (refl, refl, gathered_none c.args.state.now 32)

pub good-so-requires-clause-head_value : goal.good-so-requires-clause-head_value
good-so-requires-clause-head_value c = c.head-own.ensures ∙ ap head_of (sym (slot-part c.loop-k.k c.args.state.now))

pub loop-k-preserved : goal.loop-k-preserved
loop-k-preserved c =
    let s = c.args.state.now in
    let at = c.loop-k in
    let own = c.head-own in (
      all-next (good_slot_at s) at.so (all (good_slot_at s) 16 0) (16 - at.k) at.k _ (16 - (at.k + 1)) (at.k + 1) (omega arith) (omega arith)
          (ap (λ (b : Bool). at.so && b) (c.good-so.ensures ∙ ap good_slot (slot-part at.k s))) at.invariant.0,
      length-set at.addresses at.k (own.result.wish.address % 65536) ∙ at.invariant.1,
      gathered_next s at.addresses at.k (own.result.wish.address % 65536) (omega arith)
          (ap (λ (a : ℕ). a % 65536) (ap (λ (h : Head). h.wish.address) own.ensures ∙ address_is s at.k)) at.invariant.2,
    )

pub returns : goal.returns
returns c =
    let s = c.args.state.now in
    let at = c.loop-k in
    let end : at.k ≡ 16 = omega arith in
    ap (λ (b : Bool). b && leb c.setting.result 3)
    (ap₂ ◌&&◌ (all_end (good_slot_at s) at.so (all (good_slot_at s) 16 0) (16 - at.k) at.k (omega arith) at.invariant.0) c.apart.ensures)
    ∙ good-apart s at.addresses (subst (λ (n : ℕ). Gathered s n at.addresses) end at.invariant.2) c.setting.result c.setting.ensures
