-- A field that joins has room, and a place fits its byte. Assumes nothing.
use mathlib.Core.Path.{◌≡◌, sym, ap, ◌∙◌}
use mathlib.Core.List.{List}
use Prim.Native.Nat.{ℕ, ◌<◌}
use native.Mathlib.Omega.{arith}
use Rattle.structure.specs.Structure.{most, head_of, turn_of}
use Rattle.structure.specs.declared.Structure.{Structure}
use Rattle.structure.specs.declared.Turn.{Turn}
use Rattle.structure.specs.declared.Turn.TheVariants.{Joins}
use Rattle.structure.proofs.Turns.{joins-room, place-to}
use Rattle.structure.proofs.gather.Goals as goal

room : (s : List ℕ) (t l : ℕ) (h : Structure) (u : Turn) → h ≡ head_of s → u ≡ turn_of s t l → u ≡ Joins → h.fields < most
room s t l h u eh eu e = omega (arith, joins-room s t l (sym eu ∙ e), ap (λ (x : Structure). x.fields) eh)

pub overflow_add-head : goal.overflow_add-head
overflow_add-head c = omega (arith, room _ _ _ _ _ c.load-head.ensures c.turn_of.ensures c.in-Joins.is)

pub put_nth-requires-clause-k_bound : goal.put_nth-requires-clause-k_bound
put_nth-requires-clause-k_bound c = room _ _ _ _ _ c.load-head.ensures c.turn_of.ensures c.in-Joins.is

pub overflow_cast-place : goal.overflow_cast-place
overflow_cast-place c = omega (arith, place-to c.args.s.now c.args.tdms)

pub overflow_add-place : goal.overflow_add-place
overflow_add-place c = omega (arith, place-to c.args.s.now c.args.tdms)
