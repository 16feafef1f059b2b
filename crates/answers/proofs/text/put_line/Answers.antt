-- The pieces of a line are stored one behind the other.
use Rattle.std.proofs.Common.{arith, length-set}
use Rattle.answers.proofs.Numbers.{decimal-most, line-put}
use Rattle.answers.proofs.text.put_line.Goals as goal

pub bounds-out-behind : goal.bounds-out-behind
bounds-out-behind c = omega (arith, decimal-most c.args.number)

pub overflow_add-behind : goal.overflow_add-behind
overflow_add-behind c = omega (arith, decimal-most c.args.number)

pub spell-end-requires : goal.spell-end-requires
spell-end-requires c = omega (arith, decimal-most c.args.number, length-set c.spell-behind.new.out c.spell-behind.result 32)

pub bounds-out-end : goal.bounds-out-end
bounds-out-end c =
    omega (arith, decimal-most c.args.number, decimal-most c.args.answer, length-set c.spell-behind.new.out c.spell-behind.result 32)

pub overflow_add-result : goal.overflow_add-result
overflow_add-result c = omega (arith, decimal-most c.args.number, decimal-most c.args.answer)

pub returns-clause-value : goal.returns-clause-value
returns-clause-value c =
    let first = c.spell-behind in
    let second = c.spell-end in
    let put = line-put c.args.out.now first.new.out second.new.out c.args.at c.args.number c.args.answer
    first.result second.result (first.ensures.value, first.ensures.out_after) (second.ensures.value, second.ensures.out_after) in
    put.0

pub returns-clause-out_after : goal.returns-clause-out_after
returns-clause-out_after c =
    let first = c.spell-behind in
    let second = c.spell-end in
    let put = line-put c.args.out.now first.new.out second.new.out c.args.at c.args.number c.args.answer
    first.result second.result (first.ensures.value, first.ensures.out_after) (second.ensures.value, second.ensures.out_after) in
    put.1
