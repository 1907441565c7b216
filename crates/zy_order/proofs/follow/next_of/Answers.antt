-- The last place to do is taken.
use Rattle.std.proofs.Common.{◌<◌, length, arith, refl}
use Rattle.zy_order.proofs.LoopLemmas.{taken, taken_reached}
use Rattle.zy_order.proofs.follow.next_of.Goals as goal

pub returns-clause-reached : goal.returns-clause-reached
returns-clause-reached c = λ p is. taken_reached p c.args.reached.now _ c.pop.result is c.pop.ensures.items refl refl

pub returns-clause-taken : goal.returns-clause-taken
returns-clause-taken c = λ p is followed.
    let some = λ (lt : 0 < length c.args.reached.now.todo.items). c.pop.ensures.variant.1 (omega (arith, lt)) in
    taken p c.args.reached.now (record (c.args.reached.now) { todo = c.pop.new.self }) c.pop.result is followed c.pop.ensures.items some refl refl
