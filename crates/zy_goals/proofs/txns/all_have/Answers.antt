use Rattle.std.proofs.Common.{◌≡◌, sym, arith, true}
use Rattle.zy_goals.specs.Txns.{has_property}
use Rattle.zy_goals.proofs.EachLemmas.{at, each_at, other_at, more}
use Rattle.zy_goals.proofs.txns.all_have.Goals as goal

-- the transaction t lacks the property, so not all have it
pub returns-then-not-has_property : goal.returns-then-not-has_property
returns-then-not-has_property c =
    let e = rw c.txn.ensures.value at c.if-not-has_property.ensures in
    sym (other_at (has_property c.args.property) c.args.machine.now.state.txns c.loop-t.t
    (omega (arith, c.loop-t-test.true, c.txn_count-t-end.ensures.value)) (sym e))

pub loop-t-preserved : goal.loop-t-preserved
loop-t-preserved c =
    let e = rw c.txn.ensures.value at c.if-not-has_property.ensures in
    more (λ j. at (has_property c.args.property) c.args.machine.now.state.txns j ≡ true) c.loop-t.t c.loop-t.invariant (sym e)

-- each of them has it
pub returns : goal.returns
returns c =
    sym
    (each_at (has_property c.args.property) c.args.machine.now.state.txns (λ i lt. c.loop-t.invariant i
    (omega (arith, lt, c.loop-t-test.false, c.txn_count-t-end.ensures.value))))
