use Rattle.std.proofs.Common.{◌≡◌, sym, arith, false}
use Rattle.zy_goals.specs.Txns.{has_property}
use Rattle.zy_goals.proofs.EachLemmas.{at, any_at, none_at, more}
use Rattle.zy_goals.proofs.txns.any_has.Goals as goal

-- the transaction t has the property, so one of all does
pub returns-then-has_property : goal.returns-then-has_property
returns-then-has_property c =
    let e = rw c.txn.ensures.value at c.if-has_property.ensures in
    sym (any_at (has_property c.args.property) c.args.machine.now.state.txns c.loop-t.t
    (omega (arith, c.loop-t-test.true, c.txn_count-t-end.ensures.value)) (sym e))

pub loop-t-preserved : goal.loop-t-preserved
loop-t-preserved c =
    let e = rw c.txn.ensures.value at c.if-has_property.ensures in
    more (λ j. at (has_property c.args.property) c.args.machine.now.state.txns j ≡ false) c.loop-t.t c.loop-t.invariant (sym e)

-- none of them has it
pub returns : goal.returns
returns c =
    sym
    (none_at (has_property c.args.property) c.args.machine.now.state.txns (λ i lt. c.loop-t.invariant i
    (omega (arith, lt, c.loop-t-test.false, c.txn_count-t-end.ensures.value))))
