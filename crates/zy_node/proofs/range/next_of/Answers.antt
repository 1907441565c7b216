use Rattle.zy_node.proofs.RangeSteps.{leads_next, leads_none, leads_past}
use Rattle.zy_node.proofs.range.next_of.Goals as goal
use Rattle.std.proofs.Common.{arith}

pub returns-in-Some-clause-next : goal.returns-in-Some-clause-next
returns-in-Some-clause-next c =
    let low = c.low_of-in-Some.ensures.value in
    leads_next c.args.wire.now.lows c.args.low c.args.last c.in-Some.page c.low_of-in-Some.result c.in-Some.ensures.next low
    (omega (arith, low, c.low_of.ensures.value, c.if-low_of-last.true))

pub returns-in_default-clause-next : goal.returns-in_default-clause-next
returns-in_default-clause-next c =
    leads_past c.args.wire.now.lows c.args.low c.args.last c.in-Some.page c.low_of.result c.in-Some.ensures.next c.low_of.ensures.value
    (omega (arith, c.if-low_of-last.false))

pub returns-in_default-2-clause-next : goal.returns-in_default-2-clause-next
returns-in_default-2-clause-next c = leads_none c.args.wire.now.lows c.args.low c.args.last c.in_default.ensures.next
