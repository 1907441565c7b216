use Rattle.zy_wire.proofs.After.{after_key}
use Rattle.zy_wire.proofs.wire.Wire.after.Goals as goal

pub returns-in-Some-clause-next : goal.returns-in-Some-clause-next
returns-in-Some-clause-next c =
    let v = c.self.invariant in
    let lows = c.self.inside.lows.items in
    rw (c.page_of.ensures.value, ← c.self.view_is) (after_key lows c.args.low c.in-Some.end v.apart v.some (rw (← c.self.view_is) at c.in-Some.ensures))
