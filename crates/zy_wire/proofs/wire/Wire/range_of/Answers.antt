use Rattle.zy_wire.proofs.RangeLemmas.{in_range-is}
use Rattle.zy_wire.proofs.wire.Wire.range_of.Goals as goal

pub returns : goal.returns
returns c = λ k.
    let v = c.self.invariant in
    let there = rw (← c.self.view_is) at c.requires in
    let next = rw (← c.self.view_is, c.low_of-low.ensures.value, ← c.self.view_is) at c.end_of.ensures in
    rw (c.low_of-low.ensures.value, ← c.self.view_is) (in_range-is c.self.inside.lows.items c.args.page k c.end_of.result v.apart v.some v.first there next)
