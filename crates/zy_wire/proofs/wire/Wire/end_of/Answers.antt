use Rattle.zy_wire.proofs.Leaves.{Next, leaf_of, next_at, next_some, next_none}
use Rattle.zy_wire.proofs.wire.Wire.end_of.Goals as goal

pub returns-then-end-lt-END : goal.returns-then-end-lt-END
returns-then-end-lt-END c =
    let v = c.self.invariant in
    let lows = c.self.inside.lows.items in
    let e = c.end_of-end.ensures in
    let next : Next lows c.args.key c.end_of-end.result =
    rw e.2 (next_at lows c.leaf.result.now c.args.key e.0 (leaf_of lows _ c.args.key c.leaf.result.now v.holds c.leaf.ensures) e.1) in
    rw (← c.self.view_is) (next_some lows c.args.key c.end_of-end.result next c.if-end-lt-END.true)

pub returns-else-end-lt-END : goal.returns-else-end-lt-END
returns-else-end-lt-END c =
    let v = c.self.invariant in
    let lows = c.self.inside.lows.items in
    let e = c.end_of-end.ensures in
    let next : Next lows c.args.key c.end_of-end.result =
    rw e.2 (next_at lows c.leaf.result.now c.args.key e.0 (leaf_of lows _ c.args.key c.leaf.result.now v.holds c.leaf.ensures) e.1) in
    rw (← c.self.view_is) (next_none lows c.args.key c.end_of-end.result v.small next c.if-end-lt-END.false)
