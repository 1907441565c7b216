use Rattle.std.proofs.Common.{arith}
use Rattle.std.proofs.lemmas.List.{length-take-le}
use Rattle.zy_wire.proofs.Cells.{put_between}
use Rattle.zy_wire.proofs.node.IndexNode.insert.Goals as goal

pub returns : goal.returns
returns c =
    let was = c.self.inside.state in
    let here = rw (← c.self.view_is) at c.requires in
    let at_most = length-take-le was.len was.cells (omega (arith, c.self.invariant.few, c.self.invariant.full)) in
    let put = put_between was.cells was.len c.args.at c.args.entry (omega (arith, here.within, at_most))
    (omega (arith, here.room, at_most, c.self.invariant.full)) in
    rw (← c.self.view_is, c.copy_within.ensures.after) (λ i. record { level = was.level; end = was.end; entries = put i })
