-- The path is a way.
use Rattle.std.proofs.Common.{arith}
use Rattle.zy_order.specs.Reaches.{cursors_at}
use Rattle.zy_order.proofs.order.spent.Goals as goal

pub returns : goal.returns
returns c =
    let at = c.furthest-at.result in
    rw (c.report_of.ensures, c.in_ok-path.ensures) (
      cursors_at c.args.reached.now at,
      c.requires.reached.ways at (omega (arith, c.furthest-at.ensures.there, c.requires.reached.many)),
    )
