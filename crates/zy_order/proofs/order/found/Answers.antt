-- The path is a way, and leads to the end of the logs.
use Rattle.std.proofs.Common.{arith}
use Rattle.zy_order.specs.Reaches.{cursors_at}
use Rattle.zy_order.proofs.order.found.Goals as goal

pub report_of-requires : goal.report_of-requires
report_of-requires c = omega (arith, c.requires.there, c.requires.under_way.reached.many)

pub returns : goal.returns
returns c =
    rw (c.report_of.ensures, c.in_ok-path.ensures) (
      cursors_at c.args.reached.now c.args.at,
      c.requires.under_way.reached.ways c.args.at c.requires.there,
      c.requires.complete,
    )
