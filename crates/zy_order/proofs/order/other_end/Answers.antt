-- The path matches all lines, and no way that does has the end that is asked for.
use Rattle.zy_order.specs.Reaches.{cursors_at}
use Rattle.zy_order.proofs.ReachLemmas.{other_end_way}
use Rattle.zy_order.proofs.order.other_end.Goals as goal

pub returns : goal.returns
returns c =
    rw (c.report_of.ensures, c.in_ok-path.ensures) (
      cursors_at c.args.reached.now c.args.at,
      other_end_way c.args.plan.now c.args.reached.now c.args.at c.requires.under_way.plan c.requires.under_way.reached c.requires.there c.requires.matched
          c.requires.followed,
    )
