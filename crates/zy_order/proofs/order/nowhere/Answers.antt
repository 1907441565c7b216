-- No way matches all lines, and none leads further than the path that leads furthest.
use Rattle.zy_order.specs.Reaches.{cursors_at}
use Rattle.zy_order.proofs.ReachLemmas.{furthest_way}
use Rattle.zy_order.proofs.order.nowhere.Goals as goal

pub returns : goal.returns
returns c =
    rw (c.report_of.ensures, c.in_ok-path.ensures) (
      cursors_at c.args.reached.now c.furthest-at.result,
      furthest_way c.args.plan.now c.args.reached.now c.furthest-at.result c.requires.under_way.plan c.requires.under_way.reached c.furthest-at.ensures.there
          c.furthest-at.ensures.best c.requires.followed c.requires.none,
    )
