use Rattle.std.proofs.Common.{◌<◌, ◌≤◌, length}
use Rattle.zy_search.specs.Visits.{Visits, IsEdge, AreEnds, AreExpanded, AreOf, IsInformed}
use Rattle.zy_search.specs.Ahead.{IsOutlook}
use Rattle.zy_search.proofs.search.expand_each.Given as goal

abbrev pub invariant-loop-at : goal.invariant-loop-at
invariant-loop-at g l =
    record {
      visits : Visits l.plan.start l.plan.sought l.reached.tree;
      within : l.at ≤ length l.reached.tree;
      expanded : AreExpanded l.plan.start l.plan.sought l.reached.tree l.at;
      near : l.at < length l.reached.tree → IsEdge l.reached.tree l.at;
      ends : AreEnds l.reached.tree l.at;
      informed : IsInformed l.plan l.reached;
      outlook : IsOutlook l.plan l.reached l.outlook;
      scratch : AreOf l.plan.start.scenario l.scratch;
    }
