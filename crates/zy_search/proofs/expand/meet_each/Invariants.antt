use Rattle.zy_search.specs.Visits.{Visits, IsEdge, GoOnBy, Grows, IsInformed, AreNumbersAt, AreScratch}
use Rattle.zy_search.specs.Ahead.{GoesOn, IsForeseen}
use Rattle.zy_search.proofs.MeetLemmas.{AllLead}
use Rattle.zy_search.proofs.expand.meet_each.Given as goal

abbrev pub invariant-loop-i : goal.invariant-loop-i
invariant-loop-i l =
    record {
      visits : Visits l.plan.start l.plan.sought l.reached.tree;
      near : IsEdge l.reached.tree l.at;
      grows : Grows l.initial.reached.tree l.reached.tree;
      goes_on : GoesOn l.initial.reached l.reached;
      ahead : IsForeseen l.plan l.reached l.ahead;
      informed : IsInformed l.plan l.reached;
      scratch : AreScratch l.plan.start l.reached.tree l.at l.scratch;
      here : AreNumbersAt l.plan l.reached l.at l.numbers.here.items;
      by : GoOnBy l.reached.tree l.at l.plan.choices.items l.i;
      known : AllLead l.plan.start l.plan.sought l.initial.reached.tree l.at l.reached.tree l.plan.choices.items l.i;
    }
