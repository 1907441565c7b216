use Rattle.zy_order.specs.Reaches.{Adds}
use Rattle.zy_order.proofs.LoopLemmas.{AreTriedTo}
use Rattle.zy_order.proofs.search.Search.try_each.Given as goal

abbrev pub invariant-loop-i : goal.invariant-loop-i
invariant-loop-i l =
    record {
      adds : Adds l.here.plan.now l.initial.self l.self;
      tried : AreTriedTo l.here.plan.now.start l.here.plan.now.logs l.self.reached l.here.at l.here.plan.now.choices.items l.i;
    }
