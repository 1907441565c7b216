use Rattle.zy_order.specs.Machines.{IsPlaced}
use Rattle.zy_order.specs.Reaches.{Follows}
use Rattle.zy_order.proofs.search.Search.follow.Given as goal

abbrev pub invariant-loop-turn : goal.invariant-loop-turn
invariant-loop-turn g l =
    record {
      follows : Follows l.plan l.self;
      machine : IsPlaced l.plan.start l.self.reached.visited l.machine;
    }
