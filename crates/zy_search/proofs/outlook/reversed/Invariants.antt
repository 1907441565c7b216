use Rattle.std.proofs.Common.{IfOk}
use Rattle.std.specs.List.{All}
use Rattle.zy_search.specs.declared.plan.Plan.{Plan}
use Rattle.zy_search.specs.declared.reached.Reached.{Reached}
use Rattle.zy_search.specs.Ahead.{IsForeseen}
use Rattle.zy_search.proofs.outlook.reversed.Given as goal

abbrev pub invariant-loop : goal.invariant-loop
invariant-loop l = (p : Plan) (x : Reached) → All (λ r. IfOk r (IsForeseen p x)) l.initial.results.items
    → All (λ r. IfOk r (IsForeseen p x)) l.results.items × All (IsForeseen p x) l.parts.items
