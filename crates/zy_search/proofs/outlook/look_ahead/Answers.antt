use Rattle.std.proofs.Common.{IfOk, arith}
use Rattle.std.specs.List.{All}
use Rattle.zy_search.specs.declared.plan.Plan.{Plan}
use Rattle.zy_search.specs.declared.reached.Reached.{Reached}
use Rattle.zy_search.specs.Ahead.{IsForeseen}
use Rattle.zy_search.proofs.ReachedLemmas.{if_ok_with}
use Rattle.zy_search.proofs.outlook.look_ahead.Goals as goal

pub returns : goal.returns
returns g c =
    let p = c.args.plan.now in
    let x = c.args.reached.now in
    let results = c.in_ok-results.results in
    if_ok_with (λ v. (q : Plan) (y : Reached) → All (λ r. IfOk r (IsForeseen q y)) results.items → All (IsForeseen q y) v.items)
    (λ v. All (IsForeseen p x) v.items) c.reversed.result
    (λ v each. each p x (λ k d lt. (c.in_ok-results.ensures.each k d (omega (arith, lt, c.in_ok-results.ensures.len, results.ok))).1.met)) c.reversed.ensures
