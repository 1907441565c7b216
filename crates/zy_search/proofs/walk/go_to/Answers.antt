use Rattle.std.proofs.Common.{ap, length, arith}
use Rattle.zy_machine.specs.Histories.{History}
use Rattle.zy_search.specs.Visits.{path_at}
use Rattle.zy_search.proofs.SearchLemmas.{are_named}
use Rattle.zy_search.proofs.DepthLemmas.{within}
use Rattle.zy_search.proofs.walk.go_to.Goals as goal

pub walk-requires-clause-named : goal.walk-requires-clause-named
walk-requires-clause-named c =
    let same = ap (λ (h : History). h.scenario) c.in_ok-set_to.ensures.ok in
    rw same (are_named c.args.plan.now.sought.kinds (length c.args.plan.now.start.scenario.programs)
    (path_at c.args.tree.now c.args.at) c.requires.path.considered)

pub walk-requires-clause-room : goal.walk-requires-clause-room
walk-requires-clause-room c =
    let same = ap (λ (h : History). length h.entries) c.in_ok-set_to.ensures.ok in
    omega (arith, same, c.requires.path.room, within c.args.plan.now.sought)
