-- The machine is of the scenario of the start, whose transactions the choices that were found name.
use Rattle.std.proofs.Common.{ap, length, arith}
use Rattle.zy_machine.specs.Histories.{History}
use Rattle.zy_search.proofs.LastLemmas.{found_named}
use Rattle.zy_search.proofs.DepthLemmas.{within}
use Rattle.zy_search.proofs.last.go_along.Goals as goal

pub run_along-requires-clause-named : goal.run_along-requires-clause-named
run_along-requires-clause-named c =
    rw c.in_ok-set_to.ensures.ok (found_named c.args.plan.now.start c.args.plan.now.sought c.args.path.now c.requires.finds)

pub run_along-requires-clause-room : goal.run_along-requires-clause-room
run_along-requires-clause-room c =
    let same = ap (λ (h : History). length h.entries) c.in_ok-set_to.ensures.ok in
    omega (arith, same, c.requires.finds.path.room, within c.args.plan.now.sought)
