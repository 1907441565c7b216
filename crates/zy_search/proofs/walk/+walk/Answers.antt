use Rattle.std.proofs.Common.{length, subst, arith}
use Rattle.zy_isa.specs.Scenario.{AreNamed}
use Rattle.zy_search.specs.Visits.{path_at}
use Rattle.zy_search.proofs.SearchLemmas.{named_front, named_last, walked, length_more}
use Rattle.zy_search.proofs.walk.+walk.Goals as goal

pub walk-requires : goal.walk-requires
walk-requires t c =
    let n = length c.args.machine.now.scenario.programs in
    let q = path_at c.args.tree.now c.branch-branch.result.from in
    let e = c.branch-branch.ensures.path in (
      omega (arith, c.branch-branch.ensures.earlier, c.decreases),
      (
        omega (arith, c.branch-branch.ensures.earlier, c.requires.there),
        (
          c.requires.first,
          (
            named_front n q c.branch-branch.result.by (subst (AreNamed n) e c.requires.named),
            omega (arith, c.requires.room, length_more (path_at c.args.tree.now c.args.at) q c.branch-branch.result.by e),
          ),
        ),
      ),
    )

pub step-requires-clause-named : goal.step-requires-clause-named
step-requires-clause-named t c =
    let n = length c.args.machine.now.scenario.programs in
    rw c.walk.ensures.scenario (named_last n (path_at c.args.tree.now c.branch-branch.result.from) c.branch-branch.result.by
    (subst (AreNamed n) c.branch-branch.ensures.path c.requires.named))

pub returns-clause-state : goal.returns-clause-state
returns-clause-state t c =
    walked c.args.machine.now.scenario c.args.machine.now.state c.walk.new.machine.state c.step.new.self.state (path_at c.args.tree.now c.args.at)
    (path_at c.args.tree.now c.branch-branch.result.from) c.branch-branch.result.by
    c.branch-branch.ensures.path c.in_ok-walk.ensures.state (rw c.walk.ensures.scenario at c.in_ok-step.ensures.state)
