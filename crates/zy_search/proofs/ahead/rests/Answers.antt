use Rattle.zy_search.specs.Searches.{reached}
use Rattle.zy_search.specs.Visits.{path_at}
use Rattle.zy_search.proofs.ReachedLemmas.{idle_still}
use Rattle.zy_search.proofs.ahead.rests.Goals as goal

pub returns : goal.returns
returns c is =
    let p = c.args.plan.now in
    idle_still _ (c.rests.ensures is p.start.scenario (reached p.start (path_at c.args.reached.now.tree c.args.branch.from)) c.requires.here)
