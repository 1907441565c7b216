use Rattle.zy_search.specs.Visits.{states_of, state_by}
use Rattle.zy_search.proofs.ReachedLemmas.{informed_more}
use Rattle.zy_search.proofs.reached.Reached.push.Goals as goal

pub returns-clause-informed : goal.returns-clause-informed
returns-clause-informed c p is are =
    let old = c.args.self.now in
    let b = c.args.branch in
    informed_more p old _ b c.requires c.in_ok-push-2.ensures.ok c.in_ok-push.ensures.cache
    (λ known many. c.in_ok-push.ensures.knows p.start.scenario (states_of p.start old.tree) (state_by p old.tree b) known are many) is
