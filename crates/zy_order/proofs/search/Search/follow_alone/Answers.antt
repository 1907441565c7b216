-- That of A is followed, or that of B.
use Rattle.zy_order.proofs.PushLemmas.{adds_then}
use Rattle.zy_order.proofs.search.Search.follow_alone.Goals as goal

pub returns-in-Unfit-clause-adds : goal.returns-in-Unfit-clause-adds
returns-in-Unfit-clause-adds c =
    adds_then c.args.plan.now c.args.self.now c.follow_of.new.self c.follow_of-in-Unfit.new.self c.follow_of-in-Unfit.result
    c.in_ok-follow_of.ensures.adds c.follow_of-in-Unfit.ensures.adds
