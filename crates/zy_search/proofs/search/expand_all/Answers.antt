use Rattle.zy_search.proofs.search.expand_all.Goals as goal

pub expand_each-answer-requires-clause-outlook : goal.expand_each-answer-requires-clause-outlook
expand_each-answer-requires-clause-outlook g c κs within = c.new-outlook.ensures c.args.plan.now c.args.reached.now
