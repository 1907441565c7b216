use Rattle.zy_step_cache.proofs.StepCacheLemmas.{true_stays}
use Rattle.zy_step_cache.proofs.step_cache.StepCache.numbers_of.Goals as goal

pub returns-clause-truth : goal.returns-clause-truth
returns-clause-truth c sc each = true_stays sc c.args.self.now.table c.numbers_of.new.table c.args.self.now.part c.args.self.now.caches.items c.in_ok-numbers.ensures.keeps each
