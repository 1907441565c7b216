use Rattle.zy_step_cache.proofs.StepCacheLemmas.{none_true}
use Rattle.zy_step_cache.proofs.step_cache.StepCache.new.Goals as goal

pub returns-clause-truth : goal.returns-clause-truth
returns-clause-truth c sc = none_true sc _ _ c.in_ok-caches.caches.items c.in_ok-caches.ensures.none
