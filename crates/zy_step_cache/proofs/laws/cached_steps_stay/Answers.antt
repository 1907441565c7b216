use Rattle.std.proofs.Common.{slice_index_or}
use Rattle.zy_step_cache.specs.declared.choice_cache.CachedStep.{CachedStep}
use Rattle.zy_step_cache.proofs.Growth.{happened_stays}
use Rattle.zy_step_cache.proofs.laws.cached_steps_stay.Goals as goal

pub returns : goal.returns
returns c sc old new part choice steps keeps each k d h =
    let r : CachedStep = slice_index_or steps k d in
    happened_stays old new keeps sc part choice r.scope r.read r.written r.outcome (each k d h)
