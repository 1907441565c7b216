use Rattle.std.proofs.Common.{◌∙◌, sym}
use Rattle.zy_step_cache.proofs.RestLemmas.{idle}
use Rattle.zy_step_cache.proofs.step_cache.StepCache.rests.Goals as goal

pub returns : goal.returns
returns c is sc s are = idle c.args.self.now.table c.args.self.now.part sc s c.args.numbers.now are c.args.choice (sym c.rests.ensures ∙ is)
