use Rattle.std.proofs.Common.{refl}
use Rattle.zy_step_cache.proofs.ExploredLemmas.{pushed}
use Rattle.zy_step_cache.proofs.explored.Explored.push.Goals as goal

pub returns-clause-knows : goal.returns-clause-knows
returns-clause-knows c sc states s = pushed sc c.args.self.now _ states s c.args.numbers.now c.in_ok-push.ensures.ok refl
