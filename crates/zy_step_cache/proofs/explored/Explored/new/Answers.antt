use Rattle.std.proofs.Common.{ap, length}
use Rattle.zy_step_cache.proofs.explored.Explored.new.Goals as goal

pub returns-clause-knows : goal.returns-clause-knows
returns-clause-knows c sc = record {
  truth = c.in_ok-cache.ensures.truth sc;
  many = ap length c.new-2.ensures;
  each = λ i s e. cc;
}
