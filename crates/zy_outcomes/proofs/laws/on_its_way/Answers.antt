use Rattle.zy_outcomes.proofs.Coming.{on_its_way}
use Rattle.zy_outcomes.proofs.laws.on_its_way.Goals as goal

pub returns : goal.returns
returns c sc ok choices n = on_its_way sc ok choices n
