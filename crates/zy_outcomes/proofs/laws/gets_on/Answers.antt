use Rattle.zy_outcomes.proofs.GetsOn.{gets_on}
use Rattle.zy_outcomes.proofs.laws.gets_on.Goals as goal

pub returns : goal.returns
returns c sc ok choices t active = gets_on sc ok choices t active
