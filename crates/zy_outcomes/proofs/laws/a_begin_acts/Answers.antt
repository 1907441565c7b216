use Rattle.zy_outcomes.proofs.Acts.{begin_acts}
use Rattle.zy_outcomes.proofs.laws.a_begin_acts.Goals as goal

pub returns : goal.returns
returns c sc ok choices t within new = begin_acts sc ok choices t within new
