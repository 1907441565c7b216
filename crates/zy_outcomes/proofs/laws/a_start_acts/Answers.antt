use Rattle.zy_outcomes.proofs.Acts.{start_acts}
use Rattle.zy_outcomes.proofs.laws.a_start_acts.Goals as goal

pub returns : goal.returns
returns c sc s n = start_acts sc s n
