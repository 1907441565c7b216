use Rattle.zy_outcomes.proofs.LockedHere.{locked_here}
use Rattle.zy_outcomes.proofs.laws.locked_here.Goals as goal

pub returns : goal.returns
returns c sc ok held choices n p locked = locked_here sc ok held choices n p locked
