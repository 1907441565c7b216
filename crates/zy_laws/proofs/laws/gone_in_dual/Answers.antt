use Rattle.zy_laws.proofs.locks.Gone.{gone_in_dual}
use Rattle.zy_laws.proofs.laws.gone_in_dual.Goals as goal

pub returns : goal.returns
returns c sc ok choices choice gone = gone_in_dual sc ok choices choice gone
