use Rattle.zy_outcomes.proofs.RunsAlone.{alone_waits_for_no_lock}
use Rattle.zy_outcomes.proofs.laws.alone_waits_for_no_lock.Goals as goal

pub returns : goal.returns
returns c sc ok choices t p n alone = alone_waits_for_no_lock sc ok choices t p n alone
