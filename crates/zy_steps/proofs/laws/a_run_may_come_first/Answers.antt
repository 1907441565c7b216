use Rattle.zy_steps.proofs.Commuting.{may_come_first}
use Rattle.zy_steps.proofs.laws.a_run_may_come_first.Goals as goal

pub returns : goal.returns
returns c sc n t s choices does far did = may_come_first sc n t s choices does far did
