use Rattle.zy_steps.proofs.Commuting.{unseen}
use Rattle.zy_steps.proofs.laws.a_run_is_unseen.Goals as goal

pub returns : goal.returns
returns c sc n t s choices does far = unseen sc n t s choices does far
