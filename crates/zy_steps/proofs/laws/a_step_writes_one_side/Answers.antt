use Rattle.zy_steps.proofs.SameSteps.{step_changes}
use Rattle.zy_steps.proofs.laws.a_step_writes_one_side.Goals as goal

pub returns : goal.returns
returns c sc choice s = step_changes sc choice s
