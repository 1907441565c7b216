use Rattle.zy_steps.proofs.SameSteps.{step_same}
use Rattle.zy_steps.proofs.laws.a_step_reads_one_side.Goals as goal

pub returns : goal.returns
returns c sc choice s t many e = step_same sc choice s t many e
