use Rattle.zy_steps.proofs.Rest.{step_leaves}
use Rattle.zy_steps.proofs.laws.a_step_leaves_the_rest.Goals as goal

pub returns : goal.returns
returns c sc choice s = step_leaves sc choice s
