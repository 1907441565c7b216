use Rattle.zy_outcomes.proofs.Steps.{step_reason}
use Rattle.zy_outcomes.proofs.laws.a_refusal_has_its_reason.Goals as goal

pub returns : goal.returns
returns c sc choice s = step_reason sc choice s
