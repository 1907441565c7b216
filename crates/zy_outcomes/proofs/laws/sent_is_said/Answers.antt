use Rattle.zy_outcomes.proofs.Steps.{sent_is_said}
use Rattle.zy_outcomes.proofs.laws.sent_is_said.Goals as goal

pub returns : goal.returns
returns c sc choice s = sent_is_said sc choice s
