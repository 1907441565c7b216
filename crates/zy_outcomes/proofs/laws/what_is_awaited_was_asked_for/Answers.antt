use Rattle.zy_outcomes.proofs.Steps.{step_awaited}
use Rattle.zy_outcomes.proofs.laws.what_is_awaited_was_asked_for.Goals as goal

pub returns : goal.returns
returns c sc choice s = step_awaited sc choice s
