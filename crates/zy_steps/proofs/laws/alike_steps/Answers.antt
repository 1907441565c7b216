use Rattle.zy_steps.proofs.AlikeSteps.{alike_outcome, alike_sent, alike_after}
use Rattle.zy_steps.proofs.laws.alike_steps.Goals as goal

pub returns-clause-outcome : goal.returns-clause-outcome
returns-clause-outcome c = alike_outcome

pub returns-clause-sent : goal.returns-clause-sent
returns-clause-sent c = alike_sent

pub returns-clause-after : goal.returns-clause-after
returns-clause-after c = alike_after
