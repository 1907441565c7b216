use Rattle.zy_outcomes.proofs.Limits.{page_limit}
use Rattle.zy_outcomes.proofs.laws.page_limit.Goals as goal

pub returns : goal.returns
returns c sc ok choices n = page_limit sc ok choices n
