use Rattle.zy_outcomes.proofs.Steps.{commit_number}
use Rattle.zy_outcomes.proofs.laws.commit_number.Goals as goal

pub returns : goal.returns
returns c sc choice s = commit_number sc choice s
