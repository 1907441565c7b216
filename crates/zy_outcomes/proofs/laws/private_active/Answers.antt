use Rattle.zy_outcomes.proofs.Orderly.{private_active}
use Rattle.zy_outcomes.proofs.laws.private_active.Goals as goal

pub returns : goal.returns
returns c sc choices t off = private_active sc choices t off
