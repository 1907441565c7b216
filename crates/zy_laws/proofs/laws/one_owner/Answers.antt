use Rattle.zy_laws.proofs.owner.OneOwner.{one_owner}
use Rattle.zy_laws.proofs.laws.one_owner.Goals as goal

pub returns : goal.returns
returns c sc choices = one_owner sc choices
