use Rattle.zy_laws.proofs.travel.Travel.{pages_travel}
use Rattle.zy_laws.proofs.laws.pages_travel.Goals as goal

pub returns : goal.returns
returns c sc choices choice p = pages_travel sc choices choice p
