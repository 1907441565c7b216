use Rattle.zy_laws.proofs.owner.Stray.{never_stray}
use Rattle.zy_laws.proofs.laws.never_stray.Goals as goal

pub returns : goal.returns
returns c sc choices choice = never_stray sc choices choice
