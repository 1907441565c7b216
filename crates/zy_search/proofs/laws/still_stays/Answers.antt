use Rattle.zy_search.proofs.StillSteps.{still_stays}
use Rattle.zy_search.proofs.laws.still_stays.Goals as goal

pub returns : goal.returns
returns c = still_stays
