use Rattle.zy_search.proofs.ScheduleLemmas.{not_found}
use Rattle.zy_search.proofs.laws.nowhere_runs.Goals as goal

pub returns : goal.returns
returns c = not_found
