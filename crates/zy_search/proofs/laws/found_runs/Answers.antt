use Rattle.zy_search.proofs.ScheduleLemmas.{found, is_scenario}
use Rattle.zy_search.proofs.laws.found_runs.Goals as goal

pub returns-clause-tested : goal.returns-clause-tested
returns-clause-tested c = is_scenario

pub returns-clause-shows : goal.returns-clause-shows
returns-clause-shows c = found
