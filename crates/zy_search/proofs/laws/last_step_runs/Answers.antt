use Rattle.zy_search.proofs.ScheduleLemmas.{is_scenario_with, shows_before, gives_last}
use Rattle.zy_search.proofs.laws.last_step_runs.Goals as goal

pub returns-clause-tested : goal.returns-clause-tested
returns-clause-tested c = is_scenario_with

pub returns-clause-before : goal.returns-clause-before
returns-clause-before c = shows_before

pub returns-clause-outcome : goal.returns-clause-outcome
returns-clause-outcome c = gives_last
