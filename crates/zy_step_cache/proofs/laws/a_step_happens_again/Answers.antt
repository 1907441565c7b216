use Rattle.zy_step_cache.proofs.Again.{written_again, outcome_again}
use Rattle.zy_step_cache.proofs.laws.a_step_happens_again.Goals as goal

pub returns-clause-numbers : goal.returns-clause-numbers
returns-clause-numbers c sc part table = written_again sc part table

pub returns-clause-outcome : goal.returns-clause-outcome
returns-clause-outcome c sc part table = outcome_again sc part table
