use Rattle.zy_search.proofs.DeadlockLemmas.{cycle_of, deadlock_of}
use Rattle.zy_search.proofs.laws.deadlock_is_cycle.Goals as goal

pub returns-clause-only : goal.returns-clause-only
returns-clause-only c = cycle_of

pub returns-clause-each : goal.returns-clause-each
returns-clause-each c = deadlock_of
