-- The laws are lemmas.
use Rattle.zy_logs.proofs.PossibleSteps.{step_possible}
use Rattle.zy_logs.proofs.StandLemmas.{step_own, step_shared}
use Rattle.zy_logs.proofs.laws.steps_are_possible.Goals as goal

pub returns-clause-given : goal.returns-clause-given
returns-clause-given c = step_possible

pub returns-clause-own : goal.returns-clause-own
returns-clause-own c = step_own

pub returns-clause-shared : goal.returns-clause-shared
returns-clause-shared c = step_shared
