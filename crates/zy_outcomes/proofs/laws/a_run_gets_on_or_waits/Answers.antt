use Rattle.zy_outcomes.proofs.RunsAlone.{a_run_gets_on_or_waits}
use Rattle.zy_outcomes.proofs.laws.a_run_gets_on_or_waits.Goals as goal

pub returns : goal.returns
returns c sc ok choices t active = a_run_gets_on_or_waits sc ok choices t active
