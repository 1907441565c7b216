use Rattle.zy_laws.proofs.way_out.NoDeadEnd.{migration_steps_run_out}
use Rattle.zy_laws.proofs.laws.migration_steps_run_out.Goals as goal

pub returns : goal.returns
returns c sc ok choices = migration_steps_run_out sc ok choices
