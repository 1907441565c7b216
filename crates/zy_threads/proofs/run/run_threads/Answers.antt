use Rattle.zy_threads.proofs.Reordered.{is_run}
use Rattle.zy_threads.proofs.run.run_threads.Goals as goal

pub returns-clause-run : goal.returns-clause-run
returns-clause-run g c = is_run c.in_ok-machine.machine c.entries.ensures.replay
