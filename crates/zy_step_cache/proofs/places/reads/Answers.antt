use Rattle.zy_step_cache.proofs.places.reads.Goals as goal

pub returns-in-Run : goal.returns-in-Run
returns-in-Run c = rw c.in-Run.is (c.reads_of_run.ensures c.args.table.now)
