-- The law is two lemmas.
use Rattle.zy_order_engine.proofs.RunLemmas.{is_extended, runs}
use Rattle.zy_order_engine.proofs.laws.found_runs.Goals as goal

pub returns-clause-tested : goal.returns-clause-tested
returns-clause-tested c = is_extended

pub returns-clause-runs : goal.returns-clause-runs
returns-clause-runs c = runs
