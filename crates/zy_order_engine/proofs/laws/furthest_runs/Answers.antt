-- The law is two lemmas.
use Rattle.zy_order_engine.proofs.RunLemmas.{is_begun, begun_runs}
use Rattle.zy_order_engine.proofs.laws.furthest_runs.Goals as goal

pub returns-clause-tested : goal.returns-clause-tested
returns-clause-tested c = is_begun

pub returns-clause-runs : goal.returns-clause-runs
returns-clause-runs c = begun_runs
