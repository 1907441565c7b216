-- The law is a lemma.
use Rattle.zy_threads.proofs.MergeLemmas.{merge_scenario}
use Rattle.zy_threads.proofs.laws.merges_are_scenarios.Goals as goal

pub returns : goal.returns
returns c = merge_scenario
