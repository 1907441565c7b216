-- The law is a lemma.
use Rattle.zy_engine.proofs.AgainLemmas.{merge_again}
use Rattle.zy_engine.proofs.laws.merges_run_again.Goals as goal

pub returns : goal.returns
returns c = merge_again
