-- The law is a lemma.
use Rattle.zy_log_laws.proofs.GoalLemmas.{then_read}
use Rattle.zy_log_laws.proofs.laws.then_asks_for_an_outcome.Goals as goal

pub returns : goal.returns
returns c txns most names outcome told = then_read txns names outcome most told
