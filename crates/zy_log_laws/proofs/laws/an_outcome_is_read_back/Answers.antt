-- The law is a lemma.
use Rattle.zy_log_laws.proofs.ReadBackLemmas.{outcome_back}
use Rattle.zy_log_laws.proofs.laws.an_outcome_is_read_back.Goals as goal

pub returns : goal.returns
returns c txns most outcome told = outcome_back txns outcome most told
