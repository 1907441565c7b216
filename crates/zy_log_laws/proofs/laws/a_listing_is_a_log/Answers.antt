-- The law is a lemma.
use Rattle.zy_log_laws.proofs.ReadBackLemmas.{listing_back}
use Rattle.zy_log_laws.proofs.laws.a_listing_is_a_log.Goals as goal

pub returns : goal.returns
returns c sc ok txns count told = listing_back sc ok txns count told
