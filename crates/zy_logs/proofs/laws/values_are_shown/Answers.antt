-- The law is a lemma.
use Rattle.zy_logs.proofs.ShownLemmas.{step_shown}
use Rattle.zy_logs.proofs.laws.values_are_shown.Goals as goal

pub returns : goal.returns
returns c = step_shown
