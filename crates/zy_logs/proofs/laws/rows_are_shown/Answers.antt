-- The law is a lemma.
use Rattle.zy_logs.proofs.ShownLemmas.{step_rows}
use Rattle.zy_logs.proofs.laws.rows_are_shown.Goals as goal

pub returns : goal.returns
returns c = step_rows
