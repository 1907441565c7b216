-- The laws are lemmas.
use Rattle.zy_logs.proofs.NamedLemmas.{logs_named, logs_few, logs_placed}
use Rattle.zy_logs.proofs.laws.logs_fit.Goals as goal

pub returns-clause-named : goal.returns-clause-named
returns-clause-named c = logs_named

pub returns-clause-few : goal.returns-clause-few
returns-clause-few c = logs_few

pub returns-clause-placed : goal.returns-clause-placed
returns-clause-placed c = logs_placed
