use Rattle.zy_search.proofs.OverLemmas.{over_of, is_over_of}
use Rattle.zy_search.proofs.laws.over_leaves_nothing.Goals as goal

pub returns-clause-only : goal.returns-clause-only
returns-clause-only c = over_of

pub returns-clause-each : goal.returns-clause-each
returns-clause-each c = is_over_of
