use Rattle.zy_check.proofs.LawLemmas.{canon-utf8, cut-run, run-table}
use Rattle.zy_check.proofs.laws.runs_are_tables.Goals as goal

pub returns-clause-part : goal.returns-clause-part
returns-clause-part c = cut-run

pub returns-clause-table : goal.returns-clause-table
returns-clause-table c = run-table

pub returns-clause-text : goal.returns-clause-text
returns-clause-text c = canon-utf8
