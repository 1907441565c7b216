-- The laws are lemmas.
use Rattle.zy_logs.proofs.FullLemmas.{outcome_given, step_given, shared_given}
use Rattle.zy_logs.proofs.laws.told_in_full.Goals as goal

pub returns-clause-outcome : goal.returns-clause-outcome
returns-clause-outcome c txns most told h rest = outcome_given txns told rest most h

pub returns-clause-line : goal.returns-clause-line
returns-clause-line c txns most o = step_given txns o most

pub returns-clause-shared : goal.returns-clause-shared
returns-clause-shared c txns most n o = shared_given txns n o most
