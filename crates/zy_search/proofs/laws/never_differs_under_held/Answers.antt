use Rattle.zy_search.proofs.ScheduleLemmas.{never_differs, without}
use Rattle.zy_search.proofs.laws.never_differs_under_held.Goals as goal

pub returns-clause-alone : goal.returns-clause-alone
returns-clause-alone c = never_differs c.always_same.ensures

pub returns-clause-inside : goal.returns-clause-inside
returns-clause-inside c = without c.always_same.ensures
