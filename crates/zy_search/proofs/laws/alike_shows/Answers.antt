use Rattle.zy_search.proofs.AlikeLemmas.{alike_shows, alike_leads}
use Rattle.zy_search.proofs.laws.alike_shows.Goals as goal

pub returns-clause-here : goal.returns-clause-here
returns-clause-here c = alike_shows

pub returns-clause-later : goal.returns-clause-later
returns-clause-later c = alike_leads
