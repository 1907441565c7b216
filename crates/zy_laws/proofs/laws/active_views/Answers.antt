use Rattle.zy_laws.proofs.sources.Seen.{active_views}
use Rattle.zy_laws.proofs.laws.active_views.Goals as goal

pub returns : goal.returns
returns c sc ok choices n t now active = active_views sc ok choices n t now active
