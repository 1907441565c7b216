use Rattle.zy_laws.specs.WayOut.{CanEnd}
use Rattle.zy_laws.proofs.way_out.NoDeadEnd.{no_dead_end}
use Rattle.zy_laws.proofs.laws.no_dead_end.Goals as goal

pub returns : goal.returns
unfolding CanEnd
returns c sc ok choices = no_dead_end sc ok choices
