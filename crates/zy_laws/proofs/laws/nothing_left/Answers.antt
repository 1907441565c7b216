use Rattle.zy_laws.proofs.travel.Between.{nothing_left}
use Rattle.zy_laws.proofs.laws.nothing_left.Goals as goal

pub returns : goal.returns
returns c sc ok choices n empty normal = nothing_left sc ok choices n empty normal
