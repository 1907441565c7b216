use Rattle.zy_laws.proofs.locks.Reached.{exclusive_alone}
use Rattle.zy_laws.proofs.laws.exclusive_alone.Goals as goal

pub returns : goal.returns
returns c sc ok choices = exclusive_alone sc ok choices
