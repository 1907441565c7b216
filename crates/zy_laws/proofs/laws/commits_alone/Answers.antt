use Rattle.zy_laws.proofs.serial.Values.{commits_alone}
use Rattle.zy_laws.proofs.laws.commits_alone.Goals as goal

pub returns : goal.returns
returns c sc ok choices choice same = commits_alone sc ok choices choice same
