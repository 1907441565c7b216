use Rattle.zy_laws.proofs.serial.Listed.{listed}
use Rattle.zy_laws.proofs.laws.commits_listed.Goals as goal

pub returns : goal.returns
returns c sc choices = listed sc choices
