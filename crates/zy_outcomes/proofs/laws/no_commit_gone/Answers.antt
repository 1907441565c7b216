use Rattle.zy_outcomes.proofs.LockedHere.{no_commit_gone}
use Rattle.zy_outcomes.proofs.laws.no_commit_gone.Goals as goal

pub returns : goal.returns
returns c sc ok held choices n t next = no_commit_gone sc ok held choices n t next
