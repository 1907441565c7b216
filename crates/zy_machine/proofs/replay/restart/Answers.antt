use Rattle.std.proofs.Common.{refl}
use Rattle.zy_machine.proofs.ReplayLemmas.{opens}
use Rattle.zy_machine.proofs.replay.restart.Goals as goal

pub returns-clause-follows : goal.returns-clause-follows
returns-clause-follows c = rw c.in_ok-machine.ensures (opens _ refl refl)
