use Rattle.zy_steps.proofs.SameMoves.{move_same}
use Rattle.zy_steps.proofs.laws.a_step_reads_its_parts.Goals as goal

pub returns : goal.returns
returns c sc choice v w many e = move_same sc choice v w many e
