use Rattle.zy_steps.proofs.SameMoves.{move_changes}
use Rattle.zy_steps.proofs.laws.a_step_writes_its_parts.Goals as goal

pub returns : goal.returns
returns c sc choice v = move_changes sc choice v
