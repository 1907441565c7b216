use Rattle.zy_laws.proofs.locks.Reached.{holders_active}
use Rattle.zy_laws.proofs.laws.holders_active.Goals as goal

pub returns : goal.returns
returns c sc ok choices = holders_active sc ok choices
