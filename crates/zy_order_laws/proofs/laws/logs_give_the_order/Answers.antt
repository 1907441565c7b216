use Rattle.zy_order_laws.proofs.SameLogs.{same_order}
use Rattle.zy_order_laws.proofs.laws.logs_give_the_order.Goals as goal

pub returns : goal.returns
returns c sc ok one other same = same_order sc ok one other same
