use Rattle.zy_laws.proofs.order.ListsInOrder.{in_order}
use Rattle.zy_laws.proofs.laws.lists_in_order.Goals as goal

pub returns : goal.returns
returns c sc ok choices = in_order sc ok choices
