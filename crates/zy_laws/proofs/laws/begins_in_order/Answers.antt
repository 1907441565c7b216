use Rattle.zy_laws.proofs.sources.BeginOrder.{begins_in_order}
use Rattle.zy_laws.proofs.laws.begins_in_order.Goals as goal

pub returns : goal.returns
returns c sc ok choices n t u old new ended later apart = begins_in_order sc ok choices n t u old new ended later apart
