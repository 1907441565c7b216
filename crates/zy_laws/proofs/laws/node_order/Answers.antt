use Rattle.zy_laws.proofs.sources.NodeOrder.{node_order}
use Rattle.zy_laws.proofs.laws.node_order.Goals as goal

pub returns : goal.returns
returns c sc choices n = node_order sc choices n
