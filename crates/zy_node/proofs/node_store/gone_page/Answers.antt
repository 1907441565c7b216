use Rattle.std.proofs.Common.{ap, sym}
use Rattle.zy_table.specs.Numbers.{least}
use Rattle.zy_node.specs.Nodes.{node_shown}
use Rattle.zy_node.proofs.AllPages.{none_gone}
use Rattle.zy_node.proofs.node_store.gone_page.Goals as goal

pub returns-then-has_all : goal.returns-then-has_all
returns-then-has_all c = sym (ap least (none_gone (node_shown c.args.node.now) c.args.rows.now (c.has_all.ensures.0 c.if-has_all.true)))
