-- Both nodes.
use Rattle.zy_table.specs.State.{View}
use Rattle.zy_node.specs.declared.node_store.NodeStore.{NodeStore}
use Rattle.zy_node.specs.Nodes.{node_shown, with_node}

-- a view whose nodes are these
abbrev pub beside : NodeStore → NodeStore → View → View
beside x y v = record (with_node x v) { them = node_shown y }
