use Rattle.std.proofs.Common.{◌≡◌, ◌≤◌, take, length}
use Rattle.std.specs.Vec.{vec_capacity}
use Rattle.zy_wire.proofs.tree.Tree.copy.Given as goal

abbrev pub invariant-loop-node : goal.invariant-loop-node
invariant-loop-node l = record { items : l.nodes.items ≡ take l.node-index l.node-items; room : length l.node-items ≤ vec_capacity l.nodes }
