use Rattle.std.proofs.Common.{◌≡◌, ◌+◌}
use Rattle.zy_wire.specs.Nodes.{node, IsAt}
use Rattle.zy_wire.proofs.tree.Tree.leaf_id.Given as goal

abbrev pub invariant-loop-level : goal.invariant-loop-level
invariant-loop-level l = record { at : IsAt l.self.nodes l.id.0 l.key; level : (node l.self.nodes l.id.0).level + l._level ≡ l.self.top }
