use Rattle.std.proofs.Common.{◌≡◌, ◌+◌, ◌<◌, ◌≤◌, length}
use Rattle.std.specs.Prelude.{IfSome}
use Rattle.zy_wire.specs.Nodes.{most_entries, node, IsAt}
use Rattle.zy_wire.proofs.tree.Tree.roomy.Given as goal

abbrev pub invariant-loop-level : goal.invariant-loop-level
invariant-loop-level l = record {
  at : IsAt l.self.nodes l.id.0 l.key;
  level : (node l.self.nodes l.id.0).level + l._level ≡ l.self.top;
  found : IfSome l.found (λ id. IsAt l.self.nodes id.0 l.key);
  few : IfSome l.found (λ id. length (node l.self.nodes id.0).entries < most_entries);
  under : IfSome l.found (λ id. (node l.self.nodes id.0).level ≤ l.self.top);
}
