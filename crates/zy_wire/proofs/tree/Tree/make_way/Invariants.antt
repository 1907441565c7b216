use Rattle.std.proofs.Common.{◌≡◌, ℕ, List, ◌+◌, ◌<◌, ◌≤◌, length}
use Rattle.zy_wire.specs.Nodes.{node_end, most_entries, node, IsAt}
use Rattle.zy_wire.specs.Pages.{Holds}
use Rattle.zy_wire.proofs.tree.Tree.make_way.Given as goal

abbrev pub invariant-loop-level : goal.invariant-loop-level
invariant-loop-level l = record {
  at : IsAt l.self.nodes l.id.0 l.key;
  level : (node l.self.nodes l.id.0).level + l._level ≡ l._level-end;
  few : length (node l.self.nodes l.id.0).entries < most_entries;
  top : l.self.top ≡ l.initial.self.top;
  nodes : length l.self.nodes ≤ length l.initial.self.nodes + l._level;
  room : length l.self.nodes + l.self.room ≡ length l.initial.self.nodes + l.initial.self.room;
  enough : l._level-end ≤ l.initial.self.room;
  number : length l.initial.self.nodes + l._level-end ≤ node_end;
  holds : (lows : List ℕ) → Holds lows l.initial.self.nodes → Holds lows l.self.nodes;
}
