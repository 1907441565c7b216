use Rattle.std.proofs.Common.{◌≡◌, ◌%◌, ◌+◌, ◌-◌, ◌^◌, ◌≤◌}
use Rattle.zy_model.specs.Wireframe.{page_of}
use Rattle.zy_table.specs.Ranges.{range, total}
use Rattle.zy_table.specs.Run.{value_for}
use Rattle.zy_node.specs.Nodes.{node_shown}
use Rattle.zy_node.specs.Wireframes.{lows_in}
use Rattle.zy_rules.proofs.SumLemmas.{committed_at}
use Rattle.zy_rules.proofs.sum.sum.Given as goal

abbrev pub invariant-loop-next : goal.invariant-loop-next
invariant-loop-next l = record {
  rest : (l.sum + total (committed_at l.txn (node_shown l.me)) (range l.low l.last)) % 2 ^ 32
      ≡ total (value_for l.txn (node_shown l.me)) (range l.first l.last) % 2 ^ 32;
  page : page_of (lows_in l.me.wire) l.low ≡ l.page;
  rises : l.low ≤ l.last;
}

abbrev pub decreases-loop-next : goal.decreases-loop-next
decreases-loop-next l = l.last - l.low
