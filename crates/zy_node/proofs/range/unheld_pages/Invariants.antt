use Rattle.std.proofs.Common.{◌≡◌, ◌+◌, ◌-◌, ◌≤◌, length}
use Rattle.zy_model.specs.Locks.{unheld}
use Rattle.zy_table.specs.Ranges.{range_pages}
use Rattle.zy_node.specs.Wireframes.{lows_in}
use Rattle.zy_node.proofs.RangeSteps.{behind}
use Rattle.zy_node.proofs.range.unheld_pages.Given as goal

abbrev pub invariant-loop-next : goal.invariant-loop-next
invariant-loop-next l = record {
  all : length (unheld (range_pages (lows_in l.wire) l.first l.last) l.t l.locks.locks)
      ≡ l.count + length (unheld (behind (lows_in l.wire) l.low l.last) l.t l.locks.locks);
  few : l.count ≤ l.low + 1;
}

abbrev pub decreases-loop-next : goal.decreases-loop-next
decreases-loop-next l = l.last - l.low
