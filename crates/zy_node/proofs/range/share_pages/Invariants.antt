use Rattle.std.proofs.Common.{◌≡◌, ◌-◌, None}
use Rattle.zy_locks.specs.LockTable.{HasPlaces}
use Rattle.zy_table.specs.Change.{share_all}
use Rattle.zy_table.specs.Ranges.{range_pages}
use Rattle.zy_table.specs.Run.{first_taken}
use Rattle.zy_node.specs.Wireframes.{lows_in}
use Rattle.zy_node.proofs.RangeSteps.{behind}
use Rattle.zy_node.proofs.range.share_pages.Given as goal

abbrev pub invariant-loop-next : goal.invariant-loop-next
invariant-loop-next l = record {
  locks : share_all (behind (lows_in l.wire) l.low l.last) l.t l.locks.locks ≡ share_all (range_pages (lows_in l.wire) l.first l.last) l.t l.fn.locks.locks;
  free : first_taken l.locks.locks l.t (behind (lows_in l.wire) l.low l.last) ≡ None;
  room : HasPlaces (behind (lows_in l.wire) l.low l.last) l.t l.locks;
}

abbrev pub decreases-loop-next : goal.decreases-loop-next
decreases-loop-next l = l.last - l.low
