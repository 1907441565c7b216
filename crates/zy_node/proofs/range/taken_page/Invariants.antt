use Rattle.std.proofs.Common.{◌≡◌, ◌-◌, ◌∷◌}
use Rattle.zy_table.specs.Ranges.{range_pages}
use Rattle.zy_table.specs.Run.{first_taken}
use Rattle.zy_node.specs.Wireframes.{lows_in}
use Rattle.zy_node.proofs.RangeSteps.{behind}
use Rattle.zy_node.proofs.range.taken_page.Given as goal

abbrev pub invariant-loop-low : goal.invariant-loop-low
invariant-loop-low l =
    first_taken l.locks.locks l.t (range_pages (lows_in l.wire) l.first l.last) ≡ first_taken l.locks.locks l.t (l.page ∷ behind (lows_in l.wire) l.low l.last)

abbrev pub decreases-loop-low : goal.decreases-loop-low
decreases-loop-low l = l.last - l.low
